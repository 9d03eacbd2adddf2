use Rattle.std.proofs.Common.{◌≡◌, ◌<◌, None, List, true, length, sym, ap, subst, ◌∙◌, get_or}
use Rattle.std.specs.List.{slice_get}
use Rattle.storage_home.specs.declared.rows.Row.{Row}
use Rattle.storage_home.specs.Cells.{has_bit}
use Rattle.storage_home.proofs.Bits.{row_there, none_there, within_rows, read_is}
use Rattle.storage_home.proofs.chunk.Chunk.get.Goals as goal

pub returns-then-has_row : goal.returns-then-has_row
returns-then-has_row c =
    let has : has_bit c.args.place c.self.inside.present ≡ true = sym c.has_row.ensures ∙ c.if-has_row.true in
    let within = subst (λ (l : List Row). c.rows_below.result < length l) (sym c.deref.ensures.value) (within_rows 64 c.args.place c.self.inside.present c.rows_below.result c.self.inside.rows.items c.requires c.self.invariant c.rows_below.ensures has) in
    read_is (λ row. row.now) c.deref.result.now c.rows_below.result c.get.result within c.get.ensures.lookup.2 c.get.ensures.lookup.1
    ∙ ap (λ l. slice_get l c.rows_below.result) c.deref.ensures.value ∙ ap (slice_get c.self.inside.rows.items) c.rows_below.ensures
    ∙ sym (row_there 64 c.args.place c.self.inside.present c.self.inside.rows.items c.requires has) ∙ ap (λ l. get_or l c.args.place None) c.self.view_is

pub returns-else-has_row : goal.returns-else-has_row
returns-else-has_row c =
    sym (none_there 64 c.args.place c.self.inside.present c.self.inside.rows.items c.requires (sym c.has_row.ensures ∙ c.if-has_row.false)) ∙ ap (λ l. get_or l c.args.place None) c.self.view_is
