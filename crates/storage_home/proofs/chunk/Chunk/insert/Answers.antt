use Rattle.std.proofs.Common.{rules, arith, None, Some, ◌<◌, ◌+◌, ◌^◌, ap, ◌∙◌, get_or, subst}
use Rattle.storage_home.specs.Cells.{cells_of, TurnsCell}
use Rattle.storage_home.proofs.Bits.{index_at_most, bits_fit, is_put, more}
use Rattle.storage_home.proofs.chunk.Chunk.insert.Goals as goal

pub insert-requires : goal.insert-requires
insert-requires c =
    let fits = index_at_most 64 c.args.place c.self.inside.present c.rows_below.result c.self.inside.rows.items c.requires.range c.self.invariant c.rows_below.ensures (ap (λ l. get_or l c.args.place None) c.self.view_is ∙ c.requires.free) in
    omega (arith, fits, c.self.inside.rows.ok.0)

pub overflow_add-self : goal.overflow_add-self
overflow_add-self c =
    let fits : c.self.inside.present < 2 ^ 64 = search rules in
    let all = bits_fit 64 c.args.place c.self.inside.present c.rows_below.result c.self.inside.rows.items c.requires.range c.self.invariant c.rows_below.ensures (ap (λ l. get_or l c.args.place None) c.self.view_is ∙ c.requires.free) c.bit_of.result c.bit_of.ensures fits in grind (arith, all)

pub invariant_of-self-2 : goal.invariant_of-self-2
invariant_of-self-2 c =
    more 64 c.args.place c.self.inside.present c.rows_below.result c.self.inside.rows.items c.requires.range c.self.invariant c.rows_below.ensures (ap (λ l. get_or l c.args.place None) c.self.view_is ∙ c.requires.free) c.bit_of.result c.bit_of.ensures c.insert.new.self.items (omega (arith, c.in_ok-insert.ensures.len, c.insert.new.self.ok.0, c.self.inside.rows.ok.0))

pub returns-clause-ok : goal.returns-clause-ok
returns-clause-ok c =
    subst (λ l. TurnsCell l (cells_of 64 (c.self.inside.present + c.bit_of.result) c.insert.new.self.items) c.args.place (Some c.args.row)) c.self.view_is
    (is_put 64 c.args.place c.self.inside.present c.rows_below.result c.self.inside.rows.items c.requires.range c.self.invariant c.rows_below.ensures (ap (λ l. get_or l c.args.place None) c.self.view_is ∙ c.requires.free) c.bit_of.result c.bit_of.ensures c.args.row c.insert.new.self.items c.in_ok-insert.ensures.items)
