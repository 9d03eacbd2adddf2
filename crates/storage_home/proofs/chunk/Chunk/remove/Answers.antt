use Rattle.std.proofs.Common.{arith, None, IsSome, List, ◌≡◌, ◌+◌, ◌-◌, sym, ap, ◌∙◌, get_or, subst, length}
use Rattle.storage_home.specs.declared.rows.Row.{Row}
use Rattle.storage_home.specs.Cells.{cells_of, TurnsCell}
use Rattle.storage_home.proofs.Bits.{index_fits, bit_less, is_taken, fewer}
use Rattle.storage_home.proofs.chunk.Chunk.remove.Goals as goal

pub remove-requires : goal.remove-requires
remove-requires c =
    let fits = index_fits 64 c.args.place c.self.inside.present c.rows_below.result c.self.inside.rows.items c.requires.range c.self.invariant c.rows_below.ensures (subst (λ l. IsSome (get_or l c.args.place None)) (sym c.self.view_is) c.requires.there) in
    omega (arith, fits, c.self.inside.rows.ok.0)

pub overflow_sub-self : goal.overflow_sub-self
overflow_sub-self c =
    let less = bit_less 64 c.args.place c.self.inside.present c.rows_below.result c.self.inside.rows.items c.requires.range c.self.invariant c.rows_below.ensures (subst (λ l. IsSome (get_or l c.args.place None)) (sym c.self.view_is) c.requires.there) in
    omega (arith, less, c.bit_of.ensures)

pub invariant_of-self : goal.invariant_of-self
invariant_of-self c =
    let shorter : length c.trim.new.rows.items + 1 ≡ length c.self.inside.rows.items = (let same = ap (λ (l : List Row). length l) c.trim.ensures in omega (arith, same, c.remove.ensures.len, c.remove.new.self.ok.0, c.self.inside.rows.ok.0)) in
    fewer 64 c.args.place c.self.inside.present c.rows_below.result c.self.inside.rows.items c.requires.range c.self.invariant c.rows_below.ensures (subst (λ l. IsSome (get_or l c.args.place None)) (sym c.self.view_is) c.requires.there) c.bit_of.result c.bit_of.ensures c.trim.new.rows.items shorter

pub returns : goal.returns
returns c =
    subst (λ l. TurnsCell l (cells_of 64 (c.self.inside.present - c.bit_of.result) c.trim.new.rows.items) c.args.place None) c.self.view_is
    (is_taken 64 c.args.place c.self.inside.present c.rows_below.result c.self.inside.rows.items c.requires.range c.self.invariant c.rows_below.ensures (subst (λ l. IsSome (get_or l c.args.place None)) (sym c.self.view_is) c.requires.there) c.bit_of.result c.bit_of.ensures c.trim.new.rows.items (c.trim.ensures ∙ c.remove.ensures.items))
