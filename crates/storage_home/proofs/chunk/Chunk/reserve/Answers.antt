use Rattle.std.proofs.Common.{arith, None, IsSome, Option, sym, ◌∙◌, get_or, set, subst}
use Rattle.storage_home.specs.declared.rows.Row.{Row}
use Rattle.std.specs.Option.{option_map}
use Rattle.storage_home.specs.Cells.{cells_of, TurnsCell, with_reservation}
use Rattle.storage_home.proofs.Bits.{index_fits, is_written, row_is, found_within}
use Rattle.storage_home.proofs.chunk.Chunk.reserve.Goals as goal

pub index_mut-requires : goal.index_mut-requires
index_mut-requires c =
    let fits = index_fits 64 c.args.place c.self.inside.present c.rows_below.result c.self.inside.rows.items c.requires.range c.self.invariant c.rows_below.ensures (subst (λ l. IsSome (get_or l c.args.place None)) (sym c.self.view_is) c.requires.there) in
    omega (arith, fits, c.self.inside.rows.ok.0)

pub returns : goal.returns
returns c =
    let there = subst (λ l. IsSome (get_or l c.args.place None)) (sym c.self.view_is) c.requires.there in
    let row = row_is 64 c.args.place c.self.inside.present c.rows_below.result c.self.inside.rows.items c.requires.range c.self.invariant c.rows_below.ensures there ∙ found_within c.self.inside.rows.items c.rows_below.result c.index_mut.result.now (index_fits 64 c.args.place c.self.inside.present c.rows_below.result c.self.inside.rows.items c.requires.range c.self.invariant c.rows_below.ensures there) c.index_mut.ensures.value in
    subst (λ l. TurnsCell l (cells_of 64 c.self.inside.present (set c.self.inside.rows.items c.rows_below.result (with_reservation c.index_mut.result.now))) c.args.place (option_map with_reservation (get_or l c.args.place None))) c.self.view_is
    (subst (λ (r : Option Row). TurnsCell (cells_of 64 c.self.inside.present c.self.inside.rows.items) (cells_of 64 c.self.inside.present (set c.self.inside.rows.items c.rows_below.result (with_reservation c.index_mut.result.now))) c.args.place (option_map with_reservation r)) (sym row)
    (is_written 64 c.args.place c.self.inside.present c.rows_below.result c.self.inside.rows.items c.requires.range c.self.invariant c.rows_below.ensures there (with_reservation c.index_mut.result.now)))
