use Rattle.std.proofs.Common.{arith, None, Some, IsSome, sym, get_or, set, subst}
use Rattle.storage_home.specs.Cells.{cells_of, TurnsCell}
use Rattle.storage_home.proofs.Bits.{index_fits, is_written}
use Rattle.storage_home.proofs.chunk.Chunk.write.Goals as goal

pub index_mut-requires : goal.index_mut-requires
index_mut-requires c =
    let fits = index_fits 64 c.args.place c.self.inside.present c.rows_below.result c.self.inside.rows.items c.requires.range c.self.invariant c.rows_below.ensures (subst (λ l. IsSome (get_or l c.args.place None)) (sym c.self.view_is) c.requires.there) in
    omega (arith, fits, c.self.inside.rows.ok.0)

pub returns : goal.returns
returns c =
    subst (λ l. TurnsCell l (cells_of 64 c.self.inside.present (set c.self.inside.rows.items c.rows_below.result c.args.row)) c.args.place (Some c.args.row)) c.self.view_is
    (is_written 64 c.args.place c.self.inside.present c.rows_below.result c.self.inside.rows.items c.requires.range c.self.invariant c.rows_below.ensures (subst (λ l. IsSome (get_or l c.args.place None)) (sym c.self.view_is) c.requires.there) c.args.row)
