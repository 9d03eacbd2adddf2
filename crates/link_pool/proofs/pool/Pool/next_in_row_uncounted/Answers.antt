use Rattle.std.proofs.Common.{◌≡◌, subst}
use Rattle.std.specs.Prelude.{IsSomeAnd}
use Rattle.link_pool.specs.Rings.{following, list_in}
use Rattle.link_pool.specs.Meaning.{row_in}
use Rattle.link_pool.specs.declared.cells.Side.TheVariants.{Rows}
use Rattle.link_pool.proofs.Told.{seat_found, following_told}
use Rattle.link_pool.proofs.pool.Pool.next_in_row_uncounted.Goals as goal

pub next_of-requires-clause-node : goal.next_of-requires-clause-node
next_of-requires-clause-node g c = seat_found c.self.inside.cells c.self.inside.promised c.args.self.now c.self.view_is c.args.node c.requires

pub returns : goal.returns
returns g c =
    subst (λ m. IsSomeAnd (row_in m c.args.node) (λ row. c.next_of.result ≡ following c.args.node (list_in m.rows row))) c.self.view_is
    (following_told Rows c.self.inside.cells c.self.invariant.sound.rows c.args.node c.next_of.result c.next_of.ensures)
