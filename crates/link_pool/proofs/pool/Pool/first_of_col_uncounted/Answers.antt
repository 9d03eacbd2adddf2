use Rattle.std.proofs.Common.{ap, ◌∙◌}
use Rattle.link_pool.specs.Rings.{first_in}
use Rattle.link_pool.specs.declared.cells.Side.TheVariants.{Cols}
use Rattle.link_pool.proofs.Told.{first_told, col_found}
use Rattle.link_pool.proofs.pool.Pool.first_of_col_uncounted.Goals as goal

pub first_of-requires-clause-head : goal.first_of-requires-clause-head
first_of-requires-clause-head g c = col_found c.self.inside.cells c.self.inside.promised c.args.self.now c.self.view_is c.args.col c.requires

pub returns : goal.returns
returns g c =
    c.first_of.ensures
    ∙ first_told Cols c.self.inside.cells c.args.col (col_found c.self.inside.cells c.self.inside.promised c.args.self.now c.self.view_is c.args.col c.requires)
    ∙ ap (λ m. first_in m.cols c.args.col) c.self.view_is
