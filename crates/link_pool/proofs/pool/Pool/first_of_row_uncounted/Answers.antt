use Rattle.std.proofs.Common.{ap, ◌∙◌}
use Rattle.link_pool.specs.Rings.{first_in}
use Rattle.link_pool.specs.declared.cells.Side.TheVariants.{Rows}
use Rattle.link_pool.proofs.Told.{first_told, row_found}
use Rattle.link_pool.proofs.pool.Pool.first_of_row_uncounted.Goals as goal

pub first_of-requires-clause-head : goal.first_of-requires-clause-head
first_of-requires-clause-head g c = row_found c.self.inside.cells c.self.inside.promised c.args.self.now c.self.view_is c.args.row c.requires

pub returns : goal.returns
returns g c =
    c.first_of.ensures
    ∙ first_told Rows c.self.inside.cells c.args.row (row_found c.self.inside.cells c.self.inside.promised c.args.self.now c.self.view_is c.args.row c.requires)
    ∙ ap (λ m. first_in m.rows c.args.row) c.self.view_is
