use Rattle.std.proofs.Common.{◌-◌, [], ap, ◌∙◌}
use Rattle.std.specs.FinMap as map
use Rattle.link_pool.proofs.Sound.{is_some}
use Rattle.link_pool.proofs.Settled.{rings_hold}
use Rattle.link_pool.proofs.Told.{row_found}
use Rattle.link_pool.proofs.Whole.{row_removed_whole, row_removed_told}
use Rattle.link_pool.proofs.pool.Pool.remove_row.Goals as goal

pub remove_head-requires : goal.remove_head-requires
remove_head-requires g c = row_found c.self.inside.cells c.self.inside.promised c.args.self.now c.self.view_is c.args.row (is_some (map.get c.args.self.now.rows c.args.row) [] c.requires)

pub invariant_of-self : goal.invariant_of-self
invariant_of-self g c = row_removed_whole c.self.inside.cells c.remove_head.new.cells c.self.inside.promised c.self.invariant c.remove_head.ensures.capacity c.remove_head.ensures.len c.args.row (ap (λ m. map.get m.rows c.args.row) c.self.view_is ∙ c.requires) c.remove_head.ensures.updates

pub returns-clause-removed : goal.returns-clause-removed
returns-clause-removed g c =
    row_removed_told c.self.inside.cells c.remove_head.new.cells c.self.inside.promised c.self.invariant c.remove_head.ensures.capacity c.remove_head.ensures.len c.args.row (ap (λ m. map.get m.rows c.args.row) c.self.view_is ∙ c.requires) c.remove_head.ensures.updates c.args.self.now c.self.view_is

pub returns-clause-rings : goal.returns-clause-rings
returns-clause-rings g c = let w = invariant_of-self g c in rings_hold c.remove_head.new.cells (c.self.inside.promised - 1) w.sound
