use Rattle.std.proofs.Common.{◌-◌, [], ap, ◌∙◌}
use Rattle.std.specs.FinMap as map
use Rattle.link_pool.proofs.Sound.{is_some}
use Rattle.link_pool.proofs.Settled.{rings_hold}
use Rattle.link_pool.proofs.Told.{col_found}
use Rattle.link_pool.proofs.Whole.{col_removed_whole, col_removed_told}
use Rattle.link_pool.proofs.pool.Pool.remove_col.Goals as goal

pub remove_head-requires : goal.remove_head-requires
remove_head-requires g c = col_found c.self.inside.cells c.self.inside.promised c.args.self.now c.self.view_is c.args.col (is_some (map.get c.args.self.now.cols c.args.col) [] c.requires)

pub invariant_of-self : goal.invariant_of-self
invariant_of-self g c = col_removed_whole c.self.inside.cells c.remove_head.new.cells c.self.inside.promised c.self.invariant c.remove_head.ensures.capacity c.remove_head.ensures.len c.args.col (ap (λ m. map.get m.cols c.args.col) c.self.view_is ∙ c.requires) c.remove_head.ensures.updates

pub returns-clause-removed : goal.returns-clause-removed
returns-clause-removed g c =
    col_removed_told c.self.inside.cells c.remove_head.new.cells c.self.inside.promised c.self.invariant c.remove_head.ensures.capacity c.remove_head.ensures.len c.args.col (ap (λ m. map.get m.cols c.args.col) c.self.view_is ∙ c.requires) c.remove_head.ensures.updates c.args.self.now c.self.view_is

pub returns-clause-rings : goal.returns-clause-rings
returns-clause-rings g c = let w = invariant_of-self g c in rings_hold c.remove_head.new.cells (c.self.inside.promised - 1) w.sound
