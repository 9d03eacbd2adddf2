use Rattle.std.proofs.Common.{◌≡◌, ◌++◌, take, map}
use Rattle.pss_machine.specs.declared.lock.Mode.TheVariants.{S as Read}
use Rattle.pss_machine.specs.Needs.{extent_need}
use Rattle.owner_view.proofs.needs.need_extents.Given as goal

abbrev pub invariant-loop-home : goal.invariant-loop-home
invariant-loop-home l = l.needs ≡ l.fn.needs ++ map (extent_need Read) (take l.home-index l.homes)
