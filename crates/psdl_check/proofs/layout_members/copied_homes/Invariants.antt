use Rattle.std.proofs.Common.{◌≡◌, ◌++◌, drop}
use Rattle.psdl_check.proofs.layout_members.copied_homes.Given as goal

abbrev pub invariant-loop-home : goal.invariant-loop-home
invariant-loop-home l = l.copy ++ drop l.home-index l.homes ≡ l.homes
