use Rattle.std.proofs.Common.{◌≡◌, ◌≤◌, [], drop, length, map}
use Rattle.psdl_check.specs.Schemas.{scoped}
use Rattle.psdl_check.proofs.scoped_names.prefix.Given as goal

abbrev pub invariant-loop-left : goal.invariant-loop-left
invariant-loop-left l =
    record {
      within : l.left ≤ length l.modules;
      text : l.text ≡ scoped (map (λ n. n.now) (drop l.left l.modules)) [];
    }

abbrev pub decreases-loop-left : goal.decreases-loop-left
decreases-loop-left l = l.left
