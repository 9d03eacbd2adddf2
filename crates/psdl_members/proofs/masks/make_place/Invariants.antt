use Rattle.std.proofs.Common.{◌≡◌, ◌-◌, ◌+◌, ℕ, length, get_or}
use Rattle.psdl_members.proofs.masks.make_place.Given as goal

abbrev pub invariant-loop-masks : goal.invariant-loop-masks
invariant-loop-masks l = (n : ℕ) → get_or l.masks.items n 0 ≡ get_or l.fn.masks.items n 0

abbrev pub decreases-loop-masks : goal.decreases-loop-masks
decreases-loop-masks l = (l.number + 1) - length l.masks.items
