use Rattle.std.proofs.Common.{◌≡◌, ◌-◌, ◌+◌, ℕ, length}
use Rattle.psdl_check.specs.inner.Masks.{group_at}
use Rattle.psdl_check.proofs.heirs.Heirs.make_place.Given as goal

abbrev pub invariant-loop-self : goal.invariant-loop-self
invariant-loop-self l = (n : ℕ) → group_at l.self n ≡ group_at l.fn.self n

abbrev pub decreases-loop-self : goal.decreases-loop-self
decreases-loop-self l = (l.group + 1) - length l.self.groups.items
