use Rattle.std.proofs.Common.{ℕ, Option}
use Rattle.storage_home.specs.Blocks.{IsFirstHeld}
use Rattle.storage_home.proofs.extents.first_in.Given as goal

abbrev pub invariant-loop-number : goal.invariant-loop-number
invariant-loop-number l =
    (goal.iterator-loop-number).can_next l.number-iterator
    × (goal.iterator-loop-number).is_finite l.number-iterator
    × ((next : Option ℕ) → IsFirstHeld l.number-iterator next → IsFirstHeld l.fn.range next)
