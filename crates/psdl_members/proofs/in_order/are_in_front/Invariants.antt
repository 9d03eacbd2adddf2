use Rattle.std.proofs.Common.{◌≡◌, ◌<◌, ℕ, true, take}
use Rattle.psdl_lineage.specs.Descent.{has}
use Rattle.psdl_members.proofs.in_order.are_in_front.Given as goal

abbrev pub invariant-loop-named : goal.invariant-loop-named
invariant-loop-named l = (p : ℕ) → has (take l.named-index l.numbers) p ≡ true → p < l.number
