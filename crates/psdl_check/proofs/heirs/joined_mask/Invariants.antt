use Rattle.std.proofs.Common.{◌≡◌, ℕ, take, get_or}
use Rattle.std.specs.List.{list_any}
use Rattle.psdl_check.specs.inner.Masks.{has_bit}
use Rattle.psdl_check.proofs.heirs.joined_mask.Given as goal

abbrev pub invariant-loop-number : goal.invariant-loop-number
invariant-loop-number l = (k : ℕ) → has_bit l.joined k ≡ list_any (λ p. has_bit (get_or l.masks p 0) k) (take l.number-index l.numbers)
