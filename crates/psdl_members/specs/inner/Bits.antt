-- Bits of masks.
use Rattle.std.specs.Prelude.{◌≡◌, ◌==◌, ◌<◌, ℕ, List, Bool, false, map}
use Rattle.std.specs.Int.{bit_at}
use Rattle.std.proofs.Common.{get_or}
use Rattle.psdl_members.specs.declared.entry.Entry.{Entry}

unfoldable pub has_bit : ℕ → ℕ → Bool
has_bit mask k = bit_at mask k == 1

-- the answer for one of these entries, none past the last
abbrev pub answer_at : List Entry → (Entry → Bool) → ℕ → Bool
answer_at es test k = get_or (map test es) k false

-- each entry has a bit: the answer for it
abbrev pub AreBits : ℕ → List Entry → (Entry → Bool) → Type 0
AreBits mask es test = (k : ℕ) → k < 64 → has_bit mask k ≡ answer_at es test k
