use Rattle.std.proofs.Common.{ℕ, ◌≡◌, ◌≤◌, ◌++◌, length, take, drop, replicate}
use Rattle.pss_base.specs.Hexadecimal.{hex_digits}
use Rattle.pss_base.proofs.hexadecimal.write_hex.Given as goal

abbrev pub invariant-digits : goal.invariant-digits
invariant-digits l = record {
  within : l.at ≤ length l.digits;
  front : hex_digits (length l.digits) l.number ≡ hex_digits l.at l.left ++ drop l.at l.digits;
  zeros : (m : ℕ) → m ≤ l.at → take m l.digits ≡ replicate m 48;
}

abbrev pub decreases-digits : goal.decreases-digits
decreases-digits l = l.at
