use Rattle.std.proofs.Common.{◌≡◌, ◌<◌, ◌^◌, drop}
use Rattle.std.specs.Str.Parse.{digits_value, digits_value_after}
use Rattle.value_text.proofs.digits.decimal_value.Given as goal

abbrev pub invariant-loop-byte : goal.invariant-loop-byte
invariant-loop-byte l =
    (l.number < 2 ^ 64) × (digits_value_after 10 l.number (drop l.byte-index l.digits) ≡ digits_value 10 l.digits)
