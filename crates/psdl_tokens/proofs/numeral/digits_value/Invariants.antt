use Rattle.std.proofs.Common.{◌≡◌, ◌<◌, ◌^◌, drop}
use Rattle.std.specs.Str.Parse.{digits_value, digits_value_after}
use Rattle.psdl_tokens.proofs.numeral.digits_value.Given as goal

abbrev pub invariant-loop-byte : goal.invariant-loop-byte
invariant-loop-byte l =
    (l.value < 2 ^ 127) × (digits_value_after l.radix l.value (drop l.byte-index l.digits) ≡ digits_value l.radix l.digits)
