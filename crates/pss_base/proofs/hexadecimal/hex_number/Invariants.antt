use Rattle.std.proofs.Common.{◌≡◌, ◌<◌, ◌^◌, take, true}
use Rattle.std.specs.List.{list_all}
use Rattle.std.specs.Str.Parse.{digits_value}
use Rattle.pss_base.specs.Hexadecimal.{is_hex_digit}
use Rattle.pss_base.proofs.hexadecimal.hex_number.Given as goal

abbrev pub invariant-loop-digit : goal.invariant-loop-digit
invariant-loop-digit l = record {
  all : list_all is_hex_digit (take l.digit-index l.digits) ≡ true;
  value : l.number ≡ digits_value 16 (take l.digit-index l.digits);
  small : l.number < 16 ^ l.digit-index;
}
