use Rattle.std.proofs.Common.{◌≡◌, ◌<◌, ◌≤◌, ◌^◌, take, true}
use Rattle.std.specs.List.{list_all}
use Rattle.std.specs.Char.{is_ascii_digit}
use Rattle.std.specs.Str.Parse.{digits_value}
use Rattle.script_text.proofs.parts.number_in_front.Given as goal

abbrev pub invariant-loop-byte : goal.invariant-loop-byte
invariant-loop-byte l = record {
  at : l.len ≡ l.byte-index;
  few : l.len ≤ 10;
  all : list_all is_ascii_digit (take l.byte-index l.text) ≡ true;
  value : l.value ≡ digits_value 10 (take l.byte-index l.text);
  small : l.value < 10 ^ l.byte-index;
}
