use Rattle.std.proofs.Common.{◌≡◌, ◌++◌, drop}
use Rattle.std.specs.List.{flat_map}
use Rattle.value_text.specs.Printed.{byte_text}
use Rattle.value_text.proofs.print.put_bytes.Given as goal

abbrev pub invariant-loop-byte : goal.invariant-loop-byte
invariant-loop-byte l = l.out ++ flat_map (byte_text l.quote) (drop l.byte-index l.bytes) ≡ l.fn.out ++ flat_map (byte_text l.quote) l.bytes
