use Rattle.std.proofs.Common.{◌≡◌, ◌+◌, take}
use Rattle.psdl_tokens.specs.Places.{place_of}
use Rattle.psdl_tokens.proofs.cursor.place_behind.Given as goal

abbrev pub invariant-loop-byte : goal.invariant-loop-byte
invariant-loop-byte l = l.place ≡ place_of (take (l.at + l.byte-index) l.text)
