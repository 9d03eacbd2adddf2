use Rattle.std.proofs.Common.{length, ◌-◌}
use Rattle.psdl_tokens.proofs.Stringing.{ReadTo}
use Rattle.psdl_tokens.proofs.quoted.string_in.Given as goal

abbrev pub invariant-loop-at : goal.invariant-loop-at
invariant-loop-at l = ReadTo l.rest l.at l.bytes

abbrev pub decreases-loop-at : goal.decreases-loop-at
decreases-loop-at l = length l.rest - l.at
