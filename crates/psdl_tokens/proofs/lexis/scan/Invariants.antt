use Rattle.std.proofs.Common.{length, ◌-◌}
use Rattle.psdl_tokens.proofs.Lexing.{LexedTo}
use Rattle.psdl_tokens.proofs.lexis.scan.Given as goal

abbrev pub invariant-loop-place : goal.invariant-loop-place
invariant-loop-place l = LexedTo l.text l.tokens.items l.place

abbrev pub decreases-loop-place : goal.decreases-loop-place
decreases-loop-place l = length l.text - l.place.offset
