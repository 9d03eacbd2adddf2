use Rattle.std.proofs.Common.{◌≡◌, ◌+◌, drop}
use Rattle.std.specs.Option.{option_map}
use Rattle.psdl_tokens.specs.Comments.{closing}
use Rattle.psdl_tokens.proofs.comment.closing.Given as goal

abbrev pub invariant-loop-i : goal.invariant-loop-i
invariant-loop-i l = closing l.rest ≡ option_map (λ n. n + l.i) (closing (drop l.i l.rest))
