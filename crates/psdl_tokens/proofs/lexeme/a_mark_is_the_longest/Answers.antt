use Rattle.psdl_tokens.proofs.Marks.{marks_are_longest}
use Rattle.psdl_tokens.proofs.lexeme.a_mark_is_the_longest.Goals as goal

pub returns : goal.returns
returns c = marks_are_longest
