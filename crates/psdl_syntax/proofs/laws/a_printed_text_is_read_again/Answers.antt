use Rattle.psdl_syntax.proofs.TextAgain.{texts_kept}
use Rattle.psdl_syntax.proofs.laws.a_printed_text_is_read_again.Goals as goal

pub returns : goal.returns
returns c = texts_kept
