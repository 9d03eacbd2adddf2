use Rattle.psdl_syntax.proofs.Decided.{decided}
use Rattle.psdl_syntax.proofs.laws.a_text_has_a_tree_or_a_fault.Goals as goal

pub returns : goal.returns
returns c = decided
