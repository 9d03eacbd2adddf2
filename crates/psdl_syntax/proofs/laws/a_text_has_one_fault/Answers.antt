use Rattle.psdl_syntax.proofs.OneFault.{has_one_fault, has_no_tree}
use Rattle.psdl_syntax.proofs.laws.a_text_has_one_fault.Goals as goal

pub returns-clause-one : goal.returns-clause-one
returns-clause-one c = has_one_fault

pub returns-clause-no_tree : goal.returns-clause-no_tree
returns-clause-no_tree c = has_no_tree
