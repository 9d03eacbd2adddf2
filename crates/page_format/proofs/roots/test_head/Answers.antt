use Rattle.page_format.proofs.Fields.{number_first, refused_first}
use Rattle.page_format.proofs.roots.test_head.Goals as goal

pub returns-in-Some-clause-refused : goal.returns-in-Some-clause-refused
returns-in-Some-clause-refused c = λ len image opened. refused_first len c.args.found image _ opened (number_first c.args.found image opened.found_ c.in-Some.at c.in-Some.ensures)
