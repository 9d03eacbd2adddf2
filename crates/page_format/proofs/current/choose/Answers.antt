use Rattle.page_format.proofs.Choosing.{first_alone, neither_root, second_alone}
use Rattle.page_format.proofs.current.choose.Goals as goal

pub returns-else-second-clause-current : goal.returns-else-second-clause-current
returns-else-second-clause-current c = λ image one two. first_alone c.args.first c.args.second image one two c.if-first.true c.if-second.false

pub returns-then-second-2-clause-current : goal.returns-then-second-2-clause-current
returns-then-second-2-clause-current c = λ image one two. second_alone c.args.first c.args.second image one two c.if-first.false c.if-second-2.true

pub returns-else-second-2-clause-refused : goal.returns-else-second-2-clause-refused
returns-else-second-2-clause-refused c = λ image long one two. neither_root c.args.first c.args.second image one two c.if-first.false c.if-second-2.false
