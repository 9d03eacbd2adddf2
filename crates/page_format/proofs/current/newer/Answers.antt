use Rattle.std.proofs.Common.{refl}
use Rattle.std.proofs.lemmas.Bool.{false≢true}
use Rattle.page_format.proofs.Choosing.{first_newer, second_newer, strange_roots}
use Rattle.page_format.proofs.current.newer.Goals as goal

pub returns-then-follows-clause-current : goal.returns-then-follows-clause-current
returns-then-follows-clause-current c = λ image one two. second_newer c.args.first c.args.second image one two c.requires.second (c.if-follows.ensures.0 refl)

pub returns-then-follows-2-clause-current : goal.returns-then-follows-2-clause-current
returns-then-follows-2-clause-current c = λ image one two. first_newer c.args.first c.args.second image one two c.requires.first (c.if-follows-2.ensures.0 refl)

pub returns-else-follows-2-clause-refused : goal.returns-else-follows-2-clause-refused
returns-else-follows-2-clause-refused c = λ image long one two.
    (refl, strange_roots c.args.first c.args.second image one two long c.requires.first c.requires.second (λ e. false≢true (c.if-follows-2.ensures.1 e)) (λ e. false≢true (c.if-follows.ensures.1 e)))
