use Rattle.std.proofs.Common.{sym, ◌∙◌}
use Rattle.type_layout.proofs.Places.{spelled_again}
use Rattle.type_layout.proofs.laws.one_spelling.Goals as goal

pub returns-clause-one : goal.returns-clause-one
returns-clause-one c = λ t v at a b p q. p.1 ∙ sym q.1

pub returns-clause-alike : goal.returns-clause-alike
returns-clause-alike c = spelled_again
