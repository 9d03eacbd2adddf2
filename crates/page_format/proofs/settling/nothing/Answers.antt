use Rattle.std.proofs.Common.{refl}
use Rattle.page_format.proofs.Settled.{settling_nothing}
use Rattle.page_format.proofs.settling.nothing.Goals as goal

pub returns-clause-so_far : goal.returns-clause-so_far
returns-clause-so_far c = settling_nothing _ refl refl c.new.ensures
