use Rattle.std.proofs.Common.{ap, ◌∙◌}
use Rattle.owner_titles.specs.Meaning.{transactions}
use Rattle.owner_titles.proofs.Machine.{counted_here}
use Rattle.owner_titles.proofs.titles.Titles.transactions.Goals as goal

pub returns-clause-machine : goal.returns-clause-machine
returns-clause-machine c k are = c.self.invariant.counted ∙ ap transactions c.self.view_is ∙ counted_here c.args.self.now k are
