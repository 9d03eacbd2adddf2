use Rattle.std.proofs.Common.{refl, ◌∙◌}
use Rattle.owner_titles.proofs.Machine.{named_here}
use Rattle.owner_accounts.proofs.Moving.{comes}
use Rattle.owner_accounts.proofs.accounts.Accounts.begin.Goals as goal

pub add_transaction-requires-clause-name : goal.add_transaction-requires-clause-name
add_transaction-requires-clause-name c = named_here c.args.self.now.titles c.requires.come.kept c.requires.come.are.titles c.args.name ∙ c.requires.free

pub returns-clause-begun : goal.returns-clause-begun
returns-clause-begun c S k are =
    comes S c.args.self.now _ k are refl (c.in_ok-add.ensures.under S are.under) refl refl c.in_ok-owner.owner c.args.name c.args.level c.in_ok-owner.ensures.number c.in_ok-add.ensures.ok c.in_ok-owner.ensures.ok
