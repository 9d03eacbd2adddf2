use Rattle.std.proofs.Common.{refl}
use Rattle.pss_machine.specs.declared.level.Level.TheVariants as level
use Rattle.owner_accounts.proofs.Moving.{comes}
use Rattle.owner_accounts.proofs.accounts.Accounts.open.Goals as goal

pub returns-clause-opened : goal.returns-clause-opened
returns-clause-opened c S k are =
    comes S c.args.self.now _ k are refl (c.in_ok-add.ensures.under S are.under) refl refl c.in_ok-owner.owner c.args.name level.Basic c.in_ok-owner.ensures.number c.in_ok-add.ensures.ok c.in_ok-owner.ensures.ok
