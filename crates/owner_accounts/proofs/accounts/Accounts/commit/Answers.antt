use Rattle.std.proofs.Common.{refl}
use Rattle.owner_accounts.proofs.Committing.{may_apply, made_told, made_silent}
use Rattle.owner_accounts.proofs.accounts.Accounts.commit.Goals as goal

pub returns-in-Some : goal.returns-in-Some
returns-in-Some c S k n are p = made_told S c.args.self.now _ k n c.args.commit are p (c.apply_reserved.ensures (may_apply S c.args.self.now c.args.self.now k n c.args.commit are p)) refl refl refl c.in-Some.told c.in-Some.is c.tell.ensures

pub returns-in_default : goal.returns-in_default
returns-in_default c S k n are p = made_silent S c.args.self.now _ k n c.args.commit are p (c.apply_reserved.ensures (may_apply S c.args.self.now c.args.self.now k n c.args.commit are p)) refl refl refl c.in_default.is refl
