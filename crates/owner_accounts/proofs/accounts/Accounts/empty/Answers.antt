use Rattle.std.proofs.Common.{refl}
use Rattle.owner_accounts.proofs.Moving.{empties}
use Rattle.owner_accounts.proofs.accounts.Accounts.empty.Goals as goal

pub returns : goal.returns
returns g c S k are = empties S c.args.self.now _ k are refl (c.finish.ensures.under S are.under) refl refl c.args.owner c.finish.ensures.finished c.unspend.ensures
