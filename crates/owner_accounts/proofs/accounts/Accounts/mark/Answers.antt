use Rattle.owner_accounts.proofs.Counting.{marks}
use Rattle.owner_accounts.proofs.accounts.Accounts.mark.Goals as goal

pub returns : goal.returns
returns c S k s are = marks S c.args.self.now k are c.args.owner c.args.failed s c.mark.new.self c.mark.ensures
