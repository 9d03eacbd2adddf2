use Rattle.owner_accounts.proofs.Counting.{counts}
use Rattle.owner_accounts.proofs.accounts.Accounts.count.Goals as goal

pub returns : goal.returns
returns c S m s question answer asked = counts S c.args.self.now m.by.kept m.by.are c.args.owner question answer s asked c.count.new.self c.count.ensures
