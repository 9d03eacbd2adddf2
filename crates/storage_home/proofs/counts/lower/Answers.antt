use Rattle.storage_home.proofs.Raising.{lowered, number_some}
use Rattle.storage_home.proofs.counts.lower.Goals as goal

pub returns : goal.returns
returns c = lowered c.args.counts.now c.args.home.0 (number_some c.args.counts.now c.args.home.0 c.requires.some) c.requires.there c.requires.some
