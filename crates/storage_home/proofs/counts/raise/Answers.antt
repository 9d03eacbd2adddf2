use Rattle.storage_home.proofs.Raising.{raised}
use Rattle.storage_home.proofs.counts.raise.Goals as goal

pub returns : goal.returns
returns c = raised c.args.counts.now c.args.home.0 c.requires.some c.requires.there
