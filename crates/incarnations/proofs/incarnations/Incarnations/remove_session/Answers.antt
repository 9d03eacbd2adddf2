use Rattle.incarnations.specs.Stock.{meaning_of}
use Rattle.incarnations.proofs.Seen.{freed_nobody}
use Rattle.incarnations.proofs.incarnations.Incarnations.remove_session.Goals as goal

pub close-requires-clause-none : goal.close-requires-clause-none
close-requires-clause-none g c = freed_nobody c.args.session (meaning_of c.self.inside.stock) (meaning_of c.free.new.stock) c.free.ensures.left
