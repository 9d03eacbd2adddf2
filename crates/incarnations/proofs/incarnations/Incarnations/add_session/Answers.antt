use Rattle.incarnations.proofs.Seen.{last_none}
use Rattle.incarnations.proofs.incarnations.Incarnations.add_session.Goals as goal

pub open-requires-clause-free : goal.open-requires-clause-free
open-requires-clause-free c = last_none c.self.inside.stock c.args.self.now c.self.view_is c.args.session c.requires
