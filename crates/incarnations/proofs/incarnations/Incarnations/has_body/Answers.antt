use Rattle.incarnations.specs.Meaning.{body}
use Rattle.incarnations.proofs.Seen.{has_it, has_not}
use Rattle.incarnations.proofs.incarnations.Incarnations.has_body.Goals as goal

pub returns-in-Some : goal.returns-in-Some
returns-in-Some c = has_it c.self.inside.stock c.args.self.now c.self.view_is (body c.args.pid c.args.view) c.in-Some.field-0 c.in-Some.ensures

pub returns-in-None : goal.returns-in-None
returns-in-None c = has_not c.self.inside.stock c.args.self.now c.self.view_is (body c.args.pid c.args.view) c.in-None.ensures
