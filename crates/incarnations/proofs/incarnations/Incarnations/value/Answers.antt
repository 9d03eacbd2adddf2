use Rattle.std.proofs.Common.{◌∙◌}
use Rattle.incarnations.specs.Meaning.{slot}
use Rattle.incarnations.proofs.Seen.{value_seen, value_loose, value_none}
use Rattle.incarnations.proofs.incarnations.Incarnations.value.Goals as goal

pub returns-in-Some-view : goal.returns-in-Some-view
returns-in-Some-view c = c.value.ensures ∙ value_seen c.self.inside.stock c.args.self.now c.self.view_is (slot c.args.session c.args.number) c.in-Some.was c.in-Some-view.view c.in-Some.ensures c.in-Some-view.is

pub returns-in-None-view : goal.returns-in-None-view
returns-in-None-view c = value_loose c.self.inside.stock c.args.self.now c.self.view_is (slot c.args.session c.args.number) c.in-Some.was c.in-Some.ensures c.in-None-view.is

pub returns-in-None : goal.returns-in-None
returns-in-None c = value_none c.self.inside.stock c.args.self.now c.self.view_is (slot c.args.session c.args.number) c.in-None.ensures
