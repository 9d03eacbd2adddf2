use Rattle.std.proofs.Common.{sym, ap}
use Rattle.std.specs.Option.{option_map}
use Rattle.incarnations.specs.declared.names.Entry.{Entry}
use Rattle.incarnations.specs.Meaning.{slot}
use Rattle.incarnations.proofs.Seen.{entry_seen, entry_none}
use Rattle.incarnations.proofs.incarnations.Incarnations.pid_of.Goals as goal

pub returns-in-Some : goal.returns-in-Some
returns-in-Some c = sym (ap (option_map (λ (e : Entry). e.pid)) (entry_seen c.self.inside.stock c.args.self.now c.self.view_is (slot c.args.session c.args.number) c.in-Some.was c.in-Some.ensures))

pub returns-in-None : goal.returns-in-None
returns-in-None c = sym (ap (option_map (λ (e : Entry). e.pid)) (entry_none c.self.inside.stock c.args.self.now c.self.view_is (slot c.args.session c.args.number) c.in-None.ensures))
