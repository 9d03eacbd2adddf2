use Rattle.std.proofs.Common.{◌∙◌, sym, ap}
use Rattle.std.specs.Option.{option_map}
use Rattle.incarnations.specs.declared.names.Entry.{Entry}
use Rattle.incarnations.specs.Meaning.{slot}
use Rattle.incarnations.proofs.Seen.{entry_seen, value_seen, value_loose, value_none}
use Rattle.incarnations.proofs.incarnations.Incarnations.shown.Goals as goal

pub returns-in-Some-value-clause-pid : goal.returns-in-Some-value-clause-pid
returns-in-Some-value-clause-pid c = ap (option_map (λ (e : Entry). e.pid)) (entry_seen c.self.inside.stock c.args.self.now c.self.view_is (slot c.args.session c.args.number) c.in-Some.was.now c.in-Some.ensures)

pub returns-in-Some-value-clause-value : goal.returns-in-Some-value-clause-value
returns-in-Some-value-clause-value c = sym (c.in-Some-value.ensures ∙ value_seen c.self.inside.stock c.args.self.now c.self.view_is (slot c.args.session c.args.number) c.in-Some.was.now c.in-Some-view.view c.in-Some.ensures c.in-Some-view.is)

pub returns-in-None-value-clause-none : goal.returns-in-None-value-clause-none
returns-in-None-value-clause-none c = λ _. sym (c.in-None-value.ensures ∙ value_seen c.self.inside.stock c.args.self.now c.self.view_is (slot c.args.session c.args.number) c.in-Some.was.now c.in-Some-view.view c.in-Some.ensures c.in-Some-view.is)

pub returns-in-None-view-clause-none : goal.returns-in-None-view-clause-none
returns-in-None-view-clause-none c = λ _. sym (value_loose c.self.inside.stock c.args.self.now c.self.view_is (slot c.args.session c.args.number) c.in-Some.was.now c.in-Some.ensures c.in-None-view.is)

pub returns-in-None-clause-none : goal.returns-in-None-clause-none
returns-in-None-clause-none c = λ _. sym (value_none c.self.inside.stock c.args.self.now c.self.view_is (slot c.args.session c.args.number) c.in-None.ensures)
