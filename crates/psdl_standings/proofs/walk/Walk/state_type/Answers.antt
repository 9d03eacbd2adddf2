use Rattle.std.proofs.Common.{ap}
use Rattle.psdl_tree.specs.Views.{name_view, state_type_view}
use Rattle.psdl_standings.proofs.Stated.{entry_defined}
use Rattle.psdl_standings.proofs.walk.Walk.state_type.Goals as goal

pub returns-in_ok-defined-in-Reference-clause-entry : goal.returns-in_ok-defined-in-Reference-clause-entry
returns-in_ok-defined-in-Reference-clause-entry c =
    entry_defined c.args.self.now c.defined.new.self c.args.spot _ _ (name_view c.in-Reference.name) c.in_ok-defined-in-Reference.field-0 (state_type_view c.args.state_type.now) (ap state_type_view c.in-Reference.is) c.in_ok-defined-in-Reference.ensures
