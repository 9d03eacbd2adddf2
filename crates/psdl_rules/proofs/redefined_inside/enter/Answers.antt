use Rattle.std.proofs.Common.{◌∙◌, not, ap}
use Rattle.psdl_rules.specs.inner.Scopes.{has_name}
use Rattle.psdl_rules.proofs.Noted.{not_not, entered}
use Rattle.psdl_rules.proofs.redefined_inside.enter.Goals as goal

pub returns-clause-there : goal.returns-clause-there
returns-clause-there c = ap not c.in_ok-is_new.ensures.added ∙ not_not (has_name c.args.names.now c.args.name.items)

pub returns-clause-names : goal.returns-clause-names
returns-clause-names c = entered c.args.names.now c.insert.new.self c.args.name c.in_ok-is_new.ensures.updates
