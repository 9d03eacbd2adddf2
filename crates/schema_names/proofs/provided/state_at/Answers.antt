use Rattle.std.proofs.Common.{◌∙◌}
use Rattle.schema_names.proofs.Hashing.{at_place, past}
use Rattle.schema_names.proofs.provided.state_at.Goals as goal

pub returns-in-Some : goal.returns-in-Some
returns-in-Some c = λ names are. at_place names c.args.states.now c.args.number c.in-Some.state.now are c.in-Some.ensures.lookup.0 c.in-Some.ensures.lookup.1

pub returns-in-None : goal.returns-in-None
returns-in-None c = λ names are. c.default.ensures ∙ past names c.args.states.now c.args.number are c.in-None.ensures.lookup.0
