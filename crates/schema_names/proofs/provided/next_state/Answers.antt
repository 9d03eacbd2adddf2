use Rattle.schema_names.proofs.Hashing.{outer_there, its_state, always_there}
use Rattle.schema_names.proofs.provided.next_state.Goals as goal

pub state_in-requires : goal.state_in-requires
state_in-requires c = outer_there c.args.scopes.now c.args.states.now c.args.number c.in-Some.scope.outer c.in-Some.scope.name.now c.requires.there c.requires.before c.in-Some.ensures

pub returns-in-Some : goal.returns-in-Some
returns-in-Some c = its_state c.args.scopes.now c.args.states.now c.args.number c.in-Some.scope.outer c.in-Some.scope.name.now c.state_in.result c.requires.there c.requires.before c.in-Some.ensures c.state_in.ensures

pub returns-in-None : goal.returns-in-None
returns-in-None c = absurd (always_there c.args.scopes.now c.args.number.0 c.requires.there c.in-None.ensures)
