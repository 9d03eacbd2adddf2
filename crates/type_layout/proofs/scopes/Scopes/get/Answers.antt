use Rattle.type_layout.proofs.Scoping.{is_behind, none_there, is_there, is_not_there}
use Rattle.type_layout.proofs.scopes.Scopes.get.Goals as goal

pub returns-in-Some : goal.returns-in-Some
returns-in-Some c =
    let scopes = c.self.inside.scopes.items in
    let found = rw c.deref.ensures.value at c.in-Some.ensures.lookup in
    rw (← c.self.view_is, c.lower.ensures, c.as_slice.ensures) (is_behind scopes c.in-Some.scope.now c.args.number (is_there scopes c.args.number.0 c.in-Some.scope.now found.0 found.1))

pub returns-in-None : goal.returns-in-None
returns-in-None c =
    let missed = rw c.deref.ensures.value at c.in-None.ensures.lookup in
    rw (← c.self.view_is) (none_there c.self.inside.scopes.items c.args.number.0 (is_not_there c.self.inside.scopes.items c.args.number.0 missed.0))
