use Rattle.std.proofs.Common.{◌≡◌, length, arith}
use Rattle.type_layout.proofs.Scoping.{length-scoped_names}
use Rattle.type_layout.proofs.scopes.Scopes.len.Goals as goal

pub returns : goal.returns
returns c =
    let same : length c.args.self.now ≡ length c.self.inside.scopes.items = rw (← c.self.view_is) (length-scoped_names c.self.inside.scopes.items) in
    omega (arith, same)
