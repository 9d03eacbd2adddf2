use Rattle.std.proofs.Common.{rules}
use Rattle.type_layout.specs.Scopes.{scoped_names}
use Rattle.type_layout.proofs.scopes.Scopes.new.Goals as goal

pub returns : goal.returns
unfolding scoped_names
returns c = search rules
