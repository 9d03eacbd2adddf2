use Rattle.std.proofs.Common.{◌≡◌}
use Rattle.std.specs.Str.{bytes_eq}
use Rattle.type_layout.specs.Scopes.{name_at}
use Rattle.type_layout.proofs.scopes.Scopes.is_name.Given as goal

abbrev pub invariant-loop-scope : goal.invariant-loop-scope
invariant-loop-scope l = bytes_eq l.rest (name_at l.self l.at) ≡ bytes_eq l.fn.word (name_at l.self l.fn.number)

abbrev pub decreases-loop-scope : goal.decreases-loop-scope
decreases-loop-scope l = l.at.0
