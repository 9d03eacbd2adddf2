use Rattle.std.proofs.Common.{◌≡◌, ◌≤◌, map, take, length}
use Rattle.schema_names.specs.inner.Hashed.{state_of}
use Rattle.schema_names.proofs.provided.states_of.Given as goal

abbrev pub invariant-loop-index : goal.invariant-loop-index
invariant-loop-index l = (l.index ≤ length l.scopes) × (l.states.items ≡ map state_of (take l.index l.scopes))
