use Rattle.std.proofs.Common.{◌≡◌, drop, find}
use Rattle.schema_names.specs.inner.Hashed.{is_called_at}
use Rattle.schema_names.proofs.provided.place_among.Given as goal

abbrev pub invariant-loop-i : goal.invariant-loop-i
invariant-loop-i l = find (is_called_at l.list l.word) (drop l.i l.places) ≡ find (is_called_at l.list l.word) l.places
