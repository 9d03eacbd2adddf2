use Rattle.std.proofs.Common.{◌≡◌, None, position, take}
use Rattle.schema_names.specs.inner.Hashed.{is_called}
use Rattle.schema_names.proofs.provided.first_called.Given as goal

abbrev pub invariant-loop-place : goal.invariant-loop-place
invariant-loop-place l = position (is_called l.word) (take l.place l.list) ≡ None
