use Rattle.std.proofs.Common.{◌≤◌, length}
use Rattle.schema_names.specs.inner.Hashed.{AreFound}
use Rattle.schema_names.proofs.provided.places_of.Given as goal

abbrev pub invariant-loop-place : goal.invariant-loop-place
invariant-loop-place l = (l.place ≤ length l.list) × AreFound l.place l.list l.places.firsts.entries l.places.others.items
