use Rattle.std.proofs.Common.{◌≡◌, ◌++◌, drop}
use Rattle.owner_view.specs.Keyed.{key_needs}
use Rattle.owner_view.specs.Steps.{differing}
use Rattle.owner_view.proofs.needs.need_changed.Given as goal

abbrev pub invariant-loop-place : goal.invariant-loop-place
invariant-loop-place l = l.needs ++ key_needs (differing (drop l.place l.pairs) (drop l.place l.others)) ≡ l.fn.needs ++ key_needs (differing l.pairs l.others)
