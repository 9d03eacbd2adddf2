use Rattle.std.proofs.Common.{◌≡◌, ◌+◌, ◌*◌, ◌≤◌, ◌^◌, length, drop}
use Rattle.owner_view.specs.Stored.{Shows}
use Rattle.owner_view.specs.Weights.{reckoned}
use Rattle.owner_view.proofs.Summing.{sum_with}
use Rattle.owner_view.proofs.weight.total_reckoned.Given as goal

abbrev pub invariant-loop-place : goal.invariant-loop-place
invariant-loop-place g l =
    ((v : Shows g.C.Committed.shows l.view) → l.total ≡ sum_with (reckoned l.view.schema.now) v.catalog (drop l.place l.view.overlay.now.states))
    × (l.total + l.place * (2 ^ 64 + 16) ≤ 2 ^ 64 + length l.view.overlay.now.states * (2 ^ 64 + 16))
