use Rattle.std.proofs.Common.{◌≡◌, ◌+◌, ◌≤◌, ◌^◌, length, drop}
use Rattle.storage_home.specs.Kept.{is_of}
use Rattle.owner_view.specs.Stored.{Sees}
use Rattle.owner_view.specs.Views.{one_where}
use Rattle.owner_view.proofs.Summing.{sum_with}
use Rattle.owner_view.proofs.number.number_in.Given as goal

abbrev pub invariant-loop-place : goal.invariant-loop-place
invariant-loop-place g l =
    ((v : Sees g.C.Committed.shows l.view) → l.number ≡ sum_with (one_where (is_of l.view.schema.now l.home)) v.catalog (drop l.place l.view.overlay.now.states))
    × (l.number + l.place ≤ 2 ^ 60 + length l.view.overlay.now.states)
