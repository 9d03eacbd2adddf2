use Rattle.std.proofs.Common.{◌≡◌, drop}
use Rattle.pss_machine.specs.Alone.{first_gone}
use Rattle.owner_view.specs.Overlay.{changes_in}
use Rattle.owner_view.specs.Views.{seen_with}
use Rattle.owner_view.specs.Stored.{Sees}
use Rattle.owner_view.proofs.view.first_gone.Given as goal

abbrev pub invariant-loop-pid : goal.invariant-loop-pid
invariant-loop-pid g l = (v : Sees g.C.Committed.shows l.view) → first_gone (seen_with v.catalog (changes_in l.view.overlay.now)) l.pids ≡ first_gone (seen_with v.catalog (changes_in l.view.overlay.now)) (drop l.pid-index l.pids)
