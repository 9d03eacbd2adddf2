use Rattle.std.proofs.Common.{◌≡◌, drop}
use Rattle.std.specs.Prelude.{find}
use Rattle.owner_view.specs.Overlay.{changes_in}
use Rattle.owner_view.specs.Views.{seen_with, is_held_by_other}
use Rattle.owner_view.specs.Stored.{Sees}
use Rattle.owner_view.proofs.view.first_taken.Given as goal

abbrev pub invariant-loop-key : goal.invariant-loop-key
invariant-loop-key g l = (v : Sees g.C.Committed.shows l.view) → find (is_held_by_other l.view.schema.now (seen_with v.catalog (changes_in l.view.overlay.now)) l.serial) l.pairs ≡ find (is_held_by_other l.view.schema.now (seen_with v.catalog (changes_in l.view.overlay.now)) l.serial) (drop l.key-index l.pairs)
