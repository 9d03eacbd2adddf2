use Rattle.std.proofs.Common.{◌≡◌, ◌≤◌, ◌++◌, take, length}
use Rattle.storage_home.specs.Kept.{is_of}
use Rattle.owner_view.specs.Merging.{merged}
use Rattle.owner_view.proofs.Ordered.{slots_of, rest}
use Rattle.owner_view.proofs.Told.{told_in}
use Rattle.owner_view.proofs.first.put_merged.Given as goal

abbrev pub invariant-loop-serial : goal.invariant-loop-serial
invariant-loop-serial g l =
    (length l.pids ≤ 256)
    × (take 256 (l.pids ++ merged (is_of l.view.schema.now l.home) (told_in (rest l.view.overlay.now.states l.serials l.serial-index)) l.rest) ≡ take 256 (merged (is_of l.view.schema.now l.home) (told_in (slots_of l.view.overlay.now.states l.serials)) l.committed))
