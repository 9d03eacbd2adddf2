use Rattle.storage_home.specs.Changes.{least_next}
use Rattle.owner_view.specs.Stored.{Shows}
use Rattle.owner_view.proofs.Nets.{IsBegun}
use Rattle.owner_view.proofs.Ordered.{slots_of, rest}
use Rattle.owner_view.proofs.Told.{told_in, SlotsRise}
use Rattle.owner_view.proofs.net.put_net.Given as goal

abbrev pub invariant-loop-serial : goal.invariant-loop-serial
invariant-loop-serial g l =
    SlotsRise (least_next 0 l.changes) (rest l.view.overlay.now.states l.serials l.serial-index)
    × ((v : Shows g.C.Committed.shows l.view) → IsBegun l.view.schema.now v.catalog (told_in (slots_of l.view.overlay.now.states l.serials)) (told_in (rest l.view.overlay.now.states l.serials l.serial-index)) l.changes)
