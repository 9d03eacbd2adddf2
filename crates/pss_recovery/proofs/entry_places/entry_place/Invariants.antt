use Rattle.std.proofs.Common.{◌≡◌, ◌-◌, ◌≤◌, drop, IfSome}
use Rattle.pss_disk.specs.Reading.{OnlyReads}
use Rattle.pss_recovery.proofs.EntryPlaces.{ArePassed}
use Rattle.pss_recovery.proofs.entry_places.entry_place.Given as goal

abbrev pub invariant-loop-slot : goal.invariant-loop-slot
invariant-loop-slot g l =
    (l.left ≤ l.fn.index)
    × IfSome (g.W.Station.content l.fn.w) (λ c. ArePassed c l.slots (drop l.slot-index l.slots) (l.fn.index - l.left))
    × OnlyReads g.W.Station.now g.W.Station.content g.W.Station.history g.W.Station.speak_faults l.fn.w l.w
    × (g.W.Station.disk_faults l.w ≡ g.W.Station.disk_faults l.fn.w)
