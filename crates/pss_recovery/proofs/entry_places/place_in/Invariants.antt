use Rattle.std.proofs.Common.{◌≡◌, ◌^◌, ◌<◌, IfSome}
use Rattle.pss_disk.specs.Reading.{OnlyReads}
use Rattle.page_format.specs.Pages.{entries_start, place_of}
use Rattle.page_format.specs.Places.{slot_start}
use Rattle.pss_recovery.proofs.entry_places.place_in.Given as goal

abbrev pub invariant-entries : goal.invariant-entries
invariant-entries g l =
    (l.at < 2 ^ 34)
    × IfSome (g.W.Station.content l.fn.w) (λ c. l.at ≡ place_of l.k c (entries_start (slot_start l.slot)))
    × OnlyReads g.W.Station.now g.W.Station.content g.W.Station.history g.W.Station.speak_faults l.fn.w l.w
    × (g.W.Station.disk_faults l.w ≡ g.W.Station.disk_faults l.fn.w)
