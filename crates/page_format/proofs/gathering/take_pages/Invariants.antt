use Rattle.std.proofs.Common.{◌≡◌, ◌-◌, ◌≤◌, IfSome, length, take}
use Rattle.pss_disk.specs.Reading.{OnlyReads}
use Rattle.page_format.specs.inner.Gathering.{AreGatheredOf, AreRowsSoFar}
use Rattle.page_format.proofs.gathering.take_pages.Given as goal

abbrev pub invariant-pages : goal.invariant-pages
invariant-pages g l = record {
  within : l.k ≤ length l.ahead.slots.now;
  so_far : IfSome (g.W.Station.content l.fn.w) (AreGatheredOf l.ahead.next (take l.k l.ahead.slots.now) l.gathered.places.entries l.gathered.rows l.gathered.small);
  alone : AreRowsSoFar l.ahead.next l.k l.gathered.places.entries l.gathered.rows;
  reads : OnlyReads g.W.Station.now g.W.Station.content g.W.Station.history g.W.Station.speak_faults l.fn.w l.w;
  cause : g.W.Station.disk_faults l.w ≡ g.W.Station.disk_faults l.fn.w;
}

abbrev pub decreases-pages : goal.decreases-pages
decreases-pages g l = length l.ahead.slots.now - l.k
