use Rattle.std.proofs.Common.{List, ℕ, ◌+◌, ◌*◌, get_or, take}
use Rattle.page_format.specs.Places.{slot_start}
use Rattle.page_format.specs.inner.Copies.{IsCopy}
use Rattle.page_format.specs.inner.Gathering.{AreGatheredOf, AreRowsSoFar}
use Rattle.page_format.proofs.gathering.add_pages.Given as goal

abbrev pub invariant-pages : goal.invariant-pages
invariant-pages l = record {
  alone : AreRowsSoFar l.ahead.next l.ahead.k l.fn.gathered.places.entries l.fn.gathered.rows → AreRowsSoFar l.ahead.next (l.ahead.k + l.i) l.gathered.places.entries l.gathered.rows;
  gathered : (image : List ℕ) → IsCopy (slot_start (get_or l.ahead.slots.now l.ahead.k 0)) (l.count * 16384) l.octets image → AreGatheredOf l.ahead.next (take l.ahead.k l.ahead.slots.now) l.fn.gathered.places.entries l.fn.gathered.rows l.fn.gathered.small image
      → AreGatheredOf l.ahead.next (take (l.ahead.k + l.i) l.ahead.slots.now) l.gathered.places.entries l.gathered.rows l.gathered.small image;
}
