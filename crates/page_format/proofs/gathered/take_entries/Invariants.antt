use Rattle.std.proofs.Common.{◌≡◌}
use Rattle.page_format.specs.inner.Gathering.{AreGathered}
use Rattle.page_format.proofs.gathered.take_entries.Given as goal

abbrev pub invariant-entries : goal.invariant-entries
invariant-entries l = record {
  so_far : AreGathered l.page.octets.now l.end l.page.next l.page.slot l.fn.gathered.places.entries l.fn.gathered.rows l.k l.at l.gathered.places.entries l.gathered.rows;
  small : l.gathered.small ≡ l.fn.gathered.small;
}
