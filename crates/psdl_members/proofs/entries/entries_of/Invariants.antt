use Rattle.std.proofs.Common.{take}
use Rattle.psdl_members.specs.Listings.{listed_views}
use Rattle.psdl_members.specs.inner.Entries.{AreEntries}
use Rattle.psdl_members.proofs.entries.entries_of.Given as goal

abbrev pub invariant-loop-listed : goal.invariant-loop-listed
invariant-loop-listed l = AreEntries l.numbering l.entries.items (listed_views (take l.listed-index l.lists))
