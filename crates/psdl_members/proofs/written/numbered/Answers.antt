use Rattle.psdl_members.specs.Listings.{listed_views}
use Rattle.psdl_members.specs.inner.Entries.{AreEntries}
use Rattle.psdl_members.proofs.Entered.{numbered_by, below_all}
use Rattle.psdl_members.proofs.written.numbered.Goals as goal

pub invariant_of-result : goal.invariant_of-result
invariant_of-result c =
    let are : AreEntries c.entries_of.new.numbering c.in_ok-entries.entries.items (listed_views c.args.written.lists.items) = rw c.deref.ensures.value at c.in_ok-entries.ensures in
    record { below = below_all c.entries_of.new.numbering c.len.result c.len.ensures c.in_ok-entries.entries.items (listed_views c.args.written.lists.items) are }

pub returns-clause-clash : goal.returns-clause-clash
returns-clause-clash c =
    let are : AreEntries c.entries_of.new.numbering c.in_ok-entries.entries.items (listed_views c.args.written.lists.items) = rw c.deref.ensures.value at c.in_ok-entries.ensures in
    numbered_by c.entries_of.new.numbering c.in_ok-entries.entries.items (listed_views c.args.written.lists.items) c.args.written.starts.items are
