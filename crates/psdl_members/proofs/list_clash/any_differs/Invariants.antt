use Rattle.std.proofs.Common.{◌++◌, take}
use Rattle.psdl_members.specs.inner.Firsts.{AreFirsts}
use Rattle.psdl_members.specs.inner.Room.{SameRoom}
use Rattle.psdl_members.specs.inner.Rowed.{Entries}
use Rattle.psdl_members.proofs.list_clash.any_differs.Given as goal

abbrev pub invariant-loop-entry : goal.invariant-loop-entry
invariant-loop-entry l =
    record {
      room : SameRoom l.fn.firsts l.firsts;
      firsts : (xs : Entries) → AreFirsts l.fn.firsts.marks l.fn.firsts.lists.items xs → AreFirsts l.firsts.marks l.firsts.lists.items (xs ++ take l.entry-index l.entries);
    }
