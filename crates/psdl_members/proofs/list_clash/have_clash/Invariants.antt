use Rattle.std.proofs.Common.{take}
use Rattle.std.specs.List.{flat_map}
use Rattle.psdl_members.specs.inner.Firsts.{AreFirsts}
use Rattle.psdl_members.specs.inner.Room.{SameRoom}
use Rattle.psdl_members.specs.inner.Rowed.{row_of}
use Rattle.psdl_members.proofs.list_clash.have_clash.Given as goal

abbrev pub invariant-loop-declaration : goal.invariant-loop-declaration
invariant-loop-declaration l =
    record {
      room : SameRoom l.fn.firsts l.firsts;
      firsts : AreFirsts l.firsts.marks l.firsts.lists.items (flat_map (row_of l.rows) (take l.declaration-index l.declarations));
    }
