use Rattle.std.proofs.Common.{take}
use Rattle.psdl_members.specs.inner.Seeing.{IsGroup}
use Rattle.psdl_members.proofs.group.Group.put.Given as goal

abbrev pub invariant-loop-index : goal.invariant-loop-index
invariant-loop-index l = IsGroup l.self (take l.index l.entries)
