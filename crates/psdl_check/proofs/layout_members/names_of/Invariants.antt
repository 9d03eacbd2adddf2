use Rattle.std.proofs.Common.{◌≡◌, ◌++◌, drop}
use Rattle.psdl_check.specs.inner.TypedMembers.{typed_names}
use Rattle.psdl_check.proofs.layout_members.names_of.Given as goal

abbrev pub invariant-loop-member : goal.invariant-loop-member
invariant-loop-member l = l.names ++ typed_names (drop l.member-index l.members) ≡ typed_names l.members
