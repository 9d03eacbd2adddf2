use Rattle.std.proofs.Common.{◌≡◌, ◌++◌, drop}
use Rattle.psdl_check.specs.inner.Lists.{homes_in}
use Rattle.psdl_check.specs.inner.TypedMembers.{typed_views}
use Rattle.psdl_check.proofs.layout_members.member_list.Given as goal

abbrev pub invariant-loop-member : goal.invariant-loop-member
invariant-loop-member l =
    let homes = homes_in l.referents in
    l.list ++ typed_views l.types homes (drop l.member-index l.members) ≡ typed_views l.types homes l.members
