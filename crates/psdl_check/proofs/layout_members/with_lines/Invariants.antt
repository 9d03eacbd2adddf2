use Rattle.std.proofs.Common.{◌≡◌, drop}
use Rattle.psdl_check.specs.inner.MemberLines.{members_behind}
use Rattle.psdl_check.specs.inner.Lists.{homes_in}
use Rattle.psdl_check.proofs.layout_members.with_lines.Given as goal

abbrev pub invariant-loop-member : goal.invariant-loop-member
invariant-loop-member l =
    let homes = homes_in l.referents in
    members_behind l.types homes l.whole.0 (drop l.member-index l.members) ≡ members_behind l.types homes l.fn.front.0 l.members
