use Rattle.std.proofs.Common.{◌≡◌, take, false}
use Rattle.std.specs.List.{list_any}
use Rattle.psdl_members.specs.Bodies.{member_views}
use Rattle.psdl_rules.specs.Words.{is_called}
use Rattle.psdl_rules.proofs.listed_members.is_member.Given as goal

abbrev pub invariant-loop-member : goal.invariant-loop-member
invariant-loop-member l = list_any (is_called l.identifier) (member_views (take l.member-index l.members)) ≡ false
