use Rattle.std.proofs.Common.{◌≡◌, ◌++◌, map, drop}
use Rattle.std.specs.List.{flat_map}
use Rattle.type_layout.specs.Members.{plain_member}
use Rattle.type_layout.specs.ShapeText.{member_line}
use Rattle.type_layout.proofs.shape.put_members.Given as goal

abbrev pub invariant-loop-member : goal.invariant-loop-member
invariant-loop-member l = l.text ++ flat_map member_line (map plain_member (drop l.member-index l.members)) ≡ l.fn.text ++ flat_map member_line (map plain_member l.members)
