use Rattle.std.proofs.Common.{◌≡◌, map, drop}
use Rattle.type_layout.specs.Views.{plain_value}
use Rattle.type_layout.specs.Members.{plain_member}
use Rattle.type_layout.specs.Types.{values_of}
use Rattle.type_layout.specs.Values.{layout_fields}
use Rattle.type_layout.specs.Testing.{are_of}
use Rattle.type_layout.proofs.of_type.are_of_members.Given as goal

abbrev pub invariant-loop-member : goal.invariant-loop-member
invariant-loop-member l =
    are_of (layout_fields (map plain_member (drop l.member-index l.members))) (values_of (map plain_value l.remaining))
    ≡ are_of (layout_fields (map plain_member l.members)) (values_of (map plain_value l.values))
