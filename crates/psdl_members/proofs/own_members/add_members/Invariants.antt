use Rattle.std.proofs.Common.{◌≡◌, ◌++◌, map, drop}
use Rattle.std.specs.List.{flat_map}
use Rattle.psdl_tree.specs.Views.{abstract_type_member_view}
use Rattle.psdl_directory.specs.Parts.{state_of}
use Rattle.psdl_lineage.specs.Descent.{members_in}
use Rattle.psdl_members.specs.Bodies.{member_views}
use Rattle.psdl_members.proofs.own_members.add_members.Given as goal

abbrev pub invariant-loop-member : goal.invariant-loop-member
invariant-loop-member l =
    member_views l.found.items ++ flat_map (members_in l.declaration) (flat_map state_of (map abstract_type_member_view (drop l.member-index l.members)))
    ≡ member_views l.fn.found.items ++ flat_map (members_in l.declaration) (flat_map state_of (map abstract_type_member_view l.members))
