use Rattle.std.proofs.Common.{◌≡◌, ◌++◌, map, drop}
use Rattle.std.specs.List.{flat_map}
use Rattle.psdl_tree.specs.Views.{home_member_view}
use Rattle.psdl_members.specs.inner.Listing.{whole_views, of_concrete}
use Rattle.psdl_members.proofs.own_lists.add_concrete.Given as goal

abbrev pub invariant-loop-member : goal.invariant-loop-member
invariant-loop-member l =
    whole_views l.found.items ++ flat_map (of_concrete l.kind) (map home_member_view (drop l.member-index l.members))
    ≡ whole_views l.fn.found.items ++ flat_map (of_concrete l.kind) (map home_member_view l.members)
