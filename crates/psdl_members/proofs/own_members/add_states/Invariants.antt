use Rattle.std.proofs.Common.{◌≡◌, ◌++◌, map, drop}
use Rattle.std.specs.List.{flat_map}
use Rattle.psdl_tree.specs.Views.{state_view}
use Rattle.psdl_lineage.specs.Descent.{members_in}
use Rattle.psdl_members.specs.Bodies.{member_views}
use Rattle.psdl_members.proofs.own_members.add_states.Given as goal

abbrev pub invariant-loop-state : goal.invariant-loop-state
invariant-loop-state l =
    member_views l.found.items ++ flat_map (members_in l.declaration) (map state_view (drop l.state-index l.states))
    ≡ member_views l.fn.found.items ++ flat_map (members_in l.declaration) (map state_view l.states)
