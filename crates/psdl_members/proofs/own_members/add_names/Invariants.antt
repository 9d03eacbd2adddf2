use Rattle.std.proofs.Common.{◌≡◌, ◌++◌, map, drop}
use Rattle.psdl_tree.specs.Views.{state_view}
use Rattle.psdl_members.specs.Bodies.{member_views}
use Rattle.psdl_members.specs.inner.Owned.{member_of}
use Rattle.psdl_members.proofs.own_members.add_names.Given as goal

abbrev pub invariant-loop-name : goal.invariant-loop-name
invariant-loop-name l =
    member_views l.found.items ++ map (member_of l.declaration (state_view l.state)) (drop l.name-index l.names)
    ≡ member_views l.fn.found.items ++ map (member_of l.declaration (state_view l.state)) l.names
