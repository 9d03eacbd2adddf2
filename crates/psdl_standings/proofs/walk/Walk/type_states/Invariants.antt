use Rattle.std.proofs.Common.{map, take}
use Rattle.std.specs.List.{flat_map}
use Rattle.psdl_tree.specs.Trees.{AbstractTypeMember}
use Rattle.psdl_tree.specs.Views.{abstract_type_member_view}
use Rattle.psdl_directory.specs.Parts as parts
use Rattle.psdl_standings.specs.States.{types_of_state}
use Rattle.psdl_standings.specs.Uses.{in_state_type, state_bounds}
use Rattle.psdl_standings.specs.inner.Entries.{AddsStates}
use Rattle.psdl_standings.proofs.walk.Walk.type_states.Given as goal

abbrev pub invariant-loop-member : goal.invariant-loop-member
invariant-loop-member l =
    let xs = map abstract_type_member_view (take l.member-index l.members) in
    AddsStates l.fn.self l.self l.spot (flat_map (λ (x : AbstractTypeMember). flat_map (λ s. in_state_type l.spot.limit s.state_type) (parts.state_of x)) xs) (flat_map (λ (x : AbstractTypeMember). flat_map (λ s. state_bounds l.spot.limit s.state_type) (parts.state_of x)) xs) (flat_map (λ (x : AbstractTypeMember). flat_map types_of_state (parts.state_of x)) xs) l.fn.kept.items l.kept.items
