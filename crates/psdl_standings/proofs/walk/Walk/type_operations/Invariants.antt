use Rattle.std.proofs.Common.{map, take}
use Rattle.std.specs.List.{flat_map}
use Rattle.psdl_tree.specs.Trees.{AbstractTypeMember}
use Rattle.psdl_tree.specs.Views.{abstract_type_member_view}
use Rattle.psdl_directory.specs.Parts as parts
use Rattle.psdl_standings.specs.Uses.{in_operation, operation_bounds}
use Rattle.psdl_standings.specs.inner.Entries.{Notes}
use Rattle.psdl_standings.proofs.walk.Walk.type_operations.Given as goal

abbrev pub invariant-loop-member : goal.invariant-loop-member
invariant-loop-member l =
    let xs = map abstract_type_member_view (take l.member-index l.members) in
    Notes l.fn.self l.self l.spot (flat_map (λ (x : AbstractTypeMember). flat_map (in_operation l.spot.limit) (parts.type_operation x)) xs) (flat_map (λ (x : AbstractTypeMember). flat_map (operation_bounds l.spot.limit) (parts.type_operation x)) xs)
