use Rattle.std.proofs.Common.{◌≡◌, ◌++◌, map, drop}
use Rattle.std.specs.List.{flat_map}
use Rattle.psdl_tree.specs.Views.{operation_view, abstract_type_member_view}
use Rattle.psdl_directory.specs.Parts.{type_operation}
use Rattle.psdl_rules.proofs.operations.add_type_operations.Given as goal

abbrev pub invariant-loop-member : goal.invariant-loop-member
invariant-loop-member l =
    map (λ o. operation_view o.now) l.found.items ++ flat_map type_operation (map abstract_type_member_view (drop l.member-index l.members))
    ≡ map (λ o. operation_view o.now) l.fn.found.items ++ flat_map type_operation (map abstract_type_member_view l.members)
