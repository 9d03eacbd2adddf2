use Rattle.std.proofs.Common.{◌≡◌, ◌++◌, map, drop}
use Rattle.std.specs.List.{flat_map}
use Rattle.psdl_tree.specs.Views.{operation_view, abstract_home_member_view}
use Rattle.psdl_directory.specs.Parts.{home_operation}
use Rattle.psdl_rules.proofs.operations.add_home_operations.Given as goal

abbrev pub invariant-loop-member : goal.invariant-loop-member
invariant-loop-member l =
    map (λ o. operation_view o.now) l.found.items ++ flat_map home_operation (map abstract_home_member_view (drop l.member-index l.members))
    ≡ map (λ o. operation_view o.now) l.fn.found.items ++ flat_map home_operation (map abstract_home_member_view l.members)
