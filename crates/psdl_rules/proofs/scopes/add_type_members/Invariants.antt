use Rattle.std.proofs.Common.{◌≡◌, ◌++◌, map, drop}
use Rattle.std.specs.List.{flat_map}
use Rattle.psdl_tree.specs.Views.{abstract_type_member_view}
use Rattle.psdl_directory.specs.Parts.{abstract_type_names}
use Rattle.psdl_rules.proofs.scopes.add_type_members.Given as goal

abbrev pub invariant-loop-member : goal.invariant-loop-member
invariant-loop-member l =
    map (λ i. i.now) l.found.items ++ flat_map abstract_type_names (map abstract_type_member_view (drop l.member-index l.members))
    ≡ map (λ i. i.now) l.fn.found.items ++ flat_map abstract_type_names (map abstract_type_member_view l.members)
