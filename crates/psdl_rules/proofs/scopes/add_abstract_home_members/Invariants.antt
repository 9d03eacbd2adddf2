use Rattle.std.proofs.Common.{◌≡◌, ◌++◌, map, drop}
use Rattle.std.specs.List.{flat_map}
use Rattle.psdl_tree.specs.Views.{abstract_home_member_view}
use Rattle.psdl_directory.specs.Parts.{abstract_home_names}
use Rattle.psdl_rules.proofs.scopes.add_abstract_home_members.Given as goal

abbrev pub invariant-loop-member : goal.invariant-loop-member
invariant-loop-member l =
    map (λ i. i.now) l.found.items ++ flat_map abstract_home_names (map abstract_home_member_view (drop l.member-index l.members))
    ≡ map (λ i. i.now) l.fn.found.items ++ flat_map abstract_home_names (map abstract_home_member_view l.members)
