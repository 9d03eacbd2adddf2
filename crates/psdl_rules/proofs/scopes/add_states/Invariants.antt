use Rattle.std.proofs.Common.{◌≡◌, ◌++◌, map, drop}
use Rattle.std.specs.List.{flat_map}
use Rattle.psdl_tree.specs.Views.{state_view}
use Rattle.psdl_directory.specs.Parts.{state_names}
use Rattle.psdl_rules.proofs.scopes.add_states.Given as goal

abbrev pub invariant-loop-state : goal.invariant-loop-state
invariant-loop-state l =
    map (λ i. i.now) l.found.items ++ flat_map state_names (map state_view (drop l.state-index l.states))
    ≡ map (λ i. i.now) l.fn.found.items ++ flat_map state_names (map state_view l.states)
