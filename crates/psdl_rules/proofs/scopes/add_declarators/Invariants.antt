use Rattle.std.proofs.Common.{◌≡◌, ◌++◌, map, drop}
use Rattle.psdl_tree.specs.Views.{declarator_view}
use Rattle.psdl_rules.proofs.scopes.add_declarators.Given as goal

abbrev pub invariant-loop-declarator : goal.invariant-loop-declarator
invariant-loop-declarator l =
    map (λ i. i.now) l.found.items ++ map (λ d. d.name) (map declarator_view (drop l.declarator-index l.declarators))
    ≡ map (λ i. i.now) l.fn.found.items ++ map (λ d. d.name) (map declarator_view l.declarators)
