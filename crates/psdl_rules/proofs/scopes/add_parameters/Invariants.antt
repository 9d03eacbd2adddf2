use Rattle.std.proofs.Common.{◌≡◌, ◌++◌, map, drop}
use Rattle.psdl_tree.specs.Views.{parameter_view}
use Rattle.psdl_rules.proofs.scopes.add_parameters.Given as goal

abbrev pub invariant-loop-parameter : goal.invariant-loop-parameter
invariant-loop-parameter l =
    map (λ i. i.now) l.found.items ++ map (λ p. p.name) (map parameter_view (drop l.parameter-index l.parameters))
    ≡ map (λ i. i.now) l.fn.found.items ++ map (λ p. p.name) (map parameter_view l.parameters)
