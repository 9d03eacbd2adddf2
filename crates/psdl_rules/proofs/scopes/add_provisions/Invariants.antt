use Rattle.std.proofs.Common.{◌≡◌, ◌++◌, map, drop}
use Rattle.psdl_tree.specs.Views.{provision_view}
use Rattle.psdl_rules.proofs.scopes.add_provisions.Given as goal

abbrev pub invariant-loop-provision : goal.invariant-loop-provision
invariant-loop-provision l =
    map (λ i. i.now) l.found.items ++ map (λ p. p.name) (map provision_view (drop l.provision-index l.provisions))
    ≡ map (λ i. i.now) l.fn.found.items ++ map (λ p. p.name) (map provision_view l.provisions)
