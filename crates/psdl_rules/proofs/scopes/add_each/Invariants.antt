use Rattle.std.proofs.Common.{◌≡◌, ◌++◌, map, drop}
use Rattle.psdl_rules.proofs.scopes.add_each.Given as goal

abbrev pub invariant-loop-name : goal.invariant-loop-name
invariant-loop-name l =
    map (λ i. i.now) l.found.items ++ (drop l.name-index l.names)
    ≡ map (λ i. i.now) l.fn.found.items ++ l.names
