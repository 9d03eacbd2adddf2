use Rattle.std.proofs.Common.{◌≡◌, ◌++◌, ◌∷◌, drop, map}
use Rattle.psdl_standings.proofs.types.names_of.Given as goal

abbrev pub invariant-loop-identifier : goal.invariant-loop-identifier
invariant-loop-identifier l = l.names ++ map (λ i. i.name) (drop l.identifier-index l.enumerators.others.items) ≡ map (λ i. i.name) (l.enumerators.first ∷ l.enumerators.others.items)
