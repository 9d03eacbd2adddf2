use Rattle.std.proofs.Common.{[], map, take}
use Rattle.type_layout.specs.Schemas.{given}
use Rattle.type_layout.specs.inner.Searches.{FindsFirsts}
use Rattle.type_layout.proofs.factory_names.first_places.Given as goal

abbrev pub invariant-loop-number : goal.invariant-loop-number
invariant-loop-number l = FindsFirsts l.names (map (λ o. given o [] (λ b. b.value)) (take l.number l.declared))
