use Rattle.std.proofs.Common.{take, map}
use Rattle.type_layout.specs.NamePlaces.{Finds}
use Rattle.type_layout.proofs.factories.named_places.Given as goal

abbrev pub invariant-loop-i : goal.invariant-loop-i
invariant-loop-i l = Finds l.places (map (λ f. f.name) (take l.i l.factories))
