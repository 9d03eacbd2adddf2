use Rattle.std.proofs.Common.{take}
use Rattle.type_layout.specs.NamePlaces.{Finds}
use Rattle.type_layout.proofs.name_places.places_of.Given as goal

abbrev pub invariant-loop-i : goal.invariant-loop-i
invariant-loop-i l = Finds l.places (take l.i l.names)
