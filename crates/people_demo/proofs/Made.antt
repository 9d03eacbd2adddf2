-- The factories of people, by those that are declared.
use Rattle.std.proofs.Common.{◌≡◌, List, [], ◌∷◌, refl}
use Rattle.std.specs.Prelude.{codes}
use Rattle.type_layout.specs.declared.factories.DeclaredFactory.{DeclaredFactory}
use Rattle.type_layout.specs.Factories.{factories_held}
use Rattle.people_demo.specs.People.{ssn, name, boss, factories}

abbrev pub declared : List DeclaredFactory
declared = record { name = codes "make"; members = ssn.name ∷ name.name ∷ [] } ∷ []

pub made : factories_held (ssn.name ∷ name.name ∷ boss.name ∷ []) declared ≡ factories
unfolding factories_held
made = refl
