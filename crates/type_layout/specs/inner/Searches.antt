-- The steps of a search for a factory.
use Rattle.std.specs.Prelude.{ℕ, ◌+◌, ◌≡◌, ◌<◌, List, ◌∷◌, Bool, not, nat_lt, ◌&&◌, reverse, find, Some, None, cond, is_some, if◌then◌else◌}
use Rattle.std.specs.BTreeMap.{BTreeMap}
use Rattle.std.specs.List.{position_from}
use Rattle.std.specs.Option.{option_or}
use Rattle.std.specs.Str.{bytes_eq}
use Rattle.std.specs.declared.vec.Vec.{Vec}
use Rattle.type_layout.specs.declared.factories.DeclaredFactory.{DeclaredFactory}
use Rattle.type_layout.specs.declared.factory_search.Search.{Search}
use Rattle.type_layout.specs.declared.factory_search.Step.{Step}
use Rattle.type_layout.specs.Factories.{FactoryLines, declared_by}
use Rattle.type_layout.specs.NamePlaces.{place_in}

-- one of them has this name
abbrev pub declares : List ℕ → List DeclaredFactory → Bool
declares word fs = is_some (find (λ f. bytes_eq word f.name) fs)

module _ {Z : Type 0} where
  -- the table has the first of these lists that has a factory of a name
  abbrev pub FindsFirsts : BTreeMap (Vec ℕ Z) ℕ → List (List DeclaredFactory) → Type 0
  FindsFirsts names lists = (word : List ℕ) → place_in names word ≡ position_from (declares word) 0 lists

  -- the names of these have this number, unless they had one; all others keep theirs
  abbrev pub AreEntered : BTreeMap (Vec ℕ Z) ℕ → BTreeMap (Vec ℕ Z) ℕ → List DeclaredFactory → ℕ → Type 0
  AreEntered old new fs number = (word : List ℕ) → place_in new word ≡ option_or (place_in old word) (cond (declares word fs) (Some number) None)

-- no declaration in front of the first has a factory of this name
abbrev pub NoneInFront : FactoryLines → List ℕ → ℕ → Type 0
NoneInFront lines word first = (n : ℕ) → n < first → find (λ f. bytes_eq word f.name) (declared_by lines n) ≡ None

-- the innermost first
abbrev pub steps_of : Search → List Step
steps_of s = reverse s.way.items

-- what a step takes is walked where it is lower and was not left
abbrev pub is_entered : (ℕ → Bool) → Step → ℕ → Bool
is_entered left step base = nat_lt base step.number && not (left base)

-- the steps with the next one that a step takes
abbrev pub taken : (ℕ → Bool) → Step → ℕ → List Step → List Step
taken left step base steps =
    if is_entered left step base
    then record { number = base; next = 0 } ∷ record { number = step.number; next = step.next + 1 } ∷ steps
    else record { number = step.number; next = step.next + 1 } ∷ steps
