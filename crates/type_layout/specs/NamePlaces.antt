-- The first place of each name of a list.
use Rattle.std.specs.Prelude.{ℕ, ◌≡◌, ◌≤◌, List, length, Option, Some, None, cond}
use Rattle.std.specs.BTreeMap.{BTreeMap, get_by}
use Rattle.std.specs.Cmp.Lexicographic.{slice_cmp}
use Rattle.std.specs.List.{position_from}
use Rattle.std.specs.Option.{option_or}
use Rattle.std.specs.Ordering.{nat_cmp}
use Rattle.std.specs.Str.{bytes_eq}
use Rattle.std.specs.declared.vec.Vec.{Vec}

-- the first of these names that the word is
abbrev pub place_among : List (List ℕ) → List ℕ → Option ℕ
place_among names word = position_from (bytes_eq word) 0 names

-- so many names are found by a walk
abbrev pub few : ℕ
few = 8

module _ {Z : Type 0} where
  -- the place that a table has of a name
  abbrev pub place_in : BTreeMap (Vec ℕ Z) ℕ → List ℕ → Option ℕ
  place_in table name = get_by (λ k. slice_cmp nat_cmp name k.items) table

  -- the table has the first place of each of these names
  abbrev pub Finds : BTreeMap (Vec ℕ Z) ℕ → List (List ℕ) → Type 0
  Finds table names = (word : List ℕ) → place_in table word ≡ place_among names word

  -- the table finds these names; with no table they are few, to be walked
  abbrev pub MayFind : Option (BTreeMap (Vec ℕ Z) ℕ) → List (List ℕ) → Type 0
  MayFind None names = length names ≤ few
  MayFind (Some table) names = Finds table names

  -- a name has this place, unless it had one; all others keep theirs
  abbrev pub IsEntered : BTreeMap (Vec ℕ Z) ℕ → BTreeMap (Vec ℕ Z) ℕ → List ℕ → ℕ → Type 0
  IsEntered old new name place = (word : List ℕ) → place_in new word ≡ option_or (place_in old word) (cond (bytes_eq word name) (Some place) None)
