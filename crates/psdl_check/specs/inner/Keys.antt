-- The keys that homes have introduced so far, and the numbers of a home's keys.
use Rattle.std.specs.Prelude.{◌≡◌, ◌+◌, ◌&&◌, ℕ, List, [], ◌∷◌, length, map, Some, Option, cond}
use Rattle.std.specs.List.{position_from}
use Rattle.psdl_directory.specs.Declarations.{Declaration}
use Rattle.psdl_lineage.specs.Descent.{Listed, has, ancestry, same_listed}
use Rattle.psdl_standings.specs.Standings.{standings}
use Rattle.psdl_check.specs.Schemas.{Introduced, key_of}
use Rattle.psdl_check.specs.declared.key_rows.KeyIds.{KeyIds}
use Rattle.psdl_check.specs.declared.keys.Keys.{Keys}
use Rattle.psdl_check.specs.inner.Gathered.{FitsIds}
use Rattle.psdl_check.specs.inner.KeyIds.{id_of}
use Rattle.psdl_check.specs.inner.NumbersIn.{numbers_in}

-- the places, from that number on, of the keys of a name and list
abbrev pub places_of : Listed → ℕ → List Introduced → List ℕ
places_of l i [] = []
places_of l i (k ∷ ks) = cond (same_listed l k.listed) (i ∷ places_of l (i + 1) ks) (places_of l (i + 1) ks)

-- what is kept of the keys that were introduced
pub record AreKeys (all : List Declaration) (ids : KeyIds) (introduced : List Introduced) (k : Keys) : Type 0 where
  pub list : k.list ≡ map (key_of all (standings all)) introduced
  pub homes : k.homes.items ≡ map (λ i. i.home) introduced
  pub fits : FitsIds ids (length k.of_ids.items)
  pub of_ids : (l : Listed) (n : ℕ) → id_of ids l ≡ Some n → numbers_in k.of_ids.items n ≡ places_of l 0 introduced

-- the first key of a name and list that the home, or one that it derives from, introduced
abbrev pub number_among : List Declaration → ℕ → List Introduced → Listed → Option ℕ
number_among all home introduced l = position_from (λ i. has (ancestry all home) i.home && same_listed l i.listed) 0 introduced
