-- The factories that a storage home has, by those that homes declare.
use Rattle.std.specs.Prelude.{ℕ, zero, suc, List, [], ◌∷◌, ◌++◌, map, Bool, ◌&&◌, ◌==◌, if◌then◌else◌}
use Rattle.std.proofs.Common.{get_or}
use Rattle.std.specs.Cmp.Lexicographic.{pointwise}
use Rattle.std.specs.List.{flat_map, list_any}
use Rattle.std.specs.Option.{option_to_list}
use Rattle.std.specs.Str.{bytes_eq}
use Rattle.type_layout.specs.declared.factories.DeclaredFactory.{DeclaredFactory}
use Rattle.type_layout.specs.declared.schema.Factory.{Factory}
use Rattle.type_layout.specs.NamePlaces.{place_among}

-- the same name, and the same members in the same order
abbrev pub same_declared : DeclaredFactory → DeclaredFactory → Bool
same_declared a b = bytes_eq a.name b.name && pointwise bytes_eq a.members b.members

-- the first of each, but for those that are known
abbrev pub first_of_each : {A : Type 0} → (A → A → Bool) → List A → List A → List A
first_of_each same known [] = []
first_of_each same known (x ∷ xs) = if list_any (same x) known then first_of_each same known xs else x ∷ first_of_each same (x ∷ known) xs

-- the numbers of the members with these names, where a home has members of those
abbrev pub numbers_among : List (List ℕ) → List (List ℕ) → List ℕ
numbers_among members names = flat_map (λ name. option_to_list (place_among members name)) names

abbrev pub numbered : List (List ℕ) → DeclaredFactory → Factory
numbered members f = record { name = f.name; members = numbers_among members f.members }

-- the factories of a home whose members have these names: of those that it holds, one that comes again is left out
unfoldable pub factories_held : List (List ℕ) → List DeclaredFactory → List Factory
factories_held members held = map (numbered members) (first_of_each same_declared [] held)

-- ---- what a home holds, by all that homes declare

-- from which others each derives, and what each declares
pub record FactoryLines : Type 0 where
  pub bases : List (List ℕ)
  pub declared : List (List DeclaredFactory)

abbrev pub bases_of : FactoryLines → ℕ → List ℕ
bases_of lines n = get_or lines.bases n []

abbrev pub declared_by : FactoryLines → ℕ → List DeclaredFactory
declared_by lines n = get_or lines.declared n []

-- those from which each below a limit has factories: those of all from which it derives, one behind the other, and
-- itself last. One that comes again is there again. None derives from what is not in front of it.
abbrev pub sources_below : FactoryLines → ℕ → ℕ → List ℕ
sources_below lines zero n = []
sources_below lines (suc limit) n = if n == limit then flat_map (sources_below lines limit) (bases_of lines n) ++ n ∷ [] else sources_below lines limit n

abbrev pub sources_of : FactoryLines → ℕ → List ℕ
sources_of lines n = sources_below lines (suc n) n

-- the factories of a home, as others and it declare them
unfoldable pub held_in : FactoryLines → ℕ → List DeclaredFactory
held_in lines n = flat_map (declared_by lines) (sources_of lines n)
