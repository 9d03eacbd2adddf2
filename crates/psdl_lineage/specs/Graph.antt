-- Descent over the numbers alone: for each definition the numbers of those that it names as base or implements.
use Rattle.std.specs.Prelude.{◌≡◌, ℕ, zero, suc, ◌<◌, List, [], ◌∷◌, ◌++◌, length, map, filter, Bool, true, not, ◌==◌, Option}
use Rattle.std.specs.List.{flat_map, find, range_with_len}
use Rattle.std.proofs.Common.{get_or}
use Rattle.psdl_directory.specs.Declarations.{Declaration}
use Rattle.psdl_directory.specs.Parts.{parents}
use Rattle.psdl_directory.specs.Lookup.{at}
use Rattle.psdl_lineage.specs.Descent.{without_repeats, has, definitions_of}

abbrev pub parents_in : List (List ℕ) → ℕ → List ℕ
parents_in graph n = get_or graph n []

-- each number has a row
abbrev pub IsGraph : List (List ℕ) → Type 0
IsGraph graph = (n p : ℕ) → has (parents_in graph n) p ≡ true → p < length graph

-- lines of descent, each definition behind those that it names
abbrev pub lines_in : ℕ → List (List ℕ) → List ℕ → ℕ → List ℕ
lines_in zero graph way n = n ∷ []
lines_in (suc fuel) graph way n =
    without_repeats (λ a b. a == b) (flat_map (λ p. lines_in fuel graph (p ∷ way) p) (filter (λ p. not (has way p)) (parents_in graph n)) ++ n ∷ [])

-- what a definition descends from, itself last
unfoldable pub ancestry_in : List (List ℕ) → ℕ → List ℕ
ancestry_in graph n = lines_in (length graph) graph (n ∷ []) n

abbrev pub conforms_in : List (List ℕ) → ℕ → ℕ → Bool
conforms_in graph n m = has (ancestry_in graph n) m

-- the definitions that each of the first so many declarations of a text names as bases or implements
abbrev pub rows_before : List Declaration → ℕ → List (List ℕ)
rows_before all i = map (λ n. definitions_of all n (parents (at all n).what)) (range_with_len 0 i)

unfoldable pub graph_of : List Declaration → List (List ℕ)
graph_of all = rows_before all (length all)

-- the first of these that descends from a definition
abbrev pub first_descendant : List (List ℕ) → List ℕ → ℕ → Option ℕ
first_descendant graph roots n = find (λ r. has (ancestry_in graph r) n) roots
