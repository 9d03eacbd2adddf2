-- Those of what a definition descends from that have something of their own.
use Rattle.std.specs.Prelude.{◌≡◌, ◌<◌, ℕ, length, List, Bool, true, map, filter, Option, Some, None, is_some, option_map, ◌==◌}
use Rattle.std.proofs.Common.{get_or}
use Rattle.std.specs.declared.vec.Vec.{Vec}
use Rattle.psdl_lineage.specs.Descent.{has, without_repeats}
use Rattle.psdl_lineage.specs.Graph.{parents_in}
use Rattle.psdl_lineage.specs.Sources.{sources_in}
use Rattle.psdl_lineage.specs.inner.Walking.{is_marked}

abbrev pub lists_of : {A : Type 0} → List (Option (Vec ℕ A)) → List (Option (List ℕ))
lists_of kept = map (λ o. option_map (λ v. v.items) o) kept

abbrev pub list_at : List (Option (List ℕ)) → ℕ → Option (List ℕ)
list_at lists n = get_or lists n None

-- how many lists are kept
abbrev pub counted : {A : Type 0} → List (Option A) → ℕ
counted lists = length (filter is_some lists)

-- Lists that are kept, a place for each definition, where each names ones that are kept and have a lower rank: a
-- definition gets the next rank when its list is kept.
pub record AreKept (graph : List (List ℕ)) (own : List Bool) (lists : List (Option (List ℕ))) : Type 0 where
  pub rank : ℕ → ℕ
  pub sized : length lists ≡ length graph
  pub list : (n : ℕ) (xs : List ℕ) → list_at lists n ≡ Some xs → xs ≡ sources_in graph own n
  pub low : (n p : ℕ) → is_some (list_at lists n) ≡ true → has (parents_in graph n) p ≡ true → (rank p < rank n) × (is_some (list_at lists p) ≡ true)
  pub below : (n : ℕ) → is_some (list_at lists n) ≡ true → rank n < counted lists

-- what is marked is what was joined, each once
pub record AreJoined (marks : List Bool) (numbers : List ℕ) : Type 0 where
  pub distinct : without_repeats (λ a b. a == b) numbers ≡ numbers
  pub marked : (n : ℕ) → is_marked marks n ≡ has numbers n

-- all that a definition names is kept
abbrev pub NamesKept : List (List ℕ) → List (Option (List ℕ)) → ℕ → Type 0
NamesKept graph lists n = (p : ℕ) → has (parents_in graph n) p ≡ true → is_some (list_at lists p) ≡ true
