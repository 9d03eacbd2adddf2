-- Keys of bodies are gathered, each once.
use Rattle.std.specs.Prelude.{◌≡◌, ◌<◌, ◌==◌, ℕ, List, length, map, Bool, false, nat_lt, IsTrue, Some}
use Rattle.std.specs.List.{list_any, list_all, range_with_len}
use Rattle.std.proofs.Common.{get_or}
use Rattle.std.specs.declared.vec.Vec.{Vec}
use Rattle.psdl_lineage.specs.Descent.{Listed, same_listed, without_repeats}
use Rattle.psdl_check.specs.declared.key_rows.KeyIds.{KeyIds}
use Rattle.psdl_check.specs.declared.key_rows.OwnKey.{OwnKey}
use Rattle.psdl_check.specs.inner.KeyIds.{id_of, own_views, HaveIds}
use Rattle.psdl_check.specs.inner.KeyRowed.{row_in}

-- which of the first so many rows have a key
abbrev pub keyed_rows : {Z : Type 0} → List (Vec OwnKey Z) → ℕ → List Bool
keyed_rows rows count = map (λ n. nat_lt 0 (length (row_in rows n))) (range_with_len 0 count)

-- there is a mark for each number
abbrev pub FitsIds : KeyIds → ℕ → Type 0
FitsIds ids count = (l : Listed) (n : ℕ) → id_of ids l ≡ Some n → n < count

-- and for the number of each of these
abbrev pub AreBelow : ℕ → List OwnKey → Type 0
AreBelow count ks = IsTrue (list_all (λ k. nat_lt k.id count) ks)

-- these are all keys of that list, each once, and their numbers are marked and no others
pub record AreGathered (ids : KeyIds) (marks : List Bool) (found : List OwnKey) (all : List Listed) : Type 0 where
  pub once : own_views found ≡ without_repeats same_listed all
  pub numbered : HaveIds ids found
  pub marked : (n : ℕ) → n < length marks → get_or marks n false ≡ list_any (λ k. k.id == n) found
