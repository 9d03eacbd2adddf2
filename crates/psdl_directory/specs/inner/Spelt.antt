-- A table of spellings by number.
use Rattle.std.specs.Prelude.{◌≡◌, ◌<◌, ℕ, List, Option, Some}
use Rattle.std.specs.BTreeMap.{BTreeMap, get_by, btree_map_len}
use Rattle.std.specs.Cmp.Lexicographic.{slice_cmp}
use Rattle.std.specs.Ordering.{nat_cmp}
use Rattle.std.specs.declared.vec.Vec.{Vec}

abbrev pub number_in : {Z : Type 0} → BTreeMap (Vec ℕ Z) ℕ → List ℕ → Option ℕ
number_in table name = get_by (λ k. slice_cmp nat_cmp name k.items) table

-- two spellings never have one number
pub record AreDistinct {Z : Type 0} (table : BTreeMap (Vec ℕ Z) ℕ) : Type 0 where
  pub below : (name : List ℕ) (n : ℕ) → number_in table name ≡ Some n → n < btree_map_len table
  pub one : (name other : List ℕ) (n : ℕ) → number_in table name ≡ Some n → number_in table other ≡ Some n → name ≡ other
