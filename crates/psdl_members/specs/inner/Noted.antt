-- Numbers that are marked one by one.
use Rattle.std.specs.Prelude.{◌≡◌, ◌<◌, ℕ, List, Bool, true, ◌==◌}
use Rattle.type_layout.specs.Sound.{are_distinct}
use Rattle.psdl_lineage.specs.Descent.{has}
use Rattle.psdl_lineage.specs.inner.Walking.{is_marked}

abbrev pub Within : ℕ → List ℕ → Type 0
Within limit xs = (n : ℕ) → has xs n ≡ true → n < limit

-- those that are marked, none of them twice
pub record IsNoted (marks : List Bool) (xs : List ℕ) : Type 0 where
  pub distinct : are_distinct (λ a b. a == b) xs ≡ true
  pub marked : (n : ℕ) → is_marked marks n ≡ has xs n
