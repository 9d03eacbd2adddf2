-- Rings of places, each with a head, by links forth and back.
use Rattle.std.specs.Prelude.{ℕ, zero, suc, ◌≡◌, ◌⊎◌, List, [], ◌∷◌, Option, Some, None, Bool, true, nat_eq, slice_get, if◌then◌else◌}

-- a number stands in a list
abbrev pub In : ℕ → List ℕ → Type 0
In y [] = ⊥
In y (x ∷ xs) = (y ≡ x) ⊎ In y xs

-- no number stands twice
abbrev pub Distinct : List ℕ → Type 0
Distinct [] = Unit {0}
Distinct (x ∷ xs) = (In x xs → ⊥) × Distinct xs

-- from a by these places to b, with links both ways
abbrev pub Path : (ℕ → ℕ) → (ℕ → ℕ) → ℕ → List ℕ → ℕ → Type 0
Path next prev a [] b = (next a ≡ b) × (prev b ≡ a)
Path next prev a (x ∷ xs) b = (next a ≡ x) × (prev x ≡ a) × Path next prev x xs b

-- the places from x on, up to the head
abbrev pub walk : ℕ → (ℕ → ℕ) → ℕ → ℕ → List ℕ
walk zero next head x = []
walk (suc n) next head x = if nat_eq x head then [] else x ∷ walk n next head (next x)

-- each head has this list, each place with a home stands once in the list of its home, and nowhere else
pub record Linked (lists : ℕ → List ℕ) (is_head : ℕ → Bool) (home : ℕ → Option ℕ) (next prev : ℕ → ℕ) : Type 0 where
  pub path : (r : ℕ) → is_head r ≡ true → Path next prev r (lists r) r
  pub distinct : (r : ℕ) → is_head r ≡ true → Distinct (r ∷ lists r)
  pub members : (r x : ℕ) → is_head r ≡ true → In x (lists r) → home x ≡ Some r
  pub homes : (x r : ℕ) → home x ≡ Some r → (is_head r ≡ true) × In x (lists r)
  pub no_home : (r : ℕ) → is_head r ≡ true → home r ≡ None

-- the place behind x
abbrev pub behind : ℕ → List ℕ → Option ℕ
behind x [] = None
behind x (y ∷ ys) = if nat_eq y x then slice_get ys 0 else behind x ys

-- the place that a link leads to, or none where it leads to the head
abbrev pub link_to : ℕ → ℕ → Option ℕ
link_to head x = if nat_eq x head then None else Some x
