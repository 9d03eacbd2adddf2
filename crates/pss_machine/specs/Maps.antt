-- Maps by number.
use Rattle.std.specs.Prelude.{ℕ, List, map, ◌++◌, ◌∷◌, [], Bool, fold, if◌then◌else◌}
use Rattle.std.specs.List.{list_any}
use Rattle.std.specs.Ordering.{nat_cmp}
use Rattle.std.specs.FinMap.{FinMap, get, insert, entries, from_entries}
use Rattle.type_layout.specs.Schemas.{given}

-- a map with another thing in each place
abbrev pub each : {A B : Type 0} → (ℕ → A → B) → FinMap nat_cmp A → FinMap nat_cmp B
each f m = from_entries (map (λ e. (e.0, f e.0 e.1)) (entries m))

-- a map in which the thing in one place is another, where there is one
abbrev pub with_at : {A : Type 0} → FinMap nat_cmp A → ℕ → (A → A) → FinMap nat_cmp A
with_at m n f = given (get m n) m (λ x. insert m n (f x))

-- a thing behind those that are there, unless it is among them
abbrev pub with_new : {A : Type 0} → (A → A → Bool) → List A → A → List A
with_new same xs x = if list_any (same x) xs then xs else xs ++ x ∷ []

-- each of the things once, in the place where it stands first
abbrev pub distinct : {A : Type 0} → (A → A → Bool) → List A → List A
distinct same xs = fold (with_new same) [] xs
