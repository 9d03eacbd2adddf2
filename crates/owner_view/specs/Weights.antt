-- Sums over objects, and what objects weigh by the lengths that are told of their records.
use Rattle.std.specs.Prelude.{ℕ, ◌≡◌, ◌+◌, ◌-◌, ◌^◌, length, map, min, sum, Option}
use Rattle.std.specs.FinMap.{get, entries}
use Rattle.type_layout.specs.declared.schema.Schema.{Schema}
use Rattle.type_layout.specs.Schemas.{given}
use Rattle.pss_catalog.specs.Catalog.{Object, Catalog, object_spelling}

-- ---- by any weight

-- what the object with a serial weighs, 0 where there is none
abbrev pub weight_at : (Object → ℕ) → Catalog → ℕ → ℕ
weight_at weight M s = given (get M s) 0 weight

-- the sum over all objects
abbrev pub sum_of : (Object → ℕ) → Catalog → ℕ
sum_of weight M = sum (map (λ e. weight e.1) (entries M))

-- where there is a state for the object with a serial, what it weighed goes from a sum, and what it weighs then comes to it
abbrev pub Moves : (Object → ℕ) → Catalog → ℕ → Option (Option Object) → ℕ → ℕ → Type 0
Moves weight M s told before after = after + given told 0 (λ _. weight_at weight M s) ≡ before + given told 0 (λ state. given state 0 weight)

-- ---- by their records

-- 16 and the length of an object's record, or 2^64 - 1 in its place where that is less
abbrev pub reckoned : Schema → Object → ℕ
reckoned S object = 16 + min (length (object_spelling S object)) (2 ^ 64 - 1)
