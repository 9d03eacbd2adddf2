-- What all objects weigh with the slots of an owner.
use Rattle.std.proofs.Common.{ℕ, ◌≡◌, ◌+◌, ◌≤◌, ◌<◌, ◌-◌, ◌^◌, List, [], ◌∷◌, length, drop, map, min, sum, refl, sym, ap, ◌∙◌, arith}
use Rattle.std.specs.FinMap.{entries}
use Rattle.std.specs.FinSet as set
use Rattle.std.specs.List.{sum_by}
use Rattle.std.proofs.lemmas.List.Sums.{sum_by-cons, sum-map}
use Rattle.type_layout.specs.declared.schema.Schema.{Schema}
use Rattle.pss_catalog.specs.Catalog.{Object, Catalog, object_spelling, total}
use Rattle.pss_catalog.specs.Changes.{over}
use Rattle.pss_machine.specs.Changes.{Changes}
use Rattle.pss_machine.specs.declared.level.Level.TheVariants.{Basic}
use Rattle.pss_laws.proofs.Nets.{over_net}
use Rattle.owner_view.specs.declared.states.Slot.{Slot}
use Rattle.owner_view.specs.Net.{net_of}
use Rattle.owner_view.specs.Views.{seen_with}
use Rattle.owner_view.specs.Weights.{sum_of, reckoned}
use Rattle.owner_view.proofs.Summing.{sum_with, begins}

-- ---- lengths that are too great to be told

-- a sum stays where each length is cut at a limit, as far as it is told up to the limit
module _ (limit : ℕ) (long : Object → ℕ) where
  abbrev whole : ℕ × Object → ℕ
  whole e = 16 + long e.1

  abbrev cut : ℕ × Object → ℕ
  cut e = 16 + min (long e.1) limit

  sums_cut : (es : List (ℕ × Object)) → min (sum_by cut es) (limit + 1) ≡ min (sum_by whole es) (limit + 1)
  sums_cut [] = refl
  sums_cut (e ∷ es) = omega (arith, sums_cut es, sum_by-cons cut e es, sum_by-cons whole e es)

  all_cut : (es : List (ℕ × Object)) → min (sum (map cut es)) (limit + 1) ≡ min (sum (map whole es)) (limit + 1)
  all_cut es = omega (arith, sums_cut es, sum-map cut es, sum-map whole es)

-- so those of a catalog
weighs_cut : (S : Schema) (M : Catalog) → min (sum_of (reckoned S) M) (2 ^ 64) ≡ min (total S M) (2 ^ 64)
weighs_cut S M = all_cut (2 ^ 64 - 1) (λ object. length (object_spelling S object)) (entries M)

-- nothing is cut in a sum that is kept
all_told : (S : Schema) (M : Catalog) → total S M < 2 ^ 64 → sum_of (reckoned S) M ≡ total S M
all_told S M small = omega (arith, small, weighs_cut S M)

-- without a slot it is the sum that is kept
pub from_total : (S : Schema) (M : Catalog) (es : List (ℕ × Slot)) (place whole : ℕ) → length es ≤ place → whole ≡ total S M → whole < 2 ^ 64 → whole ≡ sum_with (reckoned S) M (drop place es)
from_total S M es place whole none is small = is ∙ sym (all_told S M (omega (arith, is, small))) ∙ begins (reckoned S) M es place none

-- the net changes leave what the owner sees
pub net_weighs : (S : Schema) (M : Catalog) (changes : Changes) (sum : ℕ) → sum ≡ sum_of (reckoned S) (seen_with M changes) → min sum (2 ^ 64) ≡ min (total S (over M (net_of M changes))) (2 ^ 64)
net_weighs S M changes sum is =
    ap (λ (n : ℕ). min n (2 ^ 64)) is ∙ weighs_cut S (seen_with M changes) ∙ ap (λ (N : Catalog). min (total S N) (2 ^ 64)) (sym (over_net M (record { level = Basic; locks = set.empty; changes = changes })))
