-- Finite maps of numbers, and lists of entries that are looked up.
use Rattle.std.proofs.Common.{ℕ, ◌≡◌, ◌==◌, Bool, cond, List, [], ◌∷◌, get_or, length, ◌<◌, suc, Some, refl, ap, ◌∙◌, arith}
use Rattle.std.specs.List.{filter}
use Rattle.std.specs.Ordering.{nat_cmp}
use Rattle.std.specs.FinMap.{find, from_entries, get, get-from_entries}
use Rattle.std.specs.Map.{lookup}
use Rattle.std.specs.Cmp.{nat_cmp_total}
use Rattle.page_format.proofs.Leaving.{tie}

-- the first entry of a key
pub found_alike : {X : Type 0} (q : ℕ) (es : List (ℕ × X)) → find nat_cmp q es ≡ lookup (λ k. q == k) es
found_alike q [] = refl
found_alike {X} q (e ∷ es) = ap (λ b. cond b (Some e.1) (find nat_cmp q es)) (tie q e.0) ∙ ap (cond (q == e.0) (Some e.1)) (found_alike q es)

pub get_entries : {X : Type 0} (es : List (ℕ × X)) (q : ℕ) → get (from_entries {R = nat_cmp} es) q ≡ lookup (λ k. q == k) es
get_entries es q = get-from_entries nat_cmp_total es q ∙ found_alike q es

-- a filter by tests that agree
pub filter_alike : (p r : ℕ → Bool) (xs : List ℕ) → ((k : ℕ) → k < length xs → p (get_or xs k 0) ≡ r (get_or xs k 0)) → filter p xs ≡ filter r xs
filter_alike p r [] same = refl
filter_alike p r (x ∷ xs) same = ap (λ b. cond b (x ∷ filter p xs) (filter p xs)) (same 0 (omega arith)) ∙ ap (λ l. cond (r x) (x ∷ l) l) (filter_alike p r xs (λ k lt. same (suc k) (omega (arith, lt))))
