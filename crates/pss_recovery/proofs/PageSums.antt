-- The octets of the objects in pages are those of the catalog.
use Rattle.std.specs.Prelude.{T}
use Rattle.std.proofs.Common.{ℕ, ◌≡◌, ◌&&◌, ◌+◌, Bool, true, false, cond, List, [], ◌∷◌, length, map, sum, Option, None, Some, refl, sym, ap, ◌∙◌, subst, arith}
use Rattle.std.proofs.lemmas.List.Sums.{sum-map, sum_by-cons}
use Rattle.std.specs.Cmp.{nat_cmp_total}
use Rattle.std.specs.FinMap.{entries, entries-from_sorted, entries_sorted, find, from_sorted, get, get-entries, get-from_sorted, is_sorted, nat_cmp-IsAntisymmetric, same_map}
use Rattle.std.specs.FinMap.Entries.{below_all}
use Rattle.std.specs.List.{sum_by}
use Rattle.std.specs.Option.{option_map}
use Rattle.std.specs.Ordering.{eq_by_cmp, is_lt, nat_cmp}
use Rattle.type_layout.specs.declared.schema.Schema.{Schema}
use Rattle.pss_catalog.specs.Catalog.{Catalog, Object, total, weight}
use Rattle.page_format.specs.Objects.{Objects, entries_of}
use Rattle.page_format.specs.Packing.{used_by}
use Rattle.page_format.specs.declared.objects.Stored.{Stored}
use Rattle.page_store.specs.Checkpoints.{octets_of}
use Rattle.pss_recovery.proofs.Mirrors.{Mirrors, in_pages}

module _ (S : Schema) where
  abbrev both : ℕ × Object → ℕ × Stored
  both e = (e.0, in_pages S e.1)

  find_both : (q : ℕ) (es : List (ℕ × Object)) → find nat_cmp q (map both es) ≡ option_map (in_pages S) (find nat_cmp q es)
  find_both q [] = refl
  find_both q (e ∷ es) = by (eq_by_cmp nat_cmp q e.0) (find_both q es)
    where
      by : (b : Bool) → find nat_cmp q (map both es) ≡ option_map (in_pages S) (find nat_cmp q es) → cond b (Some (in_pages S e.1)) (find nat_cmp q (map both es)) ≡ option_map (in_pages S) (cond b (Some e.1) (find nat_cmp q es))
      by true h = refl
      by false h = h

  below_both : (x : ℕ) (es : List (ℕ × Object)) → below_all nat_cmp x (map both es) ≡ below_all nat_cmp x es
  below_both x [] = refl
  below_both x (e ∷ es) = ap (λ b. is_lt (nat_cmp x e.0) && b) (below_both x es)

  sorted_both : (es : List (ℕ × Object)) → is_sorted nat_cmp (map both es) ≡ is_sorted nat_cmp es
  sorted_both [] = refl
  sorted_both (e ∷ es) = ap (λ b. b && is_sorted nat_cmp (map both es)) (below_both e.0 es) ∙ ap (λ b. below_all nat_cmp e.0 es && b) (sorted_both es)

  entries_both : (M : Catalog) (objects : Objects) → Mirrors S M objects → entries objects ≡ map both (entries M)
  entries_both M objects mirrors =
      let es = map both (entries M) in
      let sorted = subst T (sym (sorted_both (entries M))) (entries_sorted M) in
      let same : (q : ℕ) → get objects q ≡ get (from_sorted {R = nat_cmp} es) q = λ q. mirrors q ∙ ap (option_map (in_pages S)) (get-entries M q) ∙ sym (find_both q (entries M)) ∙ sym (get-from_sorted nat_cmp es q sorted) in
      ap entries (same_map nat_cmp_total nat_cmp-IsAntisymmetric objects (from_sorted {R = nat_cmp} es) same) ∙ entries-from_sorted nat_cmp es sorted

  used_both : (es : List (ℕ × Object)) → used_by (entries_of (map both es)) ≡ sum_by (λ e. weight S e.1) es
  used_both [] = refl
  used_both (e ∷ es) = let rest = used_both es in let here = sum_by-cons (λ (x : ℕ × Object). weight S x.1) e es in omega (arith, rest, here)

  pub sum_of : (M : Catalog) (objects : Objects) → Mirrors S M objects → octets_of objects ≡ total S M
  sum_of M objects mirrors = ap (λ l. used_by (entries_of l)) (entries_both M objects mirrors) ∙ used_both (entries M) ∙ sym (sum-map (λ (e : ℕ × Object). weight S e.1) (entries M))
