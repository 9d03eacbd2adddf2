-- The sum over the objects, once changes are made.
use Rattle.std.proofs.Common.{ℕ, ◌≡◌, ◌+◌, ◌<◌, ◌≤◌, List, [], ◌∷◌, length, drop, Option, None, Some, get_or, refl, sym, ap, ◌∙◌, arith}
use Rattle.std.specs.FinMap.{get, remove}
use Rattle.std.proofs.lemmas.List.{drop_more}
use Rattle.pss_base.specs.declared.put.Put.{Put}
use Rattle.type_layout.specs.declared.schema.Schema.{Schema}
use Rattle.type_layout.specs.Schemas.{given}
use Rattle.pss_catalog.specs.Catalog.{Catalog, Object, total, weight, weight_at}
use Rattle.pss_catalog.specs.Changes.{Change as Step, over, with_state}
use Rattle.pss_catalog.proofs.Listing.{total_without}
use Rattle.storage_home.specs.declared.change.Change.{Change}
use Rattle.storage_home.specs.Applied.{AreChanges, IsState}
use Rattle.storage_home.specs.Changes.{Rises}
use Rattle.storage_home.specs.inner.Steps.{AreFresh, bare}
use Rattle.storage_home.proofs.Keeping.{stays, sum_with, without_none}
use Rattle.storage_home.proofs.Stepping.{apart_rising, bare_is_fresh, over_bare}
use Rattle.pss_recovery.specs.inner.Sums.{new_weights, old_weights, put_weight}

-- ---- what is taken out

module _ (S : Schema) where
  less_one : (M : Catalog) (s : ℕ) → total S (remove M s) + weight_at S M s ≡ total S M
  less_one M s = total_without (weight S) M s

  -- what changes later weighs the same without it
  old_after : (M : Catalog) (s least : ℕ) (changes : List Change) → Rises least changes → s < least → old_weights S (remove M s) changes ≡ old_weights S M changes
  old_after M s least [] rise less = refl
  old_after M s least (c ∷ cs) rise less =
      let here : weight_at S (remove M s) c.put.serial ≡ weight_at S M c.put.serial = ap (λ (o : Option Object). given o 0 (weight S)) (stays M s c.put.serial (λ e. omega (arith, e, less, rise.0))) in
      let rest = old_after M s (c.put.serial + 1) cs rise.1 (omega (arith, less, rise.0)) in
      omega (arith, here, rest)

  pub old_below : (M : Catalog) (least : ℕ) (changes : List Change) → Rises least changes → old_weights S M changes ≤ total S M
  old_below M least [] rise = omega arith
  old_below M least (c ∷ cs) rise =
      let rest = old_below (remove M c.put.serial) (c.put.serial + 1) cs rise.1 in
      let same = old_after M c.put.serial (c.put.serial + 1) cs rise.1 (omega arith) in
      omega (arith, rest, same, less_one M c.put.serial)

  bare_sum : (O M : Catalog) (least : ℕ) (changes : List Change) (steps : List Step) → Rises least changes → AreChanges S O changes steps → total S (bare M steps) + old_weights S M changes ≡ total S M
  bare_sum O M least [] [] rise are = omega arith
  bare_sum O M least [] (d ∷ ds) rise are = absurd are
  bare_sum O M least (c ∷ cs) [] rise are = absurd are
  bare_sum O M least (c ∷ cs) (d ∷ ds) rise are =
      let serial : c.put.serial ≡ d.serial = are.0.step_is.0 in
      let rest = bare_sum O (remove M d.serial) (c.put.serial + 1) cs ds rise.1 are.1 in
      let same = old_after M d.serial (c.put.serial + 1) cs rise.1 (omega (arith, serial)) in
      let one = less_one M d.serial in
      let here : weight_at S M c.put.serial ≡ weight_at S M d.serial = ap (weight_at S M) serial in
      omega (arith, rest, same, one, here)

  -- ---- what is put

  one_sum : (C : Catalog) (s : ℕ) → get C s ≡ None → (home : ℕ) (put : Put) (state : Option Object) → IsState S home put.bytes state → total S (with_state C s state) ≡ total S C + put_weight put
  one_sum C s none home put state told = by put.bytes state told
    where
      by : (bytes : Option (List ℕ)) (state : Option Object) → IsState S home bytes state → total S (with_state C s state) ≡ total S C + given bytes 0 (λ octets. 16 + length octets)
      by None None told = let same = ap (total S) (without_none C s none) in omega (arith, same)
      by None (Some x) told = absurd told
      by (Some octets) None told = absurd told
      by (Some octets) (Some x) told = let more = sum_with S C s x none in let len = ap length told.2 in omega (arith, more, len)

  over_sum : (O C : Catalog) (changes : List Change) (steps : List Step) → AreChanges S O changes steps → AreFresh C steps → total S (over C steps) ≡ total S C + new_weights changes
  over_sum O C [] [] are fresh = omega arith
  over_sum O C [] (d ∷ ds) are fresh = absurd are
  over_sum O C (c ∷ cs) [] are fresh = absurd are
  over_sum O C (c ∷ cs) (d ∷ ds) are fresh =
      let one = one_sum C d.serial fresh.0 c.put.home c.put d.state are.0.step_is.1 in
      let rest = over_sum O (with_state C d.serial d.state) cs ds are.1 fresh.1 in
      omega (arith, one, rest)

  pub sum_after : (M : Catalog) (changes : List Change) (steps : List Step) → Rises 0 changes → AreChanges S M changes steps → total S (over M steps) + old_weights S M changes ≡ total S M + new_weights changes
  sum_after M changes steps rise are =
      let out = bare_sum M M 0 changes steps rise are in
      let in_ = over_sum M (bare M steps) changes steps are (bare_is_fresh M steps (apart_rising 0 changes rise S M steps are)) in
      let same = ap (total S) (over_bare M steps) in
      omega (arith, out, in_, same)

-- ---- from a place on there is this change, and then those behind it

module _ (changes : List Change) (i : ℕ) (change : Change) (lt : i < length changes) (is : change ≡ get_or changes i change) where
  front : drop i changes ≡ change ∷ drop (i + 1) changes
  front = drop_more changes i change lt ∙ ap (λ c. c ∷ drop (i + 1) changes) (sym is)

  pub old_there : (S : Schema) (M : Catalog) → old_weights S M (drop i changes) ≡ weight_at S M change.put.serial + old_weights S M (drop (i + 1) changes)
  old_there S M = ap (old_weights S M) front
