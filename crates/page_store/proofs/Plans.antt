-- What a checkpoint writes, as it is laid out.
use Rattle.std.proofs.Common.{ℕ, zero, suc, ◌≡◌, ⊎_elim, ◌+◌, ◌-◌, ◌<◌, ◌≤◌, ◌==◌, ◌||◌, Bool, true, false, cond, List, [], ◌∷◌, ◌++◌, length, length-append, get_or, map, refl, sym, ap, ◌∙◌, subst, arith}
use Rattle.std.proofs.lemmas.Bool.{cases_lt, false≢true}
use Rattle.std.proofs.lemmas.Bool.Decides.{nat_tests}
use Rattle.std.specs.List.{filter}
use Rattle.page_store.specs.Checkpoints.{AreSomeOf}
use Rattle.page_store.specs.Kept.{AreWithinLimits}
use Rattle.page_format.specs.Packing.{AreLeastFree, OnlyLastIsSmall, entries_on, is_among, used_by}
use Rattle.page_format.specs.Pages.{Entry}
use Rattle.page_format.specs.Roots.{IsWithinLimits}
use Rattle.page_store.specs.Switch.{slots_of, uses_of}
use Rattle.page_format.specs.Written.{AreStorable, AreWritable, entries_octets, entry_octets}
use Rattle.page_format.specs.declared.new_page.NewPage.{NewPage}
use Rattle.page_store.specs.inner.Repacked.{MayBeWritten}
use Rattle.page_format.proofs.EntryOctets.{length_entry}

pub length_entries : (es : List Entry) → length (entries_octets es) ≡ used_by es
length_entries [] = refl
length_entries (e ∷ es) = let a = length-append (entry_octets e) (entries_octets es) in let b = length_entry e in let c = length_entries es in omega arith

pub at_mapped : {X : Type 0} (f : X → ℕ) (xs : List X) (k : ℕ) (d : X) → k < length xs → get_or (map f xs) k 0 ≡ f (get_or xs k d)
at_mapped f [] k d lt = absurd (omega (arith, lt))
at_mapped f (x ∷ xs) zero d lt = refl
at_mapped f (x ∷ xs) (suc k) d lt = at_mapped f xs k d (omega (arith, lt))

pub length_mapped : {X : Type 0} (f : X → ℕ) (xs : List X) → length (map f xs) ≡ length xs
length_mapped f [] = refl
length_mapped f (x ∷ xs) = ap suc (length_mapped f xs)

pub length_mapped_to : {X Y : Type 0} (f : X → Y) (xs : List X) → length (map f xs) ≡ length xs
length_mapped_to f [] = refl
length_mapped_to f (x ∷ xs) = ap suc (length_mapped_to f xs)

-- how much of a page is in use
pub use_at : (pages : List NewPage) (k : ℕ) (d : NewPage) → k < length pages → get_or (uses_of pages) k 0 ≡ used_by (get_or pages k d).entries
use_at pages k d lt = at_mapped (λ (p : NewPage). length (entries_octets p.entries)) pages k d lt ∙ length_entries (get_or pages k d).entries

storable_first : (es fs : List Entry) → AreStorable (es ++ fs) → AreStorable es
storable_first [] fs are = tt
storable_first (e ∷ es) fs are = (are.0, storable_first es fs are.1)

storable_rest : (es fs : List Entry) → AreStorable (es ++ fs) → AreStorable fs
storable_rest [] fs are = are
storable_rest (e ∷ es) fs are = storable_rest es fs are.1

pub large_rest : (page : List Entry) (pages : List (List Entry)) → OnlyLastIsSmall (page ∷ pages) → OnlyLastIsSmall pages
large_rest page [] are = tt
large_rest page (next ∷ pages) are = are.1

-- each page but the last has more than little in use
pub large_at : (pages : List NewPage) (k : ℕ) → OnlyLastIsSmall (map (λ p. p.entries) pages) → k + 1 < length pages → 8328 < get_or (uses_of pages) k 0
large_at [] k are lt = absurd (omega (arith, lt))
large_at (p ∷ []) k are lt = absurd (omega (arith, lt))
large_at (p ∷ q ∷ pages) zero are lt = omega (arith, are.0, length_entries p.entries)
large_at (p ∷ q ∷ pages) (suc k) are lt = large_at (q ∷ pages) k are.1 (omega (arith, lt))

pub large_all : (pages : List NewPage) (page : NewPage) → OnlyLastIsSmall (map (λ p. p.entries) pages) → page ≡ get_or pages (length pages - 1) page → 8328 < used_by page.entries → (k : ℕ) → k < length pages → 8328 < get_or (uses_of pages) k 0
large_all pages page large is more k lt =
    ⊎_elim (λ less. large_at pages k large less)
    (λ last.
    let same : k ≡ length pages - 1 = omega (arith, lt, last) in
    let used = use_at pages (length pages - 1) page (omega (arith, lt)) in
    let e = ap (λ (p : NewPage). used_by p.entries) is in
    subst (λ (n : ℕ). 8328 < get_or (uses_of pages) n 0) (sym same) (omega (arith, used, e, more))) (cases_lt (k + 1) (length pages))

pub writable_from : (pages : List NewPage) (packed : List (List Entry)) → map (λ p. p.entries) pages ≡ packed → MayBeWritten packed → ((k : ℕ) → k < length (slots_of pages) → get_or (slots_of pages) k 0 < 16384) → AreWritable pages
writable_from [] packed same may below = tt
writable_from (p ∷ pages) packed same may below =
    let here : MayBeWritten (map (λ (p : NewPage). p.entries) (p ∷ pages)) = subst MayBeWritten (sym same) may in
    let rest = map (λ (p : NewPage). p.entries) pages in (
      record { slot_ = below 0 (omega arith); storable = storable_first p.entries (entries_on rest) here.storable; short = (let e = length_entries p.entries in let f = here.filled.0.most in omega arith) },
      writable_from pages rest refl (record { storable = storable_rest p.entries (entries_on rest) here.storable; filled = here.filled.1; large = large_rest p.entries rest here.large }) (λ k lt. below (suc k) (omega (arith, lt))),
    )

-- two lists of slots, one behind the other
pub at_left : (xs ys : List ℕ) (k : ℕ) → k < length xs → get_or (xs ++ ys) k 0 ≡ get_or xs k 0
at_left [] ys k lt = absurd (omega (arith, lt))
at_left (x ∷ xs) ys zero lt = refl
at_left (x ∷ xs) ys (suc k) lt = at_left xs ys k (omega (arith, lt))

pub at_right : (xs ys : List ℕ) (k i : ℕ) → k ≡ length xs + i → get_or (xs ++ ys) k 0 ≡ get_or ys i 0
at_right [] ys k i e = ap (λ j. get_or ys j 0) (let f : k ≡ i = omega (arith, e) in f)
at_right (x ∷ xs) ys zero i e = absurd (omega (arith, e))
at_right (x ∷ xs) ys (suc k) i e = at_right xs ys k i (omega (arith, e))

itself : (s : ℕ) → (s == s) ≡ true
itself s = grind (arith, nat_tests)

pub among_there : (slots : List ℕ) (i s : ℕ) → i < length slots → get_or slots i 0 ≡ s → is_among s slots ≡ true
among_there [] i s lt e = absurd (omega (arith, lt))
among_there (x ∷ slots) zero s lt e = ap (λ (n : ℕ). (n == s) || is_among s slots) e ∙ ap (λ b. b || is_among s slots) (itself s)
among_there (x ∷ slots) (suc i) s lt e = either (x == s) (is_among s slots) (among_there slots i s (omega (arith, lt)) e)
  where
    either : (a b : Bool) → b ≡ true → (a || b) ≡ true
    either true b f = refl
    either false b f = f

module _ (slots stay fresh : List ℕ) (count : ℕ) (below : (k : ℕ) → k < length slots → get_or slots k 0 < 16384) (some : AreSomeOf slots stay) (free : AreLeastFree slots count fresh) where
  below_next : (k : ℕ) → k < length (stay ++ fresh) → get_or (stay ++ fresh) k 0 < 16384
  below_next k lt =
      let long = length-append stay fresh in
      ⊎_elim (λ less. let there = some.each k less in subst (λ (n : ℕ). n < 16384) (there.2 ∙ sym (at_left stay fresh k less)) (below there.0 there.1))
      (λ more. subst (λ (n : ℕ). n < 16384) (sym (at_right stay fresh k (k - length stay) (omega (arith, more)))) (free.below (k - length stay) (omega (arith, lt, long, more)))) (cases_lt k (length stay))

  once_next : (j k : ℕ) → j < k → k < length (stay ++ fresh) → get_or (stay ++ fresh) j 0 ≡ get_or (stay ++ fresh) k 0 → ⊥
  once_next j k less lt same =
      let long = length-append stay fresh in
      ⊎_elim (λ k_less. some.once j k less k_less (sym (at_left stay fresh j (omega (arith, less, k_less))) ∙ same ∙ at_left stay fresh k k_less))
      (λ k_more.
      let here = at_right stay fresh k (k - length stay) (omega (arith, k_more)) in
      let few : k - length stay < length fresh = omega (arith, lt, long, k_more) in
      ⊎_elim (λ j_less.
      let there = some.each j j_less in
      false≢true (sym (free.none (k - length stay) few) ∙ among_there slots there.0 (get_or fresh (k - length stay) 0) there.1 (there.2 ∙ sym (at_left stay fresh j j_less) ∙ same ∙ here)))
      (λ j_more.
      let h = free.rising (j - length stay) (k - length stay) (omega (arith, less, j_more)) few in
      let e : get_or fresh (j - length stay) 0 ≡ get_or fresh (k - length stay) 0 = sym (at_right stay fresh j (j - length stay) (omega (arith, j_more))) ∙ same ∙ here in
      omega (arith, h, e)) (cases_lt j (length stay))) (cases_lt k (length stay))

pub limits_next : (area epoch next count : ℕ) (shape shape' slots stay fresh all : List ℕ) → AreWithinLimits area shape slots → AreSomeOf slots stay → AreLeastFree slots count fresh → length stay + length fresh ≤ 8058 → 1 ≤ next → shape' ≡ shape → all ≡ stay ++ fresh
    → IsWithinLimits (record { area = 1 - area; epoch = epoch; next = next; shape = shape'; slots = all })
limits_next area epoch next count shape shape' slots stay fresh all within some free few given same is = record {
  area_ = omega arith;
  next_ = given;
  shape_ = let e = ap length same in omega (arith, e, within.shape_);
  slots_ = let e = ap length is in let f = length-append stay fresh in omega arith;
  below = subst (λ (l : List ℕ). (k : ℕ) → k < length l → get_or l k 0 < 16384) (sym is) (below_next slots stay fresh count within.below some free);
  once = subst (λ (l : List ℕ). (j k : ℕ) → j < k → k < length l → get_or l j 0 ≡ get_or l k 0 → ⊥) (sym is) (once_next slots stay fresh count within.below some free);
}

-- some of the slots
module _ (p : ℕ → Bool) where
  pub filter_each : (slots : List ℕ) (k : ℕ) → k < length (filter p slots) → (j : ℕ) × (j < length slots) × (get_or slots j 0 ≡ get_or (filter p slots) k 0)
  filter_each [] k lt = absurd (omega (arith, lt))
  filter_each (x ∷ slots) k lt = by (p x) k lt (filter_each slots)
    where
      by : (b : Bool) (k : ℕ) → k < length (cond b (x ∷ filter p slots) (filter p slots)) → ((k : ℕ) → k < length (filter p slots) → (j : ℕ) × (j < length slots) × (get_or slots j 0 ≡ get_or (filter p slots) k 0))
          → (j : ℕ) × (j < length (x ∷ slots)) × (get_or (x ∷ slots) j 0 ≡ get_or (cond b (x ∷ filter p slots) (filter p slots)) k 0)
      by true zero lt ih = (0, omega arith, refl)
      by true (suc k) lt ih = let there = ih k (omega (arith, lt)) in (suc there.0, omega (arith, there.1), there.2)
      by false k lt ih = let there = ih k lt in (suc there.0, omega (arith, there.1), there.2)

  filter_once : (slots : List ℕ) → ((j k : ℕ) → j < k → k < length slots → get_or slots j 0 ≡ get_or slots k 0 → ⊥) → (j k : ℕ) → j < k → k < length (filter p slots) → get_or (filter p slots) j 0 ≡ get_or (filter p slots) k 0 → ⊥
  filter_once [] once j k less lt = absurd (omega (arith, lt))
  filter_once (x ∷ slots) once j k less lt = by (p x) j k less lt (filter_once slots (λ j k less lt. once (suc j) (suc k) (omega (arith, less)) (omega (arith, lt))))
    where
      by : (b : Bool) (j k : ℕ) → j < k → k < length (cond b (x ∷ filter p slots) (filter p slots)) → ((j k : ℕ) → j < k → k < length (filter p slots) → get_or (filter p slots) j 0 ≡ get_or (filter p slots) k 0 → ⊥)
          → get_or (cond b (x ∷ filter p slots) (filter p slots)) j 0 ≡ get_or (cond b (x ∷ filter p slots) (filter p slots)) k 0 → ⊥
      by true j zero less lt ih = absurd (omega (arith, less))
      by true zero (suc k) less lt ih = λ same. let there = filter_each slots k (omega (arith, lt)) in once 0 (suc there.0) (omega arith) (omega (arith, there.1)) (same ∙ sym there.2)
      by true (suc j) (suc k) less lt ih = ih j k (omega (arith, less)) (omega (arith, lt))
      by false j k less lt ih = ih j k less lt

  pub filter_some : (slots : List ℕ) → ((j k : ℕ) → j < k → k < length slots → get_or slots j 0 ≡ get_or slots k 0 → ⊥) → AreSomeOf slots (filter p slots)
  filter_some slots once = record { each = filter_each slots; once = filter_once slots once }

  pub filter_below : (slots : List ℕ) → ((k : ℕ) → k < length slots → get_or slots k 0 < 16384) → (k : ℕ) → k < length (filter p slots) → get_or (filter p slots) k 0 < 16384
  filter_below slots below k lt = let there = filter_each slots k lt in subst (λ (n : ℕ). n < 16384) there.2 (below there.0 there.1)
