-- Serials that are given and stand once, and objects that stand once.
use Rattle.std.proofs.Common.{ℕ, zero, suc, ◌≡◌, ◌≢◌, ⊎_elim, ◌<◌, ◌≤◌, ◌==◌, Bool, true, false, cond, List, [], ◌∷◌, ◌++◌, length, length-append, get_or, map, Some, None, refl, sym, ap, ◌∙◌, subst, arith}
use Rattle.std.proofs.lemmas.Bool.{eqb-true, true≢false, cases_lt}
use Rattle.std.proofs.lemmas.Bool.Decides.{nat_tests}
use Rattle.std.proofs.lemmas.Map.Keys.{below_from_sorted}
use Rattle.std.specs.List.Sorted.{IsStrictlySortedBy}
use Rattle.std.specs.Map.{keys_of}
use Rattle.std.specs.Option.{option_or}
use Rattle.std.specs.Ordering.{nat_cmp}
use Rattle.page_format.specs.Objects.{entries_of, stored_of}
use Rattle.page_format.specs.Pages.{AreGiven, serials_of}
use Rattle.page_format.specs.Pages.{Entry}
use Rattle.page_format.specs.declared.objects.Stored.{Stored}
use Rattle.page_store.specs.inner.Located.{Apart, at}
use Rattle.page_store.proofs.Located.{at-append}

not_some : {X : Type 0} (x : X) → Some x ≢ None
not_some x e = cc

-- one more at the end of a list
at_front : (xs : List ℕ) (x k : ℕ) → k < length xs → get_or (xs ++ x ∷ []) k 0 ≡ get_or xs k 0
at_front [] x k lt = absurd (omega (arith, lt))
at_front (y ∷ xs) x zero lt = refl
at_front (y ∷ xs) x (suc k) lt = at_front xs x k (omega (arith, lt))

at_last : (xs : List ℕ) (x k : ℕ) → k ≡ length xs → get_or (xs ++ x ∷ []) k 0 ≡ x
at_last xs x k e = ap (λ j. get_or (xs ++ x ∷ []) j 0) e ∙ last xs
  where
    last : (l : List ℕ) → get_or (l ++ x ∷ []) (length l) 0 ≡ x
    last [] = refl
    last (y ∷ l) = last l

each_more : (P : ℕ → Type 0) (xs : List ℕ) (x : ℕ) → ((k : ℕ) → k < length xs → P (get_or xs k 0)) → P x → (k : ℕ) → k < length (xs ++ x ∷ []) → P (get_or (xs ++ x ∷ []) k 0)
each_more P xs x old here k lt =
    let long = length-append xs (x ∷ []) in
    ⊎_elim (λ less. subst P (sym (at_front xs x k less)) (old k less)) (λ more. subst P (sym (at_last xs x k (omega (arith, lt, more, long)))) here) (cases_lt k (length xs))

-- the first under another key
at_rest : (q : ℕ) (e : Entry) (es : List Entry) → at q (map stored_of (e ∷ es)) ≡ None → ((q == e.serial) ≡ false) × (at q (map stored_of es) ≡ None)
at_rest q e es none = by (q == e.serial) refl none
  where
    by : (b : Bool) → (q == e.serial) ≡ b → cond b (Some (stored_of e).1) (at q (map stored_of es)) ≡ None → ((q == e.serial) ≡ false) × (at q (map stored_of es) ≡ None)
    by true same n = absurd (not_some _ n)
    by false other n = (other, n)

itself : (s : ℕ) → (s == s) ≡ true
itself s = grind (arith, nat_tests)

pub given_from : (next : ℕ) (seen : List ℕ) (es : List Entry) → ((q : ℕ) (x : Stored) → at q (map stored_of es) ≡ Some x → (1 ≤ q) × (q < next)) → Apart (map stored_of es) → ((k : ℕ) → k < length seen → at (get_or seen k 0) (map stored_of es) ≡ None) → AreGiven next seen (serials_of es)
given_from next seen [] range apart unseen = tt
given_from next seen (e ∷ es) range apart unseen =
    let here = range e.serial (stored_of e).1 (ap (λ b. cond b (Some (stored_of e).1) (at e.serial (map stored_of es))) (itself e.serial)) in (
      record { some = here.0; given = here.1; new = λ k lt same. true≢false (sym (itself e.serial) ∙ ap (λ (n : ℕ). n == e.serial) (sym same) ∙ (at_rest (get_or seen k 0) e es (unseen k lt)).0) },
      given_from next (seen ++ e.serial ∷ []) es (λ q x there. range_rest q x there) apart.1 (each_more (λ n. at n (map stored_of es) ≡ None) seen e.serial (λ k lt. (at_rest (get_or seen k 0) e es (unseen k lt)).1) apart.0),
    )
  where
    range_rest : (q : ℕ) (x : Stored) → at q (map stored_of es) ≡ Some x → (1 ≤ q) × (q < next)
    range_rest q x there = by (q == e.serial) refl
      where
        by : (b : Bool) → (q == e.serial) ≡ b → (1 ≤ q) × (q < next)
        by true same = range q (stored_of e).1 (ap (λ c. cond c (Some (stored_of e).1) (at q (map stored_of es))) same)
        by false other = range q x (ap (λ c. cond c (Some (stored_of e).1) (at q (map stored_of es))) other ∙ there)

pub unseen_from : (next : ℕ) (seen : List ℕ) (es : List Entry) → AreGiven next seen (serials_of es) → (k : ℕ) → k < length seen → at (get_or seen k 0) (map stored_of es) ≡ None
unseen_from next seen [] are k lt = refl
unseen_from next seen (e ∷ es) are k lt =
    let rest = unseen_from next (seen ++ e.serial ∷ []) es are.1 k (let l = length-append seen (e.serial ∷ []) in omega (arith, lt, l)) in
    by (get_or seen k 0 == e.serial) refl (subst (λ (n : ℕ). at n (map stored_of es) ≡ None) (at_front seen e.serial k lt) rest)
  where
    by : (b : Bool) → (get_or seen k 0 == e.serial) ≡ b → at (get_or seen k 0) (map stored_of es) ≡ None → cond b (Some (stored_of e).1) (at (get_or seen k 0) (map stored_of es)) ≡ None
    by true same none = absurd (are.0.new k lt (eqb-true (get_or seen k 0) e.serial same))
    by false other none = none

pub apart_from : (next : ℕ) (seen : List ℕ) (es : List Entry) → AreGiven next seen (serials_of es) → Apart (map stored_of es)
apart_from next seen [] are = tt
apart_from next seen (e ∷ es) are = (
  subst (λ (n : ℕ). at n (map stored_of es) ≡ None) (at_last seen e.serial (length seen) refl) (unseen_from next (seen ++ e.serial ∷ []) es are.1 (length seen) (let l = length-append seen (e.serial ∷ []) in omega (arith, l))),
  apart_from next (seen ++ e.serial ∷ []) es are.1,
)

-- what stands under greater keys alone
absent : {X : Type 0} (q : ℕ) (es : List (ℕ × X)) → ((k : ℕ) → k < length (keys_of es) → q < get_or (keys_of es) k 0) → at q es ≡ None
absent q [] above = refl
absent q (e ∷ es) above = by (q == e.0) refl (absent q es (λ k lt. above (suc k) (omega (arith, lt))))
  where
    by : (b : Bool) → (q == e.0) ≡ b → at q es ≡ None → cond b (Some e.1) (at q es) ≡ None
    by true same none = absurd (let h : q < e.0 = above 0 (omega arith) in let s = eqb-true q e.0 same in omega (arith, h, s))
    by false other none = none

apart_rising : {X : Type 0} (es : List (ℕ × X)) → ((i j : ℕ) → i < j → j < length (keys_of es) → get_or (keys_of es) i 0 < get_or (keys_of es) j 0) → Apart es
apart_rising [] rising = tt
apart_rising (e ∷ es) rising = (absent e.0 es (λ k lt. rising 0 (suc k) (omega arith) (omega (arith, lt))), apart_rising es (λ i j less lt. rising (suc i) (suc j) (omega (arith, less)) (omega (arith, lt))))

pub apart_sorted : {X : Type 0} (es : List (ℕ × X)) → IsStrictlySortedBy nat_cmp (keys_of es) → Apart es
apart_sorted es sorted = apart_rising es (λ i j less lt. below_from_sorted (keys_of es) i j 0 sorted less lt)

pub stored_entries : (os : List (ℕ × Stored)) → map stored_of (entries_of os) ≡ os
stored_entries [] = refl
stored_entries (o ∷ os) = ap (λ l. o ∷ l) (stored_entries os)

-- two lists, none of whose objects is in the other
pub apart-append : {X : Type 0} (xs ys : List (ℕ × X)) → Apart xs → Apart ys → ((q : ℕ) (x : X) → at q xs ≡ Some x → at q ys ≡ None) → Apart (xs ++ ys)
apart-append [] ys ax ay cross = ay
apart-append {X} (x ∷ xs) ys ax ay cross = (
  at-append x.0 xs ys ∙ ap (λ o. option_or o (at x.0 ys)) ax.0 ∙ cross x.0 x.1 (ap (λ b. cond b (Some x.1) (at x.0 xs)) (itself x.0)),
  apart-append xs ys ax.1 ay (λ q y there. cross_rest q y there),
)
  where
    cross_rest : (q : ℕ) (y : X) → at q xs ≡ Some y → at q ys ≡ None
    cross_rest q y there = by (q == x.0) refl
      where
        by : (b : Bool) → (q == x.0) ≡ b → at q ys ≡ None
        by true same = cross q x.1 (ap (λ c. cond c (Some x.1) (at q xs)) same)
        by false other = cross q y (ap (λ c. cond c (Some x.1) (at q xs)) other ∙ there)
