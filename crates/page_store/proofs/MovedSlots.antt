-- How many slots a checkpoint moves.
use Rattle.std.proofs.Common.{ℕ, suc, ◌≡◌, ◌≢◌, ⊎_elim, inr, ◌+◌, ◌*◌, ◌/◌, ◌<◌, ◌≤◌, ◌==◌, ◌||◌, Bool, true, false, cond, not, List, [], ◌∷◌, ◌++◌, length, get_or, map, Some, None, refl, sym, ap, ◌∙◌, arith}
use Rattle.std.proofs.lemmas.Bool.{cases_lt, eqb-true}
use Rattle.std.proofs.lemmas.Bool.Decides.{nat_tests}
use Rattle.std.specs.FinMap as finite
use Rattle.std.specs.List.{filter}
use Rattle.std.specs.Option.{option_or}
use Rattle.std.specs.Ordering.{nat_cmp}
use Rattle.std.specs.declared.option.Option.{Option}
use Rattle.pss_base.specs.declared.put.Put.{Put}
use Rattle.page_store.specs.Checkpoints.{AreSomeOf, changed_octets, moved, octets_of}
use Rattle.page_format.specs.Objects.{Objects, entries_of, over, stored_of}
use Rattle.page_format.specs.Packing.{is_among, size_of, used_by}
use Rattle.page_format.specs.Pages.{IsPage, IsSmall, entries_in, entries_of as entries_on_page, octets_in_use, put_of}
use Rattle.page_format.specs.Pages.{Entry}
use Rattle.page_store.specs.Placed.{is_noted}
use Rattle.page_format.specs.Places.{slot_start}
use Rattle.page_format.specs.Roots.{HasRoot, IsWrongSlot, slot_in}
use Rattle.page_store.specs.Touched.{is_in}
use Rattle.page_format.specs.declared.objects.Stored.{Stored}
use Rattle.page_format.specs.declared.root.Root.{Root}
use Rattle.page_store.specs.inner.Located.{Apart, after, at}
use Rattle.page_store.proofs.ByKey.{found_alike}
use Rattle.page_format.proofs.Filling.{used_by-append}
use Rattle.page_store.proofs.Givens.{stored_entries}
use Rattle.page_store.proofs.Located.{after_noted, after_other, at-append, get-over, get_rows, none_alike}
use Rattle.page_store.proofs.Plans.{among_there}
use Rattle.page_format.proofs.Rows.{page_used, used_on_page}

not_some : {X : Type 0} (x : X) → Some x ≢ None
not_some x e = cc

-- the octets of objects with 16 each
weight : List (ℕ × Stored) → ℕ
weight [] = 0
weight (o ∷ os) = 16 + length o.1.octets + weight os

weight_is : (es : List Entry) → used_by es ≡ weight (map stored_of es)
unfolding weight
weight_is [] = refl
weight_is (e ∷ es) = ap (λ n. size_of e + n) (weight_is es)

weight-append : (xs ys : List (ℕ × Stored)) → weight (xs ++ ys) ≡ weight xs + weight ys
unfolding weight
weight-append [] ys = omega arith
weight-append (x ∷ xs) ys = let h = weight-append xs ys in omega arith

record IsOut (k : ℕ) (x : Stored) (os rest : List (ℕ × Stored)) : Type 0 where
  size : weight os ≡ 16 + length x.octets + weight rest
  others : (q : ℕ) → (q == k) ≡ false → at q rest ≡ at q os

-- without the first under a key
take_out : (os : List (ℕ × Stored)) (k : ℕ) (x : Stored) → at k os ≡ Some x → (rest : List (ℕ × Stored)) × IsOut k x os rest
unfolding weight
take_out [] k x there = absurd (not_some x (sym there))
take_out (o ∷ os) k x there = by (k == o.0) refl there (λ more. take_out os k x more)
  where
    same_key : (q : ℕ) → (q == k) ≡ false → (k == o.0) ≡ true → (q == o.0) ≡ false
    same_key q other same = ap (λ (n : ℕ). q == n) (sym (eqb-true k o.0 same)) ∙ other

    by : (b : Bool) → (k == o.0) ≡ b → cond b (Some o.1) (at k os) ≡ Some x → (at k os ≡ Some x → (rest : List (ℕ × Stored)) × IsOut k x os rest) → (rest : List (ℕ × Stored)) × IsOut k x (o ∷ os) rest
    by true same e ih =
        let is : o.1 ≡ x = cc in
        (os, record { size = ap (λ (s : Stored). 16 + length s.octets + weight os) is; others = λ q other. sym (ap (λ b. cond b (Some o.1) (at q os)) (same_key q other same)) })
    by false apart e ih =
        let out = ih e in
        (o ∷ out.0, record { size = (let h = out.1.size in let w : weight (o ∷ os) ≡ 16 + length o.1.octets + weight os = refl in let v : weight (o ∷ out.0) ≡ 16 + length o.1.octets + weight out.0 = refl in omega arith); others = λ q other. ap (cond (q == o.0) (Some o.1)) (out.1.others q other) })

-- objects that all stand among others weigh no more
sub_weight : (xs ys : List (ℕ × Stored)) → Apart xs → ((q : ℕ) (x : Stored) → at q xs ≡ Some x → at q ys ≡ Some x) → weight xs ≤ weight ys
unfolding weight
sub_weight [] ys apart all = omega arith
sub_weight (x ∷ xs) ys apart all =
    let here : at x.0 ys ≡ Some x.1 = all x.0 x.1 (ap (λ b. cond b (Some x.1) (at x.0 xs)) (itself x.0)) in
    let out = take_out ys x.0 x.1 here in
    let rest = sub_weight xs out.0 apart.1 (λ q y there. let other = apart_key q y there in out.1.others q other ∙ all q y (ap (λ b. cond b (Some x.1) (at q xs)) other ∙ there)) in
    let s = out.1.size in
    omega arith
  where
    itself : (s : ℕ) → (s == s) ≡ true
    itself s = grind (arith, nat_tests)

    apart_key : (q : ℕ) (y : Stored) → at q xs ≡ Some y → (q == x.0) ≡ false
    apart_key q y there = by (q == x.0) refl
      where
        by : (b : Bool) → (q == x.0) ≡ b → b ≡ false
        by true same = absurd (not_some y (sym there ∙ none_alike q x.0 xs same apart.0))
        by false other = refl

-- objects that stand once weigh no more than the same ones in a map
pub objects_weight : (es : List Entry) (m : Objects) → Apart (map stored_of es) → ((q : ℕ) → at q (map stored_of es) ≡ finite.get m q) → used_by es ≤ octets_of m
objects_weight es m apart same =
    let h = sub_weight (map stored_of es) (finite.entries m) apart (λ q x there. sym (finite.get-entries m q ∙ found_alike q (finite.entries m)) ∙ sym (same q) ∙ there) in
    let a = weight_is es in
    let c : octets_of m ≡ weight (finite.entries m) = weight_is (entries_of (finite.entries m)) ∙ ap weight (stored_entries (finite.entries m)) in
    omega arith

-- objects that were packed anew weigh no more than those of the pages and the changes together
pub packed_weight : (es xs : List Entry) (noted : List Put) → Apart (map stored_of es) → Apart (map stored_of xs) → ((q : ℕ) → at q (map stored_of xs) ≡ finite.get (over (over finite.empty (map put_of es)) noted) q) → used_by xs ≤ changed_octets noted + used_by es
packed_weight es xs noted apart_es apart_xs same =
    let changes = finite.entries (over finite.empty noted) in
    let h = sub_weight (map stored_of xs) (changes ++ map stored_of es) apart_xs all in
    let w = weight-append changes (map stored_of es) in
    let a = weight_is xs in
    let b = weight_is es in
    let c : changed_octets noted ≡ weight changes = weight_is (entries_of changes) ∙ ap weight (stored_entries changes) in
    omega arith
  where
    change_at : (q : ℕ) → at q (finite.entries (over finite.empty noted)) ≡ after noted q None
    change_at q = sym (finite.get-entries (over finite.empty noted) q ∙ found_alike q (finite.entries (over finite.empty noted))) ∙ get-over finite.empty noted q ∙ ap (after noted q) (finite.get-empty nat_cmp q)

    new_at : (q : ℕ) → at q (map stored_of xs) ≡ after noted q (at q (map stored_of es))
    new_at q = same q ∙ get-over (over finite.empty (map put_of es)) noted q ∙ ap (after noted q) (get_rows es q apart_es)

    all : (q : ℕ) (x : Stored) → at q (map stored_of xs) ≡ Some x → at q (finite.entries (over finite.empty noted) ++ map stored_of es) ≡ Some x
    all q x there = at-append q (finite.entries (over finite.empty noted)) (map stored_of es) ∙ ap (λ o. option_or o (at q (map stored_of es))) (change_at q) ∙ by (is_noted q noted) refl
      where
        by : (n : Bool) → is_noted q noted ≡ n → option_or (after noted q None) (at q (map stored_of es)) ≡ Some x
        by true is = ap (λ o. option_or o (at q (map stored_of es))) (after_noted noted q None (at q (map stored_of es)) is ∙ sym (new_at q) ∙ there)
        by false other = ap (λ o. option_or o (at q (map stored_of es))) (after_other noted q None other) ∙ sym (after_other noted q (at q (map stored_of es)) other) ∙ sym (new_at q) ∙ there

-- the octets in use in pages
pub used_in : (image slots : List ℕ) → ((k : ℕ) → k < length slots → IsPage image (slot_start (get_or slots k 0)) (get_or slots k 0)) → used_by (entries_in image slots) ≤ 16344 * length slots
used_in image [] whole = omega arith
used_in image (slot ∷ slots) whole =
    let a = used_on_page image slot (whole 0 (omega arith)) in
    let b = used_in image slots (λ k lt. whole (suc k) (omega (arith, lt))) in
    let u = used_by-append (entries_on_page image (slot_start slot)) (entries_in image slots) in
    omega arith

-- how many pass
either_few : (p r : ℕ → Bool) (xs : List ℕ) → length (filter (λ x. p x || r x) xs) ≤ length (filter p xs) + length (filter r xs)
either_few p r [] = omega arith
either_few p r (x ∷ xs) = by (p x) (r x) (either_few p r xs)
  where
    by : (a b : Bool) → length (filter (λ x. p x || r x) xs) ≤ length (filter p xs) + length (filter r xs)
        → length (cond (a || b) (x ∷ filter (λ x. p x || r x) xs) (filter (λ x. p x || r x) xs)) ≤ length (cond a (x ∷ filter p xs) (filter p xs)) + length (cond b (x ∷ filter r xs) (filter r xs))
    by true true h = omega arith
    by true false h = omega arith
    by false true h = omega arith
    by false false h = h

none_pass : (p : ℕ → Bool) (xs : List ℕ) → ((k : ℕ) → k < length xs → p (get_or xs k 0) ≡ false) → length (filter p xs) ≡ 0
none_pass p [] fails = refl
none_pass p (x ∷ xs) fails = ap (λ b. length (cond b (x ∷ filter p xs) (filter p xs))) (fails 0 (omega arith)) ∙ none_pass p xs (λ k lt. fails (suc k) (omega (arith, lt)))

no_more : (p : ℕ → Bool) (xs : List ℕ) → length (filter p xs) ≤ length xs
no_more p [] = omega arith
no_more p (x ∷ xs) = by (p x) (no_more p xs)
  where
    by : (b : Bool) → length (filter p xs) ≤ length xs → length (cond b (x ∷ filter p xs) (filter p xs)) ≤ length (x ∷ xs)
    by true h = omega arith
    by false h = omega arith

pass-append : (p : ℕ → Bool) (xs ys : List ℕ) → length (filter p (xs ++ ys)) ≡ length (filter p xs) + length (filter p ys)
pass-append p [] ys = omega arith
pass-append p (x ∷ xs) ys = by (p x) (pass-append p xs ys)
  where
    by : (b : Bool) → length (filter p (xs ++ ys)) ≡ length (filter p xs) + length (filter p ys) → length (cond b (x ∷ filter p (xs ++ ys)) (filter p (xs ++ ys))) ≡ length (cond b (x ∷ filter p xs) (filter p xs)) + length (filter p ys)
    by true h = omega arith
    by false h = h

abbrev Once : List ℕ → Type 0
Once slots = (j k : ℕ) → j < k → k < length slots → get_or slots j 0 ≡ get_or slots k 0 → ⊥

one_passes : (s : ℕ) (slots : List ℕ) → Once slots → length (filter (λ slot. s == slot) slots) ≤ 1
one_passes s [] once = omega arith
one_passes s (x ∷ slots) once = by (s == x) refl (one_passes s slots (λ j k less lt. once (suc j) (suc k) (omega (arith, less)) (omega (arith, lt))))
  where
    apart : (s == x) ≡ true → (k : ℕ) → k < length slots → (s == get_or slots k 0) ≡ false
    apart same k lt = one (s == get_or slots k 0) refl
      where
        one : (b : Bool) → (s == get_or slots k 0) ≡ b → b ≡ false
        one true e = absurd (once 0 (suc k) (omega arith) (omega (arith, lt)) (sym (eqb-true s x same) ∙ eqb-true s (get_or slots k 0) e))
        one false e = refl

    by : (b : Bool) → (s == x) ≡ b → length (filter (λ slot. s == slot) slots) ≤ 1 → length (cond b (x ∷ filter (λ slot. s == slot) slots) (filter (λ slot. s == slot) slots)) ≤ 1
    by true same h = let n = none_pass (λ slot. s == slot) slots (apart same) in omega arith
    by false other h = h

pub small_few : (small : Option ℕ) (slots : List ℕ) → Once slots → length (filter (λ s. is_in s small) slots) ≤ 1
small_few None slots once = let n = none_pass (λ s. is_in s None) slots (λ k lt. refl) in omega arith
small_few (Some s) slots once = one_passes s slots once

pub repacked_few : (p : ℕ → Bool) (small : Option ℕ) (slots : List ℕ) → Once slots → length (filter (λ s. p s || is_in s small) slots) ≤ length (filter p slots) + 1
repacked_few p small slots once = let a = either_few p (λ s. is_in s small) slots in let b = small_few small slots once in omega arith

-- the slots of a root are named once
pub once_in : (root : Root) (image : List ℕ) → HasRoot root image → Once root.slots
once_in root image has j k less lt same =
    let count = has.fields.page_count in
    let twice : IsWrongSlot (slot_in image root.area) (length image) k = inr (inr (j, less, has.fields.slots j (omega (arith, less, lt)) ∙ same ∙ sym (has.fields.slots k lt))) in
    has.right _ (inr (inr (inr (record { k = k; within = omega (arith, lt, count); place = refl; wrong = twice }))))

-- only the slots of new pages are moved
pub moved_few : (old stay fresh all : List ℕ) → AreSomeOf old stay → all ≡ stay ++ fresh → moved old all ≤ length fresh
moved_few old stay fresh all some is =
    let a = ap (λ l. length (filter (λ s. not (is_among s old)) l)) is in
    let b = pass-append (λ s. not (is_among s old)) stay fresh in
    let c = none_pass (λ s. not (is_among s old)) stay (λ k lt. ap not (let there = some.each k lt in among_there old there.0 (get_or stay k 0) there.1 there.2)) in
    let d = no_more (λ s. not (is_among s old)) fresh in
    omega arith

pub bound : (pages used taken touched changed : ℕ) → pages ≤ used / 8328 + 1 → used ≤ changed + 16344 * taken → taken ≤ touched + 1 → pages ≤ 2 * (touched + 1) + changed / 8328 + 1
bound pages used taken touched changed few sum most = omega arith

-- pages of which none has little in use take more than half of their room
pub used_at_least : (image slots : List ℕ) → ((k : ℕ) → k < length slots → IsPage image (slot_start (get_or slots k 0)) (get_or slots k 0)) → ((k : ℕ) → k < length slots → IsSmall image (get_or slots k 0) → ⊥) → 8329 * length slots ≤ used_by (entries_in image slots)
used_at_least image [] whole large = omega arith
used_at_least image (slot ∷ slots) whole large =
    let a = page_used image slot (whole 0 (omega arith)) in
    let more : 8329 ≤ octets_in_use image (slot_start slot) = ⊎_elim (λ lt. omega (arith, lt)) (λ le. absurd (large 0 (omega arith) le)) (cases_lt 8328 (octets_in_use image (slot_start slot))) in
    let b = used_at_least image slots (λ k lt. whole (suc k) (omega (arith, lt))) (λ k lt. large (suc k) (omega (arith, lt))) in
    let u = used_by-append (entries_on_page image (slot_start slot)) (entries_in image slots) in
    omega arith
