-- The heirs of a home, by rising numbers, are the homes below it.
use Rattle.std.proofs.Common.{ℕ, zero, suc, ◌≡◌, ◌<◌, ◌≤◌, ◌+◌, ◌==◌, Bool, true, false, cond, List, [], ◌∷◌, length, get_or, Option, Some, None, refl, sym, ap, ◌∙◌, arith, eq-eqb, eqb-true}
use Rattle.std.specs.Prelude.{filter, ◌||◌, ◌&&◌, IsSome, is_some}
use Rattle.std.specs.List.{list_any, slice_get, IsDistinct}
use Rattle.std.specs.List.Sorted.{IsPermutation, IsNonDecreasingBy}
use Rattle.std.proofs.lemmas.Bool.Decides.{nat_tests}
use Rattle.std.proofs.lemmas.List.Sorted.{list_any-IsPermutation}
use Rattle.std.proofs.lemmas.Map.Keys.{IsDistinct-head, IsDistinct-tail, IsDistinct-from_apart, IsDistinct-IsPermutation, any_passes_from_place}
use Rattle.std.proofs.lemmas.Map.Views.{any-filter_same}
use Rattle.std.proofs.lemmas.Option.{slice_get_within, slice_get-get_or}
use Rattle.type_layout.specs.declared.home.HomeNo.{HomeNo}
use Rattle.type_layout.specs.declared.schema.Home.{Home}
use Rattle.type_layout.specs.declared.schema.Schema.{Schema}
use Rattle.type_layout.specs.Schemas.{nth, descends}
use Rattle.type_layout.specs.Sound.{IsSoundSchema}
use Rattle.type_layout.proofs.Bases.{reached, found}
use Rattle.pss_catalog.specs.Families.{AreHeirs}
use Rattle.pss_laws.proofs.Logic.{unlike, and_left, and_right, and_both}
use Rattle.pss_machine.specs.Homes.{numbers_from, all_homes, below}

-- ---- homes by rising numbers

abbrev Rises : ℕ → List HomeNo → Type 0
Rises least [] = Unit {0}
Rises least (h ∷ hs) = (least ≤ h.0) × Rises (h.0 + 1) hs

abbrev is_it : HomeNo → HomeNo → Bool
is_it q h = q.0 == h.0

abbrev is_in : HomeNo → List HomeNo → Bool
is_in q = list_any (is_it q)

lower : (m n : ℕ) (hs : List HomeNo) → m ≤ n → Rises n hs → Rises m hs
lower m n [] le rise = tt
lower m n (h ∷ hs) le rise = (omega (arith, le, rise.0), rise.1)

kept_rise : (p : HomeNo → Bool) (n : ℕ) (hs : List HomeNo) → Rises n hs → Rises n (filter p hs)
kept_rise p n [] rise = tt
kept_rise p n (h ∷ hs) rise = by (p h) (kept_rise p (h.0 + 1) hs rise.1)
  where
    by : (b : Bool) → Rises (h.0 + 1) (filter p hs) → Rises n (cond b (h ∷ filter p hs) (filter p hs))
    by true rest = (rise.0, rest)
    by false rest = lower n (h.0 + 1) (filter p hs) (omega (arith, rise.0)) rest

numbers_rise : (n : ℕ) (homes : List Home) → Rises n (numbers_from n homes)
numbers_rise n [] = tt
numbers_rise n (home ∷ homes) = (omega arith, numbers_rise (n + 1) homes)

next : (m n : ℕ) → m ≤ n → (m == n) ≡ false → m + 1 ≤ n
next m n le apart = grind (arith, nat_tests)

rise_from : (least : ℕ) (h : HomeNo) (hs : List HomeNo) → least ≤ h.0 → IsNonDecreasingBy (λ (g : HomeNo). g.0) (h ∷ hs) → IsDistinct is_it (h ∷ hs) → Rises least (h ∷ hs)
rise_from least h [] le sorted apart = (le, tt)
rise_from least h (g ∷ gs) le sorted apart =
    (le, rise_from (h.0 + 1) g gs (next h.0 g.0 (sorted 0 1 h (omega arith) (omega arith)) (IsDistinct-head is_it h (g ∷ gs) apart).0) (λ i j d low high. sorted (suc i) (suc j) d (omega (arith, low)) (omega (arith, high))) (IsDistinct-tail is_it h (g ∷ gs) apart))

sorted_rise : (hs : List HomeNo) → IsNonDecreasingBy (λ (g : HomeNo). g.0) hs → IsDistinct is_it hs → Rises 0 hs
sorted_rise [] sorted apart = tt
sorted_rise (h ∷ hs) sorted apart = rise_from 0 h hs (omega arith) sorted apart

-- ---- two such lists with the same homes are one

above : (q : HomeNo) (n : ℕ) (hs : List HomeNo) → Rises n hs → is_in q hs ≡ true → n ≤ q.0
above q n [] rise e = absurd cc
above q n (h ∷ hs) rise e = by (q.0 == h.0) refl e (above q (h.0 + 1) hs rise.1)
  where
    by : (b : Bool) → (q.0 == h.0) ≡ b → (b || is_in q hs) ≡ true → (is_in q hs ≡ true → h.0 + 1 ≤ q.0) → n ≤ q.0
    by true is e rest = (let same = eqb-true q.0 h.0 is in omega (arith, same, rise.0))
    by false is e rest = (let more = rest e in omega (arith, more, rise.0))

missing : (q : HomeNo) (n : ℕ) (hs : List HomeNo) → Rises n hs → q.0 < n → is_in q hs ≡ false
missing q n hs rise less = by (is_in q hs) refl
  where
    by : (b : Bool) → is_in q hs ≡ b → is_in q hs ≡ false
    by true is = (let low = above q n hs rise is in absurd (omega (arith, low, less)))
    by false is = is

first_in : (h : HomeNo) (hs : List HomeNo) → is_in h (h ∷ hs) ≡ true
first_in h hs = ap (λ b. b || is_in h hs) (eq-eqb h.0 h.0 refl)

same_rest : (q x y : HomeNo) (xs ys : List HomeNo) → x.0 ≡ y.0 → Rises (x.0 + 1) xs → Rises (y.0 + 1) ys → is_in q (x ∷ xs) ≡ is_in q (y ∷ ys) → is_in q xs ≡ is_in q ys
same_rest q x y xs ys one rise other same = by (q.0 == x.0) refl
  where
    by : (b : Bool) → (q.0 == x.0) ≡ b → is_in q xs ≡ is_in q ys
    by true is = (let at = eqb-true q.0 x.0 is in missing q (x.0 + 1) xs rise (omega (arith, at)) ∙ sym (missing q (y.0 + 1) ys other (omega (arith, at, one))))
    by false is = sym (ap (λ b. b || is_in q xs) is) ∙ same ∙ ap (λ b. b || is_in q ys) (ap (λ (k : ℕ). q.0 == k) (sym one) ∙ is)

one_list : (m n : ℕ) (xs ys : List HomeNo) → Rises m xs → Rises n ys → ((q : HomeNo) → is_in q xs ≡ is_in q ys) → xs ≡ ys
one_list m n [] [] rise other same = refl
one_list m n [] (y ∷ ys) rise other same = unlike (same y ∙ first_in y ys)
one_list m n (x ∷ xs) [] rise other same = unlike (sym (same x) ∙ first_in x xs)
one_list m n (x ∷ xs) (y ∷ ys) rise other same =
    let low : y.0 ≤ x.0 = above x y.0 (y ∷ ys) (omega arith, other.1) (sym (same x) ∙ first_in x xs) in
    let high : x.0 ≤ y.0 = above y x.0 (x ∷ xs) (omega arith, rise.1) (same y ∙ first_in y ys) in
    let one : x.0 ≡ y.0 = omega (arith, low, high) in
    let rest : xs ≡ ys = one_list (x.0 + 1) (y.0 + 1) xs ys rise.1 other.1 (λ q. same_rest q x y xs ys one rise.1 other.1 (same q)) in
    λ i. record { 0 = one i } ∷ rest i

-- ---- the homes of a schema

numbered : (q : HomeNo) (n : ℕ) (homes : List Home) → n ≤ q.0 → q.0 < n + length homes → is_in q (numbers_from n homes) ≡ true
numbered q n [] low high = absurd (omega (arith, low, high))
numbered q n (home ∷ homes) low high = by (q.0 == n) refl (λ after. numbered q (n + 1) homes after (omega (arith, high)))
  where
    after : (q.0 == n) ≡ false → n + 1 ≤ q.0
    after apart = grind (arith, nat_tests)

    by : (b : Bool) → (q.0 == n) ≡ b → (n + 1 ≤ q.0 → is_in q (numbers_from (n + 1) homes) ≡ true) → (b || is_in q (numbers_from (n + 1) homes)) ≡ true
    by true is rest = refl
    by false is rest = rest (after is)

numbers_end : (q : HomeNo) (n : ℕ) (homes : List Home) → is_in q (numbers_from n homes) ≡ true → q.0 < n + length homes
numbers_end q n [] e = absurd cc
numbers_end q n (home ∷ homes) e = by (q.0 == n) refl e (numbers_end q (n + 1) homes)
  where
    by : (b : Bool) → (q.0 == n) ≡ b → (b || is_in q (numbers_from (n + 1) homes)) ≡ true → (is_in q (numbers_from (n + 1) homes) ≡ true → q.0 < n + 1 + length homes) → q.0 < n + suc (length homes)
    by true is e rest = (let same = eqb-true q.0 n is in omega (arith, same))
    by false is e rest = (let more = rest e in omega (arith, more))

some_within : (n : ℕ) (homes : List Home) → IsSome (nth homes n) → (1 ≤ n) × (n < 1 + length homes)
some_within zero homes there = unlike there
some_within (suc n) homes there = by (slice_get homes n) refl there
  where
    by : (o : Option Home) → slice_get homes n ≡ o → IsSome o → (1 ≤ suc n) × (suc n < 1 + length homes)
    by None is there = unlike there
    by (Some home) is there = (let lt = slice_get_within homes n home is in (omega arith, omega (arith, lt)))

within_some : (n : ℕ) (homes : List Home) → 1 ≤ n → n < 1 + length homes → IsSome (nth homes n)
within_some zero homes low high = absurd (omega (arith, low))
within_some (suc n) [] low high = absurd (omega (arith, high))
within_some (suc n) (home ∷ homes) low high = ap is_some (slice_get-get_or (home ∷ homes) n home (omega (arith, high)))

-- ---- they and the heirs are the same homes

place_of : (q : HomeNo) (hs : List HomeNo) → is_in q hs ≡ true → (i : ℕ) × (slice_get hs i ≡ Some q)
place_of q [] e = absurd cc
place_of q (h ∷ hs) e = by (q.0 == h.0) refl e (place_of q hs)
  where
    by : (b : Bool) → (q.0 == h.0) ≡ b → (b || is_in q hs) ≡ true → (is_in q hs ≡ true → (i : ℕ) × (slice_get hs i ≡ Some q)) → (i : ℕ) × (slice_get (h ∷ hs) i ≡ Some q)
    by true is e rest = (0, λ i. Some (record { 0 = sym (eqb-true q.0 h.0 is) i }))
    by false is e rest = (let more = rest e in (suc more.0, more.1))

alike : (a b : Bool) → (a ≡ true → b ≡ true) → (b ≡ true → a ≡ true) → a ≡ b
alike true b on off = sym (on refl)
alike false true on off = off refl
alike false false on off = refl

flips : (g h : HomeNo) → is_it g h ≡ is_it h g
flips g h = grind (arith, nat_tests)

module _ (S : Schema) (sound : IsSoundSchema S) (of : HomeNo) (heirs : List HomeNo) (are : AreHeirs S of heirs) where
  apart : IsDistinct is_it heirs
  apart = IsDistinct-from_apart is_it heirs (λ i j d less within. by i j d less within (is_it (get_or heirs i d) (get_or heirs j d)) refl)
    where
      by : (i j : ℕ) (d : HomeNo) → i < j → j < length heirs → (b : Bool) → is_it (get_or heirs i d) (get_or heirs j d) ≡ b → is_it (get_or heirs i d) (get_or heirs j d) ≡ false
      by i j d less within true is =
          let same : get_or heirs i d ≡ get_or heirs j d = λ k. record { 0 = eqb-true (get_or heirs i d).0 (get_or heirs j d).0 is k } in
          let one = are.once i j (get_or heirs j d) (slice_get-get_or heirs i d (omega (arith, less, within)) ∙ ap Some same) (slice_get-get_or heirs j d within) in
          absurd (omega (arith, one, less))
      by i j d less within false is = is

  an_heir : (q : HomeNo) → is_in q heirs ≡ true → (descends S q of && is_in q (all_homes S)) ≡ true
  an_heir q e =
      let at = place_of q heirs e in
      let it = are.derive at.0 q at.1 in
      let within = some_within q.0 S.homes it.0 in
      and_both (descends S q of) (is_in q (all_homes S)) (found S sound q of it.1) (numbered q 1 S.homes within.0 within.1)

  is_heir : (q : HomeNo) → (descends S q of && is_in q (all_homes S)) ≡ true → is_in q heirs ≡ true
  is_heir q e =
      let there = and_right (descends S q of) (is_in q (all_homes S)) e in
      let low = above q 1 (all_homes S) (numbers_rise 1 S.homes) there in
      let at = are.all q (within_some q.0 S.homes low (numbers_end q 1 S.homes there)) (reached S (suc (length S.homes)) q of (and_left (descends S q of) (is_in q (all_homes S)) e)) in
      any_passes_from_place (is_it q) heirs at.0 q at.1 (eq-eqb q.0 q.0 refl)

  same_homes : (q : HomeNo) → is_in q heirs ≡ is_in q (below S of)
  same_homes q =
      alike (is_in q heirs) (descends S q of && is_in q (all_homes S)) (an_heir q) (is_heir q)
      ∙ sym (any-filter_same (is_it q) (λ g. descends S g of) (descends S q of) (λ k e. (let same = eqb-true q.0 k.0 e in λ i. descends S (record { 0 = sym same i }) of)) (all_homes S))

  pub heirs_below : (hs : List HomeNo) → IsPermutation heirs hs → IsNonDecreasingBy (λ (g : HomeNo). g.0) hs → hs ≡ below S of
  heirs_below hs moved sorted =
      one_list 0 1 hs (below S of)
      (sorted_rise hs sorted (IsDistinct-IsPermutation is_it flips heirs hs moved apart))
      (kept_rise (λ g. descends S g of) 1 (all_homes S) (numbers_rise 1 S.homes))
      (λ q. sym (list_any-IsPermutation (is_it q) heirs hs moved) ∙ same_homes q)
