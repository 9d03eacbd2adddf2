-- The least serial of an ordered extent whose object is there.
use Rattle.std.proofs.Common.{ℕ, ◌+◌, ◌*◌, ◌/◌, ◌%◌, ◌≡◌, ◌<◌, ◌≤◌, ◌^◌, ◌&&◌, ◌⊎◌, [], ◌∷◌, Option, Some, None, IsSome, Bool, true, false, cond, refl, sym, ap, subst, ◌∙◌, arith, inl, inr, Ordering, Less, Equal, Greater}
use Rattle.std.specs.Ordering.{nat_cmp, is_eq, is_lt, is_le}
use Rattle.std.specs.Cmp.{nat_cmp_is}
use Rattle.std.specs.List.{AllByRecursion}
use Rattle.std.specs.List.Sorted.{IsStrictlySortedBy}
use Rattle.std.specs.Map.{lookup, keys_of}
use Rattle.std.specs.declared.ops.Bound.TheVariants.{Included, Excluded, Unbounded}
use Rattle.std.specs.declared.ops.Bound.{Bound}
use Rattle.std.specs.BTreeMap.{is_at}
use Rattle.std.specs.BTreeMap.Range.{entries_between, range_contains}
use Rattle.std.proofs.lemmas.Bool.{le-ltb}
use Rattle.std.proofs.lemmas.Cmp.{ranked}
use Rattle.std.proofs.lemmas.Map.Keys.{le_from_is_le}
use Rattle.pss_catalog.proofs.Forest.{Compared, compared}
use Rattle.storage_home.specs.declared.extents.Block.{Block}
use Rattle.storage_home.specs.Cells.{has_bit}
use Rattle.storage_home.specs.Blocks.{Blocks, is_number, holds_in, IsLeastIn, IsFirstHeld}
use Rattle.storage_home.specs.Extents.{is_held_at, IsNext, IsNear}
use Rattle.storage_home.proofs.Places.{by_test}

abbrev behind : ℕ → Blocks → Blocks
behind n es = entries_between nat_cmp (Excluded n) Unbounded es

-- ---- two numbers

less_than : (a b : ℕ) → nat_cmp a b ≡ Less → a < b
less_than a b e = ranked a b Less (sym e)

pub untied_below : (a b : ℕ) → a < b → is_eq (nat_cmp a b) ≡ false
untied_below a b l = ap is_eq (sym (nat_cmp_is a b Less l))

pub untied_above : (a b : ℕ) → b < a → is_eq (nat_cmp a b) ≡ false
untied_above a b l = ap is_eq (sym (nat_cmp_is a b Greater l))

pub tied : (a : ℕ) → is_eq (nat_cmp a a) ≡ true
tied a = ap is_eq (sym (nat_cmp_is a a Equal refl))

-- the least number inside a bound
abbrev pub least_of : Bound ℕ → ℕ
least_of (Included a) = a
least_of (Excluded a) = a + 1
least_of Unbounded = 0

in_reach : (lo : Bound ℕ) (b : ℕ) → range_contains nat_cmp lo Unbounded b ≡ true → least_of lo ≤ b
in_reach (Included a) b e = by_test (λ t. is_le (nat_cmp a b) ≡ t → t && true ≡ true → a ≤ b) (is_le (nat_cmp a b)) (λ _ is _. le_from_is_le a b is) (λ _ _ never. cc) refl e
in_reach (Excluded a) b e = by (nat_cmp a b) refl e
  where
    by : (r : Ordering) → r ≡ nat_cmp a b → is_lt r && true ≡ true → a + 1 ≤ b
    by Less h _ = let l : a < b = ranked a b Less h in omega (arith, l)
    by Equal h never = cc
    by Greater h never = cc
in_reach Unbounded b e = omega arith

out_of_reach : (lo : Bound ℕ) (b : ℕ) → range_contains nat_cmp lo Unbounded b ≡ false → b < least_of lo
out_of_reach (Included a) b e = by (nat_cmp a b) refl e
  where
    by : (r : Ordering) → r ≡ nat_cmp a b → is_le r && true ≡ false → b < a
    by Less h never = cc
    by Equal h never = cc
    by Greater h _ = ranked a b Greater h
out_of_reach (Excluded a) b e = by (nat_cmp a b) refl e
  where
    by : (r : Ordering) → r ≡ nat_cmp a b → is_lt r && true ≡ false → b < a + 1
    by Less h never = cc
    by Equal h _ = let l : a ≡ b = ranked a b Equal h in omega (arith, l)
    by Greater h _ = let l : b < a = ranked a b Greater h in omega (arith, l)
out_of_reach Unbounded b e = cc

-- ---- where no block is

pub nowhere : (b : Bool) (p : ℕ) → holds_in (cond b None None) p ≡ false
nowhere true p = refl
nowhere false p = refl

-- no serial is so great
beyond : (es : Blocks) (t : ℕ) → 2 ^ 64 ≤ t → is_held_at t es ≡ false
unfolding is_number
beyond es t great = ap (λ b. holds_in (cond b (lookup (is_at (nat_cmp (t / 64))) es) None) (t % 64)) (le-ltb (t / 64) 288230376151711744 (omega (arith, great)))

pub none_beyond : (es : Blocks) (s : ℕ) → (s < 2 ^ 64 → ⊥) → IsNext es s None
none_beyond es s great t le = by (compared s (2 ^ 64))
  where
    by : Compared s (2 ^ 64) → is_held_at t es ≡ false
    by (inl less) = absurd (great less)
    by (inr (inl is)) = beyond es t (omega (arith, is, le))
    by (inr (inr more)) = beyond es t (omega (arith, more, le))

none_below : (k : ℕ) (es : Blocks) → AllByRecursion (λ y. nat_cmp k y ≡ Less) (keys_of es) → (n : ℕ) → n ≤ k → lookup (is_at (nat_cmp n)) es ≡ None
none_below k [] above n le = refl
none_below k (e ∷ es) above n le =
    let l = less_than k e.0 above.0 in
    ap (λ b. cond b (Some e.1) (lookup (is_at (nat_cmp n)) es)) (untied_below n e.0 (omega (arith, l, le))) ∙ none_below k es above.1 n le

-- ---- what is held in other extents alike

next_same : (es fs : Blocks) (from : ℕ) (next : Option ℕ) → ((t : ℕ) → from ≤ t → is_held_at t fs ≡ is_held_at t es) → IsNext es from next → IsNext fs from next
next_same es fs from None same is = λ t le. same t le ∙ is t le
next_same es fs from (Some s) same is = (is.0, same s is.0 ∙ is.1, λ t le l. same t le ∙ is.2 t le l)

-- ---- one more block in front

module _ (e : ℕ × Block) (es : Blocks) (above : AllByRecursion (λ y. nat_cmp e.0 y ≡ Less) (keys_of es)) where
  held_behind : (t : ℕ) → e.0 < t / 64 → is_held_at t (e ∷ es) ≡ is_held_at t es
  held_behind t l = ap (λ b. holds_in (cond (is_number (t / 64)) (cond b (Some e.1) (lookup (is_at (nat_cmp (t / 64))) es)) None) (t % 64)) (untied_above (t / 64) e.0 l)

  none_up_to : (t : ℕ) → t / 64 ≤ e.0 → is_held_at t es ≡ false
  none_up_to t le = ap (λ o. holds_in (cond (is_number (t / 64)) o None) (t % 64)) (none_below e.0 es above (t / 64) le) ∙ nowhere (is_number (t / 64)) (t % 64)

  held_before : (t : ℕ) → t / 64 < e.0 → is_held_at t (e ∷ es) ≡ false
  held_before t l =
      ap (λ b. holds_in (cond (is_number (t / 64)) (cond b (Some e.1) (lookup (is_at (nat_cmp (t / 64))) es)) None) (t % 64)) (untied_below (t / 64) e.0 l) ∙ none_up_to t (omega (arith, l))

  held_here : (t : ℕ) → t / 64 ≡ e.0 → is_held_at t (e ∷ es) ≡ holds_in (cond (is_number e.0) (Some e.1) None) (t % 64)
  held_here t is =
      ap (λ b. holds_in (cond (is_number (t / 64)) (cond b (Some e.1) (lookup (is_at (nat_cmp (t / 64))) es)) None) (t % 64)) (ap (λ (k : ℕ). is_eq (nat_cmp k e.0)) is ∙ tied e.0)
      ∙ ap (λ (k : ℕ). holds_in (cond (is_number k) (Some e.1) None) (t % 64)) is

  -- no object of it is there
  passed : IsLeastIn e.0 e.1 0 None → (t : ℕ) → is_held_at t (e ∷ es) ≡ is_held_at t es
  passed none t = by (compared (t / 64) e.0)
    where
      here : (b : Bool) → is_number e.0 ≡ b → holds_in (cond b (Some e.1) None) (t % 64) ≡ false
      here true is = none is (t % 64) (omega arith) (omega arith)
      here false is = refl

      by : Compared (t / 64) e.0 → is_held_at t (e ∷ es) ≡ is_held_at t es
      by (inl less) = held_before t less ∙ sym (none_up_to t (omega (arith, less)))
      by (inr (inl is)) = held_here t is ∙ here (is_number e.0) refl ∙ sym (none_up_to t (omega (arith, is)))
      by (inr (inr more)) = held_behind t more

  first_here : (from : ℕ) → from ≤ 64 * e.0 → (next : Option ℕ) → IsSome next → IsLeastIn e.0 e.1 0 next → IsNext (e ∷ es) from next
  first_here from le None some least = cc
  first_here from le (Some s) some least = (omega (arith, le, least.1), held_here s least.1 ∙ numbered (s % 64) ∙ least.2.2, λ t low l. by t low l (compared (t / 64) e.0))
    where
      numbered : (p : ℕ) → holds_in (cond (is_number e.0) (Some e.1) None) p ≡ has_bit p e.1.held
      numbered p = ap (λ b. holds_in (cond b (Some e.1) None) p) least.0

      by : (t : ℕ) → from ≤ t → t < s → Compared (t / 64) e.0 → is_held_at t (e ∷ es) ≡ false
      by t low l (inl less) = held_before t less
      by t low l (inr (inl is)) = held_here t is ∙ numbered (t % 64) ∙ least.2.3 (t % 64) (omega arith) (omega (arith, l, is, least.1))
      by t low l (inr (inr more)) = absurd (omega (arith, l, more, least.1))

pub first_is_next : (n : ℕ) (es : Blocks) (next : Option ℕ) → IsStrictlySortedBy nat_cmp (keys_of es) → IsFirstHeld (behind n es) next → IsNext es (64 * (n + 1)) next
unfolding IsStrictlySortedBy
first_is_next n [] next sorted first = subst (IsNext [] (64 * (n + 1))) (sym first) (λ t _. nowhere (is_number (t / 64)) (t % 64))
first_is_next n (e ∷ es) next sorted first =
    by_test (λ b. range_contains nat_cmp (Excluded n) Unbounded e.0 ≡ b → IsFirstHeld (cond b (e ∷ behind n es) (behind n es)) next → IsNext (e ∷ es) (64 * (n + 1)) next) (range_contains nat_cmp (Excluded n) Unbounded e.0)
    (λ _ reach first. let low : n + 1 ≤ e.0 = in_reach (Excluded n) e.0 reach in here (omega (arith, low)) (λ rest. first_is_next n es next sorted.1 rest) first)
    (λ _ never first. let l : e.0 < n + 1 = out_of_reach (Excluded n) e.0 never in next_same es (e ∷ es) (64 * (n + 1)) next (λ t le. held_behind e es sorted.0 t (omega (arith, l, le))) (first_is_next n es next sorted.1 first))
    refl
    first
  where
    here : 64 * (n + 1) ≤ 64 * e.0 → (IsFirstHeld (behind n es) next → IsNext es (64 * (n + 1)) next) → (IsSome next × IsLeastIn e.0 e.1 0 next) ⊎ (IsLeastIn e.0 e.1 0 None × IsFirstHeld (behind n es) next) → IsNext (e ∷ es) (64 * (n + 1)) next
    here low later (inl found) = first_here e es sorted.0 (64 * (n + 1)) low next found.0 found.1
    here low later (inr rest) = next_same es (e ∷ es) (64 * (n + 1)) next (λ t _. passed e es sorted.0 rest.0 t) (later rest.1)

-- ---- one block, and those behind it

module _ (es : Blocks) (from : ℕ) where
  in_block : (t : ℕ) → t / 64 ≡ from / 64 → is_held_at t es ≡ holds_in (cond (is_number (from / 64)) (lookup (is_at (nat_cmp (from / 64))) es) None) (t % 64)
  in_block t is = ap (λ (k : ℕ). holds_in (cond (is_number k) (lookup (is_at (nat_cmp k)) es) None) (t % 64)) is

  pub none_near : None ≡ lookup (is_at (nat_cmp (from / 64))) es → IsNear es from None
  none_near none t le is = in_block t is ∙ ap (λ o. holds_in (cond (is_number (from / 64)) o None) (t % 64)) (sym none) ∙ nowhere (is_number (from / 64)) (t % 64)

  module _ (b : Block) (there : Some b ≡ lookup (is_at (nat_cmp (from / 64))) es) where
    of_block : (t : ℕ) → t / 64 ≡ from / 64 → is_held_at t es ≡ holds_in (cond (is_number (from / 64)) (Some b) None) (t % 64)
    of_block t is = in_block t is ∙ ap (λ o. holds_in (cond (is_number (from / 64)) o None) (t % 64)) (sym there)

    pub near_block : (next : Option ℕ) → IsLeastIn (from / 64) b (from % 64) next → IsNear es from next
    near_block None least = λ t le is. of_block t is ∙ by t le is (is_number (from / 64)) refl
      where
        by : (t : ℕ) → from ≤ t → t / 64 ≡ from / 64 → (c : Bool) → is_number (from / 64) ≡ c → holds_in (cond c (Some b) None) (t % 64) ≡ false
        by t le is true numbered = least numbered (t % 64) (omega (arith, le, is)) (omega arith)
        by t le is false numbered = refl
    near_block (Some s) least =
        (omega (arith, least.1, least.2.0), of_block s least.1 ∙ numbered (s % 64) ∙ least.2.2, λ t le l. (let is : t / 64 ≡ from / 64 = omega (arith, le, l, least.1) in of_block t is ∙ numbered (t % 64) ∙ least.2.3 (t % 64) (omega (arith, le, is)) (omega (arith, l, is, least.1))))
      where
        numbered : (p : ℕ) → holds_in (cond (is_number (from / 64)) (Some b) None) p ≡ has_bit p b.held
        numbered p = ap (λ c. holds_in (cond c (Some b) None) p) least.0

  pub far_is_next : IsNear es from None → (next : Option ℕ) → IsNext es (64 * (from / 64 + 1)) next → IsNext es from next
  far_is_next none None far = λ t le. by t le (compared (t / 64) (from / 64))
    where
      by : (t : ℕ) → from ≤ t → Compared (t / 64) (from / 64) → is_held_at t es ≡ false
      by t le (inl less) = absurd (omega (arith, le, less))
      by t le (inr (inl is)) = none t le is
      by t le (inr (inr more)) = far t (omega (arith, more))
  far_is_next none (Some s) far = ((let low = far.0 in omega (arith, low)), far.1, λ t le l. by t le l (compared (t / 64) (from / 64)))
    where
      by : (t : ℕ) → from ≤ t → t < s → Compared (t / 64) (from / 64) → is_held_at t es ≡ false
      by t le l (inl less) = absurd (omega (arith, le, less))
      by t le l (inr (inl is)) = none t le is
      by t le l (inr (inr more)) = far.2 t (omega (arith, more)) l
