-- The entries of a session, in the order of their numbers.
use Rattle.std.proofs.Common.{arith, ◌≡◌, ℕ, ◌<◌, ◌==◌, ◌&&◌, Bool, true, false, cond, List, [], ◌∷◌, map, Option, Some, None, refl, sym, ap, ◌∙◌, inl, inr}
use Rattle.std.specs.Prelude.{◌⊎◌, filter, nat_lt}
use Rattle.std.specs.Option.{option_map}
use Rattle.std.proofs.Math.Dec.{T}
use Rattle.std.specs.declared.cmp.Ordering.{Ordering}
use Rattle.std.specs.declared.cmp.Ordering.TheVariants.{Less, Equal, Greater}
use Rattle.std.specs.Ordering.{nat_cmp, is_lt, ordering_then}
use Rattle.std.specs.FinMap as finite
use Rattle.std.specs.FinMap.{entries, entries_sorted, is_sorted, get-entries}
use Rattle.std.specs.FinMap.Entries.{below_all}
use Rattle.std.proofs.lemmas.Bool.{eqb-true, eq-eqb, ltb-true}
use Rattle.pss_base.specs.declared.session.SessionNo.{SessionNo}
use Rattle.pss_machine.specs.Copies.{Entry as PlainEntry, Copies}
use Rattle.pss_machine.specs.Entries.{NumbersRise, AreOrderly}
use Rattle.pss_machine.proofs.Maps.{same_or_apart}
use Rattle.pss_machine.proofs.Logic.{none_some, same_some, true_false}
use Rattle.incarnations.specs.declared.names.Slot.{Slot}
use Rattle.incarnations.specs.declared.names.Entry.{Entry}
use Rattle.incarnations.specs.Keys.{slot_cmp}
use Rattle.incarnations.specs.Meaning.{Meaning, is_of, entries_of, slot}
use Rattle.incarnations.proofs.Keys.{slot_ties}
use Rattle.pss_copies.specs.Told.{entry_told, IsTold}
use Rattle.pss_copies.proofs.Numbered.{numbered}
use Rattle.pss_copies.proofs.Entered.{apart_test}

-- ---- rising numbers

abbrev Above : ℕ → List PlainEntry → Type 0
Above low [] = Unit {0}
Above low (e ∷ es) = (low < e.number) × Above low es

abbrev Rises : List PlainEntry → Type 0
Rises [] = Unit {0}
Rises (e ∷ es) = Above e.number es × Rises es

above_less : (low high : ℕ) → low < high → (es : List PlainEntry) → Above high es → Above low es
above_less low high less [] above = tt
above_less low high less (e ∷ es) above = (omega (arith, less, above.0), above_less low high less es above.1)

rise_above : (low last : ℕ) (es : List PlainEntry) → NumbersRise low last es → Above low es
rise_above low last [] rise = tt
rise_above low last (e ∷ es) rise = (rise.0, above_less low e.number rise.0 es (rise_above e.number last es rise.2))

rise_rises : (low last : ℕ) (es : List PlainEntry) → NumbersRise low last es → Rises es
rise_rises low last [] rise = tt
rise_rises low last (e ∷ es) rise = (rise_above e.number last es rise.2, rise_rises e.number last es rise.2)

-- what is found is above
found_above : (low n : ℕ) (es : List PlainEntry) (x : PlainEntry) → Above low es → numbered n es ≡ Some x → low < n
found_above low n [] x above found = absurd (none_some found)
found_above low n (e ∷ es) x above found = by (e.number == n) refl found (found_above low n es x above.1)
  where
    by : (b : Bool) → (e.number == n) ≡ b → cond b (Some e) (numbered n es) ≡ Some x → (numbered n es ≡ Some x → low < n) → low < n
    by true is found rest = omega (arith, above.0, eqb-true e.number n is)
    by false is found rest = rest found

none_below : (low : ℕ) (es : List PlainEntry) → Above low es → numbered low es ≡ None
none_below low es above = by (numbered low es) refl
  where
    by : (o : Option PlainEntry) → numbered low es ≡ o → o ≡ None
    by None is = refl
    by (Some x) is = absurd (omega (arith, found_above low low es x above is))

-- rising lists with the same entry under each number are the same
pub same_list : (es fs : List PlainEntry) → Rises es → Rises fs → ((n : ℕ) → numbered n es ≡ numbered n fs) → es ≡ fs
same_list [] [] rise rises alike = refl
same_list [] (f ∷ fs) rise rises alike = absurd (none_some (alike f.number ∙ ap (λ b. cond b (Some f) (numbered f.number fs)) (eq-eqb f.number f.number refl)))
same_list (e ∷ es) [] rise rises alike = absurd (none_some (sym (alike e.number) ∙ ap (λ b. cond b (Some e) (numbered e.number es)) (eq-eqb e.number e.number refl)))
same_list (e ∷ es) (f ∷ fs) rise rises alike = by (same_list es fs rise.1 rises.1) (same_or_apart e.number f.number)
  where
    here_e : numbered e.number (e ∷ es) ≡ Some e
    here_e = ap (λ b. cond b (Some e) (numbered e.number es)) (eq-eqb e.number e.number refl)

    here_f : numbered f.number (f ∷ fs) ≡ Some f
    here_f = ap (λ b. cond b (Some f) (numbered f.number fs)) (eq-eqb f.number f.number refl)

    tails : e.number ≡ f.number → (n : ℕ) → numbered n es ≡ numbered n fs
    tails same n = of (same_or_apart n e.number)
      where
        of : ((n ≡ e.number) ⊎ (n ≡ e.number → ⊥)) → numbered n es ≡ numbered n fs
        of (inl is) = ap (λ m. numbered m es) is ∙ none_below e.number es rise.0 ∙ sym (ap (λ m. numbered m fs) (is ∙ same) ∙ none_below f.number fs rises.0)
        of (inr ne) =
            sym (ap (λ b. cond b (Some e) (numbered n es)) (apart_test e.number n (λ s. ne (sym s))))
            ∙ alike n
            ∙ ap (λ b. cond b (Some f) (numbered n fs)) (apart_test f.number n (λ s. ne (sym s ∙ sym same)))

    by : (((n : ℕ) → numbered n es ≡ numbered n fs) → es ≡ fs) → ((e.number ≡ f.number) ⊎ (e.number ≡ f.number → ⊥)) → (e ∷ es) ≡ (f ∷ fs)
    by rest_of (inl same) =
        let one : e ≡ f = same_some (sym here_e ∙ alike e.number ∙ ap (λ m. numbered m (f ∷ fs)) same ∙ here_f) in
        let rest = rest_of (tails same) in
        λ i. one i ∷ rest i
    by rest_of (inr ne) =
        let up : f.number < e.number = found_above f.number e.number fs e rises.0 (sym (ap (λ b. cond b (Some f) (numbered e.number fs)) (apart_test f.number e.number (λ s. ne (sym s)))) ∙ sym (alike e.number) ∙ here_e) in
        let down : e.number < f.number = found_above e.number f.number es f rise.0 (sym (ap (λ b. cond b (Some e) (numbered f.number es)) (apart_test e.number f.number ne)) ∙ alike f.number ∙ here_f) in
        absurd (omega (arith, up, down))

-- ---- what is stored, in its order

-- an entry, as the machine tells it
abbrev pub told_of : Meaning → Slot × Entry → PlainEntry
told_of m e = entry_told m e.0.number e.1

split : (a b : Bool) → T (a && b) → T a × T b
split true b h = (tt, h)
split false b h = absurd h

module _ (m : Meaning) (s : SessionNo) where
  -- a later entry of the session has a higher number
  later : (x y : Slot) → (x.session.0 == s.0) ≡ true → (y.session.0 == s.0) ≡ true → T (is_lt (slot_cmp x y)) → x.number < y.number
  later x y of of_too less = by (nat_cmp x.session.0 y.session.0) same less
    where
      one : x.session.0 ≡ y.session.0
      one = eqb-true x.session.0 s.0 of ∙ sym (eqb-true y.session.0 s.0 of_too)

      not_less : (n : ℕ) → nat_lt n n ≡ false
      not_less n = by (nat_lt n n) refl
        where
          by : (b : Bool) → nat_lt n n ≡ b → b ≡ false
          by true is = absurd (omega (arith, ltb-true n n is))
          by false is = refl

      same : nat_cmp x.session.0 y.session.0 ≡ Equal
      same =
          ap (nat_cmp x.session.0) (sym one)
          ∙ ap (λ b. cond b Less (cond (x.session.0 == x.session.0) Equal Greater)) (not_less x.session.0)
          ∙ ap (λ b. cond b Equal Greater) (eq-eqb x.session.0 x.session.0 refl)

      of_numbers : (b : Bool) → nat_lt x.number y.number ≡ b → (c : Bool) → T (is_lt (ordering_then (cond b Less (cond c Equal Greater)) Equal)) → x.number < y.number
      of_numbers true is c h = ltb-true x.number y.number is
      of_numbers false is true h = absurd h
      of_numbers false is false h = absurd h

      by : (o : Ordering) → o ≡ Equal → T (is_lt (ordering_then o (ordering_then (nat_cmp x.number y.number) Equal))) → x.number < y.number
      by Equal is h = of_numbers (nat_lt x.number y.number) refl (x.number == y.number) h
      by Less is h = absurd (unlike is)
        where
          unlike : Less ≡ Equal → ⊥
          unlike e = cc
      by Greater is h = absurd (unlike is)
        where
          unlike : Greater ≡ Equal → ⊥
          unlike e = cc

  stored_above : (x : Slot) (es : List (Slot × Entry)) → (x.session.0 == s.0) ≡ true → T (below_all slot_cmp x es) → Above x.number (map (told_of m) (filter (is_of s) es))
  stored_above x [] of below = tt
  stored_above x (e ∷ es) of below = let b = split (is_lt (slot_cmp x e.0)) (below_all slot_cmp x es) below in by (is_of s e) refl b.0 (stored_above x es of b.1)
    where
      by : (b : Bool) → is_of s e ≡ b → T (is_lt (slot_cmp x e.0)) → Above x.number (map (told_of m) (filter (is_of s) es)) → Above x.number (map (told_of m) (cond b (e ∷ filter (is_of s) es) (filter (is_of s) es)))
      by true is less rest = (later x e.0 of is less, rest)
      by false is less rest = rest

  stored_rises : (es : List (Slot × Entry)) → T (is_sorted slot_cmp es) → Rises (map (told_of m) (filter (is_of s) es))
  stored_rises [] sorted = tt
  stored_rises (e ∷ es) sorted = let b = split (below_all slot_cmp e.0 es) (is_sorted slot_cmp es) sorted in by (is_of s e) refl b.0 (stored_rises es b.1)
    where
      by : (b : Bool) → is_of s e ≡ b → T (below_all slot_cmp e.0 es) → Rises (map (told_of m) (filter (is_of s) es)) → Rises (map (told_of m) (cond b (e ∷ filter (is_of s) es) (filter (is_of s) es)))
      by true is below rest = (stored_above e.0 es is below, rest)
      by false is below rest = rest

  -- what is stored under a number is told under it
  stored_numbered : (n : ℕ) (es : List (Slot × Entry)) → numbered n (map (told_of m) (filter (is_of s) es)) ≡ option_map (entry_told m n) (finite.find slot_cmp (slot s n) es)
  stored_numbered n [] = refl
  stored_numbered n (e ∷ es) = by (e.0.session.0 == s.0) refl (e.0.number == n) refl (stored_numbered n es) ∙ sym (ap (λ b. option_map (entry_told m n) (cond b (Some e.1) (finite.find slot_cmp (slot s n) es))) (slot_ties (slot s n) e.0 ∙ (λ i. turned s.0 e.0.session.0 i && turned n e.0.number i)))
    where
      turned : (a b : ℕ) → (a == b) ≡ (b == a)
      turned a b = of (a == b) refl (b == a) refl
        where
          of : (p : Bool) → (a == b) ≡ p → (q : Bool) → (b == a) ≡ q → p ≡ q
          of true e true f = refl
          of false e false f = refl
          of true e false f = absurd (true_false (eq-eqb b a (sym (eqb-true a b e))) f)
          of false e true f = absurd (true_false (eq-eqb a b (sym (eqb-true b a f))) e)

      by : (b : Bool) → (e.0.session.0 == s.0) ≡ b → (c : Bool) → (e.0.number == n) ≡ c → numbered n (map (told_of m) (filter (is_of s) es)) ≡ option_map (entry_told m n) (finite.find slot_cmp (slot s n) es)
          → numbered n (map (told_of m) (cond b (e ∷ filter (is_of s) es) (filter (is_of s) es))) ≡ option_map (entry_told m n) (cond ((e.0.session.0 == s.0) && (e.0.number == n)) (Some e.1) (finite.find slot_cmp (slot s n) es))
      by false is c at rest = rest ∙ sym (ap (λ b. option_map (entry_told m n) (cond (b && (e.0.number == n)) (Some e.1) (finite.find slot_cmp (slot s n) es))) is)
      by true is true at rest =
          ap (λ b. cond b (Some (told_of m e)) (numbered n (map (told_of m) (filter (is_of s) es)))) at
          ∙ ap (λ q. Some (entry_told m q e.1)) (eqb-true e.0.number n at)
          ∙ sym ((λ i. option_map (entry_told m n) (cond (is i && at i) (Some e.1) (finite.find slot_cmp (slot s n) es))))
      by true is false at rest =
          ap (λ b. cond b (Some (told_of m e)) (numbered n (map (told_of m) (filter (is_of s) es)))) at
          ∙ rest
          ∙ sym ((λ i. option_map (entry_told m n) (cond (is i && at i) (Some e.1) (finite.find slot_cmp (slot s n) es))))

  -- the entries of a session are those that are stored, in their order
  pub entries_are : (copies : Copies) → AreOrderly copies → IsTold m s copies → copies.entries ≡ map (told_of m) (entries_of m s)
  entries_are copies orderly told =
      same_list copies.entries (map (told_of m) (entries_of m s)) (rise_rises 0 copies.last copies.entries orderly.numbers) (stored_rises (entries m.entries) (entries_sorted m.entries))
      (λ n. told.entries n ∙ ap (option_map (entry_told m n)) (get-entries m.entries (slot s n)) ∙ sym (stored_numbered n (entries m.entries)))
