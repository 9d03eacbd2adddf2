-- Shapes that are not the same differ first at some home.
use Rattle.std.proofs.Common.{ℕ, zero, suc, ◌≡◌, ◌⊎◌, ⊎_elim, inl, inr, ◌+◌, ◌-◌, ◌<◌, ◌≤◌, true, false, Bool, List, length, take, drop, refl, sym, ap, ◌∙◌, subst, arith, length-drop, length-take}
use Rattle.std.proofs.lemmas.Bool.{cases_lt}
use Rattle.std.proofs.lemmas.List.{take_all}
use Rattle.pss_recovery.specs.Shapes.{DifferAt, lines_of}
use Rattle.pss_recovery.specs.inner.Lines.{AgreeUpTo, EndsAt, IsNext, starts_at}
use Rattle.page_format.proofs.Decisions.{IsLeast, least_below}
use Rattle.pss_recovery.proofs.Differences.{agree_on, differ_here}
use Rattle.pss_recovery.proofs.FoundKeys.{same_decided, true_decided}
use Rattle.pss_recovery.proofs.HomeLines.{between_homes, one_home}

module _ (octets : List ℕ) where
  abbrev Starts : ℕ → ℕ → Type 0
  Starts from i = starts_at true octets (from + i) ≡ true

  not_true : (i : ℕ) → (starts_at true octets i ≡ true → ⊥) → starts_at true octets i ≡ false
  not_true i never = ⊎_elim (λ e. absurd (never e)) (λ e. e) (by (starts_at true octets i))
    where
      by : (b : Bool) → (b ≡ true) ⊎ (b ≡ false)
      by true = inl refl
      by false = inr refl

  -- from a place on the line of a home begins here first, or nowhere
  next_found : (from : ℕ) → from ≤ length octets → (place : ℕ) × IsNext octets from place
  next_found from within = ⊎_elim some none (least_below (Starts from) (λ i. true_decided (starts_at true octets (from + i))) (length octets - from))
    where
      some : ((k : ℕ) × (k < length octets - from) × IsLeast (Starts from) k) → (place : ℕ) × IsNext octets from place
      some found = (
        from + found.0,
        record {
          after = omega arith;
          within = omega (arith, found.1, within);
          before = λ i le lt. not_true i (λ e. found.2.least (i - from) (omega (arith, le, lt)) (subst (λ n. starts_at true octets n ≡ true) (let is : i ≡ from + (i - from) = omega (arith, le) in is) e));
          here = λ lt. found.2.has;
        },
      )

      none : ((k : ℕ) → k < length octets - from → Starts from k → ⊥) → (place : ℕ) × IsNext octets from place
      none never = (
        length octets,
        record {
          after = within;
          within = omega arith;
          before = λ i le lt. not_true i (λ e. never (i - from) (omega (arith, le, lt)) (subst (λ n. starts_at true octets n ≡ true) (let is : i ≡ from + (i - from) = omega (arith, le) in is) e));
          here = λ lt. absurd (omega (arith, lt));
        },
      )

  end_found : (end : ℕ) × EndsAt octets end
  end_found = let first = next_found 0 (omega arith) in ⊎_elim (λ lt. let second = next_found (first.0 + 1) (omega (arith, lt)) in (second.0, between_homes octets first.0 second.0 first.1 lt second.1)) (λ le. (length octets, one_home octets (λ i from lt. first.1.before i from (omega (arith, lt, le))))) (cases_lt first.0 (length octets))

module _ (shape other : List ℕ) (ne : shape ≡ other → ⊥) where
  -- nothing is left where the lines of both end at once
  no_end : (at home end their_end : ℕ) → AgreeUpTo shape other at home → EndsAt (drop at shape) end → EndsAt (drop at other) their_end → end ≡ 0 → take end (drop at shape) ≡ take their_end (drop at other) → ⊥
  no_end at home end their_end agree own their none same =
      let no_more : length (drop at shape) ≡ 0 = ⊎_elim (λ lt. absurd (let some = own.some lt in omega (arith, some, none))) (λ le. omega (arith, le)) (cases_lt 0 (length (drop at shape))) in
      let none_there : their_end ≡ 0 = omega (arith, ap length same, length-take end (drop at shape), length-take their_end (drop at other), none, their.within) in
      let no_others : length (drop at other) ≡ 0 = ⊎_elim (λ lt. absurd (let some = their.some lt in omega (arith, some, none_there))) (λ le. omega (arith, le)) (cases_lt 0 (length (drop at other))) in
      ne (sym (take_all at shape (omega (arith, no_more, length-drop at shape))) ∙ agree.front ∙ take_all at other (omega (arith, no_others, length-drop at other)))

  -- the lines of the home with this number differ, or those behind them do
  here_or : (at home : ℕ) → AgreeUpTo shape other at home
      → (take (end_found (drop at shape)).0 (drop at shape) ≡ take (end_found (drop at other)).0 (drop at other) → 0 < (end_found (drop at shape)).0 → (h : ℕ) × DifferAt shape other h)
      → (h : ℕ) × DifferAt shape other h
  here_or at home agree behind =
      let own = end_found (drop at shape) in
      let their = end_found (drop at other) in
      ⊎_elim (λ same. ⊎_elim (λ some. behind same some) (λ none. absurd (no_end at home own.0 their.0 agree own.1 their.1 (omega (arith, none)) same)) (cases_lt 0 own.0))
      (λ differ. (home, differ_here shape other at home own.0 their.0 agree own.1 their.1 differ)) (same_decided (take own.0 (drop at shape)) (take their.0 (drop at other)))

  differ_from : (fuel at home : ℕ) → length shape ≤ at + fuel → AgreeUpTo shape other at home → (h : ℕ) × DifferAt shape other h
  differ_from zero at home le agree = here_or at home agree (λ same some. absurd (omega (arith, (end_found (drop at shape)).1.within, length-drop at shape, le, some)))
  differ_from (suc fuel) at home le agree =
      here_or at home agree
      (λ same some.
      let own = end_found (drop at shape) in
      let their = end_found (drop at other) in
      differ_from fuel (at + own.0) (home + 1) (omega (arith, le, some)) (agree_on shape other at home own.0 their.0 agree own.1 their.1 same some))

  begun : AgreeUpTo shape other 0 1
  begun = record {
    within = omega arith;
    within_other = omega arith;
    some = omega arith;
    few = omega arith;
    front = refl;
    before = λ h lt. let zeroth : h ≡ 0 = omega (arith, lt) in ap (lines_of shape) zeroth ∙ sym (ap (lines_of other) zeroth);
    lines = λ h. ap (lines_of shape) (let e : 1 + h ≡ suc h = omega arith in e);
    lines_other = λ h. ap (lines_of other) (let e : 1 + h ≡ suc h = omega arith in e);
  }

  pub differ_found : (h : ℕ) × DifferAt shape other h
  differ_found = differ_from (length shape) 0 1 (omega arith) begun
