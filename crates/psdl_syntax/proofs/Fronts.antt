-- Fronts of sentences, and at most one first fault.
use Rattle.std.proofs.Common.{◌≡◌, ℕ, zero, suc, ◌+◌, ◌-◌, ◌≤◌, ◌<◌, List, [], ◌∷◌, ◌++◌, length, take, drop, Option, Some, None, refl, sym, ap, subst, ◌∙◌, append_assoc, arith, inl, inr}
use Rattle.std.specs.Prelude.{IsSome, option_and_then}
use Rattle.std.proofs.lemmas.List.{take-append-drop, take-take, take_all}
use Rattle.std.proofs.lemmas.Bool.{cases_order}
use Rattle.part_readers.specs.Sentences.{Begins, IsFirstFault, steps}
use Rattle.psdl_syntax.specs.Seen.{Seen}
use Rattle.psdl_syntax.specs.Depth.{room, room_behind, IsFirstDeep, FitsBefore}

-- a front of a front
longer : {E : Type 0} (m n : ℕ) (es : List E) → m ≤ n → take n es ≡ take m es ++ drop m (take n es)
longer m n es le = sym (take-append-drop m (take n es)) ∙ ap (λ f. f ++ drop m (take n es)) (take-take m n es le)

-- what a sentence begins with, begins one in front too
begins_append : {E A : Type 0} (spell : A → List E) (front back : List E) → Begins spell (front ++ back) → Begins spell front
begins_append spell front back b = (back ++ b.0, b.1, sym (append_assoc front back b.0) ∙ b.2)

pub begins_front : {E A : Type 0} (spell : A → List E) (n : ℕ) (es : List E) → Begins spell es → Begins spell (take n es)
begins_front spell n es b = begins_append spell (take n es) (drop n es) (subst (Begins spell) (sym (take-append-drop n es)) b)

pub begins_before : {E A : Type 0} (spell : A → List E) (m n : ℕ) (es : List E) → m ≤ n → Begins spell (take n es) → Begins spell (take m es)
begins_before spell m n es le b = begins_append spell (take m es) (drop m (take n es)) (subst (Begins spell) (longer m n es le) b)

-- a step that was refused stays so
steps_none : {E S : Type 0} (step : S → E → Option S) (s : S) (front back : List E) → steps step s front ≡ None → steps step s (front ++ back) ≡ None
steps_none step s [] back h = absurd cc
steps_none {E} {S} step s (e ∷ es) back h = by_step (step s e) h (λ t g. steps_none step t es back g)
  where
    by_step : (o : Option S) → option_and_then (λ t. steps step t es) o ≡ None → ((t : S) → steps step t es ≡ None → steps step t (es ++ back) ≡ None) → option_and_then (λ t. steps step t (es ++ back)) o ≡ None
    by_step None h ih = refl
    by_step (Some t) h ih = ih t h

none_behind : (most n : ℕ) (es : List Seen) → room most (take n es) ≡ None → room most es ≡ None
none_behind most n es h = ap (room most) (sym (take-append-drop n es)) ∙ steps_none room_behind most (take n es) (drop n es) h

none_after : (most m n : ℕ) (es : List Seen) → m ≤ n → room most (take m es) ≡ None → room most (take n es) ≡ None
none_after most m n es le h = ap (room most) (longer m n es le) ∙ steps_none room_behind most (take m es) (drop m (take n es)) h

some_not_none : (o : Option ℕ) → IsSome o → o ≡ None → ⊥
some_not_none None h e = cc
some_not_none (Some x) h e = cc

module _ {A : Type 0} (spell : A → List Seen) (most : ℕ) (es : List Seen) where
  -- the fault nearer to the end is behind the other one
  first_behind : (l m : ℕ) → IsFirstFault spell es l → IsFirstFault spell es m → l < m → ⊥
  first_behind l m f g lt = g.element (omega arith) (begins_before spell (length es - m + 1) (length es - l) es (omega (arith, g.within)) f.before)

  pub one_first : (l m : ℕ) → IsFirstFault spell es l → IsFirstFault spell es m → l ≡ m
  one_first l m f g =
      elim (cases_order l m) [
        | inl same ↦ same
        | inr apart ↦ elim apart [ inl less ↦ absurd (first_behind l m f g less) | inr more ↦ absurd (first_behind m l g f more) ]
      ]

  deep_behind : (l m : ℕ) → IsFirstDeep most spell es l → IsFirstDeep most spell es m → l < m → ⊥
  deep_behind l m f g lt =
      let none : room most (take (length es - l) es) ≡ None = none_after most (length es - m + 1) (length es - l) es (omega (arith, g.within)) g.too_deep in
      let some = f.before in
      cc

  pub one_deep : (l m : ℕ) → IsFirstDeep most spell es l → IsFirstDeep most spell es m → l ≡ m
  one_deep l m f g =
      elim (cases_order l m) [
        | inl same ↦ same
        | inr apart ↦ elim apart [ inl less ↦ absurd (deep_behind l m f g less) | inr more ↦ absurd (deep_behind m l g f more) ]
      ]

  -- a bracket that opens too deep is a token
  deep_is_there : (m : ℕ) → IsFirstDeep most spell es m → 0 < m
  deep_is_there zero g =
      let all : take (length es - 0) es ≡ es = take_all (length es - 0) es (omega arith) in
      let more : take (length es - 0 + 1) es ≡ es = take_all (length es - 0 + 1) es (omega arith) in
      let some = ap (room most) (sym all) ∙ g.before in
      let none = ap (room most) (sym more) ∙ g.too_deep in
      absurd cc
  deep_is_there (suc m) g = omega arith

  -- no token is both unexpected and a bracket that opens too deep
  pub first_or_deep : (l m : ℕ) → IsFirstFault spell es l → FitsBefore most es l → IsFirstDeep most spell es m → ⊥
  first_or_deep l m f fits g =
      elim (cases_order l m) [
        | inl same ↦ at_or_behind (omega arith)
        | inr apart ↦ elim apart [ inl less ↦ before less | inr more ↦ at_or_behind (omega arith) ]
      ]
    where
      before : l < m → ⊥
      before lt = some_not_none (room most (take (length es - l) es)) fits (none_after most (length es - m + 1) (length es - l) es (omega (arith, g.within)) g.too_deep)

      at_or_behind : m ≤ l → ⊥
      at_or_behind le = f.element (omega (arith, deep_is_there m g)) (begins_before spell (length es - l + 1) (length es - m + 1) es (omega (arith, f.within)) g.expected)

  -- where all of it fits, nothing opens too deep
  pub all_fits : (m : ℕ) → IsSome (room most es) → IsFirstDeep most spell es m → ⊥
  all_fits m fits g = some_not_none (room most es) fits (none_behind most (length es - m + 1) es g.too_deep)
