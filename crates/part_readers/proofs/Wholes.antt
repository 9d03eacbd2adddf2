-- What reading all there is says.
use Rattle.std.proofs.Common.{◌≡◌, ℕ, ◌+◌, ◌-◌, ◌<◌, List, [], ◌∷◌, ◌++◌, length, take, Result, Ok, Err, refl, sym, ap, subst, ◌∙◌, append_assoc, arith, ◌⊎◌, inl, inr, length-append}
use Rattle.std.specs.Prelude.{Some}
use Rattle.std.proofs.lemmas.List.{append-nil, take_at}
use Rattle.part_readers.specs.Reading.{Reader, finished, whole}
use Rattle.part_readers.specs.Sentences.{Begins, IsFirstFault}
use Rattle.part_readers.proofs.Law.{Language, run, SameHead, IsReader, IsExcused, Takes, Stops}
use Rattle.part_readers.proofs.Steps.{bind_ok, bind_err, done, ok_is, head_same}

-- the front of a list that was cut
pub front_is : {E : Type 0} (toks used rest : List E) (left : ℕ) → toks ≡ used ++ rest → left ≡ length rest → take (length toks - left) toks ≡ used
front_is toks used rest left cut is =
    let n : length toks - left ≡ length used = omega (arith, ap length cut, is, length-append used rest) in
    rw (n, cut) (take_at used rest (length used) refl)

-- the front with the element behind it
pub front_plus : {E : Type 0} (toks used : List E) (t : E) (after : List E) (left : ℕ) → toks ≡ used ++ t ∷ after → left ≡ length (t ∷ after) → take (length toks - left + 1) toks ≡ used ++ t ∷ []
front_plus {E} toks used t after left cut is =
    let n : length toks - left + 1 ≡ length (used ++ t ∷ []) = omega (arith, ap length cut, is, length-append used (t ∷ after), length-append used (t ∷ [])) in
    let regrouped : toks ≡ (used ++ t ∷ []) ++ after = cut ∙ sym (append_assoc used (t ∷ []) after) in
    rw (n, regrouped) (take_at (used ++ t ∷ []) after (length (used ++ t ∷ [])) refl)

module _ {A : Type 0} (l : Language) (fault : ℕ → l.Fault) (left : (n : ℕ) → l.left_of (fault n) ≡ n) (kept : (f : l.Fault) (n : ℕ) → l.Excuses (l.moved f n) → l.Excuses f) (no_excuse : (n : ℕ) → l.Excuses (fault n) → ⊥)
    (d e : l.State) (r : Reader l.Element l.Fault A) (s : A → List l.Element) (Ends : List l.Element → Type 0) (is : IsReader l d e r s Ends) (at_end : Ends []) where
  abbrev all_read : List l.Element → Result A l.Fault
  all_read = whole fault r

  finished_ok : (x y : A) (rest : List l.Element) → finished fault x rest ≡ done y → (x ≡ y) × (rest ≡ [])
  finished_ok x y [] h = (ok_is x y h, refl)
  finished_ok x y (t ∷ rest) h = absurd cc

  finished_err : (x : A) (rest : List l.Element) (f : l.Fault) → finished fault x rest ≡ Err f → (t : l.Element) × (after : List l.Element) × (rest ≡ t ∷ after) × (f ≡ fault (length rest))
  finished_err x [] f h = absurd cc
  finished_err x (t ∷ rest) f h = (t, rest, refl, cc)

  sentence_reads : (x : A) → (r (s x) ≡ Ok (x, [])) ⊎ IsExcused l (r (s x))
  sentence_reads x = subst (λ (k : List l.Element). (r k ≡ Ok (x, [])) ⊎ IsExcused l (r k)) (append-nil (s x)) (is.reads x [] at_end)

  not_read : (toks : List l.Element) (f : l.Fault) (x : A) → (l.Excuses f → ⊥) → toks ≡ s x → r toks ≡ Err f → ⊥
  not_read toks f x none same fails =
      elim (sentence_reads x) [
        | inl ok ↦ absurd (let h : r (s x) ≡ Err f = ap r (sym same) ∙ fails in cc)
        | inr late ↦ none (subst l.Excuses (let h : r (s x) ≡ Err f = ap r (sym same) ∙ fails in let g = late.1 in cc) late.2)
      ]

  not_more : (toks : List l.Element) (x : A) (t : l.Element) (after : List l.Element) (y : A) → toks ≡ s y → r toks ≡ Ok (x, t ∷ after) → ⊥
  not_more toks x t after y same reads =
      let h : r (s y) ≡ Ok (x, t ∷ after) = ap r (sym same) ∙ reads in
      elim (sentence_reads y) [
        | inl ok ↦ (let pair = ok_is (y, []) (x, t ∷ after) (sym ok ∙ h) in let rests : [] ≡ t ∷ after = ap (λ (p : A × List l.Element). p.1) pair in absurd cc)
        | inr late ↦ absurd (let g = late.1 in cc)
      ]

  -- what is given is spelled so
  pub found : (toks : List l.Element) (x : A) → all_read toks ≡ Ok x → (toks ≡ s x) × (run l d toks ≡ Some e)
  found toks x h =
      let a = bind_ok (r toks) (λ y. finished fault y.0 y.1) x h in
      let t = is.takes toks a.0.0 a.0.1 a.1 in
      let c = finished_ok a.0.0 x a.0.1 a.2 in
      let cut : toks ≡ s a.0.0 = t.spelled ∙ ap (λ (k : List l.Element). s a.0.0 ++ k) c.1 ∙ append-nil (s a.0.0) in
      (cut ∙ ap s c.0, ap (run l d) cut ∙ t.level)

  -- what is spelled so is given, unless an excused fault is met
  pub given_again : (x : A) → (all_read (s x) ≡ Ok x) ⊎ IsExcused l (all_read (s x))
  given_again x =
      elim (sentence_reads x) [
        | inl ok ↦ inl (rw ok refl)
        | inr late ↦ inr (late.0, rw late.1 refl, late.2)
      ]

  -- an excused fault is one of the reader
  pub excused_stops : (toks : List l.Element) (f : l.Fault) → l.Excuses f → all_read toks ≡ Err f → Stops l d r s toks f
  excused_stops toks f excuse h =
      elim (bind_err (r toks) (λ y. finished fault y.0 y.1) f h) [
        | inl fails ↦ is.stops toks f fails
        | inr a ↦ absurd (let c = finished_err a.0.0 a.0.1 f a.2 in no_excuse (length a.0.1) (subst l.Excuses c.3 excuse))
      ]

  stop_is_first : (toks : List l.Element) (f : l.Fault) → (l.Excuses f → ⊥) → Stops l d r s toks f → IsFirstFault s toks (l.left_of f)
  stop_is_first toks f none p =
      record {
        within = omega (arith, ap length p.spelled, p.left_is, length-append p.used p.rest);
        before = (p.more, p.tree, ap (λ (k : List l.Element). k ++ p.more) (front_is toks p.used p.rest (l.left_of f) p.spelled p.left_is) ∙ p.begun);
        element = λ some begins. at_element p.rest refl some begins;
        no_sentence = λ x same. not_read toks (l.moved f (length p.rest)) x (λ excuse. none (kept f (length p.rest) excuse)) same (ap r p.spelled ∙ p.still p.rest (head_same p.rest));
      }
    where
      at_element : (rest : List l.Element) → p.rest ≡ rest → 0 < l.left_of f → Begins s (take (length toks - l.left_of f + 1) toks) → ⊥
      at_element [] h some begins = omega (arith, p.left_is, ap length h)
      at_element (t ∷ after) h some begins =
          let cut = front_plus toks p.used t after (l.left_of f) (p.spelled ∙ ap (λ (k : List l.Element). p.used ++ k) h) (p.left_is ∙ ap length h) in
          let same : p.used ++ t ∷ begins.0 ≡ s begins.1 = sym (append_assoc p.used (t ∷ []) begins.0) ∙ ap (λ (k : List l.Element). k ++ begins.0) (sym cut) ∙ begins.2 in
          let heads : SameHead p.rest (t ∷ begins.0) = subst (λ (k : List l.Element). SameHead k (t ∷ begins.0)) (sym h) refl in
          not_read (p.used ++ t ∷ begins.0) (l.moved f (length (t ∷ begins.0))) begins.1 (λ excuse. none (kept f (length (t ∷ begins.0)) excuse)) same (p.still (t ∷ begins.0) heads)

  rest_is_first : (toks : List l.Element) (x : A) (t : l.Element) (after : List l.Element) → Takes l d e r s toks x (t ∷ after) → IsFirstFault s toks (length (t ∷ after))
  rest_is_first toks x t after p =
      record {
        within = omega (arith, ap length p.spelled, length-append (s x) (t ∷ after));
        before = ([], x, append-nil (take (length toks - length (t ∷ after)) toks) ∙ front_is toks (s x) (t ∷ after) (length (t ∷ after)) p.spelled refl);
        element = λ some begins.
            (let cut = front_plus toks (s x) t after (length (t ∷ after)) p.spelled refl in
            let same : s x ++ t ∷ begins.0 ≡ s begins.1 = sym (append_assoc (s x) (t ∷ []) begins.0) ∙ ap (λ (k : List l.Element). k ++ begins.0) (sym cut) ∙ begins.2 in
            not_more (s x ++ t ∷ begins.0) x t begins.0 begins.1 same (p.again (t ∷ begins.0) refl));
        no_sentence = λ y same. not_more toks x t after y same (ap r p.spelled ∙ p.again (t ∷ after) refl);
      }

  -- another fault is the first
  pub first_fault : (toks : List l.Element) (f : l.Fault) → (l.Excuses f → ⊥) → all_read toks ≡ Err f → IsFirstFault s toks (l.left_of f)
  first_fault toks f none h =
      elim (bind_err (r toks) (λ y. finished fault y.0 y.1) f h) [
        | inl fails ↦ stop_is_first toks f none (is.stops toks f fails)
        | inr a ↦
            let c = finished_err a.0.0 a.0.1 f a.2 in
            let n : length (c.0 ∷ c.1) ≡ l.left_of f = sym (ap l.left_of c.3 ∙ left (length a.0.1) ∙ ap length c.2) in
            let t : Takes l d e r s toks a.0.0 (c.0 ∷ c.1) = subst (λ (k : List l.Element). Takes l d e r s toks a.0.0 k) c.2 (is.takes toks a.0.0 a.0.1 a.1) in
            subst (IsFirstFault s toks) n (rest_is_first toks a.0.0 c.0 c.1 t)
      ]

  level_of_stop : (toks : List l.Element) (f : l.Fault) → Stops l d r s toks f → (state : l.State) × (run l d (take (length toks - l.left_of f) toks) ≡ Some state)
  level_of_stop toks f p = (p.state, ap (run l d) (front_is toks p.used p.rest (l.left_of f) p.spelled p.left_is) ∙ p.level)

  level_of_rest : (toks rest : List l.Element) (x : A) (f : l.Fault) → f ≡ fault (length rest) → Takes l d e r s toks x rest → (state : l.State) × (run l d (take (length toks - l.left_of f) toks) ≡ Some state)
  level_of_rest toks rest x f is t = (e, ap (run l d) (front_is toks (s x) rest (l.left_of f) t.spelled (ap l.left_of is ∙ left (length rest))) ∙ t.level)

  -- no step before a fault is refused
  pub level_before : (toks : List l.Element) (f : l.Fault) → all_read toks ≡ Err f → (state : l.State) × (run l d (take (length toks - l.left_of f) toks) ≡ Some state)
  level_before toks f h =
      elim (bind_err (r toks) (λ y. finished fault y.0 y.1) f h) [
        | inl fails ↦ level_of_stop toks f (is.stops toks f fails)
        | inr a ↦ level_of_rest toks a.0.1 a.0.0 f (finished_err a.0.0 a.0.1 f a.2).3 (is.takes toks a.0.0 a.0.1 a.1)
      ]
