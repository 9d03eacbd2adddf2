-- A bracket, what it encloses, and its end.
use Rattle.std.proofs.Common.{◌≡◌, ℕ, zero, suc, List, [], ◌∷◌, ◌++◌, length, Result, Ok, Err, Option, Some, None, refl, sym, ap, subst, ◌∙◌, inr}
use Rattle.part_readers.specs.Reading.{given, both, one}
use Rattle.part_readers.proofs.Law.{SameHead, IsExcused, Stops}
use Rattle.part_readers.proofs.Boths.{both_reads, mapped_reads, both_tokens}
use Rattle.psdl_syntax.specs.declared.fault.Fault.{Fault}
use Rattle.psdl_syntax.specs.declared.fault.Fault.TheVariants.{Unexpected, TooDeep}
use Rattle.psdl_tokens.specs.declared.token.Mark.{Mark}
use Rattle.psdl_syntax.specs.Seen.{Seen, Sign}
use Rattle.psdl_syntax.specs.Depth.{room_behind, room_behind_mark}
use Rattle.psdl_syntax.specs.Productions.{Reads, sign_at, opened, enclosed}
use Rattle.psdl_syntax.proofs.Psdl.{psdl, Keeps, token_keeps, sign_keeps}

module _ {O B : Type 0} (part : Seen → Option O) (back : O → Seen) (told : (x : O) → part (back x) ≡ Some x) (only : (t : Seen) (x : O) → part t ≡ Some x → t ≡ back x)
    (step : (c : ℕ) (x : O) → room_behind (suc c) (back x) ≡ Some c) (none : (x : O) → room_behind 0 (back x) ≡ None) (some_o : O)
    (close : Mark) (shut : (c : ℕ) → room_behind_mark c close ≡ Some (suc c))
    (inner : Reads B) (s : B → List Seen) (some_b : B) (EndsI : List Seen → Type 0) (apart : (rest : List Seen) → EndsI (Sign close ∷ rest)) where
  abbrev spelling : O × B → List Seen
  spelling p = back p.0 ∷ (s p.1 ++ Sign close ∷ [])

  abbrev reader : ℕ → Reads (O × B)
  reader = enclosed part close inner

  abbrev refused : Seen → List Seen → Option O → Result (O × List Seen) Fault
  refused t toks o = given o (Err (Unexpected (length (t ∷ toks)))) (λ x. Err (TooDeep (length (t ∷ toks))))

  -- where no bracket may open
  closed_first : (t : Seen) (toks : List Seen) (o : Option O) → part t ≡ o → (f : Fault) → refused t toks o ≡ Err f → Stops psdl zero (reader zero) spelling (t ∷ toks) f
  unfolding opened
  closed_first t toks None h f e =
      let made : Unexpected (length (t ∷ toks)) ≡ f = cc in
      subst (λ (g : Fault). Stops psdl zero (reader zero) spelling (t ∷ toks) g) made (record {
        used = [];
        rest = t ∷ toks;
        spelled = refl;
        left_is = refl;
        still = again;
        tree = (some_o, some_b);
        more = spelling (some_o, some_b);
        begun = refl;
        state = zero;
        level = refl;
        meets = tt;
      })
    where
      again : (other : List Seen) → SameHead (t ∷ toks) other → reader zero other ≡ Err (Unexpected (length other))
      again [] same = absurd same
      again (u ∷ other) same = rw (sym (ap part same) ∙ h) refl
  closed_first t toks (Some x) h f e =
      let made : TooDeep (length (t ∷ toks)) ≡ f = cc in
      let is : t ≡ back x = only t x h in
      subst (λ (g : Fault). Stops psdl zero (reader zero) spelling (t ∷ toks) g) made (record {
        used = [];
        rest = t ∷ toks;
        spelled = refl;
        left_is = refl;
        still = again;
        tree = (x, some_b);
        more = spelling (x, some_b);
        begun = refl;
        state = zero;
        level = refl;
        meets = (t, toks, s some_b ++ Sign close ∷ [], refl, ap (λ (u : Seen). u ∷ (s some_b ++ Sign close ∷ [])) (sym is), refl, ap (room_behind 0) is ∙ none x);
      })
    where
      again : (other : List Seen) → SameHead (t ∷ toks) other → reader zero other ≡ Err (TooDeep (length other))
      again [] same = absurd same
      again (u ∷ other) same = rw (sym (ap part same) ∙ h) refl

  closed_takes_first : (t : Seen) (toks : List Seen) (o : Option O) → part t ≡ o → (z : O × B) (rest : List Seen) → reader zero (t ∷ toks) ≡ Ok (z, rest) → ⊥
  unfolding opened
  closed_takes_first t toks None h z rest e = absurd (let g : reader zero (t ∷ toks) ≡ Err (Unexpected (length (t ∷ toks))) = rw h refl in cc)
  closed_takes_first t toks (Some x) h z rest e = absurd (let g : reader zero (t ∷ toks) ≡ Err (TooDeep (length (t ∷ toks))) = rw h refl in cc)

  closed_takes : (toks : List Seen) (z : O × B) (rest : List Seen) → reader zero toks ≡ Ok (z, rest) → ⊥
  unfolding opened
  closed_takes [] z rest e = absurd cc
  closed_takes (t ∷ toks) z rest e = closed_takes_first t toks (part t) refl z rest e

  closed_reads : (z : O × B) (rest : List Seen) → IsExcused psdl (reader zero (spelling z ++ rest))
  unfolding opened
  closed_reads z rest = (TooDeep (length (spelling z ++ rest)), rw (told z.0) refl, tt)

  closed_stops_first : (t : Seen) (toks : List Seen) (o : Option O) → part t ≡ o → (f : Fault) → reader zero (t ∷ toks) ≡ Err f → Stops psdl zero (reader zero) spelling (t ∷ toks) f
  unfolding opened
  closed_stops_first t toks None h f e = closed_first t toks None h f (let g : reader zero (t ∷ toks) ≡ Err (Unexpected (length (t ∷ toks))) = rw h refl in cc)
  closed_stops_first t toks (Some x) h f e = closed_first t toks (Some x) h f (let g : reader zero (t ∷ toks) ≡ Err (TooDeep (length (t ∷ toks))) = rw h refl in cc)

  closed_stops : (toks : List Seen) (f : Fault) → reader zero toks ≡ Err f → Stops psdl zero (reader zero) spelling toks f
  unfolding opened
  closed_stops [] f e =
      let made : Unexpected 0 ≡ f = cc in
      subst (λ (g : Fault). Stops psdl zero (reader zero) spelling [] g) made (record {
        used = [];
        rest = [];
        spelled = refl;
        left_is = refl;
        still = again;
        tree = (some_o, some_b);
        more = spelling (some_o, some_b);
        begun = refl;
        state = zero;
        level = refl;
        meets = tt;
      })
    where
      again : (other : List Seen) → SameHead {E = Seen} [] other → reader zero other ≡ Err (Unexpected (length other))
      again [] same = refl
      again (u ∷ other) same = absurd same
  closed_stops (t ∷ toks) f e = closed_stops_first t toks (part t) refl f e

  abbrev paired : O × (B × Unit {0}) → O × B
  paired p = (p.0, p.1.0)

  abbrev apart_pair : O × B → O × (B × Unit {0})
  apart_pair p = (p.0, (p.1, tt))

  pub enclosed_keeps : (d : ℕ) → ((c : ℕ) → d ≡ suc c → Keeps c c inner s EndsI) → (E : List Seen → Type 0) → Keeps d d (reader d) spelling E
  unfolding opened
  enclosed_keeps zero is E = record { takes = λ toks z rest e. absurd (closed_takes toks z rest e); reads = λ z rest h. inr (closed_reads z rest); stops = closed_stops; some = (some_o, some_b) }
  enclosed_keeps (suc c) is E =
      mapped_reads psdl (suc c) (suc c) paired apart_pair (both (one Unexpected part) (both inner (sign_at close))) (both_tokens (λ x. back x ∷ []) (both_tokens s (λ x. Sign close ∷ []))) spelling E
      (both_reads psdl (suc c) c (suc c) (one Unexpected part) (both inner (sign_at close)) (λ x. back x ∷ []) (both_tokens s (λ x. Sign close ∷ [])) (λ rest. Unit {0}) E
      (token_keeps (suc c) c part back told only (step c) some_o (λ rest. Unit {0}))
      (both_reads psdl c c (suc c) inner (sign_at close) s (λ x. Sign close ∷ []) EndsI E (is c refl) (sign_keeps close c (suc c) (shut c) E) (λ y rest h. apart rest))
      (λ y rest h. tt))
      (λ y. refl) (λ x. refl)
