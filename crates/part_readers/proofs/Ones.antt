-- One element, and nothing.
use Rattle.std.proofs.Common.{◌≡◌, ℕ, List, [], ◌∷◌, length, Result, Ok, Err, Option, Some, None, refl, sym, ap, ◌∙◌, subst, inl}
use Rattle.part_readers.specs.Reading.{Reader, given, one}
use Rattle.part_readers.proofs.Law.{Language, SameHead, IsReader, Takes, Stops}
use Rattle.part_readers.proofs.Steps.{ok_is}

-- what an element stands for, told by part and spelled by back
module _ {A : Type 0} (l : Language) (d e : l.State) (fault : ℕ → l.Fault) (part : l.Element → Option A) (back : A → l.Element)
    (left : (n : ℕ) → l.left_of (fault n) ≡ n) (moves : (n m : ℕ) → l.moved (fault n) m ≡ fault m) (meets : (n : ℕ) (rest more : List l.Element) → l.Meets (fault n) d rest more)
    (told : (x : A) → part (back x) ≡ Some x) (only : (t : l.Element) (x : A) → part t ≡ Some x → t ≡ back x) (step : (x : A) → l.step d (back x) ≡ Some e) (some : A) where
  abbrev spelling : A → List l.Element
  spelling x = back x ∷ []

  abbrev reader : Reader l.Element l.Fault A
  reader = one fault part

  abbrev first : l.Element → List l.Element → Option A → Result (A × List l.Element) l.Fault
  first t toks o = given o (Err (fault (length (t ∷ toks)))) (λ x. Ok (x, toks))

  takes_first : (t : l.Element) (toks : List l.Element) (x : A) (rest : List l.Element) (o : Option A) → part t ≡ o → first t toks o ≡ Ok (x, rest) → Takes l d e reader spelling (t ∷ toks) x rest
  takes_first t toks x rest None h g = absurd cc
  takes_first t toks x rest (Some y) h g =
      let made : A × List l.Element = (y, toks) in
      subst (λ (m : A × List l.Element). Takes l d e reader spelling (t ∷ toks) m.0 m.1) (ok_is made (x, rest) g) (record {
        spelled = ap (λ (s : l.Element). s ∷ toks) (only t y h);
        again = λ other _. rw (told y) refl;
        level = rw (step y) refl;
      })

  takes_one : (toks : List l.Element) (x : A) (rest : List l.Element) → reader toks ≡ Ok (x, rest) → Takes l d e reader spelling toks x rest
  takes_one [] x rest h = absurd cc
  takes_one (t ∷ toks) x rest h = takes_first t toks x rest (part t) refl h

  stops_here : (toks : List l.Element) → ((other : List l.Element) → SameHead toks other → reader other ≡ Err (fault (length other))) → Stops l d reader spelling toks (fault (length toks))
  stops_here toks again = record {
    used = [];
    rest = toks;
    spelled = refl;
    left_is = left (length toks);
    still = λ other same. again other same ∙ ap (λ (f : l.Fault). Err f) (sym (moves (length toks) (length other)));
    tree = some;
    more = spelling some;
    begun = refl;
    state = d;
    level = refl;
    meets = meets (length toks) toks (spelling some);
  }

  fails_again : (t : l.Element) (toks other : List l.Element) → part t ≡ None → SameHead (t ∷ toks) other → reader other ≡ Err (fault (length other))
  fails_again t toks [] h same = absurd same
  fails_again t toks (u ∷ other) h same = rw (sym (ap part same) ∙ h) refl

  fails_at_end : (other : List l.Element) → SameHead {E = l.Element} [] other → reader other ≡ Err (fault (length other))
  fails_at_end [] same = refl
  fails_at_end (u ∷ other) same = absurd same

  stops_first : (t : l.Element) (toks : List l.Element) (f : l.Fault) (o : Option A) → part t ≡ o → first t toks o ≡ Err f → Stops l d reader spelling (t ∷ toks) f
  stops_first t toks f (Some y) h g = absurd cc
  stops_first t toks f None h g =
      let made : fault (length (t ∷ toks)) ≡ f = cc in
      subst (λ (k : l.Fault). Stops l d reader spelling (t ∷ toks) k) made (stops_here (t ∷ toks) (λ other same. fails_again t toks other h same))

  stops_one : (toks : List l.Element) (f : l.Fault) → reader toks ≡ Err f → Stops l d reader spelling toks f
  stops_one [] f h =
      let made : fault 0 ≡ f = cc in
      subst (λ (k : l.Fault). Stops l d reader spelling [] k) made (stops_here [] fails_at_end)
  stops_one (t ∷ toks) f h = stops_first t toks f (part t) refl h

  pub one_reads : (Ends : List l.Element → Type 0) → IsReader l d e reader spelling Ends
  one_reads Ends = record { takes = takes_one; reads = λ x rest _. inl (rw (told x) refl); stops = stops_one; some = some }
