-- A part or another, by the element that starts it.
use Rattle.std.proofs.Common.{◌≡◌, Bool, true, false, cond, List, [], ◌++◌, Result, Ok, Err, Option, Some, None, refl, subst, ◌⊎◌, inl, inr}
use Rattle.part_readers.specs.Sentences.{maybe}
use Rattle.part_readers.specs.Reading.{Reader, starts, mapped, either, optional}
use Rattle.part_readers.proofs.Law.{Language, IsReader, IsExcused, Takes, Stops}
use Rattle.part_readers.proofs.Steps.{bind_ok, bind_err, ok_is, test_through}

abbrev pub either_tokens : {E A B : Type 0} → (A → List E) → (B → List E) → A ⊎ B → List E
either_tokens s t (inl x) = s x
either_tokens s t (inr y) = t y

module _ {A B : Type 0} (l : Language) (d e : l.State) (is : l.Element → Bool) (r1 : Reader l.Element l.Fault A) (r2 : Reader l.Element l.Fault B) (s1 : A → List l.Element) (s2 : B → List l.Element) (Ends : List l.Element → Type 0)
    (is1 : IsReader l d e r1 s1 Ends) (is2 : IsReader l d e r2 s2 Ends)
    (there : (x : A) (rest : List l.Element) → starts is (s1 x ++ rest) ≡ true) (elsewhere : (y : B) (rest : List l.Element) → Ends rest → starts is (s2 y ++ rest) ≡ false) where
  abbrev reader : Reader l.Element l.Fault (A ⊎ B)
  reader = either is r1 r2

  abbrev spelling : A ⊎ B → List l.Element
  spelling = either_tokens s1 s2

  abbrev picked : List l.Element → Bool → Result ((A ⊎ B) × List l.Element) l.Fault
  picked toks b = cond b (mapped inl r1 toks) (mapped inr r2 toks)

  first_taken : (toks rest : List l.Element) (x : A) → starts is toks ≡ true → Takes l d e r1 s1 toks x rest → Takes l d e reader spelling toks (inl x) rest
  first_taken toks rest x h t = record { spelled = t.spelled; again = λ other same. rw (test_through is true toks (s1 x) rest other h t.spelled same, t.again other same) refl; level = t.level }

  second_taken : (toks rest : List l.Element) (y : B) → starts is toks ≡ false → Takes l d e r2 s2 toks y rest → Takes l d e reader spelling toks (inr y) rest
  second_taken toks rest y h t = record { spelled = t.spelled; again = λ other same. rw (test_through is false toks (s2 y) rest other h t.spelled same, t.again other same) refl; level = t.level }

  takes_by : (b : Bool) (toks : List l.Element) (z : A ⊎ B) (rest : List l.Element) → starts is toks ≡ b → picked toks b ≡ Ok (z, rest) → Takes l d e reader spelling toks z rest
  takes_by true toks z rest h g =
      let a = bind_ok (r1 toks) (λ x. Ok (inl x.0, x.1)) (z, rest) g in
      let made : (A ⊎ B) × List l.Element = (inl a.0.0, a.0.1) in
      subst (λ (m : (A ⊎ B) × List l.Element). Takes l d e reader spelling toks m.0 m.1) (ok_is made (z, rest) a.2) (first_taken toks a.0.1 a.0.0 h (is1.takes toks a.0.0 a.0.1 a.1))
  takes_by false toks z rest h g =
      let a = bind_ok (r2 toks) (λ x. Ok (inr x.0, x.1)) (z, rest) g in
      let made : (A ⊎ B) × List l.Element = (inr a.0.0, a.0.1) in
      subst (λ (m : (A ⊎ B) × List l.Element). Takes l d e reader spelling toks m.0 m.1) (ok_is made (z, rest) a.2) (second_taken toks a.0.1 a.0.0 h (is2.takes toks a.0.0 a.0.1 a.1))

  reads_it : (z : A ⊎ B) (rest : List l.Element) → Ends rest → (reader (spelling z ++ rest) ≡ Ok (z, rest)) ⊎ IsExcused l (reader (spelling z ++ rest))
  reads_it (inl x) rest h =
      elim (is1.reads x rest h) [
        | inl ok ↦ inl (rw (there x rest, ok) refl)
        | inr late ↦ inr (late.0, rw (there x rest, late.1) refl, late.2)
      ]
  reads_it (inr y) rest h =
      elim (is2.reads y rest h) [
        | inl ok ↦ inl (rw (elsewhere y rest h, ok) refl)
        | inr late ↦ inr (late.0, rw (elsewhere y rest h, late.1) refl, late.2)
      ]

  first_stops : (toks : List l.Element) (f : l.Fault) → starts is toks ≡ true → Stops l d r1 s1 toks f → Stops l d reader spelling toks f
  first_stops toks f h p = record {
    used = p.used;
    rest = p.rest;
    spelled = p.spelled;
    left_is = p.left_is;
    still = λ other same. rw (test_through is true toks p.used p.rest other h p.spelled same, p.still other same) refl;
    tree = inl p.tree;
    more = p.more;
    begun = p.begun;
    state = p.state;
    level = p.level;
    meets = p.meets;
  }

  second_stops : (toks : List l.Element) (f : l.Fault) → starts is toks ≡ false → Stops l d r2 s2 toks f → Stops l d reader spelling toks f
  second_stops toks f h p = record {
    used = p.used;
    rest = p.rest;
    spelled = p.spelled;
    left_is = p.left_is;
    still = λ other same. rw (test_through is false toks p.used p.rest other h p.spelled same, p.still other same) refl;
    tree = inr p.tree;
    more = p.more;
    begun = p.begun;
    state = p.state;
    level = p.level;
    meets = p.meets;
  }

  stops_by : (b : Bool) (toks : List l.Element) (f : l.Fault) → starts is toks ≡ b → picked toks b ≡ Err f → Stops l d reader spelling toks f
  stops_by true toks f h g =
      elim (bind_err (r1 toks) (λ x. Ok (inl x.0, x.1)) f g) [
        | inl first ↦ first_stops toks f h (is1.stops toks f first)
        | inr a ↦ absurd cc
      ]
  stops_by false toks f h g =
      elim (bind_err (r2 toks) (λ x. Ok (inr x.0, x.1)) f g) [
        | inl first ↦ second_stops toks f h (is2.stops toks f first)
        | inr a ↦ absurd cc
      ]

  pub either_reads : IsReader l d e reader spelling Ends
  either_reads = record {
    takes = λ toks z rest g. takes_by (starts is toks) toks z rest refl g;
    reads = reads_it;
    stops = λ toks f g. stops_by (starts is toks) toks f refl g;
    some = inl is1.some;
  }

module _ {A : Type 0} (l : Language) (d : l.State) (is : l.Element → Bool) (r : Reader l.Element l.Fault A) (s : A → List l.Element) (Ends : List l.Element → Type 0)
    (is1 : IsReader l d d r s Ends) (there : (x : A) (rest : List l.Element) → starts is (s x ++ rest) ≡ true) where
  abbrev option_reader : Reader l.Element l.Fault (Option A)
  option_reader = optional is r

  abbrev option_spelling : Option A → List l.Element
  option_spelling = maybe s

  abbrev option_picked : List l.Element → Bool → Result (Option A × List l.Element) l.Fault
  option_picked toks b = cond b (mapped Some r toks) (Ok (None, toks))

  option_taken : (toks rest : List l.Element) (x : A) → starts is toks ≡ true → Takes l d d r s toks x rest → Takes l d d option_reader option_spelling toks (Some x) rest
  option_taken toks rest x h t = record { spelled = t.spelled; again = λ other same. rw (test_through is true toks (s x) rest other h t.spelled same, t.again other same) refl; level = t.level }

  option_takes_by : (b : Bool) (toks : List l.Element) (z : Option A) (rest : List l.Element) → starts is toks ≡ b → option_picked toks b ≡ Ok (z, rest) → Takes l d d option_reader option_spelling toks z rest
  option_takes_by true toks z rest h g =
      let a = bind_ok (r toks) (λ x. Ok (Some x.0, x.1)) (z, rest) g in
      let made : Option A × List l.Element = (Some a.0.0, a.0.1) in
      subst (λ (m : Option A × List l.Element). Takes l d d option_reader option_spelling toks m.0 m.1) (ok_is made (z, rest) a.2) (option_taken toks a.0.1 a.0.0 h (is1.takes toks a.0.0 a.0.1 a.1))
  option_takes_by false toks z rest h g =
      let made : Option A × List l.Element = (None, toks) in
      subst (λ (m : Option A × List l.Element). Takes l d d option_reader option_spelling toks m.0 m.1) (ok_is made (z, rest) g) (record {
        spelled = refl;
        again = λ other same. rw (test_through is false toks [] toks other h refl same) refl;
        level = refl;
      })

  option_reads_it : (z : Option A) (rest : List l.Element) → (starts is rest ≡ false) × Ends rest → (option_reader (option_spelling z ++ rest) ≡ Ok (z, rest)) ⊎ IsExcused l (option_reader (option_spelling z ++ rest))
  option_reads_it None rest h = inl (rw h.0 refl)
  option_reads_it (Some x) rest h =
      elim (is1.reads x rest h.1) [
        | inl ok ↦ inl (rw (there x rest, ok) refl)
        | inr late ↦ inr (late.0, rw (there x rest, late.1) refl, late.2)
      ]

  option_stops_in : (toks : List l.Element) (f : l.Fault) → starts is toks ≡ true → Stops l d r s toks f → Stops l d option_reader option_spelling toks f
  option_stops_in toks f h p = record {
    used = p.used;
    rest = p.rest;
    spelled = p.spelled;
    left_is = p.left_is;
    still = λ other same. rw (test_through is true toks p.used p.rest other h p.spelled same, p.still other same) refl;
    tree = Some p.tree;
    more = p.more;
    begun = p.begun;
    state = p.state;
    level = p.level;
    meets = p.meets;
  }

  option_stops_by : (b : Bool) (toks : List l.Element) (f : l.Fault) → starts is toks ≡ b → option_picked toks b ≡ Err f → Stops l d option_reader option_spelling toks f
  option_stops_by true toks f h g =
      elim (bind_err (r toks) (λ x. Ok (Some x.0, x.1)) f g) [
        | inl first ↦ option_stops_in toks f h (is1.stops toks f first)
        | inr a ↦ absurd cc
      ]
  option_stops_by false toks f h g = absurd cc

  pub optional_reads : IsReader l d d option_reader option_spelling (λ rest. (starts is rest ≡ false) × Ends rest)
  optional_reads = record {
    takes = λ toks z rest g. option_takes_by (starts is toks) toks z rest refl g;
    reads = option_reads_it;
    stops = λ toks f g. option_stops_by (starts is toks) toks f refl g;
    some = None;
  }
