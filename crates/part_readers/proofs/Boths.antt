-- One part behind another, and parts seen as other things.
use Rattle.std.proofs.Common.{◌≡◌, List, ◌++◌, Ok, Err, refl, sym, ap, ◌∙◌, subst, ◌⊎◌, inl, inr, append_assoc}
use Rattle.part_readers.specs.Reading.{◌>>=◌, Reader, mapped, both}
use Rattle.part_readers.proofs.Law.{Language, IsReader, IsExcused, Takes, Stops}
use Rattle.part_readers.proofs.Steps.{bind_ok, bind_err, ok_is, head_through, run_append}

abbrev pub both_tokens : {E A B : Type 0} → (A → List E) → (B → List E) → A × B → List E
both_tokens s t p = s p.0 ++ t p.1

module _ {A B : Type 0} (l : Language) (d e g : l.State) (r1 : Reader l.Element l.Fault A) (r2 : Reader l.Element l.Fault B) (s1 : A → List l.Element) (s2 : B → List l.Element) (Ends1 Ends2 : List l.Element → Type 0)
    (is1 : IsReader l d e r1 s1 Ends1) (is2 : IsReader l e g r2 s2 Ends2) (apart : (y : B) (rest : List l.Element) → Ends2 rest → Ends1 (s2 y ++ rest)) where
  both_taken : (toks mid rest : List l.Element) (x : A) (y : B) → Takes l d e r1 s1 toks x mid → Takes l e g r2 s2 mid y rest → Takes l d g (both r1 r2) (both_tokens s1 s2) toks (x, y) rest
  both_taken toks mid rest x y t1 t2 = record {
    spelled = t1.spelled ∙ ap (λ (k : List l.Element). s1 x ++ k) t2.spelled ∙ sym (append_assoc (s1 x) (s2 y) rest);
    again = λ other same. rw (append_assoc (s1 x) (s2 y) other, t1.again (s2 y ++ other) (head_through mid (s2 y) rest other t2.spelled same), t2.again other same) refl;
    level = run_append l d e (s1 x) (s2 y) t1.level ∙ t2.level;
  }

  both_takes : (toks : List l.Element) (z : A × B) (rest : List l.Element) → both r1 r2 toks ≡ Ok (z, rest) → Takes l d g (both r1 r2) (both_tokens s1 s2) toks z rest
  both_takes toks z rest h =
      let a = bind_ok (r1 toks) (λ x. r2 x.1 >>= λ y. Ok ((x.0, y.0), y.1)) (z, rest) h in
      let b = bind_ok (r2 a.0.1) (λ y. Ok ((a.0.0, y.0), y.1)) (z, rest) a.2 in
      let made : (A × B) × List l.Element = ((a.0.0, b.0.0), b.0.1) in
      subst (λ (m : (A × B) × List l.Element). Takes l d g (both r1 r2) (both_tokens s1 s2) toks m.0 m.1) (ok_is made (z, rest) b.2) (both_taken toks a.0.1 b.0.1 a.0.0 b.0.0 (is1.takes toks a.0.0 a.0.1 a.1) (is2.takes a.0.1 b.0.0 b.0.1 b.1))

  both_reads_it : (z : A × B) (rest : List l.Element) → Ends2 rest → (both r1 r2 (both_tokens s1 s2 z ++ rest) ≡ Ok (z, rest)) ⊎ IsExcused l (both r1 r2 (both_tokens s1 s2 z ++ rest))
  both_reads_it z rest h =
      elim (is1.reads z.0 (s2 z.1 ++ rest) (apart z.1 rest h)) [
        | inr late ↦ inr (late.0, rw (append_assoc (s1 z.0) (s2 z.1) rest, late.1) refl, late.2)
        | inl ok ↦ elim (is2.reads z.1 rest h) [
          | inr late ↦ inr (late.0, rw (append_assoc (s1 z.0) (s2 z.1) rest, ok, late.1) refl, late.2)
          | inl good ↦ inl (rw (append_assoc (s1 z.0) (s2 z.1) rest, ok, good) refl)
        ]
      ]

  first_stops : (toks : List l.Element) (f : l.Fault) → Stops l d r1 s1 toks f → Stops l d (both r1 r2) (both_tokens s1 s2) toks f
  first_stops toks f p = record {
    used = p.used;
    rest = p.rest;
    spelled = p.spelled;
    left_is = p.left_is;
    still = λ other same. rw (p.still other same) refl;
    tree = (p.tree, is2.some);
    more = p.more ++ s2 is2.some;
    begun = sym (append_assoc p.used p.more (s2 is2.some)) ∙ ap (λ (k : List l.Element). k ++ s2 is2.some) p.begun;
    state = p.state;
    level = p.level;
    meets = l.meets_more f p.state p.rest p.more (s2 is2.some) p.meets;
  }

  second_stops : (toks : List l.Element) (f : l.Fault) (x : A) (mid : List l.Element) → Takes l d e r1 s1 toks x mid → Stops l e r2 s2 mid f → Stops l d (both r1 r2) (both_tokens s1 s2) toks f
  second_stops toks f x mid t p = record {
    used = s1 x ++ p.used;
    rest = p.rest;
    spelled = t.spelled ∙ ap (λ (k : List l.Element). s1 x ++ k) p.spelled ∙ sym (append_assoc (s1 x) p.used p.rest);
    left_is = p.left_is;
    still = λ other same.
        rw (append_assoc (s1 x) p.used other, t.again (p.used ++ other) (head_through mid p.used p.rest other p.spelled same), p.still other same) refl;
    tree = (x, p.tree);
    more = p.more;
    begun = append_assoc (s1 x) p.used p.more ∙ ap (λ (k : List l.Element). s1 x ++ k) p.begun;
    state = p.state;
    level = run_append l d e (s1 x) p.used t.level ∙ p.level;
    meets = p.meets;
  }

  both_stops : (toks : List l.Element) (f : l.Fault) → both r1 r2 toks ≡ Err f → Stops l d (both r1 r2) (both_tokens s1 s2) toks f
  both_stops toks f h =
      elim (bind_err (r1 toks) (λ x. r2 x.1 >>= λ y. Ok ((x.0, y.0), y.1)) f h) [
        | inl first ↦ first_stops toks f (is1.stops toks f first)
        | inr a ↦ elim (bind_err (r2 a.0.1) (λ y. Ok ((a.0.0, y.0), y.1)) f a.2) [
          | inl second ↦ second_stops toks f a.0.0 a.0.1 (is1.takes toks a.0.0 a.0.1 a.1) (is2.stops a.0.1 f second)
          | inr b ↦ absurd cc
        ]
      ]

  pub both_reads : IsReader l d g (both r1 r2) (both_tokens s1 s2) Ends2
  both_reads = record { takes = both_takes; reads = both_reads_it; stops = both_stops; some = (is1.some, is2.some) }

-- the same, seen as another thing
module _ {A B : Type 0} (l : Language) (d e : l.State) (f : A → B) (back : B → A) (r : Reader l.Element l.Fault A) (s : A → List l.Element) (s' : B → List l.Element) (Ends : List l.Element → Type 0)
    (is : IsReader l d e r s Ends) (onto : (y : B) → f (back y) ≡ y) (spelled : (x : A) → s' (f x) ≡ s x) where
  mapped_taken : (toks rest : List l.Element) (x : A) → Takes l d e r s toks x rest → Takes l d e (mapped f r) s' toks (f x) rest
  mapped_taken toks rest x t = record {
    spelled = t.spelled ∙ ap (λ (k : List l.Element). k ++ rest) (sym (spelled x));
    again = λ other same. rw (spelled x, t.again other same) refl;
    level = rw (spelled x) t.level;
  }

  mapped_takes : (toks : List l.Element) (y : B) (rest : List l.Element) → mapped f r toks ≡ Ok (y, rest) → Takes l d e (mapped f r) s' toks y rest
  mapped_takes toks y rest h =
      let a = bind_ok (r toks) (λ x. Ok (f x.0, x.1)) (y, rest) h in
      let made : B × List l.Element = (f a.0.0, a.0.1) in
      subst (λ (m : B × List l.Element). Takes l d e (mapped f r) s' toks m.0 m.1) (ok_is made (y, rest) a.2) (mapped_taken toks a.0.1 a.0.0 (is.takes toks a.0.0 a.0.1 a.1))

  back_spelled : (y : B) → s' y ≡ s (back y)
  back_spelled y = ap s' (sym (onto y)) ∙ spelled (back y)

  mapped_reads_it : (y : B) (rest : List l.Element) → Ends rest → (mapped f r (s' y ++ rest) ≡ Ok (y, rest)) ⊎ IsExcused l (mapped f r (s' y ++ rest))
  mapped_reads_it y rest h =
      elim (is.reads (back y) rest h) [
        | inl ok ↦ inl (rw (back_spelled y, ok) (ap (λ (v : B). Ok (v, rest)) (onto y)))
        | inr late ↦ inr (late.0, rw (back_spelled y, late.1) refl, late.2)
      ]

  stops_mapped : (toks : List l.Element) (k : l.Fault) → Stops l d r s toks k → Stops l d (mapped f r) s' toks k
  stops_mapped toks k p = record {
    used = p.used;
    rest = p.rest;
    spelled = p.spelled;
    left_is = p.left_is;
    still = λ other same. rw (p.still other same) refl;
    tree = f p.tree;
    more = p.more;
    begun = p.begun ∙ sym (spelled p.tree);
    state = p.state;
    level = p.level;
    meets = p.meets;
  }

  mapped_stops : (toks : List l.Element) (k : l.Fault) → mapped f r toks ≡ Err k → Stops l d (mapped f r) s' toks k
  mapped_stops toks k h =
      elim (bind_err (r toks) (λ x. Ok (f x.0, x.1)) k h) [
        | inl first ↦ stops_mapped toks k (is.stops toks k first)
        | inr a ↦ absurd cc
      ]

  pub mapped_reads : IsReader l d e (mapped f r) s' Ends
  mapped_reads = record { takes = mapped_takes; reads = mapped_reads_it; stops = mapped_stops; some = f is.some }
