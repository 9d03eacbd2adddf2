-- Parts one after the other.
use Rattle.std.proofs.Common.{◌≡◌, ℕ, zero, suc, ◌≤◌, Bool, true, false, cond, List, [], ◌∷◌, ◌++◌, length, Result, Ok, Err, refl, sym, ap, ◌∙◌, subst, ◌⊎◌, inl, inr, append_assoc, length-append, arith}
use Rattle.std.proofs.lemmas.List.{append-nil}
use Rattle.std.specs.Prelude.{Some}
use Rattle.part_readers.specs.Reading.{◌>>=◌, Reader, starts, many_at, many}
use Rattle.part_readers.specs.Sentences.{joined}
use Rattle.part_readers.proofs.Law.{Language, run, SameHead, IsReader, IsExcused, Takes, Stops}
use Rattle.part_readers.proofs.Steps.{bind_ok, bind_err, ok_is, head_through, test_through, run_append}

started_is_long : {E : Type 0} (is : E → Bool) (toks : List E) → starts is toks ≡ true → 1 ≤ length toks
started_is_long is [] h = absurd cc
started_is_long is (t ∷ toks) h = omega arith

-- parts were taken, and are taken whatever is behind the next element
pub record TakesParts {A : Type 0} (l : Language) (d : l.State) (is : l.Element → Bool) (r : Reader l.Element l.Fault A) (s : A → List l.Element) (toks : List l.Element) (xs : List A) (rest : List l.Element) : Type 0 where
  pub spelled : toks ≡ joined s xs ++ rest
  pub again : (m : ℕ) (other : List l.Element) → length (joined s xs ++ other) ≤ m → SameHead rest other → many_at is r m (joined s xs ++ other) ≡ Ok (xs, other)
  pub level : run l d (joined s xs) ≡ Some d

pub record StopsParts {A : Type 0} (l : Language) (d : l.State) (is : l.Element → Bool) (r : Reader l.Element l.Fault A) (s : A → List l.Element) (toks : List l.Element) (f : l.Fault) : Type 0 where
  pub used : List l.Element
  pub rest : List l.Element
  pub spelled : toks ≡ used ++ rest
  pub left_is : l.left_of f ≡ length rest
  pub still : (m : ℕ) (other : List l.Element) → length (used ++ other) ≤ m → SameHead rest other → many_at is r m (used ++ other) ≡ Err (l.moved f (length other))
  pub trees : List A
  pub more : List l.Element
  pub begun : used ++ more ≡ joined s trees
  pub state : l.State
  pub level : run l d used ≡ Some state
  pub meets : l.Meets f state rest more

module _ {A : Type 0} (l : Language) (d : l.State) (is : l.Element → Bool) (r : Reader l.Element l.Fault A) (s : A → List l.Element) (Ends : List l.Element → Type 0)
    (is1 : IsReader l d d r s Ends) (there : (x : A) (rest : List l.Element) → starts is (s x ++ rest) ≡ true) (apart : (x : A) (rest : List l.Element) → Ends (s x ++ rest)) where
  long : (x : A) → 1 ≤ length (s x)
  long x = omega (arith, started_is_long is (s x ++ []) (there x []), length-append (s x) [])

  abbrev turn : ℕ → List l.Element → Bool → Result (List A × List l.Element) l.Fault
  turn n toks b = cond b (r toks >>= λ first. many_at is r n first.1 >>= λ others. Ok (first.0 ∷ others.0, others.1)) (Ok ([], toks))

  none_taken : (m : ℕ) (other : List l.Element) → starts is other ≡ false → many_at is r m other ≡ Ok ([], other)
  unfolding many_at
  none_taken zero other h = refl
  none_taken (suc m) other h = rw h refl

  ends_joined : (xs : List A) (rest : List l.Element) → Ends rest → Ends (joined s xs ++ rest)
  ends_joined [] rest h = h
  ends_joined (x ∷ xs) rest h = subst Ends (sym (append_assoc (s x) (joined s xs) rest)) (apart x (joined s xs ++ rest))

  one_taken : (m : ℕ) (x : A) (xs : List A) (other : List l.Element) → length (joined s (x ∷ xs) ++ other) ≤ m → r (s x ++ (joined s xs ++ other)) ≡ Ok (x, joined s xs ++ other) → ((k : ℕ) → length (joined s xs ++ other) ≤ k → many_at is r k (joined s xs ++ other) ≡ Ok (xs, other)) → many_at is r m (joined s (x ∷ xs) ++ other) ≡ Ok (x ∷ xs, other)
  unfolding many_at
  one_taken zero x xs other le first others = absurd (omega (arith, le, long x, length-append (s x ++ joined s xs) other, length-append (s x) (joined s xs)))
  one_taken (suc m) x xs other le first others =
      let shorter : length (joined s xs ++ other) ≤ m = omega (arith, le, long x, length-append (s x ++ joined s xs) other, length-append (s x) (joined s xs), length-append (joined s xs) other) in
      rw (append_assoc (s x) (joined s xs) other, there x (joined s xs ++ other), first, others m shorter) refl

  turn_taken : (toks mid rest : List l.Element) (x : A) (xs : List A) → Takes l d d r s toks x mid → TakesParts l d is r s mid xs rest → TakesParts l d is r s toks (x ∷ xs) rest
  turn_taken toks mid rest x xs t u = record {
    spelled = t.spelled ∙ ap (λ (k : List l.Element). s x ++ k) u.spelled ∙ sym (append_assoc (s x) (joined s xs) rest);
    again = λ m other le same. one_taken m x xs other le (t.again (joined s xs ++ other) (head_through mid (joined s xs) rest other u.spelled same)) (λ k le'. u.again k other le' same);
    level = run_append l d d (s x) (joined s xs) t.level ∙ u.level;
  }

  turn_takes : (b : Bool) (n : ℕ) (toks : List l.Element) (xs : List A) (rest : List l.Element) → ((mid : List l.Element) (ys : List A) (end : List l.Element) → length mid ≤ n → many_at is r n mid ≡ Ok (ys, end) → TakesParts l d is r s mid ys end)
      → length toks ≤ suc n → starts is toks ≡ b → turn n toks b ≡ Ok (xs, rest) → TakesParts l d is r s toks xs rest
  turn_takes false n toks xs rest others le h e =
      let made : List A × List l.Element = ([], toks) in
      subst (λ (m : List A × List l.Element). TakesParts l d is r s toks m.0 m.1) (ok_is made (xs, rest) e) (record { spelled = refl; again = λ m other _ same. none_taken m other (test_through is false toks [] toks other h refl same); level = refl })
  turn_takes true n toks xs rest others le h e =
      let a = bind_ok (r toks) (λ first. many_at is r n first.1 >>= λ ys. Ok (first.0 ∷ ys.0, ys.1)) (xs, rest) e in
      let b = bind_ok (many_at is r n a.0.1) (λ ys. Ok (a.0.0 ∷ ys.0, ys.1)) (xs, rest) a.2 in
      let t = is1.takes toks a.0.0 a.0.1 a.1 in
      let made : List A × List l.Element = (a.0.0 ∷ b.0.0, b.0.1) in
      let shorter : length a.0.1 ≤ n = omega (arith, le, long a.0.0, ap length t.spelled, length-append (s a.0.0) a.0.1) in
      subst (λ (m : List A × List l.Element). TakesParts l d is r s toks m.0 m.1) (ok_is made (xs, rest) b.2) (turn_taken toks a.0.1 b.0.1 a.0.0 b.0.0 t (others a.0.1 b.0.0 b.0.1 shorter b.1))

  parts_take : (n : ℕ) (toks : List l.Element) (xs : List A) (rest : List l.Element) → length toks ≤ n → many_at is r n toks ≡ Ok (xs, rest) → TakesParts l d is r s toks xs rest
  unfolding many_at
  parts_take zero [] xs rest le e =
      let made : List A × List l.Element = ([], []) in
      subst (λ (m : List A × List l.Element). TakesParts l d is r s [] m.0 m.1) (ok_is made (xs, rest) e) (record { spelled = refl; again = λ m other _ same. none_taken m other (test_through is false [] [] [] other refl refl same); level = refl })
  parts_take zero (t ∷ toks) xs rest le e = absurd (omega arith)
  parts_take (suc n) toks xs rest le e = turn_takes (starts is toks) n toks xs rest (λ mid ys end le' e'. parts_take n mid ys end le' e') le refl e

  parts_read : (n : ℕ) (xs : List A) (rest : List l.Element) → length (joined s xs ++ rest) ≤ n → (starts is rest ≡ false) × Ends rest → (many_at is r n (joined s xs ++ rest) ≡ Ok (xs, rest)) ⊎ IsExcused l (many_at is r n (joined s xs ++ rest))
  unfolding many_at
  parts_read n [] rest le h = inl (none_taken n rest h.0)
  parts_read zero (x ∷ xs) rest le h = absurd (omega (arith, le, long x, length-append (s x ++ joined s xs) rest, length-append (s x) (joined s xs)))
  parts_read (suc n) (x ∷ xs) rest le h =
      let shorter : length (joined s xs ++ rest) ≤ n = omega (arith, le, long x, length-append (s x ++ joined s xs) rest, length-append (s x) (joined s xs), length-append (joined s xs) rest) in
      elim (is1.reads x (joined s xs ++ rest) (ends_joined xs rest h.1)) [
        | inr late ↦ inr (late.0, rw (append_assoc (s x) (joined s xs) rest, there x (joined s xs ++ rest), late.1) refl, late.2)
        | inl ok ↦ elim (parts_read n xs rest shorter h) [
          | inr late ↦ inr (late.0, rw (append_assoc (s x) (joined s xs) rest, there x (joined s xs ++ rest), ok, late.1) refl, late.2)
          | inl good ↦ inl (rw (append_assoc (s x) (joined s xs) rest, there x (joined s xs ++ rest), ok, good) refl)
        ]
      ]

  -- the first part stops
  part_stops : (toks : List l.Element) (f : l.Fault) → starts is toks ≡ true → Stops l d r s toks f → StopsParts l d is r s toks f
  unfolding many_at
  part_stops toks f h p = record {
    used = p.used;
    rest = p.rest;
    spelled = p.spelled;
    left_is = p.left_is;
    still = λ m other le same. again m other (test_through is true toks p.used p.rest other h p.spelled same) le (p.still other same);
    trees = p.tree ∷ [];
    more = p.more;
    begun = p.begun ∙ sym (append-nil (s p.tree));
    state = p.state;
    level = p.level;
    meets = p.meets;
  }
    where
      again : (m : ℕ) (other : List l.Element) → starts is (p.used ++ other) ≡ true → length (p.used ++ other) ≤ m → r (p.used ++ other) ≡ Err (l.moved f (length other)) → many_at is r m (p.used ++ other) ≡ Err (l.moved f (length other))
      again zero other begins le fails = absurd (omega (arith, le, started_is_long is (p.used ++ other) begins))
      again (suc m) other begins le fails = rw (begins, fails) refl

  -- a later part stops
  later_stops : (toks : List l.Element) (f : l.Fault) (x : A) (mid : List l.Element) → Takes l d d r s toks x mid → StopsParts l d is r s mid f → StopsParts l d is r s toks f
  unfolding many_at
  later_stops toks f x mid t p = record {
    used = s x ++ p.used;
    rest = p.rest;
    spelled = t.spelled ∙ ap (λ (k : List l.Element). s x ++ k) p.spelled ∙ sym (append_assoc (s x) p.used p.rest);
    left_is = p.left_is;
    still = λ m other le same. again m other le (t.again (p.used ++ other) (head_through mid p.used p.rest other p.spelled same)) (λ k le'. p.still k other le' same);
    trees = x ∷ p.trees;
    more = p.more;
    begun = append_assoc (s x) p.used p.more ∙ ap (λ (k : List l.Element). s x ++ k) p.begun;
    state = p.state;
    level = run_append l d d (s x) p.used t.level ∙ p.level;
    meets = p.meets;
  }
    where
      again : (m : ℕ) (other : List l.Element) → length ((s x ++ p.used) ++ other) ≤ m → r (s x ++ (p.used ++ other)) ≡ Ok (x, p.used ++ other) → ((k : ℕ) → length (p.used ++ other) ≤ k → many_at is r k (p.used ++ other) ≡ Err (l.moved f (length other))) → many_at is r m ((s x ++ p.used) ++ other) ≡ Err (l.moved f (length other))
      again zero other le first others = absurd (omega (arith, le, long x, length-append (s x ++ p.used) other, length-append (s x) p.used))
      again (suc m) other le first others =
          let shorter : length (p.used ++ other) ≤ m = omega (arith, le, long x, length-append (s x ++ p.used) other, length-append (s x) p.used, length-append p.used other) in
          rw (append_assoc (s x) p.used other, there x (p.used ++ other), first, others m shorter) refl

  turn_stops : (b : Bool) (n : ℕ) (toks : List l.Element) (f : l.Fault) → ((mid : List l.Element) → length mid ≤ n → many_at is r n mid ≡ Err f → StopsParts l d is r s mid f)
      → length toks ≤ suc n → starts is toks ≡ b → turn n toks b ≡ Err f → StopsParts l d is r s toks f
  turn_stops false n toks f others le h e = absurd cc
  turn_stops true n toks f others le h e =
      elim (bind_err (r toks) (λ first. many_at is r n first.1 >>= λ ys. Ok (first.0 ∷ ys.0, ys.1)) f e) [
        | inl first ↦ part_stops toks f h (is1.stops toks f first)
        | inr a ↦ elim (bind_err (many_at is r n a.0.1) (λ ys. Ok (a.0.0 ∷ ys.0, ys.1)) f a.2) [
          | inl second ↦
              let t = is1.takes toks a.0.0 a.0.1 a.1 in
              let shorter : length a.0.1 ≤ n = omega (arith, le, long a.0.0, ap length t.spelled, length-append (s a.0.0) a.0.1) in
              later_stops toks f a.0.0 a.0.1 t (others a.0.1 shorter second)
          | inr b ↦ absurd cc
        ]
      ]

  parts_stop : (n : ℕ) (toks : List l.Element) (f : l.Fault) → length toks ≤ n → many_at is r n toks ≡ Err f → StopsParts l d is r s toks f
  unfolding many_at
  parts_stop zero toks f le e = absurd cc
  parts_stop (suc n) toks f le e = turn_stops (starts is toks) n toks f (λ mid le' e'. parts_stop n mid f le' e') le refl e

  takes_all : (toks : List l.Element) (xs : List A) (rest : List l.Element) → many is r toks ≡ Ok (xs, rest) → Takes l d d (many is r) (joined s) toks xs rest
  takes_all toks xs rest e =
      let u = parts_take (length toks) toks xs rest (omega arith) e in
      record { spelled = u.spelled; again = λ other same. u.again (length (joined s xs ++ other)) other (omega arith) same; level = u.level }

  stops_all : (toks : List l.Element) (f : l.Fault) → many is r toks ≡ Err f → Stops l d (many is r) (joined s) toks f
  stops_all toks f e =
      let p = parts_stop (length toks) toks f (omega arith) e in
      record {
        used = p.used;
        rest = p.rest;
        spelled = p.spelled;
        left_is = p.left_is;
        still = λ other same. p.still (length (p.used ++ other)) other (omega arith) same;
        tree = p.trees;
        more = p.more;
        begun = p.begun;
        state = p.state;
        level = p.level;
        meets = p.meets;
      }

  pub many_reads : IsReader l d d (many is r) (joined s) (λ rest. (starts is rest ≡ false) × Ends rest)
  many_reads = record { takes = takes_all; reads = λ xs rest h. parts_read (length (joined s xs ++ rest)) xs rest (omega arith) h; stops = stops_all; some = [] }
