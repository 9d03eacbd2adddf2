-- Entries by their objects, rows and columns apart, when one comes or goes.
use Rattle.std.proofs.Common.{ℕ, ◌≡◌, ◌≢◌, ◌⊎◌, inl, inr, ⊎_elim, ◌<◌, ◌≤◌, ◌+◌, List, Option, Some, None, IsSome, sym, ap, ◌∙◌, subst, arith}
use Rattle.std.specs.Prelude.{IsSomeAnd}
use Rattle.std.specs.declared.cmp.Ordering.{Ordering}
use Rattle.std.specs.FinMap.{FinMap, get, insert, remove}
use Rattle.pss_base.specs.declared.pid.Pid.{Pid}
use Rattle.pss_base.specs.declared.session.SessionNo.{SessionNo}
use Rattle.link_pool.specs.declared.names.Node.{Node}
use Rattle.incarnations.specs.declared.names.Slot.{Slot}
use Rattle.incarnations.specs.declared.names.ObjectName.{ObjectName}
use Rattle.incarnations.specs.declared.names.Entry.{Entry}
use Rattle.incarnations.specs.Keys.{session_cmp, slot_cmp}
use Rattle.incarnations.specs.Stock.{AreApart, AreNamed, AreNumbered}
use Rattle.recent_table.proofs.Maps.{no_value, one_value, same_or_apart, insert_here, insert_apart, remove_here, remove_apart}
use Rattle.incarnations.proofs.Keys.{slot_key, object_key, session_key}

abbrev pub object : SessionNo → Pid → ObjectName
object s pid = record { session = s; pid = pid }

abbrev slot : SessionNo → ℕ → Slot
slot s n = record { session = s; number = n }

-- ---- rings

module _ {A K : Type 0} {R : K → K → Ordering} (at at' : A → Option K) (rings rings' : FinMap R (List Node)) (a : AreApart at rings) where
  -- no more have rings
  pub apart_less : ((x : A) (r : K) → at' x ≡ Some r → at x ≡ Some r) → ((x : A) (r : K) → at' x ≡ Some r → IsSome (get rings r) → IsSome (get rings' r)) → AreApart at' rings'
  apart_less less there = record {
    apart = λ x y r p q. a.apart x y r (less x r p) (less y r q);
    there = λ x r p. there x r p (a.there x r (less x r p));
  }

  -- one more has a ring that is new
  pub apart_more : (new : A) (ring : K) → get rings ring ≡ None → ((x : A) (r : K) → at' x ≡ Some r → (at x ≡ Some r) ⊎ ((x ≡ new) × (r ≡ ring))) → ((r : K) → IsSome (get rings r) → IsSome (get rings' r)) → IsSome (get rings' ring) → AreApart at' rings'
  apart_more new ring free parts stay came = record {
    apart = λ x y r p q. by x y r (parts x r p) (parts y r q);
    there = λ x r p. ⊎_elim (λ old. stay r (a.there x r old)) (λ n. subst (λ k. IsSome (get rings' k)) (sym n.1) came) (parts x r p);
  }
    where
      some_none : {X : Type 0} (o : Option X) → IsSome o → o ≡ None → ⊥
      some_none None h e = cc
      some_none (Some v) h e = no_value v (sym e)

      never : (x : A) (r : K) → at x ≡ Some r → r ≡ ring → ⊥
      never x r old e = some_none (get rings r) (a.there x r old) (ap (get rings) e ∙ free)

      by : (x y : A) (r : K) → (at x ≡ Some r) ⊎ ((x ≡ new) × (r ≡ ring)) → (at y ≡ Some r) ⊎ ((y ≡ new) × (r ≡ ring)) → x ≡ y
      by x y r (inl old) (inl old') = a.apart x y r old old'
      by x y r (inl old) (inr n) = absurd (never x r old n.1)
      by x y r (inr n) (inl old) = absurd (never y r old n.1)
      by x y r (inr n) (inr n') = n.0 ∙ sym n'.0

-- ---- objects

module _ (pids pids' : Slot → Option Pid) (numbers numbers' : ObjectName → Option ℕ) (a : AreNamed pids numbers) where
  pub names_alike : ((x : Slot) → pids' x ≡ pids x) → ((o : ObjectName) → numbers' o ≡ numbers o) → AreNamed pids' numbers'
  names_alike same same' = record { named = λ x pid at. same' (object x.session pid) ∙ a.named x pid (sym (same x) ∙ at); meant = λ o n at. same (slot o.session n) ∙ a.meant o n (sym (same' o) ∙ at) }

  module _ (x : Slot) (pid : Pid) (others : (y : Slot) → y ≢ x → pids' y ≡ pids y) (others' : (o : ObjectName) → o ≢ object x.session pid → numbers' o ≡ numbers o) where
    same_slot : {s t : SessionNo} {m n : ℕ} → s ≡ t → m ≡ n → slot s m ≡ slot t n
    same_slot e f = λ i. slot (e i) (f i)

    pub names_out : pids x ≡ Some pid → pids' x ≡ None → numbers' (object x.session pid) ≡ None → AreNamed pids' numbers'
    names_out was gone gone' = record {
      named = λ y other at.
          ⊎_elim
          (λ e. no_value other (sym gone ∙ ap pids' (sym e) ∙ at))
          (λ ne.
          let old = a.named y other (sym (others y ne) ∙ at) in
          others' (object y.session other) (λ e. ne (same_slot (ap (λ o. o.session) e) (one_value (sym old ∙ ap numbers e ∙ a.named x pid was)))) ∙ old)
          (same_or_apart slot_key y x);
      meant = λ o n at.
          ⊎_elim
          (λ e. no_value n (sym gone' ∙ ap numbers' (sym e) ∙ at))
          (λ ne.
          let old = a.meant o n (sym (others' o ne) ∙ at) in
          others (slot o.session n) (λ e. ne (λ i. object ((e i).session) (one_value (sym old ∙ ap pids e ∙ was) i))) ∙ old)
          (same_or_apart object_key o (object x.session pid));
    }

    pub names_in : pids x ≡ None → numbers (object x.session pid) ≡ None → pids' x ≡ Some pid → numbers' (object x.session pid) ≡ Some x.number → AreNamed pids' numbers'
    names_in free free' came came' = record {
      named = λ y other at.
          ⊎_elim
          (λ e.
          let same : pid ≡ other = one_value (sym came ∙ ap pids' (sym e) ∙ at) in
          (λ i. numbers' (object ((e i).session) (sym same i))) ∙ came' ∙ ap (λ z. Some z.number) (sym e))
          (λ ne.
          let old = a.named y other (sym (others y ne) ∙ at) in
          others' (object y.session other) (λ e. no_value y.number (sym free' ∙ ap numbers (sym e) ∙ old)) ∙ old)
          (same_or_apart slot_key y x);
      meant = λ o n at.
          ⊎_elim
          (λ e.
          let same : x.number ≡ n = one_value (sym came' ∙ ap numbers' (sym e) ∙ at) in
          (λ i. pids' (slot ((e i).session) (sym same i))) ∙ came ∙ ap (λ z. Some z.pid) (sym e))
          (λ ne.
          let old = a.meant o n (sym (others' o ne) ∙ at) in
          others (slot o.session n) (λ e. no_value o.pid (sym free ∙ ap pids (sym e) ∙ old)) ∙ old)
          (same_or_apart object_key o (object x.session pid));
    }

-- ---- numbers

module _ (entries : FinMap slot_cmp Entry) (lasts : FinMap session_cmp ℕ) (a : AreNumbered entries lasts) where
  pub numbered_set : (x : Slot) (was e : Entry) → get entries x ≡ Some was → 0 < e.count → AreNumbered (insert entries x e) lasts
  numbered_set x was e at some = record {
    numbers = λ y f is. ⊎_elim (λ same. subst (λ z. IsSomeAnd (get lasts z.session) (λ last. (0 < z.number) × (z.number ≤ last))) (sym same) (a.numbers x was at)) (λ ne. a.numbers y f (sym (insert_apart slot_key entries x e y ne) ∙ is)) (same_or_apart slot_key y x);
    counts = λ y f is.
        ⊎_elim
        (λ same. subst (λ z. 0 < z.count) (one_value (sym (insert_here slot_key entries x e) ∙ ap (get (insert entries x e)) (sym same) ∙ is)) some)
        (λ ne. a.counts y f (sym (insert_apart slot_key entries x e y ne) ∙ is))
        (same_or_apart slot_key y x);
  }

  pub numbered_less : (x : Slot) → AreNumbered (remove entries x) lasts
  numbered_less x = record {
    numbers = λ y f is. ⊎_elim (λ same. no_value f (sym (remove_here slot_key entries x) ∙ ap (get (remove entries x)) (sym same) ∙ is)) (λ ne. a.numbers y f (sym (remove_apart slot_key entries x y ne) ∙ is)) (same_or_apart slot_key y x);
    counts = λ y f is. ⊎_elim (λ same. no_value f (sym (remove_here slot_key entries x) ∙ ap (get (remove entries x)) (sym same) ∙ is)) (λ ne. a.counts y f (sym (remove_apart slot_key entries x y ne) ∙ is)) (same_or_apart slot_key y x);
  }

  pub numbered_new : (s : SessionNo) (last : ℕ) (e : Entry) → get lasts s ≡ Some last → 0 < e.count → AreNumbered (insert entries (slot s (last + 1)) e) (insert lasts s (last + 1))
  numbered_new s last e at positive = record {
    numbers = λ y f is.
        ⊎_elim
        (λ same. let t : (0 < y.number) × (y.number ≤ last + 1) = (omega (arith, ap (λ z. z.number) same), omega (arith, ap (λ z. z.number) same)) in
        subst (λ o. IsSomeAnd o (λ l. (0 < y.number) × (y.number ≤ l))) (sym (ap (λ z. get (insert lasts s (last + 1)) z.session) same ∙ insert_here session_key lasts s (last + 1))) t)
        (λ ne. old y f (sym (insert_apart slot_key entries (slot s (last + 1)) e y ne) ∙ is))
        (same_or_apart slot_key y (slot s (last + 1)));
    counts = λ y f is.
        ⊎_elim
        (λ same. subst (λ z. 0 < z.count) (one_value (sym (insert_here slot_key entries (slot s (last + 1)) e) ∙ ap (get (insert entries (slot s (last + 1)) e)) (sym same) ∙ is)) positive)
        (λ ne. a.counts y f (sym (insert_apart slot_key entries (slot s (last + 1)) e y ne) ∙ is))
        (same_or_apart slot_key y (slot s (last + 1)));
  }
    where
      higher : (y : Slot) → IsSomeAnd (Some last) (λ l. (0 < y.number) × (y.number ≤ l)) → (0 < y.number) × (y.number ≤ last + 1)
      higher y h = (h.0, omega (arith, h.1))

      old : (y : Slot) (f : Entry) → get entries y ≡ Some f → IsSomeAnd (get (insert lasts s (last + 1)) y.session) (λ l. (0 < y.number) × (y.number ≤ l))
      old y f is =
          ⊎_elim
          (λ same. subst (λ o. IsSomeAnd o (λ l. (0 < y.number) × (y.number ≤ l))) (sym (ap (get (insert lasts s (last + 1))) same ∙ insert_here session_key lasts s (last + 1)))
          (higher y (subst (λ o. IsSomeAnd o (λ l. (0 < y.number) × (y.number ≤ l))) (ap (get lasts) same ∙ at) (a.numbers y f is))))
          (λ ne. subst (λ o. IsSomeAnd o (λ l. (0 < y.number) × (y.number ≤ l))) (sym (insert_apart session_key lasts s (last + 1) y.session ne)) (a.numbers y f is))
          (same_or_apart session_key y.session s)
