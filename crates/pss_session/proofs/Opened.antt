-- Sessions that come, go and change.
use Rattle.std.proofs.Common.{ℕ, ◌≡◌, ◌+◌, ◌≤◌, ◌<◌, ◌^◌, List, [], ◌∷◌, ◌++◌, length, map, Option, Some, None, IsSome, Bool, true, false, cond, ◌==◌, refl, sym, ap, ◌∙◌, subst, arith, rules}
use Rattle.std.specs.Prelude.{IsSomeAnd}
use Rattle.std.specs.Option.{option_map}
use Rattle.std.specs.Map.{keys_of}
use Rattle.std.proofs.lemmas.Bool.{eqb-true, eq-eqb}
use Rattle.std.proofs.lemmas.List.{length-map}
use Rattle.std.specs.Ordering.{nat_cmp}
use Rattle.std.specs.FinMap.Entries.{is_sorted}
use Rattle.pss_base.specs.declared.session.SessionNo.{SessionNo}
use Rattle.pss_base.specs.declared.owner.OwnerNo.{OwnerNo}
use Rattle.pss_machine.specs.declared.session.Association.{Association}
use Rattle.recent_table.proofs.Maps.{no_value}
use Rattle.pss_session.specs.declared.register.SessionRecord.{SessionRecord}
use Rattle.pss_session.specs.declared.register.Register.{Register}
use Rattle.pss_session.specs.inner.Rows.{session_of, row_at, with_state, left_row, without, Turns}
use Rattle.pss_session.specs.inner.Names.{number_at}
use Rattle.pss_session.specs.inner.Names as names
use Rattle.pss_session.specs.inner.Register.{IsSound, AreNamed}
use Rattle.pss_session.proofs.Orders.{sorted_keys, sorted_without}
use Rattle.std.specs.FinMap as finite
use Rattle.std.specs.FinMap.{get}
use Rattle.pss_machine.specs.Sessions.{Session}
use Rattle.recent_table.proofs.Maps.{alike_maps}
use Rattle.pss_session.specs.Meaning.{Meaning, no_sessions}
use Rattle.pss_session.specs.inner.Register.{sessions_of}
use Rattle.pss_session.specs.inner.Register.{meaning_of}
use Rattle.pss_session.specs.Meaning.{associated}
use Rattle.pss_machine.specs.Sessions.{with_association}
use Rattle.pss_session.proofs.Registers.{nat_key, get_session, sorted_push, left_keys, left_row_is, turned_some, set_is}
use Rattle.pss_session.proofs.Naming.{named_open, named_close, named_same}

some : {A : Type 0} {v : A} (o : Option A) → o ≡ Some v → IsSome o
some None e = no_value _ e
some (Some v) e = search rules

module _ (old new : Register) (sound : IsSound old) where
  -- nobody has the next number
  pub next_free : row_at old.rows.entries (old.last + 1) ≡ None
  next_free = by (row_at old.rows.entries (old.last + 1)) refl
    where
      by : (o : Option SessionRecord) → row_at old.rows.entries (old.last + 1) ≡ o → o ≡ None
      by None e = refl
      by (Some r) e = let h : old.last + 1 ≤ old.last = sound.below (old.last + 1) (some _ e) in absurd (omega (arith, h))

  -- a row that is pushed
  push_row : (es : List (ℕ × SessionRecord)) (k : ℕ) (r : SessionRecord) → row_at es k ≡ None → (q : ℕ) → row_at (es ++ (k, r) ∷ []) q ≡ cond (k == q) (Some r) (row_at es q)
  push_row [] k r none q = ap (λ b. cond b (Some r) None) (turn (q == k) (k == q) refl refl)
    where
      turn : (a b : Bool) → (q == k) ≡ a → (k == q) ≡ b → a ≡ b
      turn true b e f = sym (sym f ∙ eq-eqb k q (sym (eqb-true q k e)))
      turn false true e f = let s : q ≡ k = sym (eqb-true k q f) in sym e ∙ eq-eqb q k s
      turn false false e f = refl
  push_row (e ∷ es) k r none q = by (k == e.0) refl none (λ h. push_row es k r h q)
    where
      at : (a b : Bool) → (q == e.0) ≡ a → (k == q) ≡ b → (k == e.0) ≡ false → cond a (Some e.1) (row_at (es ++ (k, r) ∷ []) q) ≡ cond a (Some e.1) (cond (k == q) (Some r) (row_at es q)) → cond a (Some e.1) (cond (k == q) (Some r) (row_at es q)) ≡ cond b (Some r) (cond a (Some e.1) (row_at es q))
      at true true e1 f ne h = let w : (k == e.0) ≡ true = eq-eqb k e.0 (eqb-true k q f ∙ eqb-true q e.0 e1) in absurd (cc)
      at true false e1 f ne h = refl
      at false true e1 f ne h = ap (λ b. cond b (Some r) (row_at es q)) f
      at false false e1 f ne h = ap (λ b. cond b (Some r) (row_at es q)) f

      by : (b : Bool) → (k == e.0) ≡ b → cond b (Some e.1) (row_at es k) ≡ None → (row_at es k ≡ None → row_at (es ++ (k, r) ∷ []) q ≡ cond (k == q) (Some r) (row_at es q)) → cond (q == e.0) (Some e.1) (row_at (es ++ (k, r) ∷ []) q) ≡ cond (k == q) (Some r) (cond (q == e.0) (Some e.1) (row_at es q))
      by true ne h more = no_value e.1 (sym h)
      by false ne h more = let rest = ap (λ o. cond (q == e.0) (Some e.1) o) (more h) in rest ∙ at (q == e.0) (k == q) refl refl ne rest

  length_push : (es : List (ℕ × SessionRecord)) (e : ℕ × SessionRecord) → length (es ++ e ∷ []) ≡ length es + 1
  length_push [] e = refl
  length_push (x ∷ es) e = let h = length_push es e in omega (arith, h)

  pub open_sound : (r : SessionRecord) → new.rows.entries ≡ old.rows.entries ++ (old.last + 1, r) ∷ [] → new.last ≡ old.last + 1
      → names.Turns old.names.entries new.names.entries r.name (Some (record { 0 = old.last + 1 })) → number_at old.names.entries r.name ≡ None → old.last + 1 < 2 ^ 32 → IsSound new
  open_sound r rows last turns free small = record {
    small = subst (λ n. n < 2 ^ 32) (sym last) small;
    sorted = ap (is_sorted nat_cmp) rows ∙ sorted_push (old.last + 1) r old.rows.entries sound.sorted (λ n there. let h = sound.below n there in omega (arith, h));
    below = λ n there. under n (old.last + 1 == n) refl (subst IsSome (ap (λ l. row_at l n) rows ∙ turned n) there);
    fewer = let h = ap length rows ∙ length_push old.rows.entries (old.last + 1, r) in omega (arith, h, last, sound.fewer);
    named = named_open (row_at old.rows.entries) (number_at old.names.entries) sound.named (row_at new.rows.entries) (number_at new.names.entries) (old.last + 1) r free next_free (λ q. ap (λ l. row_at l q) rows ∙ turned q) turns;
  }
    where
      turned : (q : ℕ) → row_at (old.rows.entries ++ (old.last + 1, r) ∷ []) q ≡ cond (old.last + 1 == q) (Some r) (row_at old.rows.entries q)
      turned q = push_row old.rows.entries (old.last + 1) r next_free q

      under : (n : ℕ) (b : Bool) → (old.last + 1 == n) ≡ b → IsSome (cond (old.last + 1 == n) (Some r) (row_at old.rows.entries n)) → n ≤ new.last
      under n true is there = let h = eqb-true (old.last + 1) n is in omega (arith, h, last)
      under n false is there = let h = sound.below n (subst IsSome (ap (λ b. cond b (Some r) (row_at old.rows.entries n)) is) there) in omega (arith, h, last)

  pub close_sound : (k : ℕ) (r : SessionRecord) → row_at old.rows.entries k ≡ Some r → new.rows.entries ≡ without k old.rows.entries → Turns old.rows.entries new.rows.entries k None → length new.rows.entries + 1 ≡ length old.rows.entries
      → new.last ≡ old.last → names.Turns old.names.entries new.names.entries r.name None → IsSound new
  close_sound k r at rest turns len last gone = record {
    small = subst (λ n. n < 2 ^ 32) (sym last) sound.small;
    sorted = ap (is_sorted nat_cmp) rest ∙ sorted_without k old.rows.entries sound.sorted;
    below = λ n there. under n (k == n) refl (subst IsSome (turns n) there);
    fewer = omega (arith, len, last, sound.fewer);
    named = named_close (row_at old.rows.entries) (number_at old.names.entries) sound.named (row_at new.rows.entries) (number_at new.names.entries) k r at turns gone;
  }
    where
      under : (n : ℕ) (b : Bool) → (k == n) ≡ b → IsSome (cond (k == n) None (row_at old.rows.entries n)) → n ≤ new.last
      under n true is there = let h : IsSome {T = SessionRecord} None = subst IsSome (ap (λ b. cond b None (row_at old.rows.entries n)) is) there in absurd (cc)
      under n false is there = let h = sound.below n (subst IsSome (ap (λ b. cond b None (row_at old.rows.entries n)) is) there) in omega (arith, h, last)

  -- the same numbers and names
  pub same_sound : keys_of new.rows.entries ≡ keys_of old.rows.entries → ((n : ℕ) → option_map (λ r. r.name) (row_at new.rows.entries n) ≡ option_map (λ r. r.name) (row_at old.rows.entries n)) → new.names ≡ old.names → new.last ≡ old.last → IsSound new
  same_sound keys rows names last = record {
    small = subst (λ n. n < 2 ^ 32) (sym last) sound.small;
    sorted = sorted_keys new.rows.entries old.rows.entries keys ∙ sound.sorted;
    below = λ n there. let h = sound.below n (back (row_at old.rows.entries n) (subst IsSome (rows n) (up (row_at new.rows.entries n) there))) in omega (arith, h, last);
    fewer = let h = sym (length-map new.rows.entries (λ e. e.0)) ∙ ap length keys ∙ length-map old.rows.entries (λ e. e.0) in omega (arith, h, last, sound.fewer);
    named = subst (λ (n : List ℕ → Option SessionNo). AreNamed (row_at new.rows.entries) n) (λ i. number_at (sym names i).entries) (named_same (row_at old.rows.entries) (number_at old.names.entries) sound.named (row_at new.rows.entries) rows);
  }
    where
      up : (o : Option SessionRecord) → IsSome o → IsSome (option_map (λ r. r.name) o)
      up None h = absurd (cc)
      up (Some r) h = search rules

      back : (o : Option SessionRecord) → IsSome (option_map (λ r. r.name) o) → IsSome o
      back None h = absurd (cc)
      back (Some r) h = search rules

  pub set_sound : (k : ℕ) (a : Association) (r : SessionRecord) → row_at old.rows.entries k ≡ Some r → keys_of new.rows.entries ≡ keys_of old.rows.entries → Turns old.rows.entries new.rows.entries k (Some (with_state a r)) → new.names ≡ old.names → new.last ≡ old.last → IsSound new
  set_sound k a r at keys turns = same_sound keys (λ n. ap (option_map (λ (z : SessionRecord). z.name)) (turns n) ∙ by n (k == n) refl)
    where
      by : (n : ℕ) (b : Bool) → (k == n) ≡ b → option_map (λ r. r.name) (cond b (Some (with_state a r)) (row_at old.rows.entries n)) ≡ option_map (λ r. r.name) (row_at old.rows.entries n)
      by n true is = sym (ap (option_map (λ (z : SessionRecord). z.name)) (ap (row_at old.rows.entries) (sym (eqb-true k n is)) ∙ at))
      by n false is = refl

  pub left_sound : (n : OwnerNo) → new.rows.entries ≡ map (λ e. (e.0, left_row n e.1)) old.rows.entries → new.names ≡ old.names → new.last ≡ old.last → IsSound new
  left_sound n rows = same_sound (ap keys_of rows ∙ left_keys n old.rows.entries) (λ q. ap (λ l. option_map (λ (z : SessionRecord). z.name) (row_at l q)) rows ∙ ap (option_map (λ (z : SessionRecord). z.name)) (left_row_is n old.rows.entries q) ∙ by (row_at old.rows.entries q))
    where
      by : (o : Option SessionRecord) → option_map (λ r. r.name) (option_map (left_row n) o) ≡ option_map (λ r. r.name) o
      by None = refl
      by (Some r) = refl

-- nobody goes where there is nobody of the number
pub none_sound : (old new : Register) → IsSound old → (k : ℕ) → new.rows.entries ≡ without k old.rows.entries → Turns old.rows.entries new.rows.entries k None → row_at old.rows.entries k ≡ None → new.names ≡ old.names → new.last ≡ old.last → IsSound new
none_sound old new sound k rest turns none = same_sound old new sound (ap keys_of (rest ∙ all old.rows.entries none)) (λ n. ap (λ l. option_map (λ (z : SessionRecord). z.name) (row_at l n)) (rest ∙ all old.rows.entries none))
  where
    all : (es : List (ℕ × SessionRecord)) → row_at es k ≡ None → without k es ≡ es
    all [] h = refl
    all (e ∷ es) h = by (k == e.0) h (all es)
      where
        by : (b : Bool) → cond b (Some e.1) (row_at es k) ≡ None → (row_at es k ≡ None → without k es ≡ es) → cond b es (e ∷ without k es) ≡ e ∷ es
        by true h rest = no_value e.1 (sym h)
        by false h rest = ap (λ l. e ∷ l) (rest h)

-- of no row
pub none_is : (es : List (ℕ × SessionRecord)) → es ≡ [] → record { sessions = sessions_of es; next = 1 } ≡ no_sessions
none_is es none = λ i. record { sessions = (ap sessions_of none ∙ alike_maps nat_key _ _ (λ q. get_session [] q ∙ sym (finite.get-empty nat_cmp q))) i; next = 1 }

-- a session that is there stands in its row
pub record Stands (es : List (ℕ × SessionRecord)) (k : ℕ) : Type 0 where
  pub stored : SessionRecord
  pub at : row_at es k ≡ Some stored
  pub seen : get (sessions_of es) k ≡ Some (session_of stored)

pub stands : (es : List (ℕ × SessionRecord)) (k : ℕ) → IsSome (get (sessions_of es) k) → Stands es k
stands es k there = by (row_at es k) refl (subst IsSome (get_session es k) there)
  where
    by : (o : Option SessionRecord) → row_at es k ≡ o → IsSome (option_map session_of (row_at es k)) → Stands es k
    by None is h = let g : IsSome {T = Session} None = subst IsSome (ap (option_map session_of) is) h in absurd (cc)
    by (Some r) is h = record { stored = r; at = is; seen = get_session es k ∙ ap (option_map session_of) is }

pub row_there : (es : List (ℕ × SessionRecord)) (m : Meaning) → sessions_of es ≡ m.sessions → (k : ℕ) → IsSome (get m.sessions k) → IsSome (row_at es k)
row_there es m is k there = let s = stands es k (subst (λ t. IsSome (get t k)) (sym is) there) in some (row_at es k) s.at

-- one has another association
pub associated_is : (old new : Register) (s : SessionNo) (a : Association) → IsSome (get (sessions_of old.rows.entries) s.0) → IsSomeAnd (row_at old.rows.entries s.0) (λ r. Turns old.rows.entries new.rows.entries s.0 (Some (with_state a r))) → new.last ≡ old.last
    → meaning_of new ≡ associated (meaning_of old) s a
associated_is old new s a there turns last =
    let h = stands old.rows.entries s.0 there in
    let t : Turns old.rows.entries new.rows.entries s.0 (Some (with_state a h.stored)) = subst (λ o. IsSomeAnd o (λ r. Turns old.rows.entries new.rows.entries s.0 (Some (with_state a r)))) h.at turns in
    λ i. record { sessions = (turned_some old.rows.entries new.rows.entries s.0 (with_state a h.stored) t ∙ set_is (sessions_of old.rows.entries) s.0 (with_association a) (session_of h.stored) h.seen) i; next = last i + 1 }

pub associated_sound : (old new : Register) → IsSound old → (s : SessionNo) (a : Association) → IsSome (get (sessions_of old.rows.entries) s.0) → keys_of new.rows.entries ≡ keys_of old.rows.entries
    → IsSomeAnd (row_at old.rows.entries s.0) (λ r. Turns old.rows.entries new.rows.entries s.0 (Some (with_state a r))) → new.names ≡ old.names → new.last ≡ old.last → IsSound new
associated_sound old new sound s a there keys turns names last =
    let h = stands old.rows.entries s.0 there in
    set_sound old new sound s.0 a h.stored h.at keys (subst (λ o. IsSomeAnd o (λ r. Turns old.rows.entries new.rows.entries s.0 (Some (with_state a r)))) h.at turns) names last

pub never : (o : Option SessionRecord) → IsSome o → None ≡ o → ⊥
never None h e = absurd (cc)
never (Some r) h e = absurd (cc)

pub record_is : (es : List (ℕ × SessionRecord)) (m : Meaning) → sessions_of es ≡ m.sessions → (k : ℕ) (r : SessionRecord) → Some r ≡ row_at es k
    → IsSomeAnd (get m.sessions k) (λ x. (r.name ≡ x.name) × (r.kind ≡ x.kind) × (r.access ≡ x.access) × (r.association ≡ x.association))
record_is es m is k r at =
    let seen : get m.sessions k ≡ Some (session_of r) = ap (λ t. get t k) (sym is) ∙ get_session es k ∙ ap (option_map session_of) (sym at) in
    subst (λ o. IsSomeAnd o (λ x. (r.name ≡ x.name) × (r.kind ≡ x.kind) × (r.access ≡ x.access) × (r.association ≡ x.association))) (sym seen) (refl, refl, refl, refl)
