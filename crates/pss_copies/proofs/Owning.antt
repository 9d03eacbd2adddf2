-- That the owner of each session is there, command by command.
use Rattle.std.proofs.Common.{arith, ◌≡◌, ℕ, ◌+◌, ◌==◌, Bool, true, false, cond, List, Option, Some, None, refl, sym, ap, ◌∙◌, inl, inr}
use Rattle.std.specs.Prelude.{◌⊎◌, not, if◌then◌else◌}
use Rattle.std.specs.Option.{option_map}
use Rattle.std.specs.FinMap.{get, insert, remove}
use Rattle.std.proofs.lemmas.Bool.{eqb-true, eq-eqb}
use Rattle.pss_base.specs.declared.owner.OwnerNo.{OwnerNo}
use Rattle.type_layout.specs.Schemas.{given}
use Rattle.pss_machine.specs.declared.level.Level.{Level}
use Rattle.pss_machine.specs.declared.level.Level.TheVariants as level
use Rattle.pss_machine.specs.declared.session.Access.{Access}
use Rattle.pss_machine.specs.declared.session.Kind.{Kind}
use Rattle.pss_machine.specs.declared.session.Kind.TheVariants.{Basic, Transactional}
use Rattle.pss_machine.specs.declared.session.Association.{Association}
use Rattle.pss_machine.specs.declared.session.Association.TheVariants.{NoTransaction}
use Rattle.pss_machine.specs.Maps.{each, with_at}
use Rattle.pss_machine.specs.Owners.{Owner, Owners, new_owner, is_basic}
use Rattle.pss_machine.specs.Sessions.{Session, Sessions, owner_of, transaction_of, is_owner, with_association, without_transaction}
use Rattle.pss_machine.specs.Sessions as sessions
use Rattle.pss_machine.specs.Kept.{is_transaction}
use Rattle.pss_machine.proofs.Maps.{get_each, get_with_at, same_or_apart, insert_here, insert_apart, remove_here, remove_apart, with_here, with_apart}
use Rattle.pss_machine.proofs.Logic.{none_some, same_some, true_false}
use Rattle.pss_copies.specs.Ruled.{IsOwned, AreOwned}

-- ---- owners

some_none : {A : Type 0} {x : A} {o : Option A} → o ≡ Some x → o ≡ None → ⊥
some_none p q = none_some (sym q ∙ p)

-- the number of an owner that is there is below the next one
module _ (owners : Owners) (all : Sessions) (next : ℕ) (own : AreOwned owners all next) where
  used : (n : ℕ) (owner : Owner) → get owners n ≡ Some owner → (n ≡ next → ⊥)
  used n owner there same = some_none there (own.fresh n (omega (arith, same)))

  -- an owner comes
  pub owned_more : (level : Level) → AreOwned (insert owners next (new_owner level)) all (next + 1)
  owned_more level = record {
    each = λ s session n there of. let by = own.each s session n there of in record { owner = by.owner; there = insert_apart owners next (new_owner level) n.0 (used n.0 by.owner by.there) ∙ by.there; kind = by.kind };
    apart = own.apart;
    alone = own.alone;
    fresh = λ n le. insert_apart owners next (new_owner level) n (λ same. absurd (omega (arith, same, le))) ∙ own.fresh n (omega (arith, le));
  }

  -- the levels of owners stay
  pub owned_with : (n : ℕ) (f : Owner → Owner) → ((o : Owner) → (f o).level ≡ o.level) → AreOwned (with_at owners n f) all next
  owned_with n f same = record { each = λ s session m there of. by s session m (own.each s session m there of) (same_or_apart m.0 n); apart = own.apart; alone = own.alone; fresh = λ m le. get_with_at owners n f m ∙ gone m (own.fresh m le) (m == n) refl }
    where
      by : (s : ℕ) (session : Session) (m : OwnerNo) → IsOwned owners session m → ((m.0 ≡ n) ⊎ (m.0 ≡ n → ⊥)) → IsOwned (with_at owners n f) session m
      by s session m o (inl is) = record { owner = f o.owner; there = ap (get (with_at owners n f)) is ∙ with_here owners n f ∙ ap (option_map f) (ap (get owners) (sym is) ∙ o.there); kind = ap is_basic (same o.owner) ∙ o.kind }
      by s session m o (inr ne) = record { owner = o.owner; there = with_apart owners n f m.0 ne ∙ o.there; kind = o.kind }

      gone : (m : ℕ) → get owners m ≡ None → (b : Bool) → (m == n) ≡ b → cond b (option_map f (get owners n)) (get owners m) ≡ None
      gone m none true is = ap (option_map f) (ap (get owners) (sym (eqb-true m n is)) ∙ none)
      gone m none false is = none

  -- a session comes that is in no transaction, and that is no owner itself
  pub owned_session : (i : ℕ) (x : Session) → owner_of x ≡ None → AreOwned owners (insert all i x) next
  owned_session i x none = record {
    each = λ s session n there of. by s session n there of (same_or_apart s i);
    apart = λ s t a b n p q ka kb. two s t a b n p q ka kb (same_or_apart s i) (same_or_apart t i);
    alone = λ s session n there kind. one s session n there kind (same_or_apart s i);
    fresh = own.fresh;
  }
    where
      here : (s : ℕ) (session : Session) → get (insert all i x) s ≡ Some session → s ≡ i → x ≡ session
      here s session there is = same_some (sym (insert_here all i x) ∙ ap (get (insert all i x)) (sym is) ∙ there)

      away : (s : ℕ) (session : Session) → get (insert all i x) s ≡ Some session → (s ≡ i → ⊥) → get all s ≡ Some session
      away s session there ne = sym (insert_apart all i x s ne) ∙ there

      no_kind : (session : Session) (n : OwnerNo) → x ≡ session → session.kind ≡ Basic n → ⊥
      no_kind session n same kind = none_some (sym none ∙ ap owner_of same ∙ owner_kind session n kind)
        where
          owner_kind : (session : Session) (n : OwnerNo) → session.kind ≡ Basic n → owner_of session ≡ Some n
          owner_kind session n kind = ap (λ k. owner_of (record { name = session.name; kind = k; access = session.access; association = session.association })) kind

      by : (s : ℕ) (session : Session) (n : OwnerNo) → get (insert all i x) s ≡ Some session → owner_of session ≡ Some n → ((s ≡ i) ⊎ (s ≡ i → ⊥)) → IsOwned owners session n
      by s session n there of (inl is) = absurd (none_some (sym none ∙ ap owner_of (here s session there is) ∙ of))
      by s session n there of (inr ne) = own.each s session n (away s session there ne) of

      two : (s t : ℕ) (a b : Session) (n : OwnerNo) → get (insert all i x) s ≡ Some a → get (insert all i x) t ≡ Some b → a.kind ≡ Basic n → b.kind ≡ Basic n → ((s ≡ i) ⊎ (s ≡ i → ⊥)) → ((t ≡ i) ⊎ (t ≡ i → ⊥)) → s ≡ t
      two s t a b n p q ka kb (inl is) r = absurd (no_kind a n (here s a p is) ka)
      two s t a b n p q ka kb (inr ne) (inl is) = absurd (no_kind b n (here t b q is) kb)
      two s t a b n p q ka kb (inr ne) (inr other) = own.apart s t a b n (away s a p ne) (away t b q other) ka kb

      one : (s : ℕ) (session : Session) (n : OwnerNo) → get (insert all i x) s ≡ Some session → session.kind ≡ Basic n → ((s ≡ i) ⊎ (s ≡ i → ⊥)) → session.association ≡ NoTransaction
      one s session n there kind (inl is) = absurd (no_kind session n (here s session there is) kind)
      one s session n there kind (inr ne) = own.alone s session n (away s session there ne) kind

  -- a basic session comes with its owner
  pub owned_basic : (i : ℕ) (name : List ℕ) (access : Access)
      → AreOwned (insert owners next (new_owner level.Basic)) (insert all i (record { name = name; kind = Basic (record { 0 = next }); access = access; association = NoTransaction })) (next + 1)
  owned_basic i name access = record {
    each = λ s session n there of. by s session n there of (same_or_apart s i);
    apart = λ s t a b n p q ka kb. two s t a b n p q ka kb (same_or_apart s i) (same_or_apart t i);
    alone = λ s session n there kind. one s session n there kind (same_or_apart s i);
    fresh = λ n le. insert_apart owners next (new_owner level.Basic) n (λ same. absurd (omega (arith, same, le))) ∙ own.fresh n (omega (arith, le));
  }
    where
      x : Session
      x = record { name = name; kind = Basic (record { 0 = next }); access = access; association = NoTransaction }

      here : (s : ℕ) (session : Session) → get (insert all i x) s ≡ Some session → s ≡ i → x ≡ session
      here s session there is = same_some (sym (insert_here all i x) ∙ ap (get (insert all i x)) (sym is) ∙ there)

      away : (s : ℕ) (session : Session) → get (insert all i x) s ≡ Some session → (s ≡ i → ⊥) → get all s ≡ Some session
      away s session there ne = sym (insert_apart all i x s ne) ∙ there

      owner_kind : (session : Session) (n : OwnerNo) → session.kind ≡ Basic n → owner_of session ≡ Some n
      owner_kind session n kind = ap (λ k. owner_of (record { name = session.name; kind = k; access = session.access; association = session.association })) kind

      by : (s : ℕ) (session : Session) (n : OwnerNo) → get (insert all i x) s ≡ Some session → owner_of session ≡ Some n → ((s ≡ i) ⊎ (s ≡ i → ⊥)) → IsOwned (insert owners next (new_owner level.Basic)) session n
      by s session n there of (inl is) =
          let same : x ≡ session = here s session there is in
          let number : record { 0 = next } ≡ n = same_some (ap owner_of same ∙ of) in
          record { owner = new_owner level.Basic; there = ap (λ (m : OwnerNo). get (insert owners next (new_owner level.Basic)) m.0) (sym number) ∙ insert_here owners next (new_owner level.Basic); kind = ap sessions.is_basic same }
      by s session n there of (inr ne) = let o = own.each s session n (away s session there ne) of in record { owner = o.owner; there = insert_apart owners next (new_owner level.Basic) n.0 (used n.0 o.owner o.there) ∙ o.there; kind = o.kind }

      -- an old basic session is another owner
      other : (s : ℕ) (a : Session) (n : OwnerNo) → get all s ≡ Some a → a.kind ≡ Basic n → x.kind ≡ Basic n → ⊥
      other s a n there kind new = let o = own.each s a n there (owner_kind a n kind) in used n.0 o.owner o.there (ap (λ (m : OwnerNo). m.0) (sym (same_some (owner_kind x n new))))

      two : (s t : ℕ) (a b : Session) (n : OwnerNo) → get (insert all i x) s ≡ Some a → get (insert all i x) t ≡ Some b → a.kind ≡ Basic n → b.kind ≡ Basic n → ((s ≡ i) ⊎ (s ≡ i → ⊥)) → ((t ≡ i) ⊎ (t ≡ i → ⊥)) → s ≡ t
      two s t a b n p q ka kb (inl is) (inl at) = is ∙ sym at
      two s t a b n p q ka kb (inl is) (inr ne) = absurd (other t b n (away t b q ne) kb (ap (λ (z : Session). z.kind) (here s a p is) ∙ ka))
      two s t a b n p q ka kb (inr ne) (inl is) = absurd (other s a n (away s a p ne) ka (ap (λ (z : Session). z.kind) (here t b q is) ∙ kb))
      two s t a b n p q ka kb (inr ne) (inr also) = own.apart s t a b n (away s a p ne) (away t b q also) ka kb

      one : (s : ℕ) (session : Session) (n : OwnerNo) → get (insert all i x) s ≡ Some session → session.kind ≡ Basic n → ((s ≡ i) ⊎ (s ≡ i → ⊥)) → session.association ≡ NoTransaction
      one s session n there kind (inl is) = ap (λ (z : Session). z.association) (sym (here s session there is))
      one s session n there kind (inr ne) = own.alone s session n (away s session there ne) kind

  -- a session goes
  pub owned_less : (i : ℕ) → AreOwned owners (remove all i) next
  owned_less i = record {
    each = λ s session n there of. own.each s session n (was s session there) of;
    apart = λ s t x y n p q ka kb. own.apart s t x y n (was s x p) (was t y q) ka kb;
    alone = λ s session n there kind. own.alone s session n (was s session there) kind;
    fresh = own.fresh;
  }
    where
      was : (s : ℕ) (session : Session) → get (remove all i) s ≡ Some session → get all s ≡ Some session
      was s session there = by (same_or_apart s i)
        where
          by : ((s ≡ i) ⊎ (s ≡ i → ⊥)) → get all s ≡ Some session
          by (inl is) = absurd (none_some (sym (ap (get (remove all i)) is ∙ remove_here all i) ∙ there))
          by (inr ne) = sym (remove_apart all i s ne) ∙ there

  -- an owner goes that no session belongs to
  pub owned_without : (n : OwnerNo) → ((s : ℕ) (session : Session) → get all s ≡ Some session → owner_of session ≡ Some n → ⊥) → AreOwned (remove owners n.0) all next
  owned_without n none = record {
    each = λ s session m there of. let by = own.each s session m there of in
        record { owner = by.owner; there = remove_apart owners n.0 m.0 (λ same. none s session there (of ∙ ap (λ q. Some (record { 0 = q })) same)) ∙ by.there; kind = by.kind };
    apart = own.apart;
    alone = own.alone;
    fresh = λ m le. gone m (own.fresh m le) (same_or_apart m n.0);
  }
    where
      gone : (m : ℕ) → get owners m ≡ None → ((m ≡ n.0) ⊎ (m ≡ n.0 → ⊥)) → get (remove owners n.0) m ≡ None
      gone m is (inl same) = ap (get (remove owners n.0)) same ∙ remove_here owners n.0
      gone m is (inr ne) = remove_apart owners n.0 m ne ∙ is

  -- a transactional session is associated with a transaction
  pub owned_associated : (s : ℕ) (a : Association) (n : OwnerNo) → ((x : Session) → get all s ≡ Some x → x.kind ≡ Transactional) → ((m : OwnerNo) → transaction_of a ≡ Some m → m ≡ n) → is_transaction owners n.0 ≡ true
      → AreOwned owners (with_at all s (with_association a)) next
  owned_associated s a n transactional with_n tx = record {
    each = λ t session m there of. by t session m there of (same_or_apart t s);
    apart = λ t u x y m p q ka kb. let old = was t x p in let other = was u y q in own.apart t u old.0 other.0 m old.1 other.1 (old.2 ∙ ka) (other.2 ∙ kb);
    alone = λ t session m there kind. lonely t session m there kind (same_or_apart t s);
    fresh = own.fresh;
  }
    where
      -- the session before, of the same kind
      Was : ℕ → Session → Type 0
      Was t x = (old : Session) × (get all t ≡ Some old) × (old.kind ≡ x.kind)

      here : (x : Session) → get (with_at all s (with_association a)) s ≡ Some x → (o : Option Session) → get all s ≡ o → (old : Session) × (get all s ≡ Some old) × (x ≡ with_association a old)
      here x there None is = absurd (none_some (sym (with_here all s (with_association a) ∙ ap (option_map (with_association a)) is) ∙ there))
      here x there (Some old) is = (old, is, same_some (sym there ∙ with_here all s (with_association a) ∙ ap (option_map (with_association a)) is))

      was : (t : ℕ) (x : Session) → get (with_at all s (with_association a)) t ≡ Some x → Was t x
      was t x there = at (same_or_apart t s)
        where
          at : ((t ≡ s) ⊎ (t ≡ s → ⊥)) → Was t x
          at (inl is) = let h = here x (ap (get (with_at all s (with_association a))) (sym is) ∙ there) (get all s) refl in (h.0, ap (get all) is ∙ h.1, ap (λ (z : Session). z.kind) (sym h.2))
          at (inr ne) = (x, sym (with_apart all s (with_association a) t ne) ∙ there, refl)

      transaction : (m : ℕ) (o : Option Owner) → get owners m ≡ o → given o false (λ owner. not (is_basic owner.level)) ≡ true → (owner : Owner) × (get owners m ≡ Some owner) × (is_basic owner.level ≡ false)
      transaction m None is e = absurd cc
      transaction m (Some owner) is e = (owner, is, off (is_basic owner.level) e)
        where
          off : (b : Bool) → not b ≡ true → b ≡ false
          off true e = absurd cc
          off false e = refl

      tied : (session : Session) (m : OwnerNo) → session.kind ≡ Transactional → m ≡ n → IsOwned owners session m
      tied session m kind same =
          let t = transaction n.0 (get owners n.0) refl tx in
          record { owner = t.0; there = ap (λ (q : OwnerNo). get owners q.0) same ∙ t.1; kind = t.2 ∙ sym (ap (λ k. sessions.is_basic (record { name = session.name; kind = k; access = session.access; association = session.association })) kind) }

      by : (t : ℕ) (session : Session) (m : OwnerNo) → get (with_at all s (with_association a)) t ≡ Some session → owner_of session ≡ Some m → ((t ≡ s) ⊎ (t ≡ s → ⊥)) → IsOwned owners session m
      by t session m there of (inr ne) = own.each t session m (sym (with_apart all s (with_association a) t ne) ∙ there) of
      by t session m there of (inl is) =
          let h = here session (ap (get (with_at all s (with_association a))) (sym is) ∙ there) (get all s) refl in
          let kind : session.kind ≡ Transactional = ap (λ (z : Session). z.kind) h.2 ∙ transactional h.0 h.1 in
          tied session m kind (with_n m (sym (ap owner_of h.2 ∙ ap (λ k. owner_of (record { name = h.0.name; kind = k; access = h.0.access; association = a })) (transactional h.0 h.1)) ∙ of))

      lonely : (t : ℕ) (session : Session) (m : OwnerNo) → get (with_at all s (with_association a)) t ≡ Some session → session.kind ≡ Basic m → ((t ≡ s) ⊎ (t ≡ s → ⊥)) → session.association ≡ NoTransaction
      lonely t session m there kind (inr ne) = own.alone t session m (sym (with_apart all s (with_association a) t ne) ∙ there) kind
      lonely t session m there kind (inl is) =
          let h = here session (ap (get (with_at all s (with_association a))) (sym is) ∙ there) (get all s) refl in
          absurd (unlike (sym kind ∙ ap (λ (z : Session). z.kind) h.2 ∙ transactional h.0 h.1))
        where
          unlike : {m : OwnerNo} → Basic m ≡ Transactional → ⊥
          unlike e = cc

  -- a transaction goes, and its sessions are in none
  pub owned_finished : (n : OwnerNo) → is_transaction owners n.0 ≡ true → AreOwned (remove owners n.0) (each (λ s session. without_transaction n session) all) next
  owned_finished n tx = record {
    each = λ s session m there of. let h = was s session there (get all s) refl in by s h.0 session m h.1 h.2 of;
    apart = λ s t x y m p q ka kb. let a = was s x p (get all s) refl in let b = was t y q (get all t) refl in own.apart s t a.0 b.0 m a.1 b.1 (ap (λ (z : Session). z.kind) (sym a.2) ∙ ka) (ap (λ (z : Session). z.kind) (sym b.2) ∙ kb);
    alone = λ s session m there kind. let h = was s session there (get all s) refl in
        let before = own.alone s h.0 m h.1 (ap (λ (z : Session). z.kind) (sym h.2) ∙ kind) in
        ap (λ (z : Session). z.association) h.2 ∙ ap (λ a. if is_owner n (transaction_of a) then NoTransaction else a) before;
    fresh = λ m le. gone m (own.fresh m le) (same_or_apart m n.0);
  }
    where
      was : (s : ℕ) (session : Session) → get (each (λ s session. without_transaction n session) all) s ≡ Some session → (o : Option Session) → get all s ≡ o → (old : Session) × (get all s ≡ Some old) × (session ≡ without_transaction n old)
      was s session there None is = absurd (none_some (sym (get_each (λ s session. without_transaction n session) all s ∙ ap (option_map (without_transaction n)) is) ∙ there))
      was s session there (Some old) is = (old, is, same_some (sym there ∙ get_each (λ s session. without_transaction n session) all s ∙ ap (option_map (without_transaction n)) is))

      gone : (m : ℕ) → get owners m ≡ None → ((m ≡ n.0) ⊎ (m ≡ n.0 → ⊥)) → get (remove owners n.0) m ≡ None
      gone m is (inl same) = ap (get (remove owners n.0)) same ∙ remove_here owners n.0
      gone m is (inr ne) = remove_apart owners n.0 m ne ∙ is

      -- whom a session without it belongs to, it belonged to before, and that is another
      kept : (old : Session) (m : OwnerNo) → owner_of (without_transaction n old) ≡ Some m → (owner_of old ≡ Some m) × (sessions.is_basic old ≡ false → m.0 ≡ n.0 → ⊥)
      kept old m of = at old.kind old.association of
        where
          at : (kind : Kind) (a : Association) → owner_of (without_transaction n (record { name = old.name; kind = kind; access = old.access; association = a })) ≡ Some m
              → (owner_of (record { name = old.name; kind = kind; access = old.access; association = a }) ≡ Some m) × (sessions.is_basic (record { name = old.name; kind = kind; access = old.access; association = a }) ≡ false → m.0 ≡ n.0 → ⊥)
          at (Basic q) a of = (of, λ e same. absurd cc)
          at Transactional a of = in_one (is_owner n (transaction_of a)) refl of
            where
              in_one : (b : Bool) → is_owner n (transaction_of a) ≡ b → transaction_of (if b then NoTransaction else a) ≡ Some m → (transaction_of a ≡ Some m) × (false ≡ false → m.0 ≡ n.0 → ⊥)
              in_one true is of = absurd (none_some of)
              in_one false is of = (of, λ e same. true_false (eq-eqb m.0 n.0 same) (sym (ap (is_owner n) of) ∙ is))

      by : (s : ℕ) (old session : Session) (m : OwnerNo) → get all s ≡ Some old → session ≡ without_transaction n old → owner_of session ≡ Some m → IsOwned (remove owners n.0) session m
      by s old session m there is of =
          let h = kept old m (ap owner_of (sym is) ∙ of) in
          let o = own.each s old m there h.0 in
          record { owner = o.owner; there = remove_apart owners n.0 m.0 (other o (sessions.is_basic old) refl h.1) ∙ o.there; kind = o.kind ∙ ap sessions.is_basic (sym is) }
        where
          other : (o : IsOwned owners old m) (b : Bool) → sessions.is_basic old ≡ b → (sessions.is_basic old ≡ false → m.0 ≡ n.0 → ⊥) → m.0 ≡ n.0 → ⊥
          other o false is h same = h is same
          other o true is h same = basic (get owners n.0) (sym (ap (get owners) same) ∙ o.there) tx (o.kind ∙ is)
            where
              basic : (q : Option Owner) → q ≡ Some o.owner → given q false (λ owner. not (is_basic owner.level)) ≡ true → is_basic o.owner.level ≡ true → ⊥
              basic None is e b = none_some is
              basic (Some z) is e b = off (is_basic z.level) (ap (λ (u : Owner). is_basic u.level) (same_some is) ∙ b) e
                where
                  off : (b : Bool) → b ≡ true → not b ≡ true → ⊥
                  off true p q = cc
                  off false p q = cc
