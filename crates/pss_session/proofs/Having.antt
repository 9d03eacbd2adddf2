-- That the copies have exactly the sessions, after each change.
use Rattle.std.proofs.Common.{ℕ, List, ◌≡◌, ◌+◌, ⊎_elim, Option, Some, None, false, refl, sym, ap, ◌∙◌}
use Rattle.std.specs.Prelude.{is_some}
use Rattle.std.specs.FinMap.{get, insert, remove}
use Rattle.pss_base.specs.declared.session.SessionNo.{SessionNo}
use Rattle.pss_base.specs.declared.owner.OwnerNo.{OwnerNo}
use Rattle.std.specs.Option.{option_map}
use Rattle.pss_machine.specs.Sessions.{Session}
use Rattle.pss_machine.specs.declared.session.Association.{Association}
use Rattle.pss_machine.specs.declared.session.Kind.{Kind}
use Rattle.pss_machine.specs.declared.session.Access.{Access}
use Rattle.pss_machine.specs.Sessions.{with_association, without_transaction}
use Rattle.type_layout.specs.Schemas.{given}
use Rattle.incarnations.specs.Meaning.{Meaning as Copies}
use Rattle.incarnations.specs.Meaning as copies
use Rattle.recent_table.proofs.Maps.{same_or_apart, insert_here, insert_apart, remove_here, remove_apart}
use Rattle.incarnations.proofs.Keys.{session_key}
use Rattle.pss_session.specs.Meaning.{Meaning, HaveSessions, opened, closed, associated, finished}
use Rattle.pss_session.specs.declared.register.Register.{Register}
use Rattle.pss_session.specs.inner.Rows.{session_of}
use Rattle.pss_session.specs.inner.Register.{IsSound, meaning_of, sessions_of}
use Rattle.pss_session.proofs.Registers.{nat_key, get_session, get_finished}
use Rattle.pss_session.proofs.Opened.{next_free}

number_apart : (q s : SessionNo) → (q ≡ s → ⊥) → q.0 ≡ s.0 → ⊥
number_apart q s ne e = ne (ap (λ n. record { 0 = n }) e)

module _ (m : Meaning) (c d : Copies) (have : HaveSessions m c) where
  pub have_opened : (name : List ℕ) (kind : Kind) (access : Access) (s : SessionNo) → s.0 ≡ m.next → d ≡ copies.opened c s → HaveSessions (opened m name kind access) d
  have_opened name kind access s next is q =
      ap (λ (x : Copies). is_some (get x.lasts q)) is
      ∙ ⊎_elim
      (λ e. ap (λ z. is_some (get (insert c.lasts s 0) z)) e ∙ ap is_some (insert_here session_key c.lasts s 0) ∙ sym (ap (λ z. is_some (get (opened m name kind access).sessions z)) (ap (λ (x : SessionNo). x.0) e ∙ next) ∙ ap is_some (insert_here nat_key m.sessions m.next _)))
      (λ ne. ap is_some (insert_apart session_key c.lasts s 0 q ne) ∙ have q ∙ sym (ap is_some (insert_apart nat_key m.sessions m.next _ q.0 (λ e. number_apart q s ne (e ∙ sym next)))))
      (same_or_apart session_key q s)

  pub have_closed : (s : SessionNo) → d.lasts ≡ remove c.lasts s → HaveSessions (closed m s) d
  have_closed s is q =
      ap (λ l. is_some (get l q)) is
      ∙ ⊎_elim
      (λ e. ap (λ z. is_some (get (remove c.lasts s) z)) e ∙ ap is_some (remove_here session_key c.lasts s) ∙ sym (ap (λ (z : SessionNo). is_some (get (closed m s).sessions z.0)) e ∙ ap is_some (remove_here nat_key m.sessions s.0)))
      (λ ne. ap is_some (remove_apart session_key c.lasts s q ne) ∙ have q ∙ sym (ap is_some (remove_apart nat_key m.sessions s.0 q.0 (number_apart q s ne))))
      (same_or_apart session_key q s)

  -- one has another association
  pub have_associated : (s : SessionNo) (a : Association) → d.lasts ≡ c.lasts → HaveSessions (associated m s a) d
  have_associated s a same q = ap (λ l. is_some (get l q)) same ∙ have q ∙ sym (by (get m.sessions s.0) refl)
    where
      by : (o : Option Session) → get m.sessions s.0 ≡ o → is_some (get (given o m.sessions (λ x. insert m.sessions s.0 (with_association a x))) q.0) ≡ is_some (get m.sessions q.0)
      by None is = refl
      by (Some x) is =
          ⊎_elim (λ e. ap (λ z. is_some (get (insert m.sessions s.0 (with_association a x)) z)) e ∙ ap is_some (insert_here nat_key m.sessions s.0 (with_association a x)) ∙ sym (ap (λ z. is_some (get m.sessions z)) e ∙ ap is_some is))
          (λ ne. ap is_some (insert_apart nat_key m.sessions s.0 (with_association a x) q.0 ne)) (same_or_apart nat_key q.0 s.0)

  pub have_finished : (n : OwnerNo) → d.lasts ≡ c.lasts → HaveSessions (finished m n) d
  have_finished n same q = ap (λ l. is_some (get l q)) same ∙ have q ∙ sym (ap is_some (get_finished n m.sessions q.0) ∙ up (get m.sessions q.0))
    where
      up : (o : Option Session) → is_some (option_map (without_transaction n) o) ≡ is_some o
      up None = refl
      up (Some x) = refl

-- the same, of a meaning that is told
pub have_told : (m n : Meaning) (c : Copies) → m ≡ n → HaveSessions n c → HaveSessions m c
have_told m n c e h s = h s ∙ sym (ap (λ (x : Meaning). is_some (get x.sessions s.0)) e)

-- the next number is new in the copies too
pub free_next : (r : Register) → IsSound r → (m : Meaning) → meaning_of r ≡ m → (c : Copies) → HaveSessions m c → (n : ℕ) → n ≡ r.last + 1 → get c.lasts (record { 0 = n }) ≡ None
free_next r sound m is c have n next =
    none (get c.lasts (record { 0 = n }))
    (have (record { 0 = n }) ∙ sym (ap (λ (x : Meaning). is_some (get x.sessions n)) is) ∙ ap (λ k. is_some (get (sessions_of r.rows.entries) k)) next ∙ ap is_some (get_session r.rows.entries (r.last + 1) ∙ ap (option_map session_of) (next_free r r sound)))
  where
    none : {A : Type 0} (o : Option A) → is_some o ≡ false → o ≡ None
    none None e = refl
    none (Some v) e = absurd (cc)
