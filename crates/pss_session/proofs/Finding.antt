-- A session that a row has under a name.
use Rattle.std.proofs.Common.{ℕ, ◌≡◌, List, Option, Some, None, IsSome, refl, sym, ap, ◌∙◌, subst}
use Rattle.std.specs.Prelude.{IsSomeAnd}
use Rattle.std.specs.Option.{option_map}
use Rattle.std.specs.Str.{bytes_eq}
use Rattle.std.specs.FinMap.{get}
use Rattle.pss_base.specs.declared.session.SessionNo.{SessionNo}
use Rattle.pss_machine.specs.Sessions.{Session, session_named}
use Rattle.pss_machine.proofs.Found.{found_there}
use Rattle.pss_session.specs.declared.register.SessionRecord.{SessionRecord}
use Rattle.pss_session.specs.declared.register.Register.{Register}
use Rattle.pss_session.specs.declared.register.Standing.{Standing}
use Rattle.pss_session.specs.Meaning.{Meaning, session_at, number_named}
use Rattle.pss_session.specs.inner.Rows.{row_at}
use Rattle.pss_session.specs.inner.Names.{number_at}
use Rattle.pss_session.specs.inner.Register.{IsSound, meaning_of}
use Rattle.pss_session.proofs.Naming.{named_is}
use Rattle.pss_session.proofs.Opened.{record_is}

weaker : {A : Type 0} {P Q : A → Type 0} (o : Option A) → ((x : A) → P x → Q x) → IsSomeAnd o P → IsSomeAnd o Q
weaker None h p = absurd p
weaker (Some x) h p = h x p

-- the session behind a number that was found is there
pub there_named : (m : Meaning) (name : List ℕ) (number : SessionNo) → Some number ≡ number_named m name → IsSome (session_at m number)
there_named m name number is = by (session_named m.sessions name) refl is
  where
    by : (o : Option (ℕ × Session)) → session_named m.sessions name ≡ o → Some number ≡ option_map {U = SessionNo} (λ e. record { 0 = e.0 }) o → IsSome (session_at m number)
    by None at e = absurd (cc)
    by (Some e) at same =
        let one : number.0 ≡ e.0 = cc in
        subst IsSome (sym (ap (get m.sessions) one ∙ found_there (λ e. bytes_eq e.1.name name) m.sessions e at)) refl

module _ (r : Register) (sound : IsSound r) (m : Meaning) (is : meaning_of r ≡ m) (n : ℕ) (row : SessionRecord) (there : row_at r.rows.entries n ≡ Some row) where
  pub row_named : (name : List ℕ) → row.name ≡ name → number_named m name ≡ Some (record { 0 = n })
  row_named name same =
      ap (λ z. number_named z name) (sym is) ∙ named_is r.rows.entries (number_at r.names.entries) sound.named name ∙ ap (number_at r.names.entries) (sym same) ∙ sound.named.found n row there

  pub row_stands : (standing : Standing) → (standing.kind ≡ row.kind) × (standing.access ≡ row.access) × (standing.association ≡ row.association)
      → IsSomeAnd (session_at m (record { 0 = n })) (λ x. (standing.kind ≡ x.kind) × (standing.access ≡ x.access) × (standing.association ≡ x.association))
  row_stands standing same =
      weaker (session_at m (record { 0 = n })) (λ x h. (same.0 ∙ h.1, same.1 ∙ h.2, same.2 ∙ h.3))
      (record_is r.rows.entries m (ap (λ (z : Meaning). z.sessions) is) n row (sym there))
