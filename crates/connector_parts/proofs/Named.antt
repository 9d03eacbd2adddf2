-- What is known of a session that was found by its name.
use Rattle.std.proofs.Common.{ℕ, ◌≡◌, List, Option, Some, None, IsSome, refl, sym, ap, ◌∙◌, subst}
use Rattle.std.specs.Prelude.{IsSomeAnd, MatchOption}
use Rattle.std.specs.Option.{option_map}
use Rattle.std.specs.Str.{bytes_eq}
use Rattle.std.specs.FinMap.{get}
use Rattle.pss_base.specs.declared.session.SessionNo.{SessionNo}
use Rattle.pss_machine.specs.Sessions.{Session, Sessions, session_named}
use Rattle.pss_machine.proofs.Found.{found_there}
use Rattle.pss_machine.specs.Kept.{Kept}
use Rattle.pss_session.specs.declared.register.Found.{Found}
use Rattle.pss_session.specs.Finding.{IsFound as IsFoundThere}
use Rattle.pss_session.specs.Meaning.{Meaning, session_at, number_named}
use Rattle.connector_parts.specs.Found.{IsFound}

-- the session behind a number that was found
pub record Behind (sessions : Sessions) (name : List ℕ) (number : SessionNo) : Type 0 where
  pub session : Session
  pub named : session_named sessions name ≡ Some (number.0, session)
  pub there : get sessions number.0 ≡ Some session

pub behind : (m : Meaning) (name : List ℕ) (number : SessionNo) → Some number ≡ number_named m name → Behind m.sessions name number
behind m name number is = by (session_named m.sessions name) refl is
  where
    by : (o : Option (ℕ × Session)) → session_named m.sessions name ≡ o → Some number ≡ option_map {U = SessionNo} (λ e. record { 0 = e.0 }) o → Behind m.sessions name number
    by None at e = absurd (cc)
    by (Some e) at same =
        let one : number.0 ≡ e.0 = cc in
        record {
          session = e.1;
          named = at ∙ ap Some (λ i. (sym one i, e.1));
          there = ap (get m.sessions) one ∙ found_there (λ e. bytes_eq e.1.name name) m.sessions e at;
        }

pub some_is : {A : Type 0} (o : Option A) (x : A) → o ≡ Some x → IsSome o
some_is o x is = subst IsSome (sym is) refl

-- what a test of the session there tells
pub told : (P : Session → Type 0) (o : Option Session) (x : Session) → o ≡ Some x → IsSomeAnd o P → P x
told P o x is holds = subst (λ z. IsSomeAnd z P) is holds

-- the session of a name, as the machine keeps it
pub found_of : (m : Meaning) (k : Kept) → m.sessions ≡ k.sessions → (name : List ℕ) (o : Option Found) → MatchOption o (number_named m name ≡ None) (IsFoundThere m name) → MatchOption o (session_named k.sessions name ≡ None) (IsFound k name)
found_of m k same name None is = ap (λ (s : Sessions). session_named s name) (sym same) ∙ none (session_named m.sessions name) is
  where
    none : (o : Option (ℕ × Session)) → option_map {U = SessionNo} (λ e. record { 0 = e.0 }) o ≡ None → o ≡ None
    none None e = refl
    none (Some x) e = absurd (cc)
found_of m k same name (Some found) is =
    let b = behind m name found.number (sym is.named) in
    let stands = told (λ x. (found.standing.kind ≡ x.kind) × (found.standing.access ≡ x.access) × (found.standing.association ≡ x.association)) (session_at m found.number) b.session b.there is.stands in
    record {
      session = b.session;
      named = ap (λ (s : Sessions). session_named s name) (sym same) ∙ b.named;
      there = ap (λ (s : Sessions). get s found.number.0) (sym same) ∙ b.there;
      kind_is = stands.0;
      access_is = stands.1;
      association_is = stands.2;
    }
