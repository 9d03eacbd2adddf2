-- Sessions and entries that change, while objects and owners stay.
use Rattle.std.proofs.Common.{ℕ, ◌≡◌, List, Option, Some, refl, sym, ap, ◌∙◌}
use Rattle.std.specs.Prelude.{IsSomeAnd}
use Rattle.std.specs.FinMap.{get}
use Rattle.pss_base.specs.declared.owner.OwnerNo.{OwnerNo}
use Rattle.pss_machine.specs.declared.session.Association.{Association}
use Rattle.pss_machine.specs.Sessions.{Session, Sessions}
use Rattle.pss_machine.specs.Copies.{AllCopies}
use Rattle.pss_machine.specs.Kept.{Kept}
use Rattle.pss_session.specs.Meaning.{session_at}
use Rattle.owner_titles.proofs.Tables.{passes}
use Rattle.pss_copies.specs.declared.parts.Parts.{Parts as Attending}
use Rattle.pss_copies.specs.Seats.{Attends}
use Rattle.connector_parts.specs.declared.parts.Parts.{Parts}
use Rattle.pss_session.specs.declared.register.Found.{Found}
use Rattle.connector_parts.specs.Stands.{Stands, StayAs}
use Rattle.connector_parts.specs.Found.{IsFound}
use Rattle.connector_parts.proofs.Goings.{accounts_alike}

-- the parts with other sessions and entries
abbrev pub with_attended : Parts → Attending → Parts
with_attended c a = record c { attended = a }

pub stays_as : (c : Parts) (a : Attending) → StayAs c (with_attended c a)
stays_as c a = record { schema = refl; limits = refl }

module _ (c : Parts) (k : Kept) (stands : Stands c k) (a : Attending) where
  pub sessions_move : (sessions : Sessions) (all : AllCopies) → Attends (record k { sessions = sessions; copies = all }) a → Stands (with_attended c a) (record k { sessions = sessions; copies = all })
  sessions_move sessions all attends = record {
    accounts = accounts_alike c.schema c.accounts k (record k { sessions = sessions; copies = all }) stands.accounts refl refl refl refl refl refl refl;
    attended = attends;
  }

-- the session that a name finds
module _ (c : Parts) (k : Kept) (stands : Stands c k) (name : List ℕ) (found : Found) (is : IsFound k name found) where
  pub in_attended : session_at c.attended.sessions found.number ≡ Some is.session
  in_attended = ap (λ (s : Sessions). get s found.number.0) stands.attended.sessions ∙ is.there

  -- what is said of its transaction
  pub of_found : (f : Association → Option OwnerNo) (P : OwnerNo → Type 0) (n : OwnerNo) → f found.standing.association ≡ Some n → IsSomeAnd (session_at c.attended.sessions found.number) (λ x. IsSomeAnd (f x.association) P) → P n
  of_found f P n with_it h =
      passes P (f is.session.association) n (ap f (sym is.association_is) ∙ with_it)
      (passes (λ (x : Session). IsSomeAnd (f x.association) P) (session_at c.attended.sessions found.number) is.session in_attended h)
