-- What commands come to in a session or for a transaction that is found.
use Rattle.std.proofs.Common.{ℕ, ◌≡◌, List, Option, Some, None, refl, sym, ap, ◌∙◌, subst}
use Rattle.pss_base.specs.declared.owner.OwnerNo.{OwnerNo}
use Rattle.pss_base.specs.declared.session.SessionNo.{SessionNo}
use Rattle.type_layout.specs.Schemas.{given}
use Rattle.pss_machine.specs.declared.command.Command.{Command}
use Rattle.pss_machine.specs.declared.reply.Reply.{Reply}
use Rattle.pss_machine.specs.declared.reply.Reply.TheVariants as reply
use Rattle.pss_machine.specs.declared.session.Association.{Association}
use Rattle.pss_machine.specs.declared.session.Kind.{Kind}
use Rattle.pss_machine.specs.Sessions.{Session, session_named}
use Rattle.pss_machine.specs.Kept.{Kept, transaction_named}
use Rattle.pss_machine.specs.Effects.{Effect, Decision, does, says}
use Rattle.pss_machine.specs.Deciding.{decision, in_session, for_transaction}
use Rattle.pss_machine.specs.Moving.{moved}
use Rattle.connector_parts.specs.declared.parts.Parts.{Parts}
use Rattle.pss_session.specs.declared.register.Found.{Found}
use Rattle.connector_parts.specs.Stands.{Stands, IsAt, StayAs, Comes}
use Rattle.connector_parts.specs.Found.{IsFound}

-- ---- what is decided

-- in the session that is found
pub in_found : (k : Kept) (name : List ℕ) (found : Found) (is : IsFound k name found) (f : SessionNo → Session → Decision) → in_session k name f ≡ f found.number is.session
in_found k name found is f = ap (λ (o : Option (ℕ × Session)). given o (says reply.NoSession) (λ e. f (record { 0 = e.0 }) e.1)) is.named

-- the session, with its kind and its association written out
abbrev pub with_state : Session → Kind → Association → Session
with_state session kind association = record { name = session.name; kind = kind; access = session.access; association = association }

-- in the session that is found, by its kind and its association
pub in_state : (k : Kept) (name : List ℕ) (found : Found) (is : IsFound k name found) (f : SessionNo → Session → Decision) (kind : Kind) (association : Association) → found.standing.kind ≡ kind → found.standing.association ≡ association
    → in_session k name f ≡ f found.number (with_state is.session kind association)
in_state k name found is f kind association kind_is association_is =
    in_found k name found is f
    ∙ ap (λ (x : Kind). f found.number (with_state is.session x is.session.association)) (sym is.kind_is ∙ kind_is)
    ∙ ap (λ (x : Association). f found.number (with_state is.session kind x)) (sym is.association_is ∙ association_is)

-- in no session
pub in_none : (k : Kept) (name : List ℕ) → session_named k.sessions name ≡ None → (f : SessionNo → Session → Decision) → in_session k name f ≡ says reply.NoSession
in_none k name none f = ap (λ (o : Option (ℕ × Session)). given o (says reply.NoSession) (λ e. f (record { 0 = e.0 }) e.1)) none

-- for the transaction that is found
pub for_found : (k : Kept) (name : List ℕ) (n : OwnerNo) → Some n ≡ transaction_named k name → (f : OwnerNo → Decision) → for_transaction k name f ≡ f n
for_found k name n is f = ap (λ (o : Option OwnerNo). given o (says reply.NoTransaction) f) (sym is)

-- for no transaction
pub for_none : (k : Kept) (name : List ℕ) → None ≡ transaction_named k name → (f : OwnerNo → Decision) → for_transaction k name f ≡ says reply.NoTransaction
for_none k name is f = ap (λ (o : Option OwnerNo). given o (says reply.NoTransaction) f) (sym is)

-- ---- what comes of it

-- a command that is told something, and changes nothing
pub only_told : (c : Parts) (k : Kept) → IsAt c k → (x : Command) (r : Reply) → decision c.schema c.limits k x ≡ says r → Comes c k x r c
only_told c k at x r is = record {
  reply_is = sym (ap (λ (d : Decision). d.reply) is);
  stay = record { schema = refl; limits = refl };
  stands = subst (λ (d : Decision). Stands c (moved k d.effect)) (sym is) at.stands;
}

-- a command that does something
pub comes : (c d : Parts) (k : Kept) (x : Command) (e : Effect) (r : Reply) → decision c.schema c.limits k x ≡ does e r → StayAs c d → Stands d (moved k e) → Comes c k x r d
comes c d k x e r is stay stands = record {
  reply_is = sym (ap (λ (y : Decision). y.reply) is);
  stay = stay;
  stands = subst (λ (y : Decision). Stands d (moved k y.effect)) (sym is) stands;
}

-- the same under another reply that is equal
pub replied : (c d : Parts) (k : Kept) (x : Command) (r s : Reply) → s ≡ r → Comes c k x r d → Comes c k x s d
replied c d k x r s is h = record { reply_is = is ∙ h.reply_is; stay = h.stay; stands = h.stands }

-- a command in a session that is not there
pub no_session : (c : Parts) (k : Kept) → IsAt c k → (name n : List ℕ) (x : Command) (f : SessionNo → Session → Decision) → decision c.schema c.limits k x ≡ in_session k name f → n ≡ name → session_named k.sessions n ≡ None → Comes c k x reply.NoSession c
no_session c k at name n x f decides same none = only_told c k at x reply.NoSession (decides ∙ in_none k name (ap (session_named k.sessions) (sym same) ∙ none) f)

-- the session of the same name
pub found_as : (k : Kept) (n name : List ℕ) (found : Found) → n ≡ name → IsFound k n found → IsFound k name found
found_as k n name found same is = subst (λ (q : List ℕ). IsFound k q found) same is
