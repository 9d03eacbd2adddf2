-- Sessions that act for owners.
use Rattle.std.proofs.Common.{◌≡◌, ℕ, true, false, List, Option, Some, None, refl, ap, ◌∙◌}
use Rattle.std.specs.Prelude.{Result}
use Rattle.std.specs.Option.{option_map}
use Rattle.std.specs.FinMap.{get}
use Rattle.pss_base.specs.declared.owner.OwnerNo.{OwnerNo}
use Rattle.pss_base.specs.declared.session.SessionNo.{SessionNo}
use Rattle.type_layout.specs.declared.schema.Schema.{Schema}
use Rattle.type_layout.specs.Schemas.{given}
use Rattle.pss_machine.specs.declared.limits.Limits.{Limits}
use Rattle.pss_machine.specs.declared.reply.Reply.{Reply}
use Rattle.pss_machine.specs.declared.reply.Reply.TheVariants as reply
use Rattle.pss_machine.specs.declared.session.Kind.{Kind}
use Rattle.pss_machine.specs.declared.session.Kind.TheVariants.{Basic, Transactional}
use Rattle.pss_machine.specs.declared.session.Association.{Association}
use Rattle.pss_machine.specs.declared.session.Association.TheVariants.{NoTransaction, Active, Suspended, Ending}
use Rattle.pss_machine.specs.Owners.{Owner, Owners}
use Rattle.pss_machine.specs.Sessions.{Session, session_named, is_basic, acts_for, active_in, owner_of}
use Rattle.pss_machine.specs.Kept.{Kept, Actor, actor_in, copies_of}
use Rattle.pss_machine.specs.Attaching.{is_open}
use Rattle.pss_machine.specs.Asking.{Asked, ◌>>=◌}
use Rattle.pss_machine.specs.Effects.{says}
use Rattle.pss_machine.specs.Stepping.{within, decided, data_command}
use Rattle.pss_machine.specs.Deciding.{in_session}
use Rattle.pss_machine.proofs.Logic.{none_some}

abbrev Rest : Session → Kind → Association → Session
Rest x kind association = record { name = x.name; kind = kind; access = x.access; association = association }

-- a basic session acts for itself, and another one for its transaction where it is active
pub basic_acts : (x : Session) (n : OwnerNo) → x.kind ≡ Basic n → acts_for x ≡ Some n
basic_acts x n is = ap (λ (kind : Kind). acts_for (Rest x kind x.association)) is

pub other_acts : (x : Session) → x.kind ≡ Transactional → acts_for x ≡ active_in x.association
other_acts x is = ap (λ (kind : Kind). acts_for (Rest x kind x.association)) is

pub basic_is : (x : Session) (n : OwnerNo) → x.kind ≡ Basic n → is_basic x ≡ true
basic_is x n is = ap (λ (kind : Kind). is_basic (Rest x kind x.association)) is

pub other_is : (x : Session) → x.kind ≡ Transactional → is_basic x ≡ false
other_is x is = ap (λ (kind : Kind). is_basic (Rest x kind x.association)) is

-- who acts for an owner belongs to it, and goes on
pub acts_owned : (x : Session) (n : OwnerNo) → acts_for x ≡ Some n → owner_of x ≡ Some n
acts_owned x n = by x.kind x.association
  where
    by : (kind : Kind) (a : Association) → acts_for (Rest x kind a) ≡ Some n → owner_of (Rest x kind a) ≡ Some n
    by (Basic m) a e = e
    by Transactional NoTransaction e = absurd (none_some e)
    by Transactional (Active m) e = e
    by Transactional (Suspended m) e = absurd (none_some e)
    by Transactional (Ending m) e = absurd (none_some e)

pub acts_open : (x : Session) (n : OwnerNo) → acts_for x ≡ Some n → is_open x ≡ true
acts_open x n = by x.kind x.association
  where
    by : (kind : Kind) (a : Association) → acts_for (Rest x kind a) ≡ Some n → is_open (Rest x kind a) ≡ true
    by (Basic m) a e = refl
    by Transactional NoTransaction e = absurd (none_some e)
    by Transactional (Active m) e = refl
    by Transactional (Suspended m) e = absurd (none_some e)
    by Transactional (Ending m) e = absurd (none_some e)

-- it acts with its owner, where that is there
pub acts_with : (owners : Owners) (x : Session) (n : OwnerNo) (owner : Owner) → acts_for x ≡ Some n → get owners n.0 ≡ Some owner → actor_in owners x ≡ Some (record { number = n; owner = owner })
acts_with owners x n owner acts there =
    ap (λ o. given o None (λ (m : OwnerNo). option_map (λ (w : Owner). record { number = m; owner = w }) (get owners m.0))) acts
    ∙ ap (option_map {U = Actor} (λ (w : Owner). record { number = n; owner = w })) there

-- ---- what is decided of those who do not act

module _ (S : Schema) (limits : Limits) (k : Kept) (name : List ℕ) (asked : SessionNo → Session → Result Asked Reply) where
  pub idle_none : session_named k.sessions name ≡ None → in_session k name (λ s session. data_command S limits k s session (asked s session)) ≡ says reply.NoSession
  idle_none none = ap (λ (o : Option (ℕ × Session)). given o (says reply.NoSession) (λ e. data_command S limits k (record { 0 = e.0 }) e.1 (asked (record { 0 = e.0 }) e.1))) none

  pub in_named : (s : SessionNo) (session : Session) → session_named k.sessions name ≡ Some (s.0, session)
      → in_session k name (λ s session. data_command S limits k s session (asked s session)) ≡ data_command S limits k s session (asked s session)
  in_named s session named = ap (λ (o : Option (ℕ × Session)). given o (says reply.NoSession) (λ e. data_command S limits k (record { 0 = e.0 }) e.1 (asked (record { 0 = e.0 }) e.1))) named

  pub idle_session : (s : SessionNo) (session : Session) → session_named k.sessions name ≡ Some (s.0, session) → acts_for session ≡ None
      → in_session k name (λ s session. data_command S limits k s session (asked s session)) ≡ says reply.NoTx
  idle_session s session named idle =
      in_named s session named
      ∙ ap (λ o. given o (says reply.NoTx) (λ (actor : Actor). decided S k s actor (asked s session >>= within limits k.next actor.owner (copies_of k s))))
      (ap (λ o. given o None (λ (m : OwnerNo). option_map {U = Actor} (λ (w : Owner). record { number = m; owner = w }) (get k.owners m.0))) idle)
