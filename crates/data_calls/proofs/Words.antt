-- What commands ask by their words, and what they come to.
use Rattle.std.proofs.Common.{◌≡◌, ℕ, List, Some, sym, ap, ◌∙◌, subst}
use Rattle.std.specs.Prelude.{Result, Ok}
use Rattle.std.specs.FinMap.{empty}
use Rattle.pss_base.specs.declared.session.SessionNo.{SessionNo}
use Rattle.pss_machine.specs.declared.command.Command.{Command}
use Rattle.pss_machine.specs.declared.reply.Reply.{Reply}
use Rattle.pss_machine.specs.Owners.{Owners}
use Rattle.pss_machine.specs.Sessions.{Session, session_named}
use Rattle.pss_machine.specs.Kept.{Kept, copies_of}
use Rattle.pss_machine.specs.Asking.{Asked}
use Rattle.pss_machine.specs.Effects.{Decision}
use Rattle.pss_machine.specs.Stepping.{within, data_command}
use Rattle.pss_machine.specs.Deciding.{decision, in_session}
use Rattle.pss_machine.specs.Moving.{moved}
use Rattle.pss_machine.proofs.Maps.{insert_here}
use Rattle.pss_asking.specs.declared.asked.Asked.{Asked as AskedHere}
use Rattle.pss_asking.specs.declared.asked.AskFault.{AskFault}
use Rattle.pss_asking.specs.Telling.{Tells, plain_asked}
use Rattle.pss_laws.proofs.Coming.{Okay}
use Rattle.connector_parts.specs.declared.parts.Parts.{Parts}
use Rattle.connector_parts.specs.Stands.{Stands, IsAt, Comes}
use Rattle.connector_parts.proofs.Decisions.{only_told}
use Rattle.data_calls.specs.declared.acting.Acting.{Acting}
use Rattle.data_calls.specs.Acting.{IsNamed, IsIdle}
use Rattle.data_calls.specs.Asking.{IsFair, Asks, AnyAsks, decision_on, Follows}
use Rattle.data_calls.proofs.Actors.{acts_with, in_named}
use Rattle.data_calls.proofs.Fair.{asked_fits, fits_op, only_one, alone_in, IsNamedRight}

-- ---- in the session that a name has

-- a data command of these words, whoever the owners are
abbrev pub IsDataCommand : Parts → Kept → List ℕ → Command → (SessionNo → Session → Result Asked Reply) → Type 0
IsDataCommand c k name command words =
    (owners : Owners) → decision c.schema c.limits (record k { owners = owners }) command ≡ in_session (record k { owners = owners }) name (λ s session. data_command c.schema c.limits (record k { owners = owners }) s session (words s session))

-- the session of an equal name
abbrev pub named_as : {k : Kept} {acting : Acting} (n name : List ℕ) → n ≡ name → IsNamed k n acting → IsNamed k name acting
named_as {k = k} {acting = acting} n name same is = record { is = is.is; named = subst (λ (q : List ℕ). session_named k.sessions q ≡ Some (acting.session.0, is.is.session)) same is.named }

module _ (c : Parts) (k : Kept) (at : IsAt c k) (name : List ℕ) (acting : Acting) (named : IsNamed k name acting) (command : Command) (words : SessionNo → Session → Result Asked Reply) (decides : IsDataCommand c k name command words) where
  -- with the owner alone, nobody holds the command up: so it is fair
  pub fair_words : (asked : Asked) → Okay (IsNamedRight c.schema (copies_of k acting.session)) (words acting.session named.is.session) → words acting.session named.is.session ≡ Ok asked
      → within c.limits k.next named.is.owner (copies_of k acting.session) asked ≡ Ok asked → IsFair c.schema k (copies_of k acting.session) asked
  fair_words asked right told limited =
      let one = only_one c.schema c.limits k acting.session named.is.session acting.owner named.is.owner in
      let alone = alone_in c.schema c.limits k acting.session named.is.session acting.owner named.is.owner in
      let acts = acts_with one named.is.session acting.owner named.is.owner named.is.acts_is (insert_here empty acting.owner.0 named.is.owner) in
      let comes : decision c.schema c.limits alone command ≡ data_command c.schema c.limits alone acting.session named.is.session (Ok asked) =
      decides one ∙ in_named c.schema c.limits alone name words acting.session named.is.session named.named ∙ ap (data_command c.schema c.limits alone acting.session named.is.session) told in
      let fits = asked_fits c.schema c.limits k acting.session named.is.session acting.owner named.is.owner at.reached.sound command asked acts comes limited in
      let is : IsNamedRight c.schema (copies_of k acting.session) asked = subst (λ (r : Result Asked Reply). Okay (IsNamedRight c.schema (copies_of k acting.session)) r) told right in
      record { fits = fits_op c.schema asked.op fits.0 is.member; serial = fits.1; named = is.named }

  -- what is asked
  abbrev pub asks : Okay (IsNamedRight c.schema (copies_of k acting.session)) (words acting.session named.is.session) → Asks c acting (words acting.session named.is.session)
  asks right = record {
    kept = k;
    at = at;
    is = named.is;
    command = command;
    decides = decides k.owners ∙ in_named c.schema c.limits k name words acting.session named.is.session named.named;
    fair = λ asked. fair_words asked right;
  }

  module _ (right : Okay (IsNamedRight c.schema (copies_of k acting.session)) (words acting.session named.is.session)) (asked : Result AskedHere AskFault) (tells : Tells plain_asked asked (words acting.session named.is.session)) where
    pub any_asks : AnyAsks c acting asked
    any_asks = record { told = words acting.session named.is.session; asks = asks right; tells = tells }

    -- what it comes to is the command's decision
    pub comes : (reply : Reply) (new : Parts)
        → ((told : Result Asked Reply) (a : Asks c acting told) → Tells plain_asked asked told → Follows c a.kept (decision_on a) reply new)
        → Comes c k command reply new
    comes reply new follows =
        let a = asks right in
        let f = follows (words acting.session named.is.session) a tells in
        record {
          reply_is = f.reply_is ∙ ap (λ (d : Decision). d.reply) (sym a.decides);
          stay = f.stay;
          stands = subst (λ (d : Decision). Stands new (moved k d.effect)) (sym a.decides) f.stands;
        }

-- ---- in a session where nothing is asked

pub idle : (c : Parts) (k : Kept) → IsAt c k → (n name : List ℕ) → n ≡ name → (reply : Reply) → IsIdle c k n reply → (command : Command) (words : SessionNo → Session → Result Asked Reply)
    → IsDataCommand c k name command words → Comes c k command reply c
idle c k at n name same reply is command words decides = only_told c k at command reply (decides k.owners ∙ subst (λ (q : List ℕ). IsIdle c k q reply) same is words)
