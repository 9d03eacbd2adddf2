use Rattle.std.proofs.Common.{◌≡◌, refl, sym}
use Rattle.pss_machine.specs.declared.command.Command.TheVariants as command
use Rattle.pss_machine.specs.declared.reply.Reply.{Reply}
use Rattle.pss_machine.specs.declared.reply.Reply.TheVariants as reply
use Rattle.pss_machine.specs.Kept.{Kept, name_of}
use Rattle.pss_machine.specs.Deciding.{closing}
use Rattle.connector_parts.specs.Stands.{Stands, IsAt, Comes}
use Rattle.connector_parts.proofs.Decisions.{no_session, found_as, replied}
use Rattle.connector_parts.proofs.Tellings.{if_ok}
use Rattle.session_calls.proofs.Goings.{may_close, close_done, close_held}
use Rattle.session_calls.proofs.closing.close.Goals as goal

pub returns-in_default : goal.returns-in_default
returns-in_default g c k at = no_session c.args.parts.now k at c.args.name.now _ (command.Close c.args.name.now) (closing k) refl c.as_slice.ensures (c.in_default.ensures k at.stands)

pub close_session-requires : goal.close_session-requires
close_session-requires g c = may_close c.args.parts.now c.requires.kept c.requires.at c.args.name.now c.in-Some.found (found_as c.requires.kept _ c.args.name.now c.in-Some.found c.as_slice.ensures (c.in-Some.ensures c.requires.kept c.requires.at.stands))

pub returns-in-Some-transaction : goal.returns-in-Some-transaction
returns-in-Some-transaction g c =
    if_ok (λ (told : Reply). (k : Kept) → Stands c.args.parts.now k → told ≡ reply.Assoc (name_of k c.in-Some-transaction.owner)) (λ (told : Reply). (k : Kept) → IsAt c.args.parts.now k → Comes c.args.parts.now k (command.Close c.args.name.now) told c.args.parts.now) c.associated.result
    (λ told is k at. replied c.args.parts.now c.args.parts.now k (command.Close c.args.name.now) (reply.Assoc (name_of k c.in-Some-transaction.owner)) told (is k at.stands)
    (close_held c.args.parts.now k at c.args.name.now c.in-Some.found (found_as k _ c.args.name.now c.in-Some.found c.as_slice.ensures (c.in-Some.ensures k at.stands)) c.in-Some-transaction.owner (sym c.in-Some-transaction.ensures)))
    c.associated.ensures

pub returns-in-None : goal.returns-in-None
returns-in-None g c k at =
    (let is = (found_as k _ c.args.name.now c.in-Some.found c.as_slice.ensures (c.in-Some.ensures k at.stands)) in close_done c.args.parts.now k at c.args.name.now c.in-Some.found is (sym c.in-None.ensures) c.close_session.new.parts c.close_session.ensures.rest (c.close_session.ensures.closed k is.session at is.there is.kind_is))
