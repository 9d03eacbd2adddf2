use Rattle.std.proofs.Common.{◌≡◌, refl, sym, ap, ◌∙◌}
use Rattle.pss_machine.specs.declared.command.Command.TheVariants as command
use Rattle.pss_machine.specs.declared.reply.Reply.{Reply}
use Rattle.pss_machine.specs.declared.reply.Reply.TheVariants as reply
use Rattle.pss_machine.specs.Deciding.{starting, for_transaction}
use Rattle.pss_machine.specs.Kept.{Kept, transaction_named, name_of}
use Rattle.connector_parts.specs.Stands.{Stands, IsAt, Comes}
use Rattle.connector_parts.proofs.Decisions.{no_session, found_as, replied}
use Rattle.connector_parts.proofs.Tellings.{if_ok}
use Rattle.session_calls.proofs.Associations.{may_start, start_done, start_held, start_none, start_basic}
use Rattle.session_calls.proofs.associating.start.Goals as goal

pub returns-in_default : goal.returns-in_default
returns-in_default c k at = no_session c.args.parts.now k at c.args.name.now _ (command.Start c.args.name.now c.args.transaction.now) (λ s session. for_transaction k c.args.transaction.now (starting k s session)) refl c.as_slice.ensures (c.in_default.ensures k at.stands)

pub returns-in_default-find : goal.returns-in_default-find
returns-in_default-find c k at =
    start_none c.args.parts.now k at c.args.name.now c.in-Some.found (found_as k _ c.args.name.now c.in-Some.found c.as_slice.ensures (c.in-Some.ensures k at.stands)) c.args.transaction.now (c.in_default-find.ensures.machine k (c.titles.ensures c.args.parts.now.schema k at.stands.accounts) ∙ ap (transaction_named k) c.as_slice-2.ensures)

pub start-requires : goal.start-requires
start-requires c = may_start c.args.parts.now c.requires.kept c.requires.at c.args.name.now c.in-Some.found (found_as c.requires.kept _ c.args.name.now c.in-Some.found c.as_slice.ensures (c.in-Some.ensures c.requires.kept c.requires.at.stands)) c.in-Transactional.is c.in-Some-find.owner (sym c.in-None.ensures)

pub returns-in-Basic : goal.returns-in-Basic
returns-in-Basic c k at = start_basic c.args.parts.now k at c.args.name.now c.in-Some.found (found_as k _ c.args.name.now c.in-Some.found c.as_slice.ensures (c.in-Some.ensures k at.stands)) c.args.transaction.now c.in-Some-find.owner c.in-Basic.field-0 (c.in-Some-find.ensures.machine k (c.titles.ensures c.args.parts.now.schema k at.stands.accounts) ∙ ap (transaction_named k) c.as_slice-2.ensures) c.in-Basic.is

pub returns-in-Some-held_by : goal.returns-in-Some-held_by
returns-in-Some-held_by c =
    if_ok (λ (told : Reply). (k : Kept) → Stands c.args.parts.now k → told ≡ reply.Assoc (name_of k c.in-Some-held_by.other)) (λ (told : Reply). (k : Kept) → IsAt c.args.parts.now k → Comes c.args.parts.now k (command.Start c.args.name.now c.args.transaction.now) told c.args.parts.now) c.associated.result
    (λ told is k at. replied c.args.parts.now c.args.parts.now k (command.Start c.args.name.now c.args.transaction.now) (reply.Assoc (name_of k c.in-Some-held_by.other)) told (is k at.stands)
    (start_held c.args.parts.now k at c.args.name.now c.in-Some.found (found_as k _ c.args.name.now c.in-Some.found c.as_slice.ensures (c.in-Some.ensures k at.stands)) c.in-Transactional.is c.args.transaction.now c.in-Some-find.owner (c.in-Some-find.ensures.machine k (c.titles.ensures c.args.parts.now.schema k at.stands.accounts) ∙ ap (transaction_named k) c.as_slice-2.ensures) c.in-Some-held_by.other (sym c.in-Some-held_by.ensures)))
    c.associated.ensures

pub returns-in-None : goal.returns-in-None
returns-in-None c k at = start_done c.args.parts.now k at c.args.name.now c.in-Some.found (found_as k _ c.args.name.now c.in-Some.found c.as_slice.ensures (c.in-Some.ensures k at.stands)) c.in-Transactional.is c.args.transaction.now c.in-Some-find.owner (c.in-Some-find.ensures.machine k (c.titles.ensures c.args.parts.now.schema k at.stands.accounts) ∙ ap (transaction_named k) c.as_slice-2.ensures) (sym c.in-None.ensures) c.start.new.self (c.start.ensures k at.stands.attended)
