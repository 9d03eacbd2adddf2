use Rattle.std.proofs.Common.{refl, sym, subst}
use Rattle.pss_machine.specs.declared.command.Command.TheVariants as command
use Rattle.pss_machine.specs.declared.reply.Reply.TheVariants as reply
use Rattle.pss_machine.specs.declared.session.StateName.{StateName}
use Rattle.pss_machine.specs.Deciding.{telling_state}
use Rattle.connector_parts.specs.Stands.{Comes}
use Rattle.connector_parts.proofs.Decisions.{no_session, found_as}
use Rattle.session_calls.proofs.Tellings.{status_of_basic, status_of_other}
use Rattle.session_calls.proofs.telling.status.Goals as goal

pub returns-in_default : goal.returns-in_default
returns-in_default c k at = no_session c.args.parts.now k at c.args.name.now _ (command.Status c.args.name.now) (λ s session. telling_state session) refl c.as_slice.ensures (c.in_default.ensures k at.stands)

pub returns-in-Basic : goal.returns-in-Basic
returns-in-Basic c k at = status_of_basic c.args.parts.now k at c.args.name.now c.in-Some.found (found_as k _ c.args.name.now c.in-Some.found c.as_slice.ensures (c.in-Some.ensures k at.stands)) c.in-Basic.field-0 c.in-Basic.is

pub returns-in-Transactional : goal.returns-in-Transactional
returns-in-Transactional c k at =
    subst (λ (s : StateName). Comes c.args.parts.now k (command.Status c.args.name.now) (reply.State s) c.args.parts.now) (sym c.state.ensures) (status_of_other c.args.parts.now k at c.args.name.now c.in-Some.found (found_as k _ c.args.name.now c.in-Some.found c.as_slice.ensures (c.in-Some.ensures k at.stands)) c.in-Transactional.is)
