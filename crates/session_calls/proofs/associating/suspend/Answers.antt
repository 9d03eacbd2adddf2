use Rattle.std.proofs.Common.{refl, sym}
use Rattle.pss_machine.specs.declared.command.Command.TheVariants as command
use Rattle.pss_machine.specs.Sessions.{active_in}
use Rattle.pss_machine.specs.Deciding.{suspending}
use Rattle.connector_parts.proofs.Decisions.{no_session, found_as}
use Rattle.session_calls.proofs.Moves.{of_found}
use Rattle.session_calls.proofs.Associations.{may_be, suspend_done, suspend_not, suspend_basic}
use Rattle.session_calls.proofs.associating.suspend.Goals as goal

pub returns-in_default : goal.returns-in_default
returns-in_default c k at = no_session c.args.parts.now k at c.args.name.now _ (command.Suspend c.args.name.now) suspending refl c.as_slice.ensures (c.in_default.ensures k at.stands)

pub suspend-requires : goal.suspend-requires
suspend-requires c = may_be c.args.parts.now c.requires.kept c.requires.at c.args.name.now c.in-Some.found (found_as c.requires.kept _ c.args.name.now c.in-Some.found c.as_slice.ensures (c.in-Some.ensures c.requires.kept c.requires.at.stands)) c.in-Transactional.is active_in c.in-Some-active.field-0 (sym c.in-Some-active.ensures)

pub returns-in-Basic : goal.returns-in-Basic
returns-in-Basic c k at = suspend_basic c.args.parts.now k at c.args.name.now c.in-Some.found (found_as k _ c.args.name.now c.in-Some.found c.as_slice.ensures (c.in-Some.ensures k at.stands)) c.in-Basic.field-0 c.in-Basic.is

pub returns-in-Some-active : goal.returns-in-Some-active
returns-in-Some-active c k at =
    suspend_done c.args.parts.now k at c.args.name.now c.in-Some.found (found_as k _ c.args.name.now c.in-Some.found c.as_slice.ensures (c.in-Some.ensures k at.stands)) c.in-Transactional.is c.in-Some-active.field-0 (sym c.in-Some-active.ensures) c.suspend.new.self
    (of_found c.args.parts.now k at.stands c.args.name.now c.in-Some.found (found_as k _ c.args.name.now c.in-Some.found c.as_slice.ensures (c.in-Some.ensures k at.stands)) active_in _ c.in-Some-active.field-0 (sym c.in-Some-active.ensures) c.suspend.ensures k at.stands.attended)

pub returns-in-None : goal.returns-in-None
returns-in-None c k at = suspend_not c.args.parts.now k at c.args.name.now c.in-Some.found (found_as k _ c.args.name.now c.in-Some.found c.as_slice.ensures (c.in-Some.ensures k at.stands)) c.in-Transactional.is (sym c.in-None.ensures)
