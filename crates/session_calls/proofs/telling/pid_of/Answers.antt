use Rattle.std.proofs.Common.{Some, None, refl}
use Rattle.pss_machine.specs.declared.command.Command.TheVariants as command
use Rattle.pss_machine.specs.Deciding.{telling_pid}
use Rattle.connector_parts.proofs.Decisions.{no_session, found_as}
use Rattle.session_calls.proofs.Tellings.{told_pid}
use Rattle.session_calls.proofs.telling.pid_of.Goals as goal

pub returns-in_default : goal.returns-in_default
returns-in_default c k at = no_session c.args.parts.now k at c.args.name.now _ (command.PidOf c.args.name.now c.args.entry) (λ s session. telling_pid k s c.args.entry) refl c.as_slice.ensures (c.in_default.ensures k at.stands)

pub returns-in-Some-pid_of : goal.returns-in-Some-pid_of
returns-in-Some-pid_of c k at = told_pid c.args.parts.now k at c.args.name.now c.in-Some.found (found_as k _ c.args.name.now c.in-Some.found c.as_slice.ensures (c.in-Some.ensures k at.stands)) c.args.entry (Some c.in-Some-pid_of.pid) (c.in-Some-pid_of.ensures k at)

pub returns-in-None : goal.returns-in-None
returns-in-None c k at = told_pid c.args.parts.now k at c.args.name.now c.in-Some.found (found_as k _ c.args.name.now c.in-Some.found c.as_slice.ensures (c.in-Some.ensures k at.stands)) c.args.entry None (c.in-None.ensures k at)
