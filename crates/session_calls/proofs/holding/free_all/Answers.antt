use Rattle.std.proofs.Common.{refl}
use Rattle.pss_machine.specs.declared.command.Command.TheVariants as command
use Rattle.pss_machine.specs.Deciding.{freeing}
use Rattle.connector_parts.proofs.Bounds.{copies_at}
use Rattle.connector_parts.proofs.Decisions.{no_session, found_as}
use Rattle.session_calls.proofs.Holdings.{freed}
use Rattle.session_calls.proofs.holding.free_all.Goals as goal

pub returns-in-Some : goal.returns-in-Some
returns-in-Some g c k at =
    (let is = (found_as k _ c.args.name.now c.in-Some.found c.as_slice.ensures (c.in-Some.ensures k at.stands)) in freed c.args.parts.now k at c.args.name.now c.in-Some.found is c.free_all.new.self (c.free_all.ensures.freed k (copies_at c.args.parts.now k at c.in-Some.found.number is.session is.there) at.stands.attended))

pub returns-in-None : goal.returns-in-None
returns-in-None g c k at = no_session c.args.parts.now k at c.args.name.now _ (command.FreeAll c.args.name.now) (λ s session. freeing k s) refl c.as_slice.ensures (c.in-None.ensures k at.stands)
