use Rattle.std.proofs.Common.{refl}
use Rattle.pss_machine.specs.declared.command.Command.TheVariants as command
use Rattle.pss_machine.specs.Deciding.{refreshing}
use Rattle.connector_parts.proofs.Bounds.{copies_at}
use Rattle.connector_parts.proofs.Decisions.{no_session, found_as}
use Rattle.session_calls.proofs.Holdings.{may_refresh, refresh_done, refresh_not}
use Rattle.session_calls.proofs.holding.refresh.Goals as goal

pub returns-in_default : goal.returns-in_default
returns-in_default g c k at = no_session c.args.parts.now k at c.args.name.now _ (command.Refresh c.args.name.now) (refreshing k) refl c.as_slice.ensures (c.in_default.ensures k at.stands)

pub refresh-requires : goal.refresh-requires
refresh-requires g c = may_refresh c.args.parts.now c.requires.kept c.requires.at c.args.name.now c.in-Some.found (found_as c.requires.kept _ c.args.name.now c.in-Some.found c.as_slice.ensures (c.in-Some.ensures c.requires.kept c.requires.at.stands)) c.in-Basic.field-0 c.in-Basic.is

pub returns-in-Basic : goal.returns-in-Basic
returns-in-Basic g c k at =
    (let is = (found_as k _ c.args.name.now c.in-Some.found c.as_slice.ensures (c.in-Some.ensures k at.stands)) in refresh_done c.args.parts.now k at c.args.name.now c.in-Some.found is c.in-Basic.field-0 c.in-Basic.is c.refresh.new.self (c.refresh.ensures.refreshed k is.session is.there (copies_at c.args.parts.now k at c.in-Some.found.number is.session is.there) at.stands.attended))

pub returns-in-Transactional : goal.returns-in-Transactional
returns-in-Transactional g c k at = refresh_not c.args.parts.now k at c.args.name.now c.in-Some.found (found_as k _ c.args.name.now c.in-Some.found c.as_slice.ensures (c.in-Some.ensures k at.stands)) c.in-Transactional.is
