use Rattle.std.proofs.Common.{refl, sym}
use Rattle.pss_machine.specs.declared.command.Command.TheVariants as command
use Rattle.pss_machine.specs.Deciding.{ending}
use Rattle.connector_parts.proofs.Decisions.{no_session, found_as}
use Rattle.session_calls.proofs.Associations.{may_end, end_done, end_not, end_basic}
use Rattle.session_calls.proofs.associating.end.Goals as goal

pub returns-in_default : goal.returns-in_default
returns-in_default g c k at = no_session c.args.parts.now k at c.args.name.now _ (command.End c.args.name.now c.args.ok) (λ s session. ending s session c.args.ok) refl c.as_slice.ensures (c.in_default.ensures k at.stands)

pub end_part-requires : goal.end_part-requires
end_part-requires g c = may_end c.args.parts.now c.requires.kept c.requires.at c.args.name.now c.in-Some.found (found_as c.requires.kept _ c.args.name.now c.in-Some.found c.as_slice.ensures (c.in-Some.ensures c.requires.kept c.requires.at.stands)) c.in-Transactional.is c.in-Some-open.owner (sym c.in-Some-open.ensures)

pub returns-in-Basic : goal.returns-in-Basic
returns-in-Basic g c k at = end_basic c.args.parts.now k at c.args.name.now c.in-Some.found (found_as k _ c.args.name.now c.in-Some.found c.as_slice.ensures (c.in-Some.ensures k at.stands)) c.args.ok c.in-Basic.field-0 c.in-Basic.is

pub returns-in-Some-open : goal.returns-in-Some-open
returns-in-Some-open g c k at =
    end_done c.args.parts.now k at c.args.name.now c.in-Some.found (found_as k _ c.args.name.now c.in-Some.found c.as_slice.ensures (c.in-Some.ensures k at.stands)) c.in-Transactional.is c.args.ok c.in-Some-open.owner (sym c.in-Some-open.ensures) c.end_part.new.parts c.end_part.ensures.rest (c.end_part.ensures.ended k at)

pub returns-in-None : goal.returns-in-None
returns-in-None g c k at = end_not c.args.parts.now k at c.args.name.now c.in-Some.found (found_as k _ c.args.name.now c.in-Some.found c.as_slice.ensures (c.in-Some.ensures k at.stands)) c.in-Transactional.is c.args.ok (sym c.in-None.ensures)
