use Rattle.std.proofs.Common.{Bool}
use Rattle.pss_machine.specs.Kept.{Kept}
use Rattle.pss_machine.specs.Moving.{ended}
use Rattle.pss_copies.specs.Seats.{Attends}
use Rattle.session_calls.proofs.Associations.{end_requires, end_says, mark_requires}
use Rattle.session_calls.proofs.associating.end_part.Goals as goal

pub end-requires : goal.end-requires
end-requires g c = end_requires c.args.parts.now c.args.session c.args.owner c.requires

pub mark-requires : goal.mark-requires
mark-requires g c = (c.args.parts.now.schema, mark_requires c.args.parts.now c.args.session c.args.owner c.requires)

pub returns-clause-ended : goal.returns-clause-ended
returns-clause-ended g c k at = record {
  accounts = c.mark.ensures c.args.parts.now.schema k c.args.session at.stands.accounts;
  attended = end_says c.args.parts.now c.args.session c.args.owner c.requires (λ n. (j : Kept) (failed : Bool) → Attends j c.args.parts.now.attended → Attends (ended j c.args.session n failed) c.end.new.self) c.end.ensures.ended k c.args.failed at.stands.attended;
}
