use Rattle.std.proofs.Common.{refl}
use Rattle.session_calls.proofs.Goings.{close_requires, basic_closes, other_closes}
use Rattle.session_calls.proofs.closing.close_session.Goals as goal

pub close-requires : goal.close-requires
close-requires g c = record { there = close_requires c.args.parts.now c.args.session c.args.kind c.requires }

pub returns-in-Basic-clause-closed : goal.returns-in-Basic-clause-closed
returns-in-Basic-clause-closed g c k x at there kind =
    basic_closes c.args.parts.now _ (record { schema = refl; limits = refl }) k at c.args.session x there c.args.kind kind c.in-Basic.owner c.in-Basic.is c.leave.ensures (c.close.ensures.closed k at.stands.attended) c.entries_stay.ensures.goes

pub returns-in-Transactional-clause-closed : goal.returns-in-Transactional-clause-closed
returns-in-Transactional-clause-closed g c k x at there kind =
    other_closes c.args.parts.now _ (record { schema = refl; limits = refl }) k at c.args.session x there c.args.kind kind c.in-Transactional.is refl (c.close.ensures.closed k at.stands.attended)
