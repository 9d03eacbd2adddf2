use Rattle.std.proofs.Common.{refl}
use Rattle.redo_journal.proofs.Headers.{chain_added, ends_there, not_first, not_second, same_place, wrong_there}
use Rattle.redo_journal.proofs.records.record_at.Goals as goal

pub take_body-requires : goal.take_body-requires
take_body-requires g c =
    record { fits = not_second c.is_wrong.result _ c.args.gate c.in-Ok.header.len c.is_wrong.ensures c.if-is_wrong.false; piece = c.in-Ok.ensures.piece }

pub returns-clause-chain : goal.returns-clause-chain
returns-clause-chain g c =
    let header = c.in-Ok.header in
    chain_added c.take_body.result c.args.epoch c.args.gate header c.args.bodies.now c.take_body.new.bodies (g.W.Station.content c.args.w.now) (g.W.Station.content c.header_at.new.w) c.in-Ok.ensures.reads.same c.take_body.ensures.next c.take_body.ensures.added c.requires.chain c.in-Ok.ensures.header
    (not_first c.ends.result header.is_open _ c.ends.ensures c.if-ends.false)
    (not_first c.is_wrong.result header.has_epoch _ c.is_wrong.ensures c.if-is_wrong.false)
    (not_second c.is_wrong.result _ c.args.gate header.len c.is_wrong.ensures c.if-is_wrong.false)

pub returns-then-ends-clause-ends : goal.returns-then-ends-clause-ends
returns-then-ends-clause-ends g c none = ends_there c.ends.result c.args.epoch c.args.gate c.in-Ok.header (g.W.Station.content c.args.w.now) c.ends.ensures c.if-ends.true c.in-Ok.ensures.header

pub returns-then-is_wrong-clause-damaged : goal.returns-then-is_wrong-clause-damaged
returns-then-is_wrong-clause-damaged g c at there = (
  same_place c.args.gate at _ refl there,
  wrong_there c.ends.result c.is_wrong.result c.args.epoch c.args.gate c.in-Ok.header (g.W.Station.content c.args.w.now) c.ends.ensures c.if-ends.false c.is_wrong.ensures c.if-is_wrong.true c.in-Ok.ensures.header,
)
