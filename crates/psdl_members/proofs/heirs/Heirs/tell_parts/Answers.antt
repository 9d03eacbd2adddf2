use Rattle.std.proofs.Common.{◌*◌, length, arith}
use Rattle.psdl_members.proofs.Telling.{met_at_first, met_all}
use Rattle.psdl_members.proofs.heirs.Heirs.tell_parts.Goals as goal

pub loop-index-init : goal.loop-index-init
loop-index-init c =
    let self = c.args.self.now in
    record { seen = c.requires.seen; sized = c.requires.sized; met = met_at_first self.graph.now self.rows.now self.claims.columns.items c.args.clashes.now.items (length self.heirs.items) }

pub tell_part-requires-clause-index : goal.tell_part-requires-clause-index
tell_part-requires-clause-index c = omega (arith, c.loop-index-test.true, c.len.ensures, c.args.self.now.claims.columns.ok.0)

pub tell_part-requires-clause-seen : goal.tell_part-requires-clause-seen
tell_part-requires-clause-seen c = c.loop-index.invariant.seen

pub tell_part-requires-clause-sized : goal.tell_part-requires-clause-sized
tell_part-requires-clause-sized c = c.loop-index.invariant.sized

pub loop-index-preserved : goal.loop-index-preserved
loop-index-preserved c = record { seen = c.tell_part.ensures.seen; sized = c.tell_part.ensures.sized; met = c.in_ok-tell_part.ensures.met c.args.clashes.now.items c.loop-index.invariant.met }

pub returns-in_err-tell_part-clause-sized : goal.returns-in_err-tell_part-clause-sized
returns-in_err-tell_part-clause-sized c = c.tell_part.ensures.sized

pub returns-clause-sized : goal.returns-clause-sized
returns-clause-sized c = c.loop-index.invariant.sized

pub returns-clause-clashes : goal.returns-clause-clashes
returns-clause-clashes c =
    let self = c.args.self.now in
    met_all self.graph.now self.rows.now self.claims.columns.items c.args.clashes.now.items c.loop-index.clashes.items (length self.heirs.items) (c.loop-index.index * 64) self.columned (omega (arith, c.loop-index-test.false, c.len.ensures, self.claims.columns.ok.0)) c.loop-index.invariant.met
