use Rattle.std.proofs.Common.{arith}
use Rattle.psdl_members.proofs.Telling.{told_at_first}
use Rattle.psdl_members.proofs.heirs.Heirs.tell_all.Goals as goal

pub loop-number-init : goal.loop-number-init
loop-number-init c =
    let self = c.args.self.now in
    record { seen = c.requires.seen; sized = c.requires.sized; told = λ es few are. told_at_first self.graph.now self.rows.now es c.args.clashes.now.items c.args.seen.now.items are }

pub tell-requires-clause-number : goal.tell-requires-clause-number
tell-requires-clause-number c = omega (arith, c.loop-number-test.true, c.len-number-end.ensures, c.args.self.now.heirs.ok.0)

pub tell-requires-clause-seen : goal.tell-requires-clause-seen
tell-requires-clause-seen c = c.loop-number.invariant.seen

pub tell-requires-clause-sized : goal.tell-requires-clause-sized
tell-requires-clause-sized c = c.loop-number.invariant.sized

pub loop-number-preserved : goal.loop-number-preserved
loop-number-preserved c =
    record {
      seen = c.tell.ensures.seen;
      sized = c.tell.ensures.sized;
      told = λ es few are. c.tell.ensures.told es c.args.clashes.now.items few (c.loop-number.invariant.told es few are);
    }

pub returns-clause-seen : goal.returns-clause-seen
returns-clause-seen c = c.loop-number.invariant.seen

pub returns-clause-sized : goal.returns-clause-sized
returns-clause-sized c = c.loop-number.invariant.sized

pub returns-clause-told : goal.returns-clause-told
returns-clause-told c es few are n lt = (c.loop-number.invariant.told es few are).told n (omega (arith, lt, c.loop-number-test.false, c.len-number-end.ensures, c.args.self.now.heirs.ok.0))
