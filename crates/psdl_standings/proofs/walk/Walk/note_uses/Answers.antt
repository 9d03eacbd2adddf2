use Rattle.psdl_standings.proofs.Goings.{goes_on, uses_more}
use Rattle.psdl_standings.proofs.walk.Walk.note_uses.Goals as goal

pub loop-used-preserved : goal.loop-used-preserved
loop-used-preserved c =
    let mid = c.loop-used.self in
    record {
      goes = goes_on c.args.self.now mid c.note_use.new.self c.loop-used.invariant.goes c.note_use.ensures.goes;
      noted = uses_more c.args.self.now mid c.note_use.new.self c.args.need c.args.uses.now c.loop-used.used-index c.used-item.result c.loop-used-test.true c.used-item.is c.loop-used.invariant.goes c.loop-used.invariant.noted c.note_use.ensures.noted;
    }
