use Rattle.std.proofs.Common.{◌-◌, refl, arith}
use Rattle.psdl_standings.proofs.Arrayed.{array_more}
use Rattle.psdl_standings.proofs.walk.Walk.arrays_of.Goals as goal

pub loop-left-preserved : goal.loop-left-preserved
loop-left-preserved c =
    record {
      within = omega (arith, c.loop-left.invariant.within);
      adds = array_more c.args.self.now c.loop-left.self c.add_array.new.self c.args.sizes.now (c.loop-left.left - 1) c.loop-left.left _ _ c.args.item c.loop-left.whole c.in_ok-whole.whole (omega (arith, c.loop-left-test.true))
          (omega (arith, c.loop-left-test.true, c.loop-left.invariant.within)) refl c.loop-left.invariant.adds c.in_ok-whole.ensures;
    }
