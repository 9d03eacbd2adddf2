use Rattle.std.proofs.Common.{arith}
use Rattle.psdl_lineage.proofs.Kept.{one_none_more, one_none_longer}
use Rattle.psdl_lineage.proofs.source_lists.SourceLists.without.Goals as goal

pub loop-preserved : goal.loop-preserved
loop-preserved c =
    record {
      within = omega (arith, c.loop-test.true);
      sized = omega (arith, one_none_longer c.loop.kept.items c.push.new.self.items c.in_ok-push.ensures.items, c.loop.invariant.sized);
      none = one_none_more c.loop.kept.items c.push.new.self.items c.in_ok-push.ensures.items c.loop.invariant.none;
    }
