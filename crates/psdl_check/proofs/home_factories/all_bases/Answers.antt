use Rattle.std.proofs.Common.{arith, rules}
use Rattle.psdl_check.proofs.Declared.{one_row_more}
use Rattle.psdl_check.proofs.home_factories.all_bases.Goals as goal

pub loop-number-preserved : goal.loop-number-preserved
loop-number-preserved c =
    record {
      within = omega (arith, c.len-number-end.ensures, c.loop-number-test.true);
      rows = one_row_more (λ (r : _). r.items) c.args.graph.now c.loop-number.number c.loop-number.all.items c.push.new.self.items c.in_ok-bases_of.field-0 (omega (arith, c.len-number-end.ensures, c.loop-number-test.true)) c.loop-number.invariant.rows
          c.in_ok-push.ensures.items (search rules);
    }
