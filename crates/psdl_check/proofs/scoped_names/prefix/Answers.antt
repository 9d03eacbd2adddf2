use Rattle.std.proofs.Common.{arith}
use Rattle.psdl_check.proofs.Prefixed.{next_module}
use Rattle.psdl_check.proofs.scoped_names.prefix.Goals as goal

pub loop-left-preserved : goal.loop-left-preserved
loop-left-preserved c = record {
  within = omega arith;
  text = next_module c.args.modules.now c.loop-left.left _ c.loop-left.text c.extend.new.self c.extend-in-loop-left.new.self c.loop-left-test.true c.loop-left.invariant.within c.loop-left.invariant.text c.in_ok-extend.ensures.ok c.in_ok-extend-2.ensures.ok;
}
