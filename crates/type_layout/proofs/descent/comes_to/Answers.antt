use Rattle.std.proofs.Common.{sym, ap, ◌∙◌, suc, length, arith}
use Rattle.type_layout.proofs.Bases.{goes_on}
use Rattle.type_layout.proofs.descent.comes_to.Goals as goal

pub loop-preserved : goal.loop-preserved
loop-preserved c = goes_on c.args.schema.now (suc (length c.args.schema.now.homes)) c.loop.counter c.loop.current c.in-Some.base c.args.of _ (omega (arith, c.loop-test.true, ap length c.as_slice.ensures)) (sym c.eq.ensures ∙ c.if-eq.false) (sym c.base_at.ensures ∙ c.in-Some.is) c.loop.invariant
