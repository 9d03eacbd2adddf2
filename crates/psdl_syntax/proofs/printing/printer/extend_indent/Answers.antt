use Rattle.psdl_syntax.proofs.Printed.{one_deeper}
use Rattle.psdl_syntax.proofs.printing.printer.extend_indent.Goals as goal

pub loop-preserved : goal.loop-preserved
loop-preserved c = rw (c.in_ok-extend.ensures.ok, c.loop.invariant) (one_deeper c.args.text.now c.loop.counter)
