use Rattle.psdl_syntax.specs.Grammar as grammar
use Rattle.psdl_tree.specs.Views as views
use Rattle.psdl_syntax.proofs.Printed.{goes_on}
use Rattle.psdl_syntax.proofs.printing.types.print_dimensions.Goals as goal

pub loop-size-preserved : goal.loop-size-preserved
loop-size-preserved c =
    goes_on grammar.dimension views.expression_view c.loop-size.printer c.print_dimension.new.printer _ c.args.sizes.now c.loop-size.size-index c.size-item.result c.loop-size-test.true c.size-item.is c.in_ok-print_dimension.ensures c.loop-size.invariant
