use Rattle.psdl_syntax.specs.Grammar as grammar
use Rattle.psdl_tree.specs.Views as views
use Rattle.psdl_syntax.proofs.Printed.{goes_on}
use Rattle.psdl_syntax.proofs.printing.stores.print_states.Goals as goal

pub loop-state-preserved : goal.loop-state-preserved
loop-state-preserved c =
    goes_on grammar.state views.state_view c.loop-state.printer c.print_state.new.printer _ c.args.states.now c.loop-state.state-index c.state-item.result c.loop-state-test.true c.state-item.is c.in_ok-print_state.ensures c.loop-state.invariant
