use Rattle.psdl_syntax.specs.Grammar as grammar
use Rattle.psdl_tree.specs.Views as views
use Rattle.psdl_syntax.proofs.Printed.{goes_on}
use Rattle.psdl_syntax.proofs.printing.stores.print_provisions.Goals as goal

pub loop-provision-preserved : goal.loop-provision-preserved
loop-provision-preserved c =
    goes_on grammar.provision views.provision_view c.loop-provision.printer c.print_provision.new.printer _ c.args.provisions.now c.loop-provision.provision-index c.provision-item.result c.loop-provision-test.true c.provision-item.is c.in_ok-print_provision.ensures c.loop-provision.invariant
