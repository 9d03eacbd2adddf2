use Rattle.std.proofs.Common.{◌≡◌, drop, map}
use Rattle.part_readers.specs.Sentences.{joined}
use Rattle.psdl_syntax.specs.Grammar as grammar
use Rattle.psdl_tree.specs.Views as views
use Rattle.psdl_syntax.specs.Printing.{printed}
use Rattle.psdl_syntax.proofs.printing.stores.print_provisions.Given as goal

abbrev pub invariant-loop-provision : goal.invariant-loop-provision
invariant-loop-provision l = printed l.printer (joined grammar.provision (map views.provision_view (drop l.provision-index l.provisions))) ≡ printed l.fn.printer (joined grammar.provision (map views.provision_view l.provisions))
