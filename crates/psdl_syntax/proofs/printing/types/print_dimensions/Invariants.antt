use Rattle.std.proofs.Common.{◌≡◌, drop, map}
use Rattle.part_readers.specs.Sentences.{joined}
use Rattle.psdl_syntax.specs.Grammar as grammar
use Rattle.psdl_tree.specs.Views as views
use Rattle.psdl_syntax.specs.Printing.{printed}
use Rattle.psdl_syntax.proofs.printing.types.print_dimensions.Given as goal

abbrev pub invariant-loop-size : goal.invariant-loop-size
invariant-loop-size l = printed l.printer (joined grammar.dimension (map views.expression_view (drop l.size-index l.sizes))) ≡ printed l.fn.printer (joined grammar.dimension (map views.expression_view l.sizes))
