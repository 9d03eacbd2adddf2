use Rattle.std.proofs.Common.{◌≡◌, drop, map}
use Rattle.part_readers.specs.Sentences.{joined}
use Rattle.psdl_syntax.specs.Grammar as grammar
use Rattle.psdl_tree.specs.Views as views
use Rattle.psdl_syntax.specs.Printing.{printed}
use Rattle.psdl_syntax.proofs.printing.definitions.+print_definition.Given as goal

abbrev pub invariant-print_definitions-loop-definition : goal.invariant-print_definitions-loop-definition
invariant-print_definitions-loop-definition l = printed l.printer (joined grammar.definition (map views.definition_view (drop l.definition-index l.definitions))) ≡ printed l.fn.printer (joined grammar.definition (map views.definition_view l.definitions))
