use Rattle.std.proofs.Common.{◌≡◌, drop, map}
use Rattle.psdl_syntax.specs.Grammar as grammar
use Rattle.psdl_tree.specs.Views as views
use Rattle.psdl_syntax.specs.Printing.{printed}
use Rattle.psdl_syntax.proofs.printing.types.print_more_declarators.Given as goal

abbrev pub invariant-loop-declarator : goal.invariant-loop-declarator
invariant-loop-declarator l = printed l.printer (grammar.after_commas grammar.declarator (map views.declarator_view (drop l.declarator-index l.declarators))) ≡ printed l.fn.printer (grammar.after_commas grammar.declarator (map views.declarator_view l.declarators))
