use Rattle.std.proofs.Common.{◌≡◌, drop, map}
use Rattle.psdl_syntax.specs.Grammar as grammar
use Rattle.psdl_tree.specs.Views as views
use Rattle.psdl_syntax.specs.Printing.{printed}
use Rattle.psdl_syntax.proofs.printing.members.print_more_parameters.Given as goal

abbrev pub invariant-loop-parameter : goal.invariant-loop-parameter
invariant-loop-parameter l = printed l.printer (grammar.after_commas grammar.parameter (map views.parameter_view (drop l.parameter-index l.parameters))) ≡ printed l.fn.printer (grammar.after_commas grammar.parameter (map views.parameter_view l.parameters))
