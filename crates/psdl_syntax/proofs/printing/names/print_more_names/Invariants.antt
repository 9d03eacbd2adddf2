use Rattle.std.proofs.Common.{◌≡◌, drop, map}
use Rattle.psdl_syntax.specs.Grammar.{name, after_commas}
use Rattle.psdl_tree.specs.Views.{name_view}
use Rattle.psdl_syntax.specs.Printing.{printed}
use Rattle.psdl_syntax.proofs.printing.names.print_more_names.Given as goal

abbrev pub invariant-loop-name : goal.invariant-loop-name
invariant-loop-name l = printed l.printer (after_commas name (map name_view (drop l.name-index l.names))) ≡ printed l.fn.printer (after_commas name (map name_view l.names))
