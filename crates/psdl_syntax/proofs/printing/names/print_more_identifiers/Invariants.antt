use Rattle.std.proofs.Common.{◌≡◌, drop}
use Rattle.psdl_syntax.specs.Grammar.{identifier, after_commas}
use Rattle.psdl_syntax.specs.Printing.{printed}
use Rattle.psdl_syntax.proofs.printing.names.print_more_identifiers.Given as goal

abbrev pub invariant-loop-identifier : goal.invariant-loop-identifier
invariant-loop-identifier l = printed l.printer (after_commas identifier (drop l.identifier-index l.identifiers)) ≡ printed l.fn.printer (after_commas identifier l.identifiers)
