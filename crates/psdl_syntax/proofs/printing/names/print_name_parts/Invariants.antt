use Rattle.std.proofs.Common.{◌≡◌, drop}
use Rattle.part_readers.specs.Sentences.{joined}
use Rattle.psdl_syntax.specs.Grammar.{name_part}
use Rattle.psdl_syntax.specs.Printing.{printed}
use Rattle.psdl_syntax.proofs.printing.names.print_name_parts.Given as goal

abbrev pub invariant-loop-part : goal.invariant-loop-part
invariant-loop-part l = printed l.printer (joined name_part (drop l.part-index l.parts)) ≡ printed l.fn.printer (joined name_part l.parts)
