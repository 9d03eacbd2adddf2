use Rattle.std.proofs.Common.{◌≡◌, ◌++◌}
use Rattle.psdl_syntax.specs.Canonical.{indent}
use Rattle.psdl_syntax.proofs.printing.printer.extend_indent.Given as goal

abbrev pub invariant-loop : goal.invariant-loop
invariant-loop l = l.text ≡ l.fn.text ++ indent l.counter
