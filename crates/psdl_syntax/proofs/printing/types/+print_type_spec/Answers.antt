use Rattle.std.proofs.Common.{◌≡◌, OnOk, subst}
use Rattle.psdl_syntax.specs.declared.printing.printer.Printer.{Printer}
use Rattle.psdl_syntax.proofs.Sequences.{sequence_printed}
use Rattle.psdl_syntax.proofs.printing.types.+print_type_spec.Goals as goal

pub returns-in_ok-print_sequence_bound-in-Sequence :
    goal.returns-in_ok-print_sequence_bound-in-Sequence
returns-in_ok-print_sequence_bound-in-Sequence t c =
    subst (λ (q : Printer). OnOk c.mark-in-Sequence.result (c.mark-in-Sequence.new.self ≡ q))
    (sequence_printed c.args.printer.now c.word.new.self c.mark.new.self c.print_type_spec.new.printer c.print_sequence_bound.new.printer c.args.spec.now c.in-Sequence.item c.deref.result.now c.in-Sequence.bound c.in-Sequence.is c.deref.ensures c.in_ok-word-in-Sequence.ensures c.in_ok-mark-in-Sequence.ensures c.in_ok-print_type_spec-in-Sequence.ensures c.in_ok-print_sequence_bound-in-Sequence.ensures)
    c.mark-in-Sequence.ensures
