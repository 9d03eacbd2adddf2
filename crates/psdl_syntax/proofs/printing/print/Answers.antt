use Rattle.std.proofs.Common.{◌∙◌, sym, subst}
use Rattle.psdl_tree.specs.Views.{tree_view}
use Rattle.psdl_syntax.specs.Again.{KeepsTree}
use Rattle.psdl_syntax.proofs.Modules.{canonical_printed}
use Rattle.psdl_syntax.proofs.ReadAgain.{canonical_keeps}
use Rattle.psdl_syntax.proofs.printing.print.Goals as goal

pub returns-clause-text : goal.returns-clause-text
returns-clause-text c = c.into_text.ensures ∙ canonical_printed c.args.tree.now c.deref.result.now c.new-printer.result c.print_definitions.new.printer c.deref.ensures.value c.new-printer.ensures c.in_ok-print_definitions.ensures

pub returns-clause-again : goal.returns-clause-again
returns-clause-again c =
    subst (λ text. KeepsTree text (tree_view c.args.tree.now)) (sym (returns-clause-text c)) (canonical_keeps (tree_view c.args.tree.now))
