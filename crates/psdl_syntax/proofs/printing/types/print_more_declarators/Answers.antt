use Rattle.std.proofs.Common.{rules}
use Rattle.psdl_syntax.specs.Grammar as grammar
use Rattle.psdl_tree.specs.Views as views
use Rattle.psdl_tokens.specs.declared.token.Mark.TheVariants as marks
use Rattle.psdl_syntax.proofs.Printed.{goes_on}
use Rattle.psdl_syntax.proofs.printing.types.print_more_declarators.Goals as goal

pub loop-declarator-preserved : goal.loop-declarator-preserved
loop-declarator-preserved c =
    goes_on (grammar.behind (grammar.sign marks.Comma) grammar.declarator) views.declarator_view c.loop-declarator.printer c.print_declarator.new.printer _ c.args.declarators.now c.loop-declarator.declarator-index c.declarator-item.result c.loop-declarator-test.true c.declarator-item.is (search rules) c.loop-declarator.invariant
