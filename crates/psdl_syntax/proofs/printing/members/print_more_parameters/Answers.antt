use Rattle.std.proofs.Common.{rules}
use Rattle.psdl_syntax.specs.Grammar as grammar
use Rattle.psdl_tree.specs.Views as views
use Rattle.psdl_tokens.specs.declared.token.Mark.TheVariants as marks
use Rattle.psdl_syntax.proofs.Printed.{goes_on}
use Rattle.psdl_syntax.proofs.printing.members.print_more_parameters.Goals as goal

pub loop-parameter-preserved : goal.loop-parameter-preserved
loop-parameter-preserved c =
    goes_on (grammar.behind (grammar.sign marks.Comma) grammar.parameter) views.parameter_view c.loop-parameter.printer c.print_parameter.new.printer _ c.args.parameters.now c.loop-parameter.parameter-index c.parameter-item.result c.loop-parameter-test.true c.parameter-item.is (search rules) c.loop-parameter.invariant
