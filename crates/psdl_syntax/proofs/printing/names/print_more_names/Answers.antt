use Rattle.std.proofs.Common.{rules}
use Rattle.psdl_syntax.specs.Grammar as grammar
use Rattle.psdl_tree.specs.Views.{name_view}
use Rattle.psdl_tokens.specs.declared.token.Mark.TheVariants as marks
use Rattle.psdl_syntax.proofs.Printed.{goes_on}
use Rattle.psdl_syntax.proofs.printing.names.print_more_names.Goals as goal

pub loop-name-preserved : goal.loop-name-preserved
loop-name-preserved c =
    goes_on (grammar.behind (grammar.sign marks.Comma) grammar.name) name_view c.loop-name.printer c.print_name.new.printer _ c.args.names.now c.loop-name.name-index c.name-item.result c.loop-name-test.true c.name-item.is (search rules) c.loop-name.invariant
