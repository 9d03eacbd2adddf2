use Rattle.psdl_syntax.specs.Grammar as grammar
use Rattle.psdl_tree.specs.Views as views
use Rattle.psdl_syntax.proofs.Printed.{goes_on}
use Rattle.psdl_syntax.proofs.printing.stores.print_home_members.Goals as goal

pub loop-member-preserved : goal.loop-member-preserved
loop-member-preserved c =
    goes_on grammar.home_member views.home_member_view c.loop-member.printer c.print_home_member.new.printer _ c.args.members.now c.loop-member.member-index c.member-item.result c.loop-member-test.true c.member-item.is c.in_ok-print_home_member.ensures c.loop-member.invariant
