use Rattle.std.proofs.Common.{◌≡◌, drop, map}
use Rattle.part_readers.specs.Sentences.{joined}
use Rattle.psdl_syntax.specs.Grammar as grammar
use Rattle.psdl_tree.specs.Views as views
use Rattle.psdl_syntax.specs.Printing.{printed}
use Rattle.psdl_syntax.proofs.printing.stores.print_abstract_home_members.Given as goal

abbrev pub invariant-loop-member : goal.invariant-loop-member
invariant-loop-member l = printed l.printer (joined grammar.abstract_home_member (map views.abstract_home_member_view (drop l.member-index l.members))) ≡ printed l.fn.printer (joined grammar.abstract_home_member (map views.abstract_home_member_view l.members))
