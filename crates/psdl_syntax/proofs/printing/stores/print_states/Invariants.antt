use Rattle.std.proofs.Common.{◌≡◌, drop, map}
use Rattle.part_readers.specs.Sentences.{joined}
use Rattle.psdl_syntax.specs.Grammar as grammar
use Rattle.psdl_tree.specs.Views as views
use Rattle.psdl_syntax.specs.Printing.{printed}
use Rattle.psdl_syntax.proofs.printing.stores.print_states.Given as goal

abbrev pub invariant-loop-state : goal.invariant-loop-state
invariant-loop-state l = printed l.printer (joined grammar.state (map views.state_view (drop l.state-index l.states))) ≡ printed l.fn.printer (joined grammar.state (map views.state_view l.states))
