use Rattle.std.proofs.Common.{◌≡◌, ◌+◌, ◌*◌, ◌-◌, length, map}
use Rattle.part_readers.specs.Reading.{many_at, many}
use Rattle.part_readers.proofs.Loops.{with_front}
use Rattle.psdl_syntax.specs.Seen.{seen}
use Rattle.psdl_tree.specs.Views.{definition_view}
use Rattle.psdl_syntax.specs.Productions.{is_inside, definition_at}
use Rattle.psdl_syntax.proofs.read.definitions.+definitions.Given as goal

abbrev pub decreases-definitions_of : goal.decreases-definitions_of
decreases-definitions_of l = 4 * l.depth + 3

abbrev pub decreases-definition_of : goal.decreases-definition_of
decreases-definition_of l = 4 * l.depth + 2

abbrev pub decreases-body_of : goal.decreases-body_of
decreases-body_of l = 4 * l.depth + 1

abbrev pub decreases-module_of : goal.decreases-module_of
decreases-module_of l = 4 * l.depth

abbrev pub invariant-definitions_of-loop : goal.invariant-definitions_of-loop
invariant-definitions_of-loop l = with_front (map definition_view l.items.items) (many_at is_inside (definition_at l.depth) (length l.tokens - l.counter) (map seen l.rest)) ≡ many is_inside (definition_at l.depth) (map seen l.tokens)
