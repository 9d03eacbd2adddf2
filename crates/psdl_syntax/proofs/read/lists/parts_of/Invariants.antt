use Rattle.std.proofs.Common.{◌≡◌, ◌-◌, length, map}
use Rattle.part_readers.specs.Reading.{many_at, many}
use Rattle.part_readers.proofs.Loops.{with_front}
use Rattle.psdl_syntax.specs.Seen.{seen}
use Rattle.psdl_syntax.specs.Lists.{begins}
use Rattle.psdl_syntax.proofs.read.lists.parts_of.Given as goal

abbrev pub invariant-loop : goal.invariant-loop
invariant-loop g l = with_front (map g.P.Part.part_view l.parts.items) (many_at (begins l.start) (g.P.Part.part_at l.depth) (length l.tokens - l.counter) (map seen l.rest)) ≡ many (begins l.start) (g.P.Part.part_at l.depth) (map seen l.tokens)
