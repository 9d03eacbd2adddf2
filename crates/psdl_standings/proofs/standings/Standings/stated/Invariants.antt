use Rattle.std.proofs.Common.{◌≡◌}
use Rattle.psdl_standings.specs.States.{flags}
use Rattle.psdl_standings.specs.Texts.{text_of}
use Rattle.psdl_standings.proofs.standings.Standings.stated.Given as goal

abbrev pub invariant-loop-index : goal.invariant-loop-index
invariant-loop-index l = l.flags.items ≡ flags (text_of l.self) l.index
