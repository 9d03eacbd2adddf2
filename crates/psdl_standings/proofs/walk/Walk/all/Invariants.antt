use Rattle.std.proofs.Common.{◌≡◌}
use Rattle.psdl_standings.specs.inner.Declared.{IsLast, IsWalked}
use Rattle.psdl_standings.specs.inner.Walked.{text_in}
use Rattle.psdl_standings.proofs.walk.Walk.all.Given as goal

abbrev pub invariant-loop-number : goal.invariant-loop-number
invariant-loop-number l = record { same : text_in l.self ≡ text_in l.fn.self; walked : IsWalked l.self l.states.items l.number; last : IsLast l.self l.number l.item }
