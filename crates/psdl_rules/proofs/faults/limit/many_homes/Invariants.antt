use Rattle.psdl_rules.specs.Faults.Limit.{many_homes}
use Rattle.psdl_rules.specs.Texts.{judged}
use Rattle.psdl_rules.specs.inner.Passes.{IsPassed}
use Rattle.psdl_rules.proofs.faults.limit.many_homes.Given as goal

abbrev pub invariant-loop-index : goal.invariant-loop-index
invariant-loop-index l = IsPassed (many_homes (judged l.text)) (judged l.text) l.index l.initial.least l.least
