use Rattle.psdl_rules.specs.Faults.Redefined.{redefined_inside}
use Rattle.psdl_rules.specs.Texts.{judged}
use Rattle.psdl_rules.specs.inner.Passes.{IsPassed}
use Rattle.psdl_rules.proofs.redefined_inside.redefined_inside.Given as goal

abbrev pub invariant-loop-index : goal.invariant-loop-index
invariant-loop-index l = IsPassed redefined_inside (judged l.text) l.index l.initial.least l.least
