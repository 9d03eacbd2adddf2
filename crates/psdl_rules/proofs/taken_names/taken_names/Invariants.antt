use Rattle.psdl_rules.specs.Faults.Redefined.{redefined}
use Rattle.psdl_rules.specs.Texts.{judged}
use Rattle.psdl_rules.specs.inner.Passes.{IsPassed}
use Rattle.psdl_rules.proofs.taken_names.taken_names.Given as goal

abbrev pub invariant-loop-index : goal.invariant-loop-index
invariant-loop-index l = IsPassed (redefined (judged l.text)) (judged l.text) l.index l.initial.least l.least
