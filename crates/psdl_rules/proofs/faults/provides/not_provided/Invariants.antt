use Rattle.psdl_rules.specs.Faults.Provides.{not_provided}
use Rattle.psdl_rules.specs.Texts.{judged}
use Rattle.psdl_rules.specs.inner.Passes.{IsPassed}
use Rattle.psdl_rules.proofs.faults.provides.not_provided.Given as goal

abbrev pub invariant-loop-index : goal.invariant-loop-index
invariant-loop-index l = IsPassed (not_provided (judged l.text)) (judged l.text) l.index l.initial.least l.least
