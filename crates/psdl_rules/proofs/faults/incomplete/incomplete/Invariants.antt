use Rattle.psdl_rules.specs.Faults.Incomplete.{incomplete}
use Rattle.psdl_rules.specs.Texts.{judged}
use Rattle.psdl_rules.specs.inner.Passes.{IsPassed}
use Rattle.psdl_rules.proofs.faults.incomplete.incomplete.Given as goal

abbrev pub invariant-loop-index : goal.invariant-loop-index
invariant-loop-index l = IsPassed (incomplete (judged l.text)) (judged l.text) l.index l.initial.least l.least
