use Rattle.psdl_rules.specs.Faults.Cycle.{cycle}
use Rattle.psdl_rules.specs.Texts.{judged}
use Rattle.psdl_rules.specs.inner.Passes.{IsPassed}
use Rattle.psdl_rules.proofs.faults.cycle.header_cycles.Given as goal

abbrev pub invariant-loop-index : goal.invariant-loop-index
invariant-loop-index l = IsPassed (cycle (judged l.text)) (judged l.text) l.index l.initial.least l.least
