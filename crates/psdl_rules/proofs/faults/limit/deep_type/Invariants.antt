use Rattle.psdl_standings.specs.Standings.{standings}
use Rattle.psdl_rules.specs.Faults.Limit.{deep_type}
use Rattle.psdl_rules.specs.Texts.{judged}
use Rattle.psdl_rules.specs.inner.Passes.{IsPassed}
use Rattle.psdl_rules.proofs.faults.limit.deep_type.Given as goal

abbrev pub invariant-loop-index : goal.invariant-loop-index
invariant-loop-index l = IsPassed (deep_type (judged l.text) (standings (judged l.text))) (judged l.text) l.index l.initial.least l.least
