use Rattle.psdl_rules.specs.Faults.FamilyType.{family_type}
use Rattle.psdl_rules.specs.Texts.{judged}
use Rattle.psdl_rules.specs.inner.Passes.{IsPassed}
use Rattle.psdl_rules.specs.inner.Related.{AreMet}
use Rattle.psdl_rules.proofs.faults.family_type.family_type.Given as goal

abbrev pub invariant-loop-index : goal.invariant-loop-index
invariant-loop-index l = record {
  met : AreMet (judged l.text) l.index l.members;
  passed : IsPassed (family_type (judged l.text)) (judged l.text) l.index l.initial.least l.least;
}
