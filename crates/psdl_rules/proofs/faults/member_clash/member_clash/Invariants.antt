use Rattle.std.proofs.Common.{◌≡◌}
use Rattle.psdl_members.specs.Texts.{inherited_in}
use Rattle.psdl_rules.specs.Faults.MemberClash.{member_clash}
use Rattle.psdl_rules.specs.Texts.{judged}
use Rattle.psdl_rules.specs.inner.Passes.{IsPassed}
use Rattle.psdl_rules.proofs.faults.member_clash.member_clash.Given as goal

abbrev pub invariant-loop-index : goal.invariant-loop-index
invariant-loop-index l = record {
  same : inherited_in l.inherited ≡ judged l.text;
  passed : IsPassed (member_clash (judged l.text)) (judged l.text) l.index l.initial.least l.least;
}
