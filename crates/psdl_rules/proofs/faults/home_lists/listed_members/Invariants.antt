use Rattle.psdl_standings.specs.Standings.{standings}
use Rattle.psdl_standings.specs.Texts.{text_of}
use Rattle.psdl_rules.specs.Faults.{listed_wrong}
use Rattle.psdl_rules.specs.Texts.{judged}
use Rattle.psdl_rules.specs.inner.Passes.{IsPassed}
use Rattle.psdl_rules.specs.inner.Typed.{HaveMembers}
use Rattle.psdl_rules.proofs.faults.home_lists.listed_members.Given as goal

abbrev pub invariant-loop-index : goal.invariant-loop-index
invariant-loop-index l = record {
  sources : HaveMembers (text_of l.standings) l.sources;
  passed : IsPassed (listed_wrong (judged l.text) (standings (judged l.text))) (judged l.text) l.index l.initial.least l.least;
}
