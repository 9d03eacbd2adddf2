use Rattle.std.proofs.Common.{◌≡◌, take, false}
use Rattle.std.specs.List.{list_any}
use Rattle.psdl_directory.specs.Lookup.{at}
use Rattle.psdl_lineage.specs.Descent.{type_of_home}
use Rattle.psdl_lineage.specs.Lineages.{asked_of}
use Rattle.psdl_rules.specs.Texts.{judged}
use Rattle.psdl_rules.specs.inner.Headed.{differs_as_base}
use Rattle.psdl_rules.proofs.faults.home_type.differs_from_any.Given as goal

abbrev pub invariant-loop-base : goal.invariant-loop-base
invariant-loop-base l = record {
  same : asked_of l.conformity ≡ judged l.text;
  none : list_any (differs_as_base (judged l.text) (at (judged l.text) l.number).what (type_of_home (judged l.text) l.number)) (take l.base-index l.bases) ≡ false;
}
