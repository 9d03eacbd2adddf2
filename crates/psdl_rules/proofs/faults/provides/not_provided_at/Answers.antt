use Rattle.std.proofs.Common.{◌∙◌, List, length, ap, sym, subst}
use Rattle.std.specs.List.{flat_map}
use Rattle.psdl_directory.specs.declared.fault.CheckFault.{CheckFault}
use Rattle.psdl_directory.specs.declared.uses.Use.{Use}
use Rattle.psdl_directory.specs.Noting.{noting}
use Rattle.psdl_rules.specs.Texts.{judged}
use Rattle.psdl_rules.specs.inner.Headed.{provided_use, AreThere}
use Rattle.psdl_rules.proofs.Headers.{over_provided, provided_there}
use Rattle.psdl_rules.proofs.faults.provides.not_provided_at.Goals as goal

pub provided_uses-requires : goal.provided_uses-requires
provided_uses-requires c =
    let all = judged c.args.text.now in
    subst (λ (l : List Use). AreThere (length all) l) (sym c.provided.ensures) (provided_there all c.args.number)

pub returns : goal.returns
returns c =
    let all = judged c.args.text.now in
    c.provided_uses.ensures
    ∙ ap (λ (l : List Use). noting c.args.least.now (flat_map (provided_use all) l)) c.provided.ensures
    ∙ ap (λ (l : List CheckFault). noting c.args.least.now l) (over_provided all c.args.number)
