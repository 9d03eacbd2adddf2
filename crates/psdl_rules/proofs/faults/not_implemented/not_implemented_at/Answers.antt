use Rattle.std.proofs.Common.{◌∙◌, List, ap}
use Rattle.std.specs.List.{flat_map}
use Rattle.psdl_directory.specs.declared.fault.CheckFault.{CheckFault}
use Rattle.psdl_directory.specs.declared.uses.Use.{Use}
use Rattle.psdl_directory.specs.Lookup.{at}
use Rattle.psdl_directory.specs.Noting.{noting}
use Rattle.psdl_directory.specs.Parts.{implemented}
use Rattle.psdl_lineage.specs.Descent.{type_of_home}
use Rattle.psdl_rules.specs.Faults.NotImplemented.{of_implemented}
use Rattle.psdl_rules.specs.Texts.{judged}
use Rattle.psdl_rules.specs.inner.Headed.{implemented_use}
use Rattle.psdl_rules.proofs.Headers.{over_names, implemented_is}
use Rattle.psdl_rules.proofs.faults.not_implemented.not_implemented_at.Goals as goal

pub returns-clause-noted : goal.returns-clause-noted
returns-clause-noted c =
    let all = judged c.args.text.now in
    let n = c.args.number in
    let f = implemented_use all (type_of_home all n) in
    c.in_ok-implemented_uses.ensures.noted
    ∙ ap (λ (l : List Use). noting c.args.least.now (flat_map f l)) c.implemented.ensures
    ∙ ap (λ (l : List CheckFault). noting c.args.least.now l) (over_names all n f (of_implemented all n) (implemented_is all n) (implemented (at all n).what))
