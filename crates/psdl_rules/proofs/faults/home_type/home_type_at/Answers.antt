use Rattle.std.proofs.Common.{◌∙◌, List, ap}
use Rattle.std.specs.List.{flat_map}
use Rattle.psdl_directory.specs.declared.fault.CheckFault.{CheckFault}
use Rattle.psdl_directory.specs.declared.uses.Use.{Use}
use Rattle.psdl_directory.specs.Headers.{header}
use Rattle.psdl_directory.specs.Lookup.{at}
use Rattle.psdl_directory.specs.Noting.{noting}
use Rattle.psdl_rules.specs.Texts.{judged}
use Rattle.psdl_rules.specs.inner.Headed.{managed_use}
use Rattle.psdl_rules.proofs.Headers.{over_managed}
use Rattle.psdl_rules.proofs.faults.home_type.home_type_at.Goals as goal

pub returns-clause-noted : goal.returns-clause-noted
returns-clause-noted c =
    let all = judged c.args.text.now in
    let n = c.args.number in
    let f = managed_use all n (at all n).what (header all n).bases in
    c.in_ok-managed_uses.ensures.noted
    ∙ ap (λ (l : List Use). noting c.args.least.now (flat_map f l)) c.managed.ensures
    ∙ ap (λ (l : List CheckFault). noting c.args.least.now l) (over_managed all n)
