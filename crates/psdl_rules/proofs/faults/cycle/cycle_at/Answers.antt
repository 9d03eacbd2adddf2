use Rattle.std.proofs.Common.{◌∙◌, ap, Option, List, ℕ}
use Rattle.std.specs.List.{flat_map}
use Rattle.psdl_directory.specs.declared.fault.CheckFault.{CheckFault}
use Rattle.psdl_directory.specs.Headers.{header}
use Rattle.psdl_directory.specs.Lookup.{origin}
use Rattle.psdl_directory.specs.Noting.{noting}
use Rattle.psdl_standings.specs.Selves.{of_itself}
use Rattle.psdl_rules.specs.Texts.{judged}
use Rattle.psdl_rules.specs.inner.Headed.{above, own_use}
use Rattle.psdl_rules.proofs.Headers.{over_above, own_is}
use Rattle.psdl_rules.proofs.faults.cycle.cycle_at.Goals as goal

pub returns : goal.returns
returns c = λ lt.
    let all = judged c.args.text.now in
    let n = c.args.number in
    c.header_uses.ensures
    ∙ ap (λ (o : Option ℕ). noting c.args.least.now (flat_map (own_use o) (above (header all n)))) ((rw c.directory.ensures at c.origin-origin.ensures.origin) lt)
    ∙ ap (λ (l : List CheckFault). noting c.args.least.now l) (over_above all n (own_use (origin all n)) (of_itself all n) (own_is all n))
