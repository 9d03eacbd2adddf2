use Rattle.std.proofs.Common.{◌∙◌, Option, ap}
use Rattle.psdl_directory.specs.declared.fault.CheckFault.{CheckFault}
use Rattle.psdl_directory.specs.Noting.{noting}
use Rattle.psdl_directory.proofs.Noting.{noting-least}
use Rattle.psdl_standings.specs.Standings.{standings}
use Rattle.psdl_rules.specs.Faults.{faults_by, faults}
use Rattle.psdl_rules.specs.Texts.{judged}
use Rattle.psdl_rules.proofs.faults.first_fault.Goals as goal

pub returns : goal.returns
unfolding faults
returns c =
    let all = judged c.args.text.now in
    let fs = faults_by all (standings all) in
    c.fault.ensures ∙ c.in_ok-note_all.ensures ∙ ap (λ (o : Option CheckFault). noting o fs) c.new-least.ensures ∙ noting-least fs
