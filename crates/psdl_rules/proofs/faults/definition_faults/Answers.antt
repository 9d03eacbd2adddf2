use Rattle.psdl_directory.specs.Fault.{each}
use Rattle.psdl_standings.specs.Standings.{standings}
use Rattle.psdl_rules.specs.Faults.Incomplete.{incomplete}
use Rattle.psdl_rules.specs.Faults.Cycle.{cycle_faults}
use Rattle.psdl_rules.specs.Faults.Limit.{limit_faults}
use Rattle.psdl_rules.specs.Texts.{judged}
use Rattle.psdl_rules.proofs.Found.{three_found}
use Rattle.psdl_rules.proofs.faults.definition_faults.Goals as goal

pub returns : goal.returns
returns c =
    let all = judged c.args.text.now in
    three_found c.args.least.now c.incomplete.new.least c.cycle.new.least c.limit.new.least
    (each (incomplete all) all) (cycle_faults all) (limit_faults all (standings all))
    c.incomplete.ensures c.cycle.ensures c.in_ok-limit.ensures
