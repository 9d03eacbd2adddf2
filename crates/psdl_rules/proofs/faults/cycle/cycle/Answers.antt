use Rattle.psdl_directory.specs.Fault.{each}
use Rattle.psdl_standings.specs.Selves.{of_selves}
use Rattle.psdl_standings.specs.Texts.{text_of}
use Rattle.psdl_rules.specs.Faults.Cycle.{cycle}
use Rattle.psdl_rules.specs.Texts.{judged}
use Rattle.psdl_rules.proofs.Found.{one_found, two_found}
use Rattle.psdl_rules.proofs.faults.cycle.cycle.Goals as goal

pub returns : goal.returns
returns c =
    let all = judged c.args.text.now in
    two_found c.args.least.now c.header_cycles.new.least c.note_found.new.least (each (cycle all) all) (each (of_selves all) all) c.header_cycles.ensures
    (one_found (λ ds. each (of_selves ds) ds) c.header_cycles.new.least c.note_found.new.least c.selves_fault.result (text_of c.args.standings.now) all c.requires.told c.selves_fault.ensures c.note_found.ensures)
