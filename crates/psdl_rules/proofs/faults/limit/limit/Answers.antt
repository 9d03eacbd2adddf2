use Rattle.psdl_directory.specs.Fault.{each}
use Rattle.psdl_standings.specs.Standings.{standings}
use Rattle.psdl_rules.specs.Faults.Limit.{long_type, deep_type, many_homes}
use Rattle.psdl_rules.specs.Texts.{judged}
use Rattle.psdl_rules.proofs.Found.{three_found}
use Rattle.psdl_rules.proofs.faults.limit.limit.Goals as goal

pub returns : goal.returns
returns c =
    let all = judged c.args.text.now in
    let done = standings all in
    three_found c.args.least.now c.long_type.new.least c.deep_type.new.least c.many_homes.new.least
    (each (long_type all done) all) (each (deep_type all done) all) (each (many_homes all) all)
    c.in_ok-long_type.ensures c.deep_type.ensures c.many_homes.ensures
