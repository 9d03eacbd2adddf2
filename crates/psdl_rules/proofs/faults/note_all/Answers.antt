use Rattle.psdl_standings.specs.Standings.{standings}
use Rattle.psdl_rules.specs.Faults.{body_faults, definition_faults, member_faults, home_faults}
use Rattle.psdl_rules.specs.Faults.Redefined.{redefined_faults}
use Rattle.psdl_rules.specs.Texts.{judged}
use Rattle.psdl_rules.proofs.Found.{five_found}
use Rattle.psdl_rules.proofs.faults.note_all.Goals as goal

pub returns : goal.returns
returns c =
    let all = judged c.args.text.now in
    let done = standings all in
    five_found c.args.least.now c.redefined.new.least c.body_faults.new.least c.definition_faults.new.least c.member_faults.new.least c.home_faults.new.least
    (redefined_faults all) (body_faults all done) (definition_faults all done) (member_faults all done) (home_faults all)
    c.in_ok-redefined.ensures (rw c.requires.told at c.body_faults.ensures) c.in_ok-definition_faults.ensures c.in_ok-member_faults.ensures c.in_ok-home_faults.ensures
