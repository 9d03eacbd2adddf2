use Rattle.psdl_lineage.specs.Lineages.{asked_of}
use Rattle.psdl_check.specs.inner.HeldKeys.{held_view}
use Rattle.psdl_check.specs.inner.KeysMade.{new_one}
use Rattle.psdl_check.proofs.Counting.{few_so_far, one_at_most, one_more}
use Rattle.psdl_check.proofs.numbering.number_next.Goals as goal

pub returns-clause-numbered : goal.returns-clause-numbered
returns-clause-numbered c ids introduced more views front has numbered rest fits of_base are =
    let all = asked_of c.args.conformity.now in
    let home = c.args.home.now in
    one_more all ids introduced (new_one c.args.held.of_base home (held_view c.args.held)) more home.home views (held_view c.args.held) front c.args.keys.now c.number_of.new.keys c.args.numbered.now _ c.in_ok-number.number are rest (one_at_most c.args.held.of_base home (held_view c.args.held))
    (c.in_ok-number.ensures.keys ids introduced has numbered are.known) (c.in_ok-number.ensures.number ids introduced has numbered (few_so_far all ids introduced home.home views front c.args.keys.now c.args.numbered.now are fits) of_base are.known) c.in_ok-push.ensures.ok c.with_key-numbered.ensures
