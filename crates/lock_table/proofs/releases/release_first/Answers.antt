use Rattle.std.proofs.Common.{[]}
use Rattle.lock_table.proofs.Releasing.{others_released, one_fewer, still_releasing, one_empty}
use Rattle.lock_table.proofs.releases.release_first.Goals as goal

pub drop_empty_row-requires-clause-there : goal.drop_empty_row-requires-clause-there
drop_empty_row-requires-clause-there g c = record { resource = c.in-Some.lock.resource; is = c.in-Some.ensures.unlinks.found }

pub returns-in-Some-clause-still : goal.returns-in-Some-clause-still
returns-in-Some-clause-still g c owner is =
    let drops = c.drop_empty_row.ensures.drops c.in-Some.lock.resource c.in-Some.ensures.unlinks.found in
    still_releasing c.args.links.now c.unlink_first.new.links owner c.args.col c.in-Some.lock c.in-Some.left is c.unlink_first.ensures.linked c.in-Some.ensures.unlinks c.drop_empty_row.new.links c.drop_empty_row.ensures.nodes drops.linked
    (drops.rows [] (one_empty c.args.links.now c.unlink_first.new.links owner c.args.col c.in-Some.lock c.in-Some.left is c.unlink_first.ensures.linked c.in-Some.ensures.unlinks)) drops.cols c.drop_empty_row.ensures.columns

pub returns-in-Some-clause-others : goal.returns-in-Some-clause-others
returns-in-Some-clause-others g c owner is = others_released c.args.links.now c.unlink_first.new.links owner c.args.col c.in-Some.lock c.in-Some.left is c.unlink_first.ensures.linked c.in-Some.ensures.unlinks c.drop_empty_row.new.links c.drop_empty_row.ensures.nodes

pub returns-in-Some-clause-fewer : goal.returns-in-Some-clause-fewer
returns-in-Some-clause-fewer g c owner is = one_fewer c.args.links.now c.unlink_first.new.links owner c.args.col c.in-Some.lock c.in-Some.left is c.unlink_first.ensures.linked c.in-Some.ensures.unlinks c.drop_empty_row.new.links c.drop_empty_row.ensures.nodes
