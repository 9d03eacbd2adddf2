use Rattle.std.proofs.Common.{◌∙◌, drop, ◌+◌}
use Rattle.lock_table.specs.inner.Links.{resources}
use Rattle.lock_table.proofs.Added.{from_next, from_end}
use Rattle.lock_table.proofs.grants.drop_empty_places.Goals as goal

pub loop-at-preserved : goal.loop-at-preserved
loop-at-preserved c = record {
  nodes = c.drop_empty_place.ensures.nodes ∙ c.loop-at.invariant.nodes;
  linked = c.drop_empty_place.ensures.drops.linked;
  rows = c.drop_empty_place.ensures.drops.rows (resources (drop (c.loop-at.at + 1) c.args.locks.now)) (from_next c.loop-at.links c.args.locks.now c.loop-at.at c.index-locks-at.result c.loop-at-test.true c.loop-at.invariant.rows);
  cols = λ keys were. c.drop_empty_place.ensures.drops.cols keys (c.loop-at.invariant.cols keys were);
}

pub returns-clause-rows : goal.returns-clause-rows
returns-clause-rows c = from_end c.loop-at.links c.args.locks.now c.loop-at.at c.loop-at-test.false c.loop-at.invariant.rows
