use Rattle.std.proofs.Common.{[]}
use Rattle.lock_table.specs.inner.Links.{owners}
use Rattle.lock_table.proofs.Added.{own_column}
use Rattle.lock_table.proofs.grants.drop_empty_rings.Goals as goal

pub returns-clause-whole : goal.returns-clause-whole
returns-clause-whole c = record {
  linked = c.drop_empty_column.ensures.linked;
  rows = c.drop_empty_column.ensures.rows [] c.drop_empty_places.ensures.rows;
  cols = c.drop_empty_column.ensures.cols [] (own_column c.drop_empty_places.new.links c.args.locks.now c.args.owner c.requires.own (c.drop_empty_places.ensures.cols (owners c.args.locks.now) c.requires.ready.cols));
}
