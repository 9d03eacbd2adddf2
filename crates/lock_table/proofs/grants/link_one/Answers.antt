use Rattle.std.proofs.Common.{ap, ◌∙◌}
use Rattle.std.specs.FinSet as set
use Rattle.lock_table.specs.Locks.{held_by}
use Rattle.lock_table.specs.Standing.{need_of}
use Rattle.lock_table.specs.inner.Nodes.{with_lock}
use Rattle.lock_table.proofs.Added.{some_is}
use Rattle.lock_table.proofs.Holding.{held_same}
use Rattle.lock_table.proofs.Linking.{linked_alone}
use Rattle.lock_table.proofs.grants.link_one.Goals as goal

pub insert-requires-clause-new : goal.insert-requires-clause-new
insert-requires-clause-new c = ap (λ held. set.contains (held_by held c.args.lock.owner) (need_of c.args.lock)) (held_same c.args.links.now.pool c.make_crossing.new.links.pool c.make_crossing.ensures.nodes) ∙ c.requires.missing.new

pub returns-in-Ok-clause-whole : goal.returns-in-Ok-clause-whole
returns-in-Ok-clause-whole c =
    (linked_alone c.make_crossing.new.links c.insert.new.links c.in-Ok.at.col c.args.lock c.make_crossing.ensures.ready (some_is _ _ c.in-Ok.ensures.crossing.found.place) c.in-Ok.ensures.crossing.col c.in-Ok.ensures.crossing.room c.insert.ensures.linked c.insert.ensures.links).0

pub returns-in-Ok-clause-ok : goal.returns-in-Ok-clause-ok
returns-in-Ok-clause-ok c = c.insert.ensures.links.held ∙ ap (with_lock c.args.lock) (held_same c.args.links.now.pool c.make_crossing.new.links.pool c.make_crossing.ensures.nodes)
