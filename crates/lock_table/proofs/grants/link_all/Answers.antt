use Rattle.lock_table.proofs.Linking.{links_on}
use Rattle.lock_table.proofs.grants.link_all.Goals as goal

pub loop-lock-preserved : goal.loop-lock-preserved
loop-lock-preserved c = links_on c.args.links.now c.loop-lock.links c.args.col c.args.locks.items c.pop.new.self.items c.loop-lock.rest.items c.in-Some.lock c.loop-lock.invariant c.in-Some.ensures.items c.link.new.links c.link.ensures.linked c.link.ensures.links
