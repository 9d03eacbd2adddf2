use Rattle.lock_table.proofs.Linking.{LinksSome}
use Rattle.lock_table.proofs.grants.link_all.Given as goal

abbrev pub invariant-loop-lock : goal.invariant-loop-lock
invariant-loop-lock l = LinksSome l.fn.links l.links l.col l.fn.locks.items l.rest.items

abbrev pub decreases-loop-lock : goal.decreases-loop-lock
decreases-loop-lock l = goal.left-loop-lock l
