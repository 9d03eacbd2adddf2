use Rattle.std.proofs.Common.{◌∷◌, [], ap, ◌∙◌}
use Rattle.lock_table.specs.Locks.{blocker}
use Rattle.lock_table.specs.inner.Nodes.{held_in}
use Rattle.lock_table.proofs.Alone.{alone_free}
use Rattle.lock_table.proofs.Blocking.{blocker-none, blocker-more}
use Rattle.lock_table.proofs.asks.blocker_of.Goals as goal

pub returns-then-is_alone : goal.returns-then-is_alone
returns-then-is_alone c = alone_free c.args.links.now c.requires c.args.owner (c.is_alone.ensures c.if-is_alone.true) c.args.needs.now

pub loop-need-init : goal.loop-need-init
loop-need-init c = blocker-none (held_in c.args.links.now.pool) c.args.owner

pub loop-need-preserved : goal.loop-need-preserved
loop-need-preserved c =
    blocker-more (held_in c.args.links.now.pool) c.args.owner c.args.needs.now c.loop-need.need-index c.need-item.result c.loop-need-test.true c.loop-need.least c.blocker_of_one.result c.lesser-least.result c.loop-need.invariant (c.blocker_of_one.ensures ∙ ap (λ n. blocker (held_in c.args.links.now.pool) c.args.owner (n ∷ [])) c.need-item.is) c.lesser-least.ensures
