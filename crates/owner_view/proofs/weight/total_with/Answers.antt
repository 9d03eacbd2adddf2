use Rattle.std.proofs.Common.{arith}
use Rattle.owner_view.specs.Overlay.{changes_in}
use Rattle.owner_view.proofs.Weighing.{net_weighs}
use Rattle.owner_view.proofs.weight.total_with.Goals as goal

pub returns-then-total-lt-LIMIT : goal.returns-then-total-lt-LIMIT
returns-then-total-lt-LIMIT g c v = omega (arith, c.if-total-lt-LIMIT.true, net_weighs c.args.view.now.schema.now v.catalog (changes_in c.args.view.now.overlay.now) c.total_reckoned-total.result (c.total_reckoned-total.ensures v))

pub returns-else-total-lt-LIMIT : goal.returns-else-total-lt-LIMIT
returns-else-total-lt-LIMIT g c v = omega (arith, c.if-total-lt-LIMIT.false, net_weighs c.args.view.now.schema.now v.catalog (changes_in c.args.view.now.overlay.now) c.total_reckoned-total.result (c.total_reckoned-total.ensures v))
