use Rattle.psdl_standings.specs.Uses.{most_elements}
use Rattle.psdl_standings.proofs.Arrayed.{sizes_more}
use Rattle.psdl_standings.proofs.walk.Walk.sizes.Goals as goal

pub loop-value-preserved : goal.loop-value-preserved
loop-value-preserved c =
    sizes_more c.args.spot most_elements c.args.self.now c.loop-value.self c.size.new.self c.args.dimensions.now c.loop-value.value-index c.value-item.result c.loop-value.sizes.items c.push.new.self.items c.in_ok-size.size c.loop-value-test.true c.value-item.is
    c.loop-value.invariant c.in_ok-size.ensures c.in_ok-push.ensures.items
