use Rattle.people_demo.proofs.Beginning.{new_is, shape_short}
use Rattle.people_demo.proofs.demo.init.Goals as goal

pub init-requires : goal.init-requires
init-requires g c = shape_short c.args.schema.now c.in-Ok.shape c.requires.schema c.in-Ok.ensures

pub returns-in-Ok-init-clause-made : goal.returns-in-Ok-init-clause-made
returns-in-Ok-init-clause-made g c =
    new_is (g.W.Station.content c.args.station.now) (g.W.Station.content c.init.new.w) c.args.schema.now c.in-Ok.shape c.requires.schema c.in-Ok.ensures c.in-Ok-init.ensures.empty c.in-Ok-init.ensures.told c.in-Ok-init.ensures.made
