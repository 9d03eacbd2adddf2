use Rattle.std.proofs.Common.{◌+◌, take, rules}
use Rattle.type_layout.proofs.Firsts.{one_entered}
use Rattle.type_layout.proofs.Named.{taken_one_more}
use Rattle.type_layout.proofs.factory_names.enter_all.Goals as goal

pub loop-factory-preserved : goal.loop-factory-preserved
loop-factory-preserved c =
    one_entered c.args.names.now c.loop-factory.names c.enter.new.places c.args.number (take c.loop-factory.factory-index c.args.declared.now) (take (c.loop-factory.factory-index + 1) c.args.declared.now) c.factory-item.result
    (taken_one_more c.args.declared.now c.loop-factory.factory-index c.factory-item.result c.loop-factory-test.true (search rules)) c.loop-factory.invariant (search rules)
