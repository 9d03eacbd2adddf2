use Rattle.std.proofs.Common.{rules}
use Rattle.type_layout.proofs.Named.{one_more_name}
use Rattle.type_layout.proofs.name_places.places_of.Goals as goal

pub loop-i-preserved : goal.loop-i-preserved
loop-i-preserved c =
    one_more_name c.loop-i.places c.enter.new.places c.args.names.now c.loop-i.i c.index-names-i.result c.loop-i-test.true (search rules) c.loop-i.invariant (search rules)
