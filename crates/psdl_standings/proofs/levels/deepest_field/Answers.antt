use Rattle.psdl_standings.proofs.Leveling.{deepest_more}
use Rattle.psdl_standings.proofs.levels.deepest_field.Goals as goal

pub loop-field-preserved : goal.loop-field-preserved
loop-field-preserved c types are =
    deepest_more types c.args.levels.now c.args.fields.now c.loop-field.field-index _ _ c.loop-field.deepest c.deeper-deepest.result are c.requires c.loop-field-test.true (c.loop-field.invariant types are) c.deeper-deepest.ensures
