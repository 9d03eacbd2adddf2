use Rattle.psdl_standings.proofs.Measuring.{one_measured, all_measured}
use Rattle.psdl_standings.proofs.type_extents.struct_extent.Goals as goal

pub loop-field-preserved : goal.loop-field-preserved
loop-field-preserved c types are =
    one_measured types c.args.extents.now c.args.fields.now c.loop-field.field-index _ _ c.loop-field.whole c.followed_by-whole.result are c.requires c.loop-field-test.true (c.loop-field.invariant types are) c.followed_by-whole.ensures

pub returns : goal.returns
returns c types are = all_measured types c.args.fields.now c.loop-field.field-index c.loop-field.whole c.loop-field-test.false (c.loop-field.invariant types are)
