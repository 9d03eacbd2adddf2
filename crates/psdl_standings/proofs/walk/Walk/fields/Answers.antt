use Rattle.psdl_standings.proofs.Fielded.{fields_begin, fields_more, fields_end}
use Rattle.psdl_standings.proofs.walk.Walk.fields.Goals as goal

pub loop-field-init : goal.loop-field-init
loop-field-init c = fields_begin c.args.self.now c.args.spot c.args.fields.now c.args.parts.now.items c.requires

pub field-requires : goal.field-requires
field-requires c = c.loop-field.invariant.below

pub loop-field-preserved : goal.loop-field-preserved
loop-field-preserved c =
    fields_more c.args.self.now c.args.spot c.loop-field.self c.field.new.self c.args.fields.now c.loop-field.field-index c.field-item.result c.args.parts.now.items c.loop-field.parts.items c.field.new.parts.items c.loop-field-test.true c.field-item.is
    c.loop-field.invariant c.in_ok-field.ensures

pub returns : goal.returns
returns c = fields_end c.args.self.now c.args.spot c.loop-field.self c.args.fields.now c.loop-field.field-index c.args.parts.now.items c.loop-field.parts.items c.loop-field-test.false c.loop-field.invariant
