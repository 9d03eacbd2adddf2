use Rattle.std.proofs.Common.{map}
use Rattle.psdl_tree.specs.Views.{field_view}
use Rattle.psdl_standings.proofs.Fielded.{fields_then, struct_then}
use Rattle.psdl_standings.proofs.walk.Walk.structure.Goals as goal

pub returns : goal.returns
returns c =
    let s = c.args.structure.now in
    struct_then c.args.self.now c.args.spot c.fields.new.self c.add_struct.new.self _ _ _ c.fields.new.parts.items _ c.in_ok-number.number c.new-parts.ensures.items
    (fields_then c.args.self.now c.args.spot c.field.new.self c.fields.new.self (field_view s.first) (map field_view s.others.items) _ c.field.new.parts.items c.fields.new.parts.items c.in_ok-field.ensures (rw c.deref.ensures.value at c.in_ok-fields.ensures))
    (rw c.deref-2.ensures.value at c.in_ok-number.ensures)
