use Rattle.psdl_tree.specs.Views.{declarator_view, type_spec_view}
use Rattle.std.proofs.Common.{map}
use Rattle.psdl_standings.proofs.Parted.{below_later}
use Rattle.psdl_standings.proofs.Columned.{field_walked}
use Rattle.psdl_standings.proofs.walk.Walk.field.Goals as goal

pub declarator-requires-clause-parts : goal.declarator-requires-clause-parts
declarator-requires-clause-parts c = below_later c.args.self.now c.spec.new.self c.args.parts.now.items c.in_ok-item.ensures.goes c.requires

pub returns : goal.returns
returns c =
    let field = c.args.field.now in
    field_walked c.args.self.now c.args.spot c.in_ok-item.item c.spec.new.self c.declarator.new.self c.declarators.new.self (type_spec_view field.spec) (declarator_view field.declarators.first) (map declarator_view field.declarators.others.items) c.args.parts.now.items
    c.declarator.new.parts.items c.declarators.new.parts.items c.requires c.in_ok-item.ensures c.in_ok-declarator.ensures (rw c.deref.ensures.value at c.in_ok-declarators.ensures)
