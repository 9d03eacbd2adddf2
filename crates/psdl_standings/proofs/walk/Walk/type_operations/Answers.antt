use Rattle.std.specs.List.{flat_map}
use Rattle.psdl_tree.specs.Trees.{AbstractTypeMember}
use Rattle.psdl_tree.specs.Views.{abstract_type_member_view}
use Rattle.psdl_directory.specs.Parts as parts
use Rattle.psdl_standings.specs.Uses.{in_operation, operation_bounds}
use Rattle.psdl_standings.proofs.Bodied.{notes_more, notes_end}
use Rattle.psdl_standings.proofs.walk.Walk.type_operations.Goals as goal

pub loop-member-preserved : goal.loop-member-preserved
loop-member-preserved c =
    notes_more (λ (x : AbstractTypeMember). flat_map (in_operation c.args.spot.limit) (parts.type_operation x)) (λ (x : AbstractTypeMember). flat_map (operation_bounds c.args.spot.limit) (parts.type_operation x)) abstract_type_member_view c.args.self.now c.loop-member.self c.type_operation.new.self c.args.spot c.args.members.now c.loop-member.member-index
    c.member-item.result c.loop-member-test.true c.member-item.is c.loop-member.invariant c.in_ok-type_operation.ensures

pub returns : goal.returns
returns c =
    notes_end (λ (x : AbstractTypeMember). flat_map (in_operation c.args.spot.limit) (parts.type_operation x)) (λ (x : AbstractTypeMember). flat_map (operation_bounds c.args.spot.limit) (parts.type_operation x)) abstract_type_member_view c.args.self.now c.loop-member.self c.args.spot c.args.members.now c.loop-member.member-index c.loop-member-test.false c.loop-member.invariant
