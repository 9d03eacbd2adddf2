use Rattle.psdl_tree.specs.Trees.{AbstractTypeMember}
use Rattle.psdl_tree.specs.Views.{abstract_type_member_view}
use Rattle.std.specs.List.{flat_map}
use Rattle.psdl_directory.specs.Parts as parts
use Rattle.psdl_standings.specs.States.{types_of_state}
use Rattle.psdl_standings.specs.Uses.{in_state_type, state_bounds}
use Rattle.psdl_standings.proofs.Stated.{states_begin, states_more, states_end}
use Rattle.psdl_standings.proofs.walk.Walk.type_states.Goals as goal

pub loop-member-init : goal.loop-member-init
loop-member-init c =
    states_begin (λ (x : AbstractTypeMember). flat_map (λ s. in_state_type c.args.spot.limit s.state_type) (parts.state_of x)) (λ (x : AbstractTypeMember). flat_map (λ s. state_bounds c.args.spot.limit s.state_type) (parts.state_of x)) (λ (x : AbstractTypeMember). flat_map types_of_state (parts.state_of x)) abstract_type_member_view c.args.self.now c.args.spot c.args.members.now c.args.kept.now.items c.requires

pub type_state-requires : goal.type_state-requires
type_state-requires c = c.loop-member.invariant.below

pub loop-member-preserved : goal.loop-member-preserved
loop-member-preserved c =
    states_more (λ (x : AbstractTypeMember). flat_map (λ s. in_state_type c.args.spot.limit s.state_type) (parts.state_of x)) (λ (x : AbstractTypeMember). flat_map (λ s. state_bounds c.args.spot.limit s.state_type) (parts.state_of x)) (λ (x : AbstractTypeMember). flat_map types_of_state (parts.state_of x)) abstract_type_member_view c.args.self.now c.loop-member.self c.type_state.new.self c.args.spot c.args.members.now
    c.loop-member.member-index c.member-item.result c.args.kept.now.items c.loop-member.kept.items c.type_state.new.kept.items c.loop-member-test.true c.member-item.is c.loop-member.invariant c.in_ok-type_state.ensures

pub returns : goal.returns
returns c =
    states_end (λ (x : AbstractTypeMember). flat_map (λ s. in_state_type c.args.spot.limit s.state_type) (parts.state_of x)) (λ (x : AbstractTypeMember). flat_map (λ s. state_bounds c.args.spot.limit s.state_type) (parts.state_of x)) (λ (x : AbstractTypeMember). flat_map types_of_state (parts.state_of x)) abstract_type_member_view c.args.self.now c.loop-member.self c.args.spot c.args.members.now c.loop-member.member-index
    c.args.kept.now.items c.loop-member.kept.items c.loop-member-test.false c.loop-member.invariant
