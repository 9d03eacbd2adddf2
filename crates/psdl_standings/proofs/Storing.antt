-- The bodies of storage types and homes.
use Rattle.std.proofs.Common.{◌≡◌, List, map, Option, Some}
use Rattle.std.specs.Prelude.{option_map}
use Rattle.std.specs.List.{flat_map}
use Rattle.psdl_tree.specs.declared.stores.AbstractTypeBody.{AbstractTypeBody}
use Rattle.psdl_tree.specs.declared.stores.StorageTypeBody.{StorageTypeBody}
use Rattle.psdl_tree.specs.declared.stores.AbstractHomeBody.{AbstractHomeBody}
use Rattle.psdl_tree.specs.Trees.{State, AbstractTypeMember, AbstractHomeMember}
use Rattle.psdl_tree.specs.Views.{state_view, abstract_type_member_view, abstract_type_body_view, storage_type_body_view, abstract_home_member_view, abstract_home_body_view}
use Rattle.psdl_directory.specs.Declarations.{IsAbstractType, IsConcreteType, IsAbstractHome}
use Rattle.psdl_directory.specs.Parts as parts
use Rattle.psdl_standings.specs.declared.spot.Spot.{Spot}
use Rattle.psdl_standings.specs.declared.state_entry.StateEntry.{StateEntry}
use Rattle.psdl_standings.specs.declared.walk.Walk.{Walk}
use Rattle.psdl_standings.specs.States.{types_of_state, state_types}
use Rattle.psdl_standings.specs.Uses.{Use, Bound, in_state_type, state_bounds, in_operation, operation_bounds}
use Rattle.psdl_standings.specs.inner.Declared.{in_body, body_bounds}
use Rattle.psdl_standings.specs.inner.Entries.{Notes, AddsStates}
use Rattle.psdl_standings.proofs.Bodied.{notes_of}
use Rattle.psdl_standings.proofs.Stated.{notes_behind, states_of, states_alone}

pub abstract_walked : (a b d : Walk) (spot : Spot) (body : Option AbstractTypeBody) (x : AbstractTypeBody) (front kept : List StateEntry) → body ≡ Some x
    → AddsStates a b spot (flat_map (λ m. flat_map (λ s. in_state_type spot.limit s.state_type) (parts.state_of m)) (map abstract_type_member_view x.members.items)) (flat_map (λ m. flat_map (λ s. state_bounds spot.limit s.state_type) (parts.state_of m)) (map abstract_type_member_view x.members.items))
    (flat_map (λ m. flat_map types_of_state (parts.state_of m)) (map abstract_type_member_view x.members.items)) front kept
    → Notes b d spot (flat_map (λ m. flat_map (in_operation spot.limit) (parts.type_operation m)) (map abstract_type_member_view x.members.items)) (flat_map (λ m. flat_map (operation_bounds spot.limit) (parts.type_operation m)) (map abstract_type_member_view x.members.items))
    → AddsStates a d spot (in_body spot.limit (IsAbstractType (option_map abstract_type_body_view body))) (body_bounds spot.limit (IsAbstractType (option_map abstract_type_body_view body))) (state_types (IsAbstractType (option_map abstract_type_body_view body))) front kept
abstract_walked a b d spot body x front kept is p q =
    let ms : List AbstractTypeMember = map abstract_type_member_view x.members.items in
    let f : State → List Use = λ s. in_state_type spot.limit s.state_type in
    let g : State → List Bound = λ s. state_bounds spot.limit s.state_type in
    rw is
    (notes_behind a b d spot (flat_map f (flat_map parts.state_of ms)) (flat_map (in_operation spot.limit) (flat_map parts.type_operation ms)) (flat_map g (flat_map parts.state_of ms)) (flat_map (operation_bounds spot.limit) (flat_map parts.type_operation ms))
    (flat_map types_of_state (flat_map parts.state_of ms)) front kept (states_of f g types_of_state parts.state_of a b spot ms front kept p) (notes_of (in_operation spot.limit) (operation_bounds spot.limit) parts.type_operation b d spot ms q))

pub concrete_walked : (a b : Walk) (spot : Spot) (body : Option StorageTypeBody) (x : StorageTypeBody) (front kept : List StateEntry) → body ≡ Some x
    → AddsStates a b spot (flat_map (λ s. in_state_type spot.limit s.state_type) (map state_view x.states.items)) (flat_map (λ s. state_bounds spot.limit s.state_type) (map state_view x.states.items)) (flat_map types_of_state (map state_view x.states.items)) front kept
    → AddsStates a b spot (in_body spot.limit (IsConcreteType (option_map storage_type_body_view body))) (body_bounds spot.limit (IsConcreteType (option_map storage_type_body_view body))) (state_types (IsConcreteType (option_map storage_type_body_view body))) front kept
concrete_walked a b spot body x front kept is p =
    let ss : List State = map state_view x.states.items in
    let f : State → List Use = λ s. in_state_type spot.limit s.state_type in
    let g : State → List Bound = λ s. state_bounds spot.limit s.state_type in
    rw is (states_alone a b spot (flat_map f ss) (flat_map g ss) (flat_map types_of_state ss) front kept p)

pub home_walked : (a b : Walk) (spot : Spot) (body : Option AbstractHomeBody) (x : AbstractHomeBody) → body ≡ Some x
    → Notes a b spot (flat_map (λ m. flat_map (in_operation spot.limit) (parts.home_operation m)) (map abstract_home_member_view x.members.items)) (flat_map (λ m. flat_map (operation_bounds spot.limit) (parts.home_operation m)) (map abstract_home_member_view x.members.items))
    → Notes a b spot (in_body spot.limit (IsAbstractHome (option_map abstract_home_body_view body))) (body_bounds spot.limit (IsAbstractHome (option_map abstract_home_body_view body)))
home_walked a b spot body x is p =
    let ms : List AbstractHomeMember = map abstract_home_member_view x.members.items in
    rw is (notes_of (in_operation spot.limit) (operation_bounds spot.limit) parts.home_operation a b spot ms p)
