-- What the types of states come to.
use Rattle.std.specs.Prelude.{◌≡◌, ℕ, List, ◌++◌, length, map, Option, true}
use Rattle.std.specs.Option.{option_map}
use Rattle.psdl_tree.specs.Trees.{StateType}
use Rattle.type_layout.specs.declared.home.HomeNo.{HomeNo}
use Rattle.type_layout.specs.Types.{PlainType}
use Rattle.psdl_standings.specs.declared.state_entry.StateEntry.{StateEntry}
use Rattle.psdl_standings.specs.declared.spot.Spot.{Spot}
use Rattle.psdl_standings.specs.declared.walk.Walk.{Walk}
use Rattle.psdl_standings.specs.States.{type_kept, is_kept_below, AreKeptBelow}
use Rattle.psdl_standings.specs.StateTypes.{state_type_by}
use Rattle.psdl_standings.specs.Uses.{Use, Bound}
use Rattle.psdl_standings.specs.inner.Walked.{text_in, names_in, definition_in, noted_in, Goes}

-- the type of a state at a place
abbrev pub type_there : Walk → Spot → (ℕ → List HomeNo) → StateType → Option PlainType
type_there w spot homes type = state_type_by (names_in w spot) (λ name. option_map homes (definition_in w spot name)) type

-- it is kept as that
pub record IsEntry (old new : Walk) (spot : Spot) (type : StateType) (entry : StateEntry) : Type 0 where
  pub below : is_kept_below (length new.types) (length (text_in new)) entry ≡ true
  pub is : (homes : ℕ → List HomeNo) → type_kept new.types homes entry ≡ type_there old spot homes type

-- these names and bounds were walked
pub record Notes (old new : Walk) (spot : Spot) (us : List Use) (bs : List Bound) : Type 0 where
  pub goes : Goes old new
  pub noted : new.faults ≡ noted_in old spot us bs

-- these names and bounds were walked, and states of these types are kept behind those in front
pub record AddsStates (old new : Walk) (spot : Spot) (us : List Use) (bs : List Bound) (types : List StateType) (front kept : List StateEntry) : Type 0 where
  pub notes : Notes old new spot us bs
  pub below : AreKeptBelow (length new.types) (length (text_in new)) kept
  pub are : (homes : ℕ → List HomeNo) → map (type_kept new.types homes) kept ≡ map (type_kept old.types homes) front ++ map (type_there old spot homes) types
