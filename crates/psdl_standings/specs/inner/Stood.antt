-- What is kept of a text.
use Rattle.std.specs.Prelude.{◌≡◌, ℕ, ◌<◌, List, length, map, Bool}
use Rattle.std.specs.List.{range_with_len}
use Rattle.std.proofs.Common.{Vec, Global, get_or}
use Rattle.type_layout.specs.Types.{PlainType}
use Rattle.psdl_directory.specs.Declarations.{Declaration}
use Rattle.psdl_directory.specs.Fault.{least, each}
use Rattle.psdl_standings.specs.declared.body_faults.BodyFaults.{BodyFaults}
use Rattle.psdl_standings.specs.declared.extent.Extent.{Extent as ExtentNode}
use Rattle.psdl_standings.specs.declared.state_entry.StateEntry.{StateEntry}
use Rattle.psdl_standings.specs.Depths.{is_deep}
use Rattle.psdl_standings.specs.Naming.{of_names, of_strings}
use Rattle.psdl_standings.specs.Ranges.{of_values}
use Rattle.psdl_standings.specs.Selves.{of_selves}
use Rattle.psdl_standings.specs.Standings.{standings}
use Rattle.psdl_standings.specs.States.{AreStates, AreKeptBelow}
use Rattle.psdl_standings.specs.inner.Measured.{IsMeasured}

-- the types of the states of each declaration
pub record AreAllStates (all : List Declaration) (types : List PlainType) (states : List (Vec StateEntry Global)) : Type 0 where
  pub many : length states ≡ length all
  pub below : (n : ℕ) (d : Vec StateEntry Global) → n < length all → AreKeptBelow (length types) (length all) (get_or states n d).items
  pub are : (n : ℕ) (d : Vec StateEntry Global) → n < length all → AreStates all types n (get_or states n d).items

pub record HasStood (all : List Declaration) (types : List PlainType) (states : List (Vec StateEntry Global)) (extents : List ExtentNode) (deep : List Bool) (faults : BodyFaults) : Type 0 where
  pub states_of : AreAllStates all types states
  pub extents_of : IsMeasured types extents
  pub deep_of : deep ≡ map (is_deep all (standings all)) (range_with_len 0 (length all))
  pub names : faults.names ≡ least (each (of_names all (standings all)) all)
  pub strings : faults.strings ≡ least (each (of_strings all (standings all)) all)
  pub values : faults.values ≡ least (each (of_values all (standings all)) all)
  pub selves : faults.selves ≡ least (each (of_selves all) all)
