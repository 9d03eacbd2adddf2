-- Laws of faults that are noted.
use Rattle.std.specs.Prelude.{◌≡◌, List, ◌++◌, Option, None, Bool, false}
use Rattle.pss_base.specs.declared.place.Place.{Place}
use Rattle.psdl_directory.specs.declared.fault.CheckFault.{CheckFault}
use Rattle.psdl_directory.specs.declared.fault.CheckKind.{CheckKind}
use Rattle.psdl_directory.specs.Fault.{fault_if, least}
use Rattle.psdl_directory.specs.Noting.{noting, comes_first}

-- all noted one by one, the least is left
abbrev pub LeavesLeast : Type 0
LeavesLeast = (faults : List CheckFault) → noting None faults ≡ least faults

-- the faults of two parts are noted one part behind the other
abbrev pub GoesByParts : Type 0
GoesByParts = (first : Option CheckFault) (faults others : List CheckFault) → noting first (faults ++ others) ≡ noting (noting first faults) others

-- a fault that would not be the least changes nothing, whether it holds or not
abbrev pub ChangesNothing : Type 0
ChangesNothing = (first : Option CheckFault) (kind : CheckKind) (place : Place) (holds : Bool) → comes_first first kind place ≡ false → noting first (fault_if holds kind place) ≡ first
