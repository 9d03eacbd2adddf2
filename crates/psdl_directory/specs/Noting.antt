-- Faults that are noted one by one.
use Rattle.std.specs.Prelude.{List, [], ◌∷◌, Option, Some, None, Bool, true}
use Rattle.pss_base.specs.declared.place.Place.{Place}
use Rattle.psdl_directory.specs.declared.fault.CheckFault.{CheckFault}
use Rattle.psdl_directory.specs.declared.fault.CheckKind.{CheckKind}
use Rattle.psdl_directory.specs.Fault.{fault, is_after, lesser}

-- the least of a fault and those of a list
abbrev pub noting : Option CheckFault → List CheckFault → Option CheckFault
noting first [] = first
noting first (f ∷ fs) = noting (lesser first (Some f)) fs

-- a fault of that kind at that place would be the least
abbrev pub comes_first : Option CheckFault → CheckKind → Place → Bool
comes_first None kind place = true
comes_first (Some first) kind place = is_after first (fault kind place)
