-- C3: a name stands for something only where case is ignored.
use Rattle.std.specs.Prelude.{List, is_none, is_some, ◌&&◌}
use Rattle.psdl_directory.specs.declared.fault.CheckFault.{CheckFault}
use Rattle.psdl_directory.specs.declared.fault.CheckKind.TheVariants.{WrongCase}
use Rattle.psdl_directory.specs.Declarations.{Path, Declaration}
use Rattle.psdl_directory.specs.Fault.{fault_if}
use Rattle.psdl_directory.specs.Lookup.{as_is, lower, meaning, place_of}
use Rattle.psdl_standings.specs.Uses.{Use}

abbrev pub wrong_case : List Declaration → Path → Use → List CheckFault
wrong_case all path u = fault_if (is_none (meaning as_is all u.limit path u.name) && is_some (meaning lower all u.limit path u.name)) WrongCase (place_of u.name)
