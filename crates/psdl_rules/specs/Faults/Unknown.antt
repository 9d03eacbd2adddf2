-- C2: a name stands for nothing, also where case is ignored.
use Rattle.std.specs.Prelude.{List, is_none, ◌&&◌}
use Rattle.psdl_directory.specs.declared.fault.CheckFault.{CheckFault}
use Rattle.psdl_directory.specs.declared.fault.CheckKind.TheVariants.{Unknown}
use Rattle.psdl_directory.specs.Declarations.{Path, Declaration}
use Rattle.psdl_directory.specs.Fault.{fault_if}
use Rattle.psdl_directory.specs.Lookup.{as_is, lower, meaning, place_of}
use Rattle.psdl_standings.specs.Uses.{Use}

abbrev pub unknown : List Declaration → Path → Use → List CheckFault
unknown all path u = fault_if (is_none (meaning as_is all u.limit path u.name) && is_none (meaning lower all u.limit path u.name)) Unknown (place_of u.name)
