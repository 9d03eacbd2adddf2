-- C4: a name stands for another kind than its place needs. Where strings may not stand, and expressions, `of_strings` says.
use Rattle.std.specs.Prelude.{List, [], not}
use Rattle.type_layout.specs.Schemas.{given}
use Rattle.psdl_directory.specs.declared.fault.CheckFault.{CheckFault}
use Rattle.psdl_directory.specs.declared.fault.CheckKind.TheVariants.{WrongKind}
use Rattle.psdl_directory.specs.Declarations.{Path, Declaration}
use Rattle.psdl_directory.specs.Fault.{fault_if}
use Rattle.psdl_directory.specs.Lookup.{as_is, at, meaning, place_of}
use Rattle.psdl_standings.specs.Standings.{Standing, standing}
use Rattle.psdl_standings.specs.Uses.{Use, meets}

abbrev pub wrong_kind : List Declaration → List Standing → Path → Use → List CheckFault
wrong_kind all done path u =
    given (meaning as_is all u.limit path u.name) [] (λ j. fault_if (not (meets u.need (at all j).what (standing done j))) WrongKind (place_of u.name))
