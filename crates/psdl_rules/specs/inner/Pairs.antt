-- The types of a home and of one that it names.
use Rattle.std.specs.Prelude.{ℕ, List, Option, Some, None}
use Rattle.std.specs.Option.{option_and_then}
use Rattle.type_layout.specs.Schemas.{given}
use Rattle.psdl_directory.specs.declared.uses.Use.{Use}
use Rattle.psdl_directory.specs.Declarations.{Declaration}
use Rattle.psdl_lineage.specs.Descent.{type_of_home}
use Rattle.psdl_rules.specs.declared.home_types.HomeTypes.{HomeTypes}

-- both, where each has one
abbrev pub both : Option ℕ → Option ℕ → Option HomeTypes
both own named = given own None (λ t. given named None (λ v. Some (record { own = t; named = v })))

-- that of a home, and that of the home that a name means
abbrev pub types_with : List Declaration → Option ℕ → Use → Option HomeTypes
types_with all own u = both own (option_and_then (type_of_home all) u.defined)
