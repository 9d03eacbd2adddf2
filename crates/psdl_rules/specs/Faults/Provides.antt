-- C16: no home implements what a catalog provides.
use Rattle.std.specs.Prelude.{ℕ, List, [], is_none}
use Rattle.std.specs.List.{flat_map}
use Rattle.std.specs.Option.{option_and_then}
use Rattle.psdl_tree.specs.Trees.{Provision}
use Rattle.type_layout.specs.Schemas.{given}
use Rattle.psdl_directory.specs.declared.fault.CheckFault.{CheckFault}
use Rattle.psdl_directory.specs.declared.fault.CheckKind.TheVariants.{Provides}
use Rattle.psdl_directory.specs.Declarations.{Declaration}
use Rattle.psdl_directory.specs.Parts.{provided}
use Rattle.psdl_directory.specs.Lookup.{named, definition, place_of}
use Rattle.psdl_lineage.specs.Descent.{provider}
use Rattle.psdl_directory.specs.Fault.{fault_if}

-- no concrete home implements the abstract home that a catalog provides
abbrev pub of_provision : List Declaration → ℕ → Provision → List CheckFault
of_provision all n p =
    given (named all n p.home) [] (λ j. fault_if (is_none (option_and_then (provider all) (definition all j))) Provides (place_of p.home))

abbrev pub not_provided : List Declaration → ℕ → Declaration → List CheckFault
not_provided all n d = flat_map (of_provision all n) (provided d.what)
