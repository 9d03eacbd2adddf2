-- C5: what stands in a header is only declared so far, or what is declared is never defined.
use Rattle.std.specs.Prelude.{ℕ, List, [], is_none, Bool, false, not, ◌&&◌, ◌+◌, ◌++◌, nat_lt}
use Rattle.std.specs.List.{flat_map}
use Rattle.psdl_tree.specs.Trees.{Name}
use Rattle.type_layout.specs.Schemas.{given}
use Rattle.psdl_directory.specs.declared.fault.CheckFault.{CheckFault}
use Rattle.psdl_directory.specs.Declarations.{Declaration}
use Rattle.psdl_directory.specs.Lookup.{named, definition, place_of}
use Rattle.psdl_directory.specs.Fault.{fault_if}
use Rattle.psdl_directory.specs.declared.fault.CheckKind.TheVariants.{Incomplete}
use Rattle.psdl_directory.specs.Parts.{is_forward}
use Rattle.psdl_rules.specs.Words.{above}

-- what is declared there is defined by the n-th declaration
abbrev pub is_defined_by : List Declaration → ℕ → ℕ → Bool
is_defined_by all n j = given (definition all j) false (λ k. nat_lt k (n + 1))

-- a type or home that is only forward so far stands as base, in `of` or in `implements`
abbrev pub of_forward : List Declaration → ℕ → Name → List CheckFault
of_forward all n name = given (named all n name) [] (λ j. fault_if (not (is_defined_by all n j)) Incomplete (place_of name))

-- a forward declaration is never defined
abbrev pub never_defined : List Declaration → ℕ → Declaration → List CheckFault
never_defined all n d = fault_if (is_forward d.what && is_none (definition all n)) Incomplete d.place

abbrev pub incomplete : List Declaration → ℕ → Declaration → List CheckFault
incomplete all n d = never_defined all n d ++ flat_map (of_forward all n) (above d.what)
