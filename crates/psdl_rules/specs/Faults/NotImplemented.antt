-- C11: a home's type does not conform to that of an abstract home that it implements.
use Rattle.std.specs.Prelude.{ℕ, List, not}
use Rattle.std.specs.List.{flat_map}
use Rattle.psdl_tree.specs.Trees.{Name}
use Rattle.psdl_directory.specs.declared.fault.CheckFault.{CheckFault}
use Rattle.psdl_directory.specs.declared.fault.CheckKind.TheVariants.{NotImplemented}
use Rattle.psdl_directory.specs.Declarations.{Declaration}
use Rattle.psdl_directory.specs.Parts.{implemented}
use Rattle.psdl_directory.specs.Lookup.{place_of}
use Rattle.psdl_lineage.specs.Descent.{conforms}
use Rattle.psdl_directory.specs.Fault.{fault_if}
use Rattle.psdl_rules.specs.Words.{of_types}

-- a home implements an abstract home to whose type its own does not conform
abbrev pub of_implemented : List Declaration → ℕ → Name → List CheckFault
of_implemented all n name = fault_if (of_types all n (λ t u. not (conforms all t u)) name) NotImplemented (place_of name)

abbrev pub not_implemented : List Declaration → ℕ → Declaration → List CheckFault
not_implemented all n d = flat_map (of_implemented all n) (implemented d.what)
