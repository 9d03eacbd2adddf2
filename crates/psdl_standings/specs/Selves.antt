-- Structs that name themselves.
use Rattle.std.specs.Prelude.{ℕ, List, [], map, Bool, false, ◌==◌}
use Rattle.std.specs.List.{flat_map}
use Rattle.psdl_tree.specs.Trees.{Name}
use Rattle.type_layout.specs.Schemas.{given}
use Rattle.psdl_directory.specs.declared.fault.CheckFault.{CheckFault}
use Rattle.psdl_directory.specs.declared.fault.CheckKind.TheVariants.{Cycle}
use Rattle.psdl_directory.specs.Declarations.{What, IsStruct, Declaration}
use Rattle.psdl_directory.specs.Lookup.{named, origin, place_of}
use Rattle.psdl_standings.specs.Uses.{uses}
use Rattle.psdl_directory.specs.Fault.{fault_if}

-- a name means the declaration in whose body it stands
abbrev pub is_itself : List Declaration → ℕ → Name → Bool
is_itself all n name = given (named all n name) false (λ j. given (origin all n) false (λ k. j == k))

abbrev pub of_itself : List Declaration → ℕ → Name → List CheckFault
of_itself all n name = fault_if (is_itself all n name) Cycle (place_of name)

-- the names by which a struct could name itself
abbrev pub in_struct : ℕ → What → List Name
in_struct n (IsStruct struct) = map (λ u. u.name) (uses n (IsStruct struct))
in_struct n _ = []

-- a struct names itself in its body
abbrev pub of_selves : List Declaration → ℕ → Declaration → List CheckFault
of_selves all n d = flat_map (of_itself all n) (in_struct n d.what)
