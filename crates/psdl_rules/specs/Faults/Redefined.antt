-- C1: an identifier is declared twice in a scope.
use Rattle.std.specs.Prelude.{ℕ, List, [], take, Bool, not, ◌&&◌, ◌||◌, ◌++◌, ◌∷◌}
use Rattle.std.specs.List.{flat_map, list_any}
use Rattle.psdl_directory.specs.declared.fault.CheckFault.{CheckFault}
use Rattle.psdl_directory.specs.Declarations.{Declaration}
use Rattle.psdl_directory.specs.Fault.{fault_if, each}
use Rattle.psdl_directory.specs.Parts.{is_forward, is_module, same_kind, scopes}
use Rattle.std.specs.Str.{bytes_eq}
use Rattle.psdl_tree.specs.declared.names.Identifier.{Identifier}
use Rattle.psdl_directory.specs.declared.fault.CheckKind.TheVariants.{Redefined}
use Rattle.psdl_directory.specs.Lookup.{lower, is_named}
use Rattle.psdl_members.specs.Clashes.{are_alike}

-- a module opened again, or a forward declaration beside another one or beside the definition
abbrev pub is_again : Declaration → Declaration → Bool
is_again d e = bytes_eq d.name e.name && same_kind d.what e.what && (is_module d.what || is_forward d.what || is_forward e.what)

-- the other stands in the same scope, equals it but for case, and is not the same thing declared again
abbrev pub takes_name_of : Declaration → Declaration → Bool
takes_name_of d e = is_named lower d.path d.name e && not (is_again d e)

-- an identifier equals, but for case, an earlier one of its scope
abbrev pub redefined : List Declaration → ℕ → Declaration → List CheckFault
redefined all n d = fault_if (list_any (takes_name_of d) (take n all)) Redefined d.place

-- the same of the identifiers of a scope, behind those that stand earlier
abbrev pub redefined_behind : List Identifier → List Identifier → List CheckFault
redefined_behind earlier [] = []
redefined_behind earlier (i ∷ is) = fault_if (list_any (are_alike i) earlier) Redefined i.place ++ redefined_behind (i ∷ earlier) is

abbrev pub redefined_in : List Identifier → List CheckFault
redefined_in scope = redefined_behind [] scope

-- the same inside a declaration
abbrev pub redefined_inside : ℕ → Declaration → List CheckFault
redefined_inside n d = flat_map redefined_in (scopes d.what)

abbrev pub redefined_faults : List Declaration → List CheckFault
redefined_faults all = each (redefined all) all ++ each redefined_inside all
