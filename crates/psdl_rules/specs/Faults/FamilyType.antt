-- C13: a home has the type of an earlier home of its family.
use Rattle.std.specs.Prelude.{ℕ, List, take, Bool, false, ◌&&◌, ◌==◌}
use Rattle.std.specs.List.{list_any, enumerate_from}
use Rattle.type_layout.specs.Schemas.{given}
use Rattle.psdl_directory.specs.declared.fault.CheckFault.{CheckFault}
use Rattle.psdl_directory.specs.declared.fault.CheckKind.TheVariants.{FamilyType}
use Rattle.psdl_directory.specs.Declarations.{Declaration}
use Rattle.psdl_directory.specs.Parts.{is_concrete_home}
use Rattle.psdl_lineage.specs.Descent.{type_of_home, family}
use Rattle.psdl_directory.specs.Fault.{fault_if}

-- two homes of one family have one type
abbrev pub shares_type : List Declaration → ℕ → ℕ → Bool
shares_type all m n = family all m == family all n && given (type_of_home all m) false (λ t. given (type_of_home all n) false (λ u. t == u))

-- a home's type is that of another home of its family before it
abbrev pub family_type : List Declaration → ℕ → Declaration → List CheckFault
family_type all n d =
    fault_if (is_concrete_home d.what && list_any (λ e. is_concrete_home e.1.what && shares_type all e.0 n) (enumerate_from 0 (take n all))) FamilyType d.place
