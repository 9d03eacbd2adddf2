-- C17: a type has too many members, too long a default record or too deep a nesting, or there are too many homes.
use Rattle.std.specs.Prelude.{ℕ, List, [], Bool, false, not, ◌&&◌, ◌||◌, ◌==◌, ◌+◌, ◌++◌, nat_lt, length}
use Rattle.type_layout.specs.Schemas.{given}
use Rattle.psdl_directory.specs.declared.fault.CheckFault.{CheckFault}
use Rattle.psdl_directory.specs.Declarations.{Declaration}
use Rattle.psdl_directory.specs.Parts.{is_concrete_type, is_concrete_home, is_forward, is_storage_type}
use Rattle.psdl_directory.specs.Fault.{fault_if, each}
use Rattle.std.specs.List.{position_from}
use Rattle.type_layout.specs.Defaults.{default_record}
use Rattle.type_layout.specs.Spelling.{record_spelling}
use Rattle.psdl_directory.specs.declared.fault.CheckKind.TheVariants.{Limit}
use Rattle.psdl_standings.specs.Standings.{Standing}
use Rattle.psdl_lineage.specs.Descent.{members, concrete_homes}
use Rattle.psdl_rules.specs.Layouts.{layout}
use Rattle.psdl_standings.specs.Nesting.{nesting_of}
use Rattle.psdl_rules.specs.Words.{has_settled_header}

abbrev pub most_members : ℕ
most_members = 255

abbrev pub most_octets : ℕ
most_octets = 8000

-- the default record of a type is too long; a reference's default is nil, whatever homes it may have
abbrev pub has_long_default : List Declaration → List Standing → ℕ → Bool
has_long_default all done n = given (layout all done (λ _. []) n) false (λ ms. nat_lt most_octets (length (record_spelling ms (default_record ms))))

-- a storage type has too many members, or a concrete one a default record that is too long
abbrev pub long_type : List Declaration → List Standing → ℕ → Declaration → List CheckFault
long_type all done n d =
    fault_if
    (is_storage_type d.what && not (is_forward d.what) && has_settled_header all n && (nat_lt most_members (length (members all n)) || (is_concrete_type d.what && has_long_default all done n)))
    Limit
    d.place

abbrev pub most_nested : ℕ
most_nested = 32

-- the nesting of a typedef's declarator or of a struct is too deep
abbrev pub deep_type : List Declaration → List Standing → ℕ → Declaration → List CheckFault
deep_type all done n d = fault_if (given (nesting_of all done n d.path d.what) false (λ k. nat_lt most_nested k)) Limit d.place

abbrev pub most_homes : ℕ
most_homes = 4096

-- the number of a concrete home, from 1
abbrev pub home_number : List Declaration → ℕ → ℕ
home_number all n = given (position_from (λ m. m == n) 1 (concrete_homes all)) 0 (λ k. k)

-- the home with which the limit is passed
abbrev pub many_homes : List Declaration → ℕ → Declaration → List CheckFault
many_homes all n d = fault_if (is_concrete_home d.what && home_number all n == most_homes + 1) Limit d.place

abbrev pub limit_faults : List Declaration → List Standing → List CheckFault
limit_faults all done = each (long_type all done) all ++ each (deep_type all done) all ++ each (many_homes all) all

-- of the shape of a schema, which is judged behind all other conditions
abbrev pub most_shape : ℕ
most_shape = 65536
