-- The numbers of homes, by declaration.
use Rattle.std.specs.Prelude.{ℕ, ◌≤◌, List, length, map, filter}
use Rattle.std.specs.List.{range_with_len}
use Rattle.type_layout.specs.declared.home.HomeNo.{HomeNo}
use Rattle.psdl_directory.specs.Declarations.{Declaration}
use Rattle.psdl_directory.specs.Lookup.{at}
use Rattle.psdl_directory.specs.Parts.{is_concrete_home}
use Rattle.psdl_lineage.specs.Descent.{concrete_homes}
use Rattle.psdl_rules.specs.Faults.Limit.{most_homes}
use Rattle.psdl_check.specs.Schemas.{home_no}

-- there are no more concrete homes than a schema may have
abbrev pub HasFewHomes : List Declaration → Type 0
HasFewHomes all = length (concrete_homes all) ≤ most_homes

-- how many of the first so many declarations are concrete homes
abbrev pub homes_in_front : List Declaration → ℕ → ℕ
homes_in_front all i = length (filter (λ n. is_concrete_home (at all n).what) (range_with_len 0 i))

abbrev pub numbers_before : List Declaration → ℕ → List HomeNo
numbers_before all i = map (home_no all) (range_with_len 0 i)

-- of each declaration, 0 where it is no concrete home
abbrev pub home_nos : List Declaration → List HomeNo
home_nos all = numbers_before all (length all)
