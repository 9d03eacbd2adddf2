-- The faults of a text, with that of its shape.
use Rattle.std.specs.Prelude.{ℕ, List, [], ◌∷◌, length, take, Option, nat_lt}
use Rattle.std.specs.List.{find, range_with_len}
use Rattle.std.specs.Option.{option_and_then}
use Rattle.type_layout.specs.declared.schema.Schema.{Schema}
use Rattle.type_layout.specs.Schemas.{given, nth}
use Rattle.type_layout.specs.ShapeText.{lines_from}
use Rattle.psdl_directory.specs.declared.fault.CheckFault.{CheckFault}
use Rattle.psdl_directory.specs.declared.fault.CheckKind.TheVariants.{Limit, NoMemory}
use Rattle.psdl_directory.specs.Declarations.{Declaration}
use Rattle.psdl_directory.specs.Lookup.{at}
use Rattle.psdl_lineage.specs.Descent.{concrete_homes}
use Rattle.psdl_rules.specs.Faults.Limit.{most_shape}
use Rattle.psdl_rules.specs.Faults.{faults}
use Rattle.psdl_check.specs.Schemas.{schema}
use Rattle.psdl_directory.specs.Fault.{fault, least}

-- how many homes it takes to pass the limit of the shape text
abbrev pub passing : Schema → Option ℕ
passing S = find (λ k. nat_lt most_shape (length (lines_from S 1 (take k S.homes)))) (range_with_len 1 (length S.homes))

-- the home with which the shape text passes its limit
abbrev pub long_shape : List Declaration → List CheckFault
long_shape all = given (option_and_then (nth (concrete_homes all)) (passing (schema all))) [] (λ h. fault Limit (at all h).place ∷ [])

-- the first list, or else the second where that is empty
abbrev pub or_else : {A : Type 0} → List A → List A → List A
or_else [] ys = ys
or_else (x ∷ xs) ys = x ∷ xs

-- the shape text counts where nothing else is wrong
unfoldable pub all_faults : List Declaration → List CheckFault
all_faults all = or_else (faults all) (long_shape all)

-- the fault that is given
abbrev pub first_fault : List Declaration → Option CheckFault
first_fault all = least (all_faults all)

-- want of memory, which is told at the first byte of a text
abbrev pub no_memory : CheckFault
no_memory = fault NoMemory (record { line = 1; column = 1; offset = 0 })
