-- C6: a struct names itself, or a type or home names itself in its header.
use Rattle.std.specs.Prelude.{ℕ, List, ◌++◌}
use Rattle.std.specs.List.{flat_map}
use Rattle.psdl_directory.specs.declared.fault.CheckFault.{CheckFault}
use Rattle.psdl_directory.specs.Declarations.{Declaration}
use Rattle.psdl_standings.specs.Selves.{of_itself, of_selves}
use Rattle.psdl_directory.specs.Fault.{each}
use Rattle.psdl_rules.specs.Words.{above}

-- a type or home names itself as base, in `of` or in `implements`
abbrev pub cycle : List Declaration → ℕ → Declaration → List CheckFault
cycle all n d = flat_map (of_itself all n) (above d.what)

abbrev pub cycle_faults : List Declaration → List CheckFault
cycle_faults all = each (cycle all) all ++ each (of_selves all) all
