-- The families of declarations in order.
use Rattle.std.specs.Prelude.{ℕ, List, map}
use Rattle.std.specs.List.{range_with_len}
use Rattle.psdl_directory.specs.Declarations.{Declaration}
use Rattle.psdl_lineage.specs.Descent.{family}

-- of the first so many
abbrev pub families_before : List Declaration → ℕ → List ℕ
families_before all i = map (family all) (range_with_len 0 i)
