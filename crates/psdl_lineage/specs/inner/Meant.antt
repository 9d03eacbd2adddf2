-- The definitions that uses of names mean.
use Rattle.std.specs.Prelude.{ℕ, List, filter, Option}
use Rattle.std.specs.List.{flat_map}
use Rattle.std.specs.Option.{option_to_list, option_and_then}
use Rattle.psdl_directory.specs.declared.uses.Use.{Use}
use Rattle.psdl_directory.specs.Declarations.{Declaration}
use Rattle.psdl_directory.specs.Lookup.{at}
use Rattle.psdl_lineage.specs.Descent.{same_sort}

abbrev pub meant_by : List Use → List ℕ
meant_by uses = flat_map (λ (u : Use). option_to_list u.defined) uses

abbrev pub defined_by : Option Use → Option ℕ
defined_by used = option_and_then (λ (u : Use). u.defined) used

-- those that are of the sort of a declaration
abbrev pub of_uses : List Declaration → ℕ → List Use → List ℕ
of_uses all n uses = filter (λ p. same_sort (at all n).what (at all p).what) (meant_by uses)
