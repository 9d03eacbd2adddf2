-- A table of the lists that are kept.
use Rattle.std.specs.Prelude.{ℕ, List, Bool, Option}
use Rattle.psdl_lineage.specs.declared.source_lists.SourceLists.{SourceLists}
use Rattle.psdl_lineage.specs.inner.KeptSources.{lists_of, AreKept}

abbrev pub kept_in : SourceLists → List (Option (List ℕ))
kept_in table = lists_of table.kept.items

abbrev pub IsTable : List (List ℕ) → List Bool → SourceLists → Type 0
IsTable graph own table = AreKept graph own (kept_in table)
