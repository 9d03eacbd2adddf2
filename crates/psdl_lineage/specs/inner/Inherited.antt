-- Lists of sources that are kept, with marks for the others.
use Rattle.std.specs.Prelude.{◌≡◌, ℕ, List, Bool, length}
use Rattle.psdl_lineage.specs.declared.source_lists.SourceLists.{SourceLists}
use Rattle.psdl_lineage.specs.inner.SourceTables.{IsTable}

pub record AreSources (graph : List (List ℕ)) (own : List Bool) (marks : List Bool) (table : SourceLists) : Type 0 where
  pub sized : length marks ≡ length graph
  pub table_is : IsTable graph own table
