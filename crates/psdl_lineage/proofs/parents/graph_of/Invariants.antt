use Rattle.std.proofs.Common.{◌≡◌, ◌≤◌, length}
use Rattle.psdl_directory.specs.Directories.{all_of}
use Rattle.psdl_lineage.specs.Graph.{rows_before}
use Rattle.psdl_lineage.specs.inner.Rows.{rows_of}
use Rattle.psdl_lineage.proofs.parents.graph_of.Given as goal

abbrev pub invariant-loop-index : goal.invariant-loop-index
invariant-loop-index l =
    record {
      within : l.index ≤ length l.headers;
      rows : rows_of l.rows.items ≡ rows_before (all_of l.directory) l.index;
    }
