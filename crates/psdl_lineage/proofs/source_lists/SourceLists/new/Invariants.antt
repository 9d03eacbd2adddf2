use Rattle.std.proofs.Common.{◌≡◌, length}
use Rattle.psdl_lineage.specs.inner.SourceTables.{IsTable}
use Rattle.psdl_lineage.proofs.source_lists.SourceLists.new.Given as goal

abbrev pub invariant-loop-number : goal.invariant-loop-number
invariant-loop-number l =
    record {
      sized : length l.marks ≡ length l.graph;
      table : IsTable l.graph l.own l.table;
    }
