use Rattle.std.proofs.Common.{◌≤◌, length}
use Rattle.psdl_directory.specs.Directories.{all_of}
use Rattle.psdl_check.specs.inner.KeyRowed.{AreRowsTo}
use Rattle.psdl_check.proofs.key_rows.KeyRows.new.Given as goal

abbrev pub invariant-loop-index : goal.invariant-loop-index
invariant-loop-index l =
    record {
      within : l.index ≤ length (all_of l.directory);
      rows : AreRowsTo (all_of l.directory) l.ids l.rows.items l.index;
    }
