use Rattle.std.proofs.Common.{◌≡◌, ◌++◌, drop}
use Rattle.psdl_directory.specs.Directories.{all_of}
use Rattle.psdl_lineage.specs.inner.Meant.{of_uses}
use Rattle.psdl_lineage.proofs.parents.add_definitions.Given as goal

abbrev pub invariant-loop-used : goal.invariant-loop-used
invariant-loop-used l =
    l.row.items ++ of_uses (all_of l.directory) l.number (drop l.used-index l.uses) ≡ l.fn.row.items ++ of_uses (all_of l.directory) l.number l.uses
