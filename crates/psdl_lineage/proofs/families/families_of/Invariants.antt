use Rattle.std.proofs.Common.{◌≡◌, ◌≤◌, length}
use Rattle.psdl_directory.specs.Directories.{all_of}
use Rattle.psdl_lineage.specs.inner.Families.{families_before}
use Rattle.psdl_lineage.proofs.families.families_of.Given as goal

abbrev pub invariant-loop-index : goal.invariant-loop-index
invariant-loop-index l =
    record {
      within : l.index ≤ length l.headers;
      families : l.families.items ≡ families_before (all_of l.directory) l.index;
    }
