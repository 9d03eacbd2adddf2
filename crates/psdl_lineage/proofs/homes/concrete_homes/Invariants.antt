use Rattle.std.proofs.Common.{◌≡◌, ◌≤◌, length}
use Rattle.psdl_directory.specs.Directories.{all_of}
use Rattle.psdl_lineage.proofs.Supplying.{homes_before}
use Rattle.psdl_lineage.proofs.homes.concrete_homes.Given as goal

abbrev pub invariant-loop-number : goal.invariant-loop-number
invariant-loop-number l =
    record {
      within : l.number ≤ length (all_of l.directory);
      homes : l.homes.items ≡ homes_before (all_of l.directory) l.number;
    }
