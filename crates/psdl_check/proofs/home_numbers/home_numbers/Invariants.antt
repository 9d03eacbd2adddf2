use Rattle.std.proofs.Common.{◌≡◌, ◌≤◌, length}
use Rattle.psdl_directory.specs.Directories.{all_of}
use Rattle.psdl_check.specs.inner.HomeNos.{homes_in_front, numbers_before}
use Rattle.psdl_check.proofs.home_numbers.home_numbers.Given as goal

abbrev pub invariant-loop-index : goal.invariant-loop-index
invariant-loop-index l =
    record {
      within : l.index ≤ length (all_of l.directory);
      homes : l.homes ≡ homes_in_front (all_of l.directory) l.index;
      numbers : l.numbers.items ≡ numbers_before (all_of l.directory) l.index;
    }
