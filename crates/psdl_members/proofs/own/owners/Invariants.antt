use Rattle.std.proofs.Common.{◌≡◌, ◌≤◌, length, map}
use Rattle.std.specs.List.{range_with_len}
use Rattle.psdl_directory.specs.Directories.{all_of}
use Rattle.psdl_members.specs.inner.Had.{has_own}
use Rattle.psdl_members.proofs.own.owners.Given as goal

abbrev pub invariant-loop-index : goal.invariant-loop-index
invariant-loop-index l =
    record {
      within : l.index ≤ length (all_of l.directory);
      owners : l.owners.items ≡ map (has_own l.own) (range_with_len 0 l.index);
    }
