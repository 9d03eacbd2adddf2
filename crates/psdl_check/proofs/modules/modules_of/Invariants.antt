use Rattle.std.proofs.Common.{◌≡◌, ◌≤◌, ◌+◌, length}
use Rattle.psdl_directory.specs.Directories.{paths_of}
use Rattle.psdl_check.specs.inner.Modules.{AreModulesTo}
use Rattle.psdl_check.proofs.modules.modules_of.Given as goal

abbrev pub invariant-loop-index : goal.invariant-loop-index
invariant-loop-index l =
    record {
      within : l.index + 1 ≤ length (paths_of l.directory);
      many : length l.scopes ≡ l.index;
      named : AreModulesTo l.index l.directory l.scopes;
    }
