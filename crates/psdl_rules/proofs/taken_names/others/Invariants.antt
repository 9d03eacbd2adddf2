use Rattle.std.proofs.Common.{◌≡◌, length, take}
use Rattle.psdl_directory.specs.Directories.{all_of}
use Rattle.psdl_rules.specs.inner.Others.{AreOthers}
use Rattle.psdl_rules.proofs.taken_names.others.Given as goal

abbrev pub invariant-loop-number : goal.invariant-loop-number
invariant-loop-number l = record {
  sized : length l.others.items ≡ length (all_of l.directory);
  others : AreOthers (all_of l.directory) (take l.number (all_of l.directory)) l.others.items;
}
