use Rattle.std.proofs.Common.{◌≡◌, ◌≤◌, length}
use Rattle.psdl_directory.specs.Directories.{all_of}
use Rattle.psdl_members.specs.Bodies.{member_views, own_members}
use Rattle.psdl_members.specs.inner.Flat.{flat, begins}
use Rattle.psdl_members.proofs.numbers.all_bodies.Given as goal

abbrev pub invariant-loop-index : goal.invariant-loop-index
invariant-loop-index l =
    record {
      within : l.index ≤ length (all_of l.directory);
      items : member_views l.members.items ≡ flat (own_members (all_of l.directory)) l.index;
      starts : l.starts.items ≡ begins (own_members (all_of l.directory)) l.index;
    }
