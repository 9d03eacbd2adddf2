use Rattle.std.proofs.Common.{◌≡◌, ◌≤◌, length}
use Rattle.psdl_directory.specs.Directories.{all_of}
use Rattle.psdl_members.specs.Listings.{listed_views}
use Rattle.psdl_members.specs.inner.Flat.{flat, begins}
use Rattle.psdl_members.specs.inner.Listing.{own_lists}
use Rattle.psdl_members.proofs.written.all_lists.Given as goal

abbrev pub invariant-loop-index : goal.invariant-loop-index
invariant-loop-index l =
    record {
      within : l.index ≤ length (all_of l.directory);
      items : listed_views l.lists.items ≡ flat (own_lists l.kind (all_of l.directory)) l.index;
      starts : l.starts.items ≡ begins (own_lists l.kind (all_of l.directory)) l.index;
    }
