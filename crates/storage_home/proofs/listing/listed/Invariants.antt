use Rattle.std.proofs.Common.{◌≡◌, List, length}
use Rattle.type_layout.specs.declared.home.HomeNo.{HomeNo}
use Rattle.type_layout.specs.declared.schema.Schema.{Schema}
use Rattle.pss_catalog.specs.Catalog.{Catalog, pids_where}
use Rattle.storage_home.specs.Kept.{is_of}
use Rattle.storage_home.specs.inner.Queues.{IsQueue, IsListing, after, below}
use Rattle.storage_home.proofs.listing.listed.Given as goal

abbrev pub invariant-loop : goal.invariant-loop
invariant-loop l =
    (length l.pids ≡ l.counter)
    × ((heirs : List HomeNo) → IsQueue l.extents heirs 0 l.initial.queue.entries → IsQueue l.extents heirs (after 0 l.pids) l.queue.entries)
    × ((S : Schema) (M : Catalog) (home : HomeNo) (heirs : List HomeNo) → IsQueue l.extents heirs 0 l.initial.queue.entries → IsListing S M home l.extents heirs → l.pids ≡ below (after 0 l.pids) (pids_where (is_of S home) M))
