use Rattle.std.proofs.Common.{◌≡◌, ◌++◌, ◌≤◌, map, drop}
use Rattle.type_layout.specs.Types.{values_of}
use Rattle.type_layout.specs.Views.{plain_value}
use Rattle.pss_catalog.specs.Catalog.{all_references}
use Rattle.owner_view.proofs.Sizes.{size, sizes}
use Rattle.owner_view.proofs.references.+push.Given as goal

abbrev pub decreases-push : goal.decreases-push
decreases-push l = size (plain_value l.value.now)

abbrev pub decreases-push_all : goal.decreases-push_all
decreases-push_all l = sizes (values_of (map plain_value l.values.now))

abbrev pub invariant-push_all-loop-value : goal.invariant-push_all-loop-value
invariant-push_all-loop-value l =
    (sizes (values_of (map plain_value (drop l.value-index l.values))) ≤ sizes (values_of (map plain_value l.values)))
    × (l.pids.items ++ all_references (values_of (map plain_value (drop l.value-index l.values))) ≡ l.fn.pids.items ++ all_references (values_of (map plain_value l.values)))
