use Rattle.std.proofs.Common.{◌≡◌, ◌≤◌, map, drop}
use Rattle.type_layout.specs.Types.{values_of}
use Rattle.type_layout.specs.Views.{plain_value}
use Rattle.pss_catalog.specs.Catalog.{all_references}
use Rattle.pss_recovery.specs.inner.Below.{are_given}
use Rattle.pss_recovery.proofs.Sizes.{size, sizes}
use Rattle.pss_recovery.proofs.references.+refers.Given as goal

abbrev pub decreases-refers_below : goal.decreases-refers_below
decreases-refers_below l = size (plain_value l.value.now)

abbrev pub decreases-all_refer_below : goal.decreases-all_refer_below
decreases-all_refer_below l = sizes (values_of (map plain_value l.values.now))

abbrev pub invariant-all_refer_below-loop-value : goal.invariant-all_refer_below-loop-value
invariant-all_refer_below-loop-value l =
    (sizes (values_of (map plain_value (drop l.value-index l.values))) ≤ sizes (values_of (map plain_value l.values)))
    × (are_given l.next (all_references (values_of (map plain_value (drop l.value-index l.values)))) ≡ are_given l.next (all_references (values_of (map plain_value l.values))))
