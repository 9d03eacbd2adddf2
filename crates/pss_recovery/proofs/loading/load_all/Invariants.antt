use Rattle.std.specs.Vec.Iter.{into_iter_items}
use Rattle.pss_recovery.specs.inner.Rowwise.{AreSoFar}
use Rattle.pss_recovery.proofs.loading.load_all.Given as goal

abbrev pub invariant-loop-row : goal.invariant-loop-row
invariant-loop-row l =
    (goal.iterator-loop-row).can_next l.row-iterator
    × (goal.iterator-loop-row).is_finite l.row-iterator
    × AreSoFar l.fn.schema l.fn.next l.fn.rows.items (into_iter_items l.row-iterator) l.index l.homes
