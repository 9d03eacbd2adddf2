use Rattle.std.specs.Vec.Iter.{into_iter_items}
use Rattle.pss_recovery.specs.inner.Remaking.{AreNotedSoFar}
use Rattle.pss_recovery.proofs.noting.note_all.Given as goal

abbrev pub invariant-loop-put : goal.invariant-loop-put
invariant-loop-put l =
    (goal.iterator-loop-put).can_next l.put-iterator
    × (goal.iterator-loop-put).is_finite l.put-iterator
    × AreNotedSoFar l.initial.pages l.fn.puts (into_iter_items l.put-iterator) l.pages
