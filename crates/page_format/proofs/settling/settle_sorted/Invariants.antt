use Rattle.std.proofs.Common.{◌≡◌, ◌++◌, All}
use Rattle.std.specs.Vec.Iter.{into_iter_items}
use Rattle.page_format.specs.Objects.{IsRightPut}
use Rattle.page_format.specs.inner.Settling.{Climbs, IsSettling}
use Rattle.page_format.proofs.settling.settle_sorted.Given as goal

abbrev pub invariant-loop-put : goal.invariant-loop-put
invariant-loop-put l = record {
  can : (goal.iterator-loop-put).can_next l.put-iterator;
  finite : (goal.iterator-loop-put).is_finite l.put-iterator;
  all : l.yielded ++ into_iter_items l.put-iterator ≡ l.fn.changes.items;
  climbing : Climbs l.settling.serial (into_iter_items l.put-iterator);
  right : All IsRightPut (into_iter_items l.put-iterator);
  so_far : IsSettling l.yielded l.settling;
}
