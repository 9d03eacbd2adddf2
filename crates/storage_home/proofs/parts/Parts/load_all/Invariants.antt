use Rattle.pss_catalog.specs.Catalog.{Catalog}
use Rattle.std.specs.Vec.Iter.{into_iter_items}
use Rattle.storage_home.specs.inner.Steps.{MayLoadAll}
use Rattle.storage_home.proofs.parts.Parts.load_all.Given as goal

abbrev pub invariant-loop-row : goal.invariant-loop-row
invariant-loop-row l =
    (goal.iterator-loop-row).can_next l.row-iterator
    × (goal.iterator-loop-row).is_finite l.row-iterator
    × ((F : Catalog) → MayLoadAll l.fn.schema F l.fn.self l.fn.rows.items → MayLoadAll l.fn.schema F l.self (into_iter_items l.row-iterator))
