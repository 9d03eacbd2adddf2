use Rattle.type_layout.specs.declared.schema.Schema.{Schema}
use Rattle.pss_catalog.specs.Catalog.{Catalog}
use Rattle.std.specs.Vec.Iter.{into_iter_items}
use Rattle.storage_home.specs.inner.Steps.{MayPutAll}
use Rattle.storage_home.proofs.parts.Parts.put_changed.Given as goal

abbrev pub invariant-loop-change : goal.invariant-loop-change
invariant-loop-change l =
    (goal.iterator-loop-change).can_next l.change-iterator
    × (goal.iterator-loop-change).is_finite l.change-iterator
    × ((S : Schema) (F : Catalog) → MayPutAll S F l.fn.self l.fn.changes.items → MayPutAll S F l.self (into_iter_items l.change-iterator))
