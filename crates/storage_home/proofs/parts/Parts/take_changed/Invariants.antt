use Rattle.std.proofs.Common.{drop}
use Rattle.type_layout.specs.declared.schema.Schema.{Schema}
use Rattle.pss_catalog.specs.Catalog.{Catalog}
use Rattle.storage_home.specs.Indexes.{KeepsKeysReserved}
use Rattle.storage_home.specs.inner.Steps.{MayTakeAll}
use Rattle.storage_home.specs.Applied.{AllStay}
use Rattle.storage_home.proofs.parts.Parts.take_changed.Given as goal

abbrev pub invariant-loop-change : goal.invariant-loop-change
invariant-loop-change l =
    ((S : Schema) (F : Catalog) → MayTakeAll S F l.initial.self l.changes → MayTakeAll S F l.self (drop l.change-index l.changes))
    × AllStay l.initial.self l.self
    × KeepsKeysReserved l.initial.self.keys l.self.keys
