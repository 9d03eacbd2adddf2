use Rattle.std.proofs.Common.{drop}
use Rattle.type_layout.specs.declared.schema.Schema.{Schema}
use Rattle.storage_home.specs.declared.parts.Parts.{Parts}
use Rattle.storage_home.specs.Indexes.{StayReserved}
use Rattle.storage_home.specs.Kept.{IsKept, Keeping}
use Rattle.storage_home.specs.Applied.{AllStay, AreNamed, AreReserved}
use Rattle.storage_home.proofs.parts.Parts.reserve_changes.Given as goal

abbrev pub invariant-loop-change : goal.invariant-loop-change
invariant-loop-change l =
    Keeping l.initial.self (λ S M. IsKept S M l.self)
    × AllStay l.initial.self l.self
    × StayReserved l.initial.self.keys l.self.keys
    × ((S : Schema) → AreNamed S l.changes → AreNamed S (drop l.change-index l.changes))
    × ((later : Parts) → AllStay l.self later → StayReserved l.self.keys later.keys → AreReserved later (drop l.change-index l.changes) → AreReserved later l.changes)
