-- What changes name is there, and what is reserved stays so.
use Rattle.std.proofs.Common.{ℕ, ◌≤◌, sym, subst}
use Rattle.type_layout.specs.declared.schema.Schema.{Schema}
use Rattle.pss_catalog.specs.Catalog.{Catalog}
use Rattle.storage_home.specs.declared.change.Change.{Change}
use Rattle.storage_home.specs.declared.parts.Parts.{Parts}
use Rattle.storage_home.specs.Indexes.{StayReserved}
use Rattle.storage_home.specs.Kept.{IsKept}
use Rattle.storage_home.specs.Applied.{AllStay, IsNamed, IsChangeReserved}
use Rattle.storage_home.specs.inner.Steps.{IsPlaced}
use Rattle.storage_home.proofs.Taking.{some_there}

module _ (S : Schema) (M : Catalog) (homes : Parts) (kept : IsKept S M homes) where
  pub placed : (change : Change) → IsNamed S change → IsPlaced homes change
  placed change named some = let there = some_there S.homes change.put.home (named some) in (there.0, subst (λ (n : ℕ). change.put.home ≤ n) (sym kept.extents_size) there.1)

pub change_stays : (old new : Parts) (change : Change) → AllStay old new → StayReserved old.keys new.keys → IsChangeReserved old change → IsChangeReserved new change
change_stays old new change stay keys reserved = ((λ some. stay (record { 0 = change.put.home }) change.put.serial (reserved.0 some)), λ key bytes has. keys key bytes (reserved.1 key bytes has))
