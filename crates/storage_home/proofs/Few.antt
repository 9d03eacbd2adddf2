-- How many objects homes may keep.
use Rattle.std.proofs.Common.{length, ◌^◌, ◌<◌, arith}
use Rattle.std.specs.FinMap.{entries}
use Rattle.type_layout.specs.declared.schema.Schema.{Schema}
use Rattle.pss_catalog.specs.Catalog.{Catalog}
use Rattle.storage_home.specs.declared.parts.Parts.{Parts}
use Rattle.storage_home.specs.Kept.{IsKept, AnyKept}
use Rattle.storage_home.proofs.Keeping.{fewer}

-- each counts sixteen and more in a sum that is kept
pub few_entries : (S : Schema) (M : Catalog) (homes : Parts) → IsKept S M homes → length (entries M) < 2 ^ 60
few_entries S M homes kept = let sum = fewer S M in let most = kept.bounded in omega (arith, sum, most)

pub few_objects : (homes : Parts) → AnyKept homes → homes.objects < 2 ^ 60
few_objects homes any =
    let sum = fewer any.0 any.1 in
    let most = any.2.bounded in
    let all = any.2.count_is in
    omega (arith, sum, most, all)
