-- What the homes of a store show of a catalog.
use Rattle.std.proofs.Common.{refl}
use Rattle.std.specs.Prelude.{◌≡◌, ◌<◌, ◌^◌, length, Option, None, Some, IsSome}
use Rattle.std.specs.FinMap.{entries}
use Rattle.type_layout.specs.declared.schema.Home.{Home}
use Rattle.type_layout.specs.declared.schema.Schema.{Schema}
use Rattle.type_layout.specs.Schemas.{home_at}
use Rattle.pss_catalog.specs.Catalog.{Object, Catalog, IsUnique, EachObject}
use Rattle.storage_home.specs.declared.parts.Parts.{Parts}
use Rattle.storage_home.specs.Kept.{IsSound, IsKept}
use Rattle.storage_home.proofs.Finding.{unique_kept}
use Rattle.storage_home.proofs.Few.{few_entries}
use Rattle.owner_view.specs.Seen.{Fits}

pub fits_sound : (S : Schema) (object : Object) → IsSound S object → Fits S object
fits_sound S object sound = by (home_at S object.home) refl sound.0
  where
    by : (o : Option Home) → home_at S object.home ≡ o → IsSome o → Fits S object
    by None is none = cc
    by (Some home) is some = record { home = home; there = is; is_record = sound.1 }

pub unique_shown : (homes : Parts) (S : Schema) (M : Catalog) → IsKept S M homes → IsUnique S M
unique_shown homes S M kept = unique_kept S M homes kept

pub fits_shown : (homes : Parts) (S : Schema) (M : Catalog) → IsKept S M homes → EachObject M (λ serial object. Fits S object)
fits_shown homes S M kept serial object at = fits_sound S object (kept.each serial object at)

pub few_shown : (homes : Parts) (S : Schema) (M : Catalog) → IsKept S M homes → length (entries M) < 2 ^ 60
few_shown homes S M kept = few_entries S M homes kept
