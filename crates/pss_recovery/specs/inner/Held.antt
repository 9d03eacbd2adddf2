-- Keys that objects hold.
use Rattle.std.specs.Prelude.{ℕ, List}
use Rattle.std.specs.List.{AllByRecursion}
use Rattle.type_layout.specs.declared.key.KeyNo.{KeyNo}
use Rattle.type_layout.specs.declared.schema.Schema.{Schema}
use Rattle.pss_catalog.specs.Catalog.{Catalog}
use Rattle.storage_home.specs.Kept.{IsHolder}

-- some object holds the key with these bytes
abbrev pub IsHeld : Schema → Catalog → KeyNo → List ℕ → Type 0
IsHeld S M key bytes = (serial : ℕ) × IsHolder S M key bytes serial

-- no object holds any of these
abbrev pub NoneHeld : Schema → Catalog → List (KeyNo × List ℕ) → Type 0
NoneHeld S M pairs = AllByRecursion (λ pair. IsHeld S M pair.0 pair.1 → ⊥) pairs
