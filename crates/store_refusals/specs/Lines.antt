-- What is spoken of a store that is refused.
use Rattle.std.specs.Prelude.{ℕ, ◌≡◌, List, [], ◌∷◌, ◌++◌, codes, decimal, length, ◌<◌, IfSome}
use Rattle.std.specs.declared.option.Option.{Option}
use Rattle.pss_base.specs.declared.damage.DamageKind.{DamageKind}
use Rattle.pss_base.specs.declared.damage.DamageKind.TheVariants as kind
use Rattle.store_refusals.specs.declared.refusals.StoreRefusal.{StoreRefusal}
use Rattle.store_refusals.specs.declared.refusals.StoreRefusal.TheVariants.{NotAStore, ShapeDiffers, Damaged}

-- the name of a kind of damage
abbrev pub kind_text : DamageKind → List ℕ
kind_text kind.Root = codes "Root"
kind_text kind.Page = codes "Page"
kind_text kind.Entry = codes "Entry"
kind_text kind.Serial = codes "Serial"
kind_text kind.Record = codes "Record"
kind_text kind.Ref = codes "Ref"
kind_text kind.Key = codes "Key"
kind_text kind.Packing = codes "Packing"
kind_text kind.Total = codes "Total"
kind_text kind.Journal = codes "Journal"
kind_text kind.Change = codes "Change"

-- a store is to be made in a file that has octets
abbrev pub not_empty_line : List ℕ
not_empty_line = codes "store NotEmpty" ++ 10 ∷ []

-- the file has octets
abbrev pub IsFilled : Option (List ℕ) → Type 0
IsFilled held = IfSome held (λ octets. 0 < length octets)

-- where the content was told, it had no octets
abbrev pub WasEmpty : Option (List ℕ) → Type 0
WasEmpty held = IfSome held (λ octets. length octets ≡ 0)

-- where the content was told and had octets, it is as it was
abbrev pub IsFilledKept : (held holds : Option (List ℕ)) → Type 0
IsFilledKept held holds = IfSome held (λ octets. 0 < length octets → holds ≡ held)

-- the shape of the store is not that of the schema, first at this home
abbrev pub shape_line : ℕ → List ℕ
shape_line home = codes "store ShapeDiffers " ++ decimal home ++ 10 ∷ []

-- this is wrong at this place of the file
abbrev pub damaged_line : ℕ → DamageKind → List ℕ
damaged_line at k = codes "store Damaged " ++ decimal at ++ codes " " ++ kind_text k ++ 10 ∷ []

-- the line of a store that is refused
abbrev pub refused_line : StoreRefusal → List ℕ
refused_line NotAStore = codes "store NotAStore" ++ 10 ∷ []
refused_line (ShapeDiffers home) = shape_line home.0
refused_line (Damaged at k) = damaged_line at k
