-- What is wrong with the pages of a root.
use Rattle.std.specs.Prelude.{ℕ, ◌≡◌, ◌≢◌, ◌⊎◌, ◌+◌, ◌<◌, List, ◌++◌, length, slice_index, take}
use Rattle.pss_base.specs.declared.damage.DamageKind.{DamageKind}
use Rattle.pss_base.specs.declared.damage.DamageKind.TheVariants as kind
use Rattle.pss_disk.specs.Parts.{number8}
use Rattle.page_format.specs.Pages.{AllFit, AreGiven, ArePages, Fits, IsGiven, IsPage, IsPageHead, IsSmall, entries_end, entries_from, entries_in, entries_of, entries_start, entry_count, place_of, record_length, serials_of}
use Rattle.page_format.specs.Places.{slot_start}

-- the entry at this place is wrong: it does not fit, or its serial is not given or was seen before
abbrev pub IsWrongEntry : List ℕ → ℕ → ℕ → List ℕ → ℕ → DamageKind → Type 0
IsWrongEntry image end next seen at k =
    ((k ≡ kind.Entry) × (Fits end at (record_length image at) → ⊥))
    ⊎ ((k ≡ kind.Serial) × Fits end at (record_length image at) × (IsGiven next seen (number8 image (at + 8)) → ⊥))

-- the first so many entries of a page that begins at this place are right
pub record AreRightEntries (image : List ℕ) (start next : ℕ) (seen : List ℕ) (count : ℕ) : Type 0 where
  pub fit : AllFit (entries_end image start) image (entries_start start) count
  pub given : AreGiven next seen (serials_of (entries_from count image (entries_start start)))

-- behind right entries stands one that is wrong
pub record IsWrongThere (image : List ℕ) (start next : ℕ) (seen : List ℕ) (at : ℕ) (k : DamageKind) : Type 0 where
  pub count : ℕ
  pub more : count < entry_count image start
  pub right : AreRightEntries image start next seen count
  pub place : at ≡ place_of count image (entries_start start)
  pub wrong : IsWrongEntry image (entries_end image start) next (seen ++ serials_of (entries_from count image (entries_start start))) at k

-- all entries are right, and behind them octets in use are left
pub record IsLeftOver (image : List ℕ) (start next : ℕ) (seen : List ℕ) (at : ℕ) (k : DamageKind) : Type 0 where
  pub kind_ : k ≡ kind.Entry
  pub right : AreRightEntries image start next seen (entry_count image start)
  pub place : at ≡ place_of (entry_count image start) image (entries_start start)
  pub left : at ≢ entries_end image start

-- the entries of a page that begins at this place are wrong
abbrev pub AreWrongEntries : List ℕ → ℕ → ℕ → List ℕ → ℕ → DamageKind → Type 0
AreWrongEntries image start next seen at k = IsWrongThere image start next seen at k ⊎ IsLeftOver image start next seen at k

-- the head of the page in this slot is wrong
pub record IsWrongPage (image : List ℕ) (slot at : ℕ) (k : DamageKind) : Type 0 where
  pub kind_ : k ≡ kind.Page
  pub place : at ≡ slot_start slot
  pub wrong : IsPageHead image (slot_start slot) slot → ⊥

-- the page in this slot is right, but it and one before it have little in use
pub record IsSecondSmall (image : List ℕ) (next : ℕ) (before : List ℕ) (slot at : ℕ) (k : DamageKind) : Type 0 where
  pub kind_ : k ≡ kind.Packing
  pub place : at ≡ slot_start slot
  pub page : IsPage image (slot_start slot) slot
  pub given : AreGiven next (serials_of (entries_in image before)) (serials_of (entries_of image (slot_start slot)))
  pub small : IsSmall image slot
  pub other : (j : ℕ) × (j < length before) × IsSmall image (slice_index before j)

-- of the page in this slot, behind those before it, this is wrong first
abbrev pub IsBadPage : List ℕ → ℕ → List ℕ → ℕ → ℕ → DamageKind → Type 0
IsBadPage image next before slot at k =
    IsWrongPage image slot at k
    ⊎ (IsPageHead image (slot_start slot) slot × AreWrongEntries image (slot_start slot) next (serials_of (entries_in image before)) at k)
    ⊎ IsSecondSmall image next before slot at k

-- of the pages of these slots this is wrong first: some pages are right, and the one behind them is not
pub record IsPageDamage (next : ℕ) (slots : List ℕ) (at : ℕ) (k : DamageKind) (image : List ℕ) : Type 0 where
  pub page : ℕ
  pub within : page < length slots
  pub right : ArePages next (take page slots) image
  pub wrong : IsBadPage image next (take page slots) (slice_index slots page) at k
