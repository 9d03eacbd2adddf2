-- The entries that were gathered so far.
use Rattle.std.specs.Prelude.{ℕ, ◌≡◌, ◌⊎◌, ◌*◌, ◌≤◌, List, [], ◌++◌, map, None, Some, MatchOption}
use Rattle.std.specs.declared.option.Option.{Option}
use Rattle.std.specs.List.{AllByRecursion}
use Rattle.std.specs.Map.{keys_of}
use Rattle.pss_base.specs.declared.damage.DamageKind.{DamageKind}
use Rattle.pss_base.specs.declared.damage.DamageKind.TheVariants as kind
use Rattle.pss_base.specs.declared.put.Put.{Put}
use Rattle.page_format.specs.PageDamage.{AreWrongEntries, IsWrongPage}
use Rattle.page_format.specs.Pages.{AllFit, AreGiven, ArePages, IsPage, IsPageHead, IsSmall, IsSmallOne, entries_from, entries_in, entries_of, place_of, places_in, put_of, serials_of}
use Rattle.page_format.specs.Places.{slot_start}
use Rattle.page_format.specs.Objects.{HasRecord}
use Rattle.page_format.specs.Rows.{weights}

-- the first k entries of a page, with these places and rows in front of them
pub record AreGathered (page : List ℕ) (end next slot : ℕ) (places_before : List (ℕ × ℕ)) (rows_before : List Put) (k at : ℕ) (places : List (ℕ × ℕ)) (rows : List Put) : Type 0 where
  pub place : at ≡ place_of k page 40
  pub within : at ≤ end
  pub fit : AllFit end page 40 k
  pub given : AreGiven next (keys_of places_before) (serials_of (entries_from k page 40))
  pub places_ : places ≡ places_before ++ map (λ e. (e.serial, slot)) (entries_from k page 40)
  pub rows_ : rows ≡ rows_before ++ map put_of (entries_from k page 40)

-- the page that has little in use, before and after a page in this slot
abbrev pub IsSmallAfter : List ℕ → ℕ → Option ℕ → Option ℕ → Type 0
IsSmallAfter image slot before after = (IsSmall image slot × (before ≡ None) × (after ≡ Some slot)) ⊎ ((IsSmall image slot → ⊥) × (after ≡ before))

-- the entries of the page in this slot came behind those before
pub record AreAdded (image : List ℕ) (next slot : ℕ) (places places_after : List (ℕ × ℕ)) (rows rows_after : List Put) (small small_after : Option ℕ) : Type 0 where
  pub whole : IsPage image (slot_start slot) slot
  pub given : AreGiven next (keys_of places) (serials_of (entries_of image (slot_start slot)))
  pub places_ : places_after ≡ places ++ map (λ e. (e.serial, slot)) (entries_of image (slot_start slot))
  pub rows_ : rows_after ≡ rows ++ map put_of (entries_of image (slot_start slot))
  pub small_ : IsSmallAfter image slot small small_after

-- the pages of these slots are right, and these are their entries
pub record AreGatheredOf (next : ℕ) (slots : List ℕ) (places : List (ℕ × ℕ)) (rows : List Put) (small : Option ℕ) (image : List ℕ) : Type 0 where
  pub pages : ArePages next slots image
  pub places_ : places ≡ places_in image slots
  pub rows_ : rows ≡ map put_of (entries_in image slots)
  pub small_ : IsSmallOne image slots small

-- a row has a record of 1 to 8,000 octets
abbrev pub HasBytes : Put → Type 0
HasBytes row = MatchOption row.bytes ⊥ HasRecord

-- the entries of so many pages, by their places and rows alone
pub record AreRowsSoFar (next pages : ℕ) (places : List (ℕ × ℕ)) (rows : List Put) : Type 0 where
  pub keys : keys_of places ≡ map (λ row. row.serial) rows
  pub given : AreGiven next [] (keys_of places)
  pub right : AllByRecursion HasBytes rows
  pub sum : weights rows ≤ 16344 * pages

-- the page in this slot is right, and one before it has little in use, as it has
pub record IsSmallToo (image : List ℕ) (next : ℕ) (seen : List ℕ) (other : Type 0) (slot at : ℕ) (k : DamageKind) : Type 0 where
  pub kind_ : k ≡ kind.Packing
  pub place : at ≡ slot_start slot
  pub page : IsPage image (slot_start slot) slot
  pub given : AreGiven next seen (serials_of (entries_of image (slot_start slot)))
  pub small : IsSmall image slot
  pub other_ : other

-- of the page in this slot this is wrong first, where these serials were seen, and a page with little in use if so
abbrev pub IsBadHere : List ℕ → ℕ → List ℕ → Type 0 → ℕ → ℕ → DamageKind → Type 0
IsBadHere image next seen other slot at k =
    IsWrongPage image slot at k ⊎ (IsPageHead image (slot_start slot) slot × AreWrongEntries image (slot_start slot) next seen at k) ⊎ IsSmallToo image next seen other slot at k
