-- The pages of a root, and the entries of objects in them.
use Rattle.std.specs.Prelude.{ℕ, zero, suc, ◌≡◌, ◌≢◌, ◌+◌, ◌<◌, ◌≤◌, List, [], ◌∷◌, ◌++◌, length, map, slice_index, Some, MatchOption, ⊤}
use Rattle.pss_base.specs.declared.put.Put.{Put}
use Rattle.std.specs.declared.option.Option.{Option}
use Rattle.pss_disk.specs.Octets.{octets_in}
use Rattle.pss_disk.specs.Parts.{Stands, number4, number8}
use Rattle.page_format.specs.Places.{slot_start}

-- an object as it stands in a page: the number of its storage home, its serial, and the octets of its record
pub record Entry : Type 0 where
  pub home : ℕ
  pub serial : ℕ
  pub octets : List ℕ

-- PSSPAGE1
abbrev pub page_magic : List ℕ
page_magic = 80 ∷ 83 ∷ 83 ∷ 80 ∷ 65 ∷ 71 ∷ 69 ∷ 49 ∷ []

-- the twelve zero octets in front of the entries
abbrev pub page_zeros : List ℕ
page_zeros = 0 ∷ 0 ∷ 0 ∷ 0 ∷ 0 ∷ 0 ∷ 0 ∷ 0 ∷ 0 ∷ 0 ∷ 0 ∷ 0 ∷ []

-- of a page that begins at this place: the number of its entries, how many octets they use, and where they begin and end
abbrev pub entry_count : List ℕ → ℕ → ℕ
entry_count image start = number4 image (start + 20)

abbrev pub octets_in_use : List ℕ → ℕ → ℕ
octets_in_use image start = number4 image (start + 24)

abbrev pub entries_start : ℕ → ℕ
entries_start start = start + 40

abbrev pub entries_end : List ℕ → ℕ → ℕ
entries_end image start = entries_start start + octets_in_use image start

-- the head of a page in this slot
pub record IsPageHead (image : List ℕ) (start slot : ℕ) : Type 0 where
  pub magic : Stands image start page_magic
  pub slot_ : number4 image (start + 16) ≡ slot
  pub zeros : Stands image (start + 28) page_zeros
  pub used : octets_in_use image start ≤ 16344

-- the entry at a place, and the place behind it
abbrev pub record_length : List ℕ → ℕ → ℕ
record_length image at = number4 image (at + 4)

abbrev pub entry_at : List ℕ → ℕ → Entry
entry_at image at = record { home = number4 image at; serial = number8 image (at + 8); octets = octets_in (record { at = at + 16; count = record_length image at }) image }

abbrev pub behind_entry : List ℕ → ℕ → ℕ
behind_entry image at = at + 16 + record_length image at

-- so many entries one behind the other, and the place behind them
abbrev pub entries_from : ℕ → List ℕ → ℕ → List Entry
entries_from zero image at = []
entries_from (suc k) image at = entry_at image at ∷ entries_from k image (behind_entry image at)

abbrev pub place_of : ℕ → List ℕ → ℕ → ℕ
place_of zero image at = at
place_of (suc k) image at = place_of k image (behind_entry image at)

-- an entry ends in front of this place, and its record has 1 to 8,000 octets
pub record Fits (end at len : ℕ) : Type 0 where
  pub some : 1 ≤ len
  pub most : len ≤ 8000
  pub within : at + 16 + len ≤ end

-- the first k entries from a place on fit
abbrev pub AllFit : ℕ → List ℕ → ℕ → ℕ → Type 0
AllFit end image at k = (j : ℕ) → j < k → Fits end (place_of j image at) (record_length image (place_of j image at))

-- a serial is given, and none of those seen before
pub record IsGiven (next : ℕ) (seen : List ℕ) (serial : ℕ) : Type 0 where
  pub some : 1 ≤ serial
  pub given : serial < next
  pub new : (k : ℕ) → k < length seen → slice_index seen k ≢ serial

-- each of these serials is given, and none of those before it
abbrev pub AreGiven : ℕ → List ℕ → List ℕ → Type 0
AreGiven next seen [] = ⊤
AreGiven next seen (serial ∷ serials) = IsGiven next seen serial × AreGiven next (seen ++ serial ∷ []) serials

-- the serials of entries
abbrev pub serials_of : List Entry → List ℕ
serials_of entries = map (λ e. e.serial) entries

-- a page that begins at this place is whole
pub record IsPage (image : List ℕ) (start slot : ℕ) : Type 0 where
  pub head : IsPageHead image start slot
  pub fit : AllFit (entries_end image start) image (entries_start start) (entry_count image start)
  pub end : place_of (entry_count image start) image (entries_start start) ≡ entries_end image start

-- its entries
abbrev pub entries_of : List ℕ → ℕ → List Entry
entries_of image start = entries_from (entry_count image start) image (entries_start start)

-- the entries in the pages of these slots
abbrev pub entries_in : List ℕ → List ℕ → List Entry
entries_in image [] = []
entries_in image (slot ∷ slots) = entries_of image (slot_start slot) ++ entries_in image slots

-- the same with their slots: which page holds a serial
abbrev pub places_in : List ℕ → List ℕ → List (ℕ × ℕ)
places_in image [] = []
places_in image (slot ∷ slots) = map (λ e. (e.serial, slot)) (entries_of image (slot_start slot)) ++ places_in image slots

-- the page in this slot has little in use
abbrev pub IsSmall : List ℕ → ℕ → Type 0
IsSmall image slot = octets_in_use image (slot_start slot) ≤ 8328

-- a page that has little in use, or none where no page has
abbrev pub IsSmallOne : List ℕ → List ℕ → Option ℕ → Type 0
IsSmallOne image slots small = MatchOption small ((j : ℕ) → j < length slots → IsSmall image (slice_index slots j) → ⊥) (λ slot. (j : ℕ) × (j < length slots) × (slice_index slots j ≡ slot) × IsSmall image slot)

-- of these pages at most one has little in use
abbrev pub ArePacked : List ℕ → List ℕ → Type 0
ArePacked image slots = (j k : ℕ) → j < k → k < length slots → IsSmall image (slice_index slots j) → IsSmall image (slice_index slots k) → ⊥

-- the pages of these slots are whole, have each object once, and are packed
pub record ArePages (next : ℕ) (slots image : List ℕ) : Type 0 where
  pub whole : (k : ℕ) → k < length slots → IsPage image (slot_start (slice_index slots k)) (slice_index slots k)
  pub given : AreGiven next [] (serials_of (entries_in image slots))
  pub packed : ArePacked image slots

-- a stored object as it is given
abbrev pub put_of : Entry → Put
put_of entry = record { home = entry.home; serial = entry.serial; bytes = Some entry.octets }
