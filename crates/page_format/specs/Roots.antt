-- The two roots of a store: which one is current, what it has, and what is wrong with it.
use Rattle.std.specs.Prelude.{ℕ, ◌≡◌, ◌⊎◌, ◌+◌, ◌-◌, ◌*◌, ◌%◌, ◌^◌, ◌<◌, ◌≤◌, List, [], ◌∷◌, length, slice_index}
use Rattle.pss_disk.specs.Parts.{Stands, number4, number8}
use Rattle.redo_journal.specs.Journal.{IsOpen, journal_end}
use Rattle.page_format.specs.Places.{area_start, slot_end}
use Rattle.page_format.specs.declared.root.Root.{Root}

-- PSSROOT
abbrev pub root_magic : List ℕ
root_magic = 80 ∷ 83 ∷ 83 ∷ 82 ∷ 79 ∷ 79 ∷ 84 ∷ []

-- a root stands in this area: its gate is open, and its magic is right
pub record IsRoot (image : List ℕ) (area : ℕ) : Type 0 where
  pub gate : IsOpen image (area_start area)
  pub magic : Stands image (area_start area + 1) root_magic

-- the fields of a root area
abbrev pub epoch_in : List ℕ → ℕ → ℕ
epoch_in image area = number8 image (area_start area + 8)

abbrev pub next_in : List ℕ → ℕ → ℕ
next_in image area = number8 image (area_start area + 16)

abbrev pub shape_length_in : List ℕ → ℕ → ℕ
shape_length_in image area = number4 image (area_start area + 24)

abbrev pub page_count_in : List ℕ → ℕ → ℕ
page_count_in image area = number4 image (area_start area + 28)

-- where its list of slots has the one of this index
abbrev pub slot_field : ℕ → ℕ → ℕ
slot_field area k = area_start area + 65568 + k * 4

abbrev pub slot_in : List ℕ → ℕ → ℕ → ℕ
slot_in image area k = number4 image (slot_field area k)

-- the epoch of an area is that of the other one plus one
abbrev pub Follows : List ℕ → ℕ → ℕ → Type 0
Follows image area other = epoch_in image area ≡ (epoch_in image other + 1) % 2 ^ 64

-- of the areas 0 and 1 this one has the current root
pub record IsCurrent (image : List ℕ) (area : ℕ) : Type 0 where
  pub area_ : area ≤ 1
  pub root : IsRoot image area
  pub newer : IsRoot image (1 - area) → Follows image area (1 - area)

-- a slot of the list is no page of the file, or one named before
abbrev pub IsWrongSlot : (ℕ → ℕ) → ℕ → ℕ → Type 0
IsWrongSlot slot len k = (16384 ≤ slot k) ⊎ (len < slot_end (slot k)) ⊎ ((j : ℕ) × (j < k) × (slot j ≡ slot k))

-- a slot of the root in this area stands at this place, and is wrong
pub record IsWrongSlotField (image : List ℕ) (area at : ℕ) : Type 0 where
  pub k : ℕ
  pub within : k < page_count_in image area
  pub place : at ≡ slot_field area k
  pub wrong : IsWrongSlot (slot_in image area) (length image) k

-- a field of the root in this area stands at this place, and is wrong
abbrev pub IsWrongField : List ℕ → ℕ → ℕ → Type 0
IsWrongField image area at =
    ((at ≡ area_start area + 16) × (next_in image area ≡ 0))
    ⊎ ((at ≡ area_start area + 24) × (65536 < shape_length_in image area))
    ⊎ ((at ≡ area_start area + 28) × (8058 < page_count_in image area))
    ⊎ IsWrongSlotField image area at

-- an image is too short for a store, or has no root
abbrev pub IsNoStore : List ℕ → Type 0
IsNoStore image = (length image < journal_end) ⊎ ((IsRoot image 0 → ⊥) × (IsRoot image 1 → ⊥))

-- there are two roots, and neither one follows the other
pub record AreStrange (image : List ℕ) : Type 0 where
  pub first : IsRoot image 0
  pub second : IsRoot image 1
  pub neither : (Follows image 0 1 → ⊥) × (Follows image 1 0 → ⊥)

-- the first wrong field of the current root stands at this place
pub record IsWrongFirst (image : List ℕ) (at : ℕ) : Type 0 where
  pub area : ℕ
  pub current : IsCurrent image area
  pub wrong : IsWrongField image area at
  pub first : (i : ℕ) → i < at → IsWrongField image area i → ⊥

-- the roots are damaged at this place
pub record IsRootDamage (image : List ℕ) (at : ℕ) : Type 0 where
  pub long : journal_end ≤ length image
  pub why : (AreStrange image × (at ≡ area_start 1)) ⊎ IsWrongFirst image at

-- the fields of a root area
pub record HasFields (image : List ℕ) (root : Root) : Type 0 where
  pub epoch : epoch_in image root.area ≡ root.epoch
  pub next : next_in image root.area ≡ root.next
  pub shape_length : shape_length_in image root.area ≡ length root.shape
  pub shape : Stands image (area_start root.area + 32) root.shape
  pub page_count : page_count_in image root.area ≡ length root.slots
  pub slots : (k : ℕ) → k < length root.slots → slot_in image root.area k ≡ slice_index root.slots k

-- the image is a store with this current root, and no field of it is wrong
pub record HasRoot (root : Root) (image : List ℕ) : Type 0 where
  pub long : journal_end ≤ length image
  pub current : IsCurrent image root.area
  pub fields : HasFields image root
  pub right : (at : ℕ) → IsWrongField image root.area at → ⊥

-- what the limits of a store make of its root
pub record IsWithinLimits (root : Root) : Type 0 where
  pub area_ : root.area ≤ 1
  pub next_ : 1 ≤ root.next
  pub shape_ : length root.shape ≤ 65536
  pub slots_ : length root.slots ≤ 8058
  pub below : (k : ℕ) → k < length root.slots → slice_index root.slots k < 16384
  pub once : (j k : ℕ) → j < k → k < length root.slots → slice_index root.slots j ≡ slice_index root.slots k → ⊥
