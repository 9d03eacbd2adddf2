-- What was found of the current root.
use Rattle.std.specs.Prelude.{ℕ, ◌≡◌, ◌⊎◌, ◌<◌, ◌≤◌, List, length, slice_index}
use Rattle.redo_journal.specs.Journal.{journal_end}
use Rattle.page_format.specs.Roots.{IsCurrent, IsWrongSlot, slot_in}
use Rattle.page_format.specs.declared.current.Current.{Current}
use Rattle.page_format.specs.declared.head.Head.{Head}
use Rattle.page_format.specs.inner.Heads.{IsHead}

-- this is the area of the current root, and its head
pub record IsCurrentHead (found : Current) (image : List ℕ) : Type 0 where
  pub current : IsCurrent image found.area
  pub head : IsHead found.area found.head image

-- the image is a store of this length, with this current root
pub record IsOpened (len : ℕ) (found : Current) (image : List ℕ) : Type 0 where
  pub long : journal_end ≤ length image
  pub len_ : length image ≡ len
  pub found_ : IsCurrentHead found image

-- no number of the head is wrong
pub record IsRightHead (head : Head) : Type 0 where
  pub next : 1 ≤ head.next
  pub shape_length : head.shape_length ≤ 65536
  pub page_count : head.page_count ≤ 8058

-- the first number of the head that is wrong stands at this offset
abbrev pub IsWrongHead : Head → ℕ → Type 0
IsWrongHead head at =
    ((at ≡ 16) × (head.next ≡ 0)) ⊎ ((at ≡ 24) × (1 ≤ head.next) × (65536 < head.shape_length)) ⊎ ((at ≡ 28) × (1 ≤ head.next) × (head.shape_length ≤ 65536) × (8058 < head.page_count))

-- these are the slots of the root
pub record AreItsSlots (found : Current) (slots image : List ℕ) : Type 0 where
  pub count : length slots ≡ found.head.page_count
  pub slots_ : (k : ℕ) → k < length slots → slot_in image found.area k ≡ slice_index slots k

-- none of them is wrong in a file of this length
abbrev pub AreRight : ℕ → List ℕ → Type 0
AreRight len slots = (k : ℕ) → k < length slots → IsWrongSlot (slice_index slots) len k → ⊥
