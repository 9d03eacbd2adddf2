-- What an image has of a store: a root and the objects in its pages.
use Rattle.std.specs.Prelude.{ℕ, ◌≡◌, ◌⊎◌, ◌+◌, ◌<◌, ◌≤◌, List, [], ◌∷◌, length, slice_index, IfSome}
use Rattle.pss_disk.specs.Moments.{IsImage, Moment}
use Rattle.pss_disk.specs.Octets.{write}
use Rattle.page_format.specs.Pages.{ArePages, entries_in}
use Rattle.page_format.specs.Pages.{Entry}
use Rattle.page_format.specs.Roots.{HasRoot}
use Rattle.redo_journal.specs.Journal.{Ends, Holds, Position, journal_end, journal_start}
use Rattle.page_format.specs.Places.{slot_end, slot_start}
use Rattle.page_format.specs.declared.root.Root.{Root}

-- the image has this current root, its pages are right, and these are the objects in them
pub record HasStore (root : Root) (objects : List Entry) (image : List ℕ) : Type 0 where
  pub root_ : HasRoot root image
  pub pages : ArePages root.next root.slots image
  pub objects_ : entries_in image root.slots ≡ objects

-- at this moment each image has what is said
abbrev pub AllHave : (List ℕ → Type 0) → Moment → Type 0
AllHave P m = IfSome m.disk (λ disk. (image : List ℕ) → IsImage disk image → P image)

-- the image has a store, and a new one as soon as this gate is opened
pub record IsPrepared (root : Root) (objects : List Entry) (new : Root) (packed : List Entry) (gate : ℕ) (image : List ℕ) : Type 0 where
  pub now : HasStore root objects image
  pub then : HasStore new packed (write gate (165 ∷ []) image)

-- the image has the old store or the new one
abbrev pub IsSwitched : Root → List Entry → Root → List Entry → List ℕ → Type 0
IsSwitched root objects new packed image = HasStore root objects image ⊎ HasStore new packed image

-- the image has this store, and no record of its epoch in the journal
pub record IsEmptied (root : Root) (objects : List Entry) (image : List ℕ) : Type 0 where
  pub store : HasStore root objects image
  pub none : Ends root.epoch image journal_start

-- a place that a checkpoint leaves until it opens the next root: outside of the other area behind its gate, and in front of the slots or in
-- one that the root names
abbrev pub IsOldPlace : List ℕ → ℕ → ℕ → Type 0
IsOldPlace slots gate i = (((i ≤ gate) ⊎ (gate + 131072 ≤ i)) × (i < journal_end)) ⊎ ((k : ℕ) × (k < length slots) × (slot_start (slice_index slots k) ≤ i) × (i < slot_end (slice_index slots k)))

-- a whole store holds these bodies in its journal, up to this position
pub record IsJournal (position : Position) (bodies : List (List ℕ)) (image : List ℕ) : Type 0 where
  pub long : journal_end ≤ length image
  pub within : position.end < journal_end
  pub holds : Holds position bodies image
