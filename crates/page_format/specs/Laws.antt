-- What the definitions come to.
use Rattle.std.specs.Prelude.{ℕ, ◌≡◌, ◌⊎◌, ◌+◌, ◌-◌, ◌<◌, ◌≤◌, List, length, slice_index}
use Rattle.pss_base.specs.declared.damage.DamageKind.{DamageKind}
use Rattle.pss_disk.specs.Parts.{octet_at}
use Rattle.redo_journal.specs.Journal.{journal_end, journal_start}
use Rattle.page_format.specs.PageDamage.{IsPageDamage}
use Rattle.page_format.specs.Pages.{ArePages, entries_in, places_in}
use Rattle.page_format.specs.Places.{area_start, slot_end, slot_start}
use Rattle.page_format.specs.Roots.{Follows, HasRoot, IsNoStore, IsRoot, IsRootDamage}
use Rattle.page_format.specs.declared.root.Root.{Root}

-- two images have the same octets from a place on, up to another
abbrev pub AreSame : ℕ → ℕ → List ℕ → List ℕ → Type 0
AreSame from to image other = (i : ℕ) → from ≤ i → i < to → octet_at other i ≡ octet_at image i

-- a root stays in each image that is no shorter and has its area, where the other area has no root that it does not follow
abbrev pub IsRootThere : Type 0
IsRootThere =
    (root : Root) (image other : List ℕ) → HasRoot root image → AreSame (area_start root.area) (area_start root.area + 131072) image other → length image ≤ length other → (IsRoot other (1 - root.area) → Follows other root.area (1 - root.area)) → HasRoot root other

-- pages stay in each image that has their slots
pub record ArePagesThere (next : ℕ) (slots image other : List ℕ) : Type 0 where
  pub pages : ArePages next slots image → ArePages next slots other
  pub entries : ArePages next slots image → entries_in other slots ≡ entries_in image slots
  pub places : ArePages next slots image → places_in other slots ≡ places_in image slots

abbrev pub ArePagesKept : Type 0
ArePagesKept =
    (next : ℕ) (slots image other : List ℕ) → ((k : ℕ) → k < length slots → AreSame (slot_start (slice_index slots k)) (slot_end (slice_index slots k)) image other) → ArePagesThere next slots image other

-- a store stays in each image that is as it but for the journal
pub record IsStoreThere (root : Root) (image other : List ℕ) : Type 0 where
  pub root_ : HasRoot root other
  pub pages : ArePagesThere root.next root.slots image other

abbrev pub IsStoreKept : Type 0
IsStoreKept = (root : Root) (image other : List ℕ) → HasRoot root image → AreSame 0 journal_start image other → AreSame journal_end (length image) image other → length image ≤ length other → IsStoreThere root image other

-- two roots have the same fields
pub record AreSameRoots (root other : Root) : Type 0 where
  pub area_ : root.area ≡ other.area
  pub epoch_ : root.epoch ≡ other.epoch
  pub next_ : root.next ≡ other.next
  pub shape_ : root.shape ≡ other.shape
  pub slots_ : root.slots ≡ other.slots

-- of these an image has exactly one: one root, no store at all, roots that are damaged at one place
pub record AreRootsOneThing : Type 0 where
  pub either : (image : List ℕ) → ((root : Root) × HasRoot root image) ⊎ IsNoStore image ⊎ ((at : ℕ) × IsRootDamage image at)
  pub one_root : (root other : Root) (image : List ℕ) → HasRoot root image → HasRoot other image → AreSameRoots root other
  pub one_place : (at other : ℕ) (image : List ℕ) → IsRootDamage image at → IsRootDamage image other → at ≡ other
  pub not_damaged : (root : Root) (at : ℕ) (image : List ℕ) → HasRoot root image → IsRootDamage image at → ⊥
  pub not_none : (root : Root) (image : List ℕ) → HasRoot root image → IsNoStore image → ⊥
  pub not_both : (at : ℕ) (image : List ℕ) → IsRootDamage image at → IsNoStore image → ⊥

-- the pages of some slots are either right, or damaged at one place by one kind
pub record ArePagesOneThing : Type 0 where
  pub either : (next : ℕ) (slots image : List ℕ) → ArePages next slots image ⊎ ((at : ℕ) × (k : DamageKind) × IsPageDamage next slots at k image)
  pub one_place : (next : ℕ) (slots : List ℕ) (at other : ℕ) (k l : DamageKind) (image : List ℕ) → IsPageDamage next slots at k image → IsPageDamage next slots other l image → (at ≡ other) × (k ≡ l)
  pub not_damaged : (next : ℕ) (slots : List ℕ) (at : ℕ) (k : DamageKind) (image : List ℕ) → ArePages next slots image → IsPageDamage next slots at k image → ⊥
