-- What a checkpoint keeps of the pages, and what it writes.
use Rattle.std.specs.Prelude.{ℕ, ◌≡◌, ◌⊎◌, ◌+◌, ◌-◌, ◌*◌, ◌/◌, ◌%◌, ◌^◌, ◌<◌, ◌≤◌, not, List, ◌++◌, length, map, slice_index, IfSome, MatchOption}
use Rattle.std.specs.FinMap.{empty, entries, get}
use Rattle.std.specs.List.{filter}
use Rattle.std.specs.List.Sorted.{IsStrictlySortedBy}
use Rattle.std.specs.Ordering.{nat_cmp}
use Rattle.std.specs.declared.option.Option.{Option}
use Rattle.pss_base.specs.declared.put.Put.{Put}
use Rattle.redo_journal.specs.Journal.{HasEpoch, IsClosed, journal_start}
use Rattle.page_store.specs.Kept.{IsKept, Kept, rows_in}
use Rattle.page_format.specs.Objects.{Objects, by_serial, entries_of, over}
use Rattle.page_format.specs.Packing.{AreLeastFree, IsPacking, is_among, used_by}
use Rattle.page_format.specs.Pages.{serials_of}
use Rattle.page_format.specs.Pages.{Entry}
use Rattle.page_store.specs.Stores.{HasStore, IsEmptied, IsJournal}
use Rattle.page_store.specs.Switch.{HasOld, IsWritten, Old, objects_of, slots_of, uses_of}
use Rattle.page_store.specs.Touched.{is_repacked, is_touched}
use Rattle.page_format.specs.declared.new_page.NewPage.{NewPage}
use Rattle.page_format.specs.declared.root.Root.{Root}

-- the slots of a root whose pages are packed anew, and those whose pages stay
abbrev pub repacked_slots : Kept → List ℕ
repacked_slots kept = filter (is_repacked kept.places kept.noted kept.small) kept.slots

abbrev pub kept_slots : Kept → List ℕ
kept_slots kept = filter (λ s. not (is_repacked kept.places kept.noted kept.small s)) kept.slots

-- how many slots a root names that another one did not
abbrev pub moved : List ℕ → List ℕ → ℕ
moved old new = length (filter (λ s. not (is_among s old)) new)

-- how many pages hold an object of which a change is noted
abbrev pub touched_pages : Kept → ℕ
touched_pages kept = length (filter (is_touched kept.places kept.noted) kept.slots)

-- the octets of the records of objects, with 16 for each
abbrev pub octets_of : Objects → ℕ
octets_of m = used_by (entries_of (entries m))

-- the same of the records that changes leave
abbrev pub changed_octets : List Put → ℕ
changed_octets noted = octets_of (over empty noted)

-- each of these is one of the slots, and none stands twice
pub record AreSomeOf (slots some : List ℕ) : Type 0 where
  pub each : (k : ℕ) → k < length some → (j : ℕ) × (j < length slots) × (slice_index slots j ≡ slice_index some k)
  pub once : (j k : ℕ) → j < k → k < length some → slice_index some j ≡ slice_index some k → ⊥

-- this is the slot of a page with little in use, or none has little
abbrev pub IsSmallAmong : List NewPage → Option ℕ → Type 0
IsSmallAmong pages small = MatchOption small ((k : ℕ) → k < length pages → 8328 < slice_index (uses_of pages) k) (λ slot. (k : ℕ) × (k < length pages) × (slice_index (slots_of pages) k ≡ slot) × (slice_index (uses_of pages) k ≤ 8328))

-- A checkpoint may be made: this is kept of the store of a content, whose journal is empty or of the root's epoch; and with the changes noted, the
-- serials of all objects are given, and their records are within the limit of a store. So the pages are no more than a root may name.
pub record MayCheckpoint (old : Old) (kept : Kept) (next : ℕ) (content : List ℕ) : Type 0 where
  pub store : HasStore old.root old.objects content
  pub journal : IsJournal old.position old.bodies content
  pub kept_ : IsKept old.root kept content
  pub first : IsClosed content journal_start ⊎ HasEpoch old.root.epoch content journal_start
  pub given : (q : ℕ) → IfSome (get (over (by_serial old.objects) kept.noted) q) (λ _. (1 ≤ q) × (q < next))
  pub sum : octets_of (over (by_serial old.objects) kept.noted) ≤ 67108864

-- The next store: its root stands in the other area, with the next epoch and the next serial that was given, and with the old shape; its
-- objects are the old ones with the changes noted over them. It has few slots that the old root did not name.
pub record IsCheckpointed (old : Old) (kept : Kept) (next : ℕ) (root : Root) (objects : List Entry) : Type 0 where
  pub area_ : old.root.area + root.area ≡ 1
  pub epoch_ : root.epoch ≡ (old.root.epoch + 1) % 2 ^ 64
  pub next_ : root.next ≡ next
  pub shape_ : root.shape ≡ old.root.shape
  pub objects_ : by_serial objects ≡ over (by_serial old.objects) kept.noted
  pub moved_ : moved old.root.slots root.slots ≤ 2 * (touched_pages kept + 1) + changed_octets kept.noted / 8328 + 1

-- the image has the next store, and no record of its epoch in the journal
pub record HasMade (old : Old) (kept : Kept) (next : ℕ) (image : List ℕ) : Type 0 where
  pub root : Root
  pub objects : List Entry
  pub made : IsCheckpointed old kept next root objects
  pub store : IsEmptied root objects image

-- the image has the old store and its journal, or the next store
abbrev pub IsEitherStore : Old → Kept → ℕ → List ℕ → Type 0
IsEitherStore old kept next image = HasOld old image ⊎ HasMade old kept next image

-- the image has the next store, of which this is kept from now on
pub record IsMade (old : Old) (kept : Kept) (next : ℕ) (now : Kept) (image : List ℕ) : Type 0 where
  pub new : HasMade old kept next image
  pub kept_ : IsKept new.root now image

-- New pages hold the objects of the pages that are packed anew, with the changes noted over them, by rising serial: each is closed only where the
-- next object has no room in it. They stand, in that order, in the least slots that the root does not name.
pub record ArePackedAnew (kept : Kept) (pages : List NewPage) (content : List ℕ) : Type 0 where
  pub objects_ : by_serial (objects_of pages) ≡ over (over empty (rows_in content (repacked_slots kept))) kept.noted
  pub rising : IsStrictlySortedBy nat_cmp (serials_of (objects_of pages))
  pub packing : IsPacking (objects_of pages) (map (λ page. page.entries) pages)
  pub free : AreLeastFree kept.slots (length pages) (slots_of pages)

-- What a checkpoint writes, octet by octet: new pages, each one whole, and the next root, which names the slots that are kept, in their old order,
-- and those of the new pages behind them. All other octets are as before, but for the gate of that root and the first one of the journal.
pub record IsLaid (kept : Kept) (next : ℕ) (before after : List ℕ) : Type 0 where
  pub root : Root
  pub pages : List NewPage
  pub packed : ArePackedAnew kept pages before
  pub area_ : root.area ≡ 1 - kept.area
  pub epoch_ : root.epoch ≡ (kept.epoch + 1) % 2 ^ 64
  pub next_ : root.next ≡ next
  pub shape_ : root.shape ≡ kept.shape
  pub slots_ : root.slots ≡ kept_slots kept ++ slots_of pages
  pub written : IsWritten root pages before after
