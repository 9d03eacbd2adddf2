-- How the root of a store is followed by the next one.
use Rattle.std.specs.Prelude.{ℕ, ◌≡◌, ◌≢◌, ◌⊎◌, ◌+◌, ◌%◌, ◌^◌, ◌<◌, ◌≤◌, List, [], ◌++◌, flat_map, length, map, slice_index}
use Rattle.pss_disk.specs.Parts.{octet_at}
use Rattle.page_format.specs.Pages.{AreGiven, IsSmall, entries_in, octets_in_use, places_in, serials_of}
use Rattle.page_format.specs.Pages.{Entry}
use Rattle.page_format.specs.Places.{area_start, slot_start}
use Rattle.page_store.specs.Stores.{HasStore, IsEmptied, IsJournal}
use Rattle.page_format.specs.Written.{entries_octets, with_pages, with_root}
use Rattle.page_format.specs.declared.new_page.NewPage.{NewPage}
use Rattle.page_format.specs.declared.root.Root.{Root}
use Rattle.redo_journal.specs.Journal.{Ends, Holds, Position, journal_start}

-- what a content has before its roots are switched: a store, and the bodies in its journal
pub record Old : Type 0 where
  pub root : Root
  pub objects : List Entry
  pub position : Position
  pub bodies : List (List ℕ)

-- what it has afterwards: a root, whose slots are kept ones and those of new pages, and the objects in them
pub record Next : Type 0 where
  pub root : Root
  pub kept : List ℕ
  pub pages : List NewPage
  pub objects : List Entry

-- the slots of new pages, their objects, where these are, and how many octets are in use
abbrev pub slots_of : List NewPage → List ℕ
slots_of pages = map (λ page. page.slot) pages

abbrev pub objects_of : List NewPage → List Entry
objects_of pages = flat_map (λ page. page.entries) pages

abbrev pub places_of : List NewPage → List (ℕ × ℕ)
places_of pages = flat_map (λ page. map (λ e. (e.serial, page.slot)) page.entries) pages

abbrev pub uses_of : List NewPage → List ℕ
uses_of pages = map (λ page. length (entries_octets page.entries)) pages

-- the next one has this root and these pages, and the root stands in the other area
pub record IsNextOf (old : Old) (next : Next) (root : Root) (pages : List NewPage) : Type 0 where
  pub root_ : next.root ≡ root
  pub pages_ : next.pages ≡ pages
  pub area_ : old.root.area + root.area ≡ 1

-- The next root may follow the store of a content: it stands in the other area, and no record of its epoch in the journal; its slots are slots of
-- the old root, and behind them those of new pages, which are not; each object stands once, and at most one page has little in use.
pub record MayFollow (old : Old) (next : Next) (content : List ℕ) : Type 0 where
  pub store : HasStore old.root old.objects content
  pub journal : IsJournal old.position old.bodies content
  pub none : Ends next.root.epoch content journal_start
  pub area_ : old.root.area + next.root.area ≡ 1
  pub epoch_ : next.root.epoch ≡ (old.root.epoch + 1) % 2 ^ 64
  pub slots_ : next.root.slots ≡ next.kept ++ slots_of next.pages
  pub named : (k : ℕ) → k < length next.kept → (j : ℕ) × (j < length old.root.slots) × (slice_index old.root.slots j ≡ slice_index next.kept k)
  pub fresh : (j k : ℕ) → j < length old.root.slots → k < length next.pages → slice_index old.root.slots j ≢ slice_index (slots_of next.pages) k
  pub objects_ : next.objects ≡ entries_in content next.kept ++ objects_of next.pages
  pub given : AreGiven next.root.next [] (serials_of next.objects)
  pub large : (k : ℕ) → k < length next.kept → IsSmall content (slice_index next.kept k) → ⊥
  pub packed : (j k : ℕ) → j < k → k < length next.pages → slice_index (uses_of next.pages) j ≤ 8328 → slice_index (uses_of next.pages) k ≤ 8328 → ⊥

-- the image has the old store and its journal
pub record HasOld (old : Old) (image : List ℕ) : Type 0 where
  pub store : HasStore old.root old.objects image
  pub journal : Holds old.position old.bodies image

-- the image has the old store and its journal, or the next store and no record of its epoch
abbrev pub IsEither : Old → Next → List ℕ → Type 0
IsEither old next image = HasOld old image ⊎ IsEmptied next.root next.objects image

-- where the objects of the next root are, in kept pages as before and in the new ones; and how many octets of the pages are in use
pub record HasPages (next : Next) (before after : List ℕ) : Type 0 where
  pub places : places_in after next.root.slots ≡ places_in before next.kept ++ places_of next.pages
  pub kept_uses : (k : ℕ) → k < length next.kept → octets_in_use after (slot_start (slice_index next.kept k)) ≡ octets_in_use before (slot_start (slice_index next.kept k))
  pub new_uses : (k : ℕ) → k < length next.pages → octets_in_use after (slot_start (slice_index (slots_of next.pages) k)) ≡ slice_index (uses_of next.pages) k

-- The content has the root and its pages, laid into the one before, but for two gates: that of the root, and the first one of the journal. All
-- other places are as they were.
pub record IsWritten (root : Root) (pages : List NewPage) (before after : List ℕ) : Type 0 where
  pub octets : (i : ℕ) → i ≢ area_start root.area → i ≢ journal_start → octet_at after i ≡ octet_at (with_root root (with_pages root.epoch pages before)) i
