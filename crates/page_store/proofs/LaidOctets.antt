-- What stands in a content where pages and a root were laid.
use Rattle.std.proofs.Common.{ℕ, zero, suc, ◌≡◌, ◌≢◌, ◌⊎◌, inl, inr, ◌+◌, ◌-◌, ◌*◌, ◌^◌, ◌<◌, ◌≤◌, List, [], ◌∷◌, ◌++◌, length, get_or, replicate, refl, ap, ◌∙◌, arith}
use Rattle.std.proofs.lemmas.Nat.{from_be_bytes-to_be_bytes_4, from_be_bytes-to_be_bytes_8}
use Rattle.std.specs.Int.{from_be_bytes, to_be_bytes, w32, w64}
use Rattle.pss_disk.specs.Images.{Misses}
use Rattle.pss_disk.specs.Moments.{end_of}
use Rattle.pss_disk.specs.Octets.{range_of, write}
use Rattle.pss_disk.specs.Parts.{Stands, number4}
use Rattle.pss_disk.specs.inner.Writing.{length-write}
use Rattle.pss_disk.proofs.Images.{agrees_write}
use Rattle.pss_disk.proofs.Parts.{stands_first, stands_second, stands_still, written_stands}
use Rattle.redo_journal.specs.Journal.{journal_end}
use Rattle.page_format.specs.Pages.{IsPage, entries_of, octets_in_use}
use Rattle.page_format.specs.Places.{area_start, slot_end, slot_start}
use Rattle.page_format.specs.Roots.{epoch_in, next_in, page_count_in, root_magic, shape_length_in}
use Rattle.page_store.specs.Switch.{slots_of}
use Rattle.page_format.specs.Written.{AreWritable, IsWritable, entries_octets, list_octets, page_octets, root_octets, whole_page, with_pages}
use Rattle.page_format.specs.declared.new_page.NewPage.{NewPage}
use Rattle.page_format.specs.declared.root.Root.{Root}
use Rattle.page_store.specs.inner.Laying.{IsApart, IsLeft}
use Rattle.page_format.proofs.EntryOctets.{page_entries, page_read, used_read}
use Rattle.page_store.proofs.Laid.{pages_agree}
use Rattle.page_store.proofs.PageRuns.{not_within}
use Rattle.page_format.proofs.Spelled.{few_entries, length_whole}

-- a write makes a content no shorter, and reaches its own end
pub no_shorter : (at : ℕ) (bytes c : List ℕ) → length c ≤ length (write at bytes c)
no_shorter at bytes c = omega (arith, length-write at bytes c)

pub reaches : (at : ℕ) (bytes c : List ℕ) → 1 ≤ length bytes → at + length bytes ≤ length (write at bytes c)
reaches at bytes c some = omega (arith, length-write at bytes c, end_is at (length bytes) some)
  where
    end_is : (at n : ℕ) → 1 ≤ n → end_of at n ≡ at + n
    end_is at zero some = absurd (omega (arith, some))
    end_is at (suc n) some = refl

-- what stands apart from a write stands after it
pub stands_after : (at to : ℕ) (xs bytes c : List ℕ) → Stands c at xs → (at + length xs ≤ to) ⊎ (to + length bytes ≤ at) → at + length xs ≤ length c → Stands (write to bytes c) at xs
stands_after at to xs bytes c s apart le = stands_still (λ i. (at ≤ i) × (i < at + length xs)) c (write to bytes c) xs at (agrees_write (λ i. (at ≤ i) × (i < at + length xs)) to bytes c (missed apart)) (λ i low high. (low, high)) le s
  where
    missed : (at + length xs ≤ to) ⊎ (to + length bytes ≤ at) → Misses (λ i. (at ≤ i) × (i < at + length xs)) (range_of to bytes)
    missed (inl front) i inside = not_within (range_of to bytes) i (inl (omega (arith, front, inside.1)))
    missed (inr behind) i inside = not_within (range_of to bytes) i (inr (omega (arith, behind, inside.0)))

-- a slot that none of these pages has is apart from them
pub apart_slot : (ps : List NewPage) (slot i : ℕ) → ((k : ℕ) → k < length ps → slot ≢ get_or (slots_of ps) k 0) → slot_start slot ≤ i → i < slot_end slot → IsApart ps i
apart_slot [] slot i other low high = tt
apart_slot (p ∷ ps) slot i other low high = (by (two slot p.slot (other 0 (omega arith))), apart_slot ps slot i (λ k lt. other (suc k) (omega (arith, lt))) low high)
  where
    two : (a b : ℕ) → a ≢ b → (a < b) ⊎ (b < a)
    two a b ne = grind arith

    by : (slot < p.slot) ⊎ (p.slot < slot) → (i < slot_start p.slot) ⊎ (slot_end p.slot ≤ i)
    by (inl less) = inl (omega (arith, less, high))
    by (inr more) = inr (omega (arith, more, low))

-- a place in front of the slots is apart from all pages
pub apart_front : (ps : List NewPage) (i : ℕ) → i < journal_end → IsApart ps i
apart_front [] i lt = tt
apart_front (p ∷ ps) i lt = (inl (omega (arith, lt)), apart_front ps i lt)

-- each page has a slot of its own
abbrev pub HaveOwn : List NewPage → Type 0
HaveOwn [] = Unit {0}
HaveOwn (p ∷ ps) = ((k : ℕ) → k < length ps → p.slot ≢ get_or (slots_of ps) k 0) × HaveOwn ps

pub have_own : (ps : List NewPage) → ((j k : ℕ) → j < k → k < length ps → get_or (slots_of ps) j 0 ≡ get_or (slots_of ps) k 0 → ⊥) → HaveOwn ps
have_own [] once = tt
have_own (p ∷ ps) once = (λ k lt e. once 0 (suc k) (omega arith) (omega (arith, lt)) e, have_own ps (λ j k less lt e. once (suc j) (suc k) (omega (arith, less)) (omega (arith, lt)) e))

-- each page stands whole in its slot
abbrev pub StandWhole : ℕ → List NewPage → List ℕ → Type 0
StandWhole epoch [] image = Unit {0}
StandWhole epoch (p ∷ ps) image = Stands image (slot_start p.slot) (whole_page epoch p) × (slot_end p.slot ≤ length image) × StandWhole epoch ps image

-- a write in front of the slots leaves them
pub stand_after : (epoch to : ℕ) (ps : List NewPage) (bytes c : List ℕ) → AreWritable ps → to + length bytes ≤ journal_end → StandWhole epoch ps c → StandWhole epoch ps (write to bytes c)
stand_after epoch to [] bytes c ok front s = tt
stand_after epoch to (p ∷ ps) bytes c ok front s =
    (stands_after (slot_start p.slot) to (whole_page epoch p) bytes c s.0 (inr (omega (arith, front))) (omega (arith, length_whole epoch p ok.0, s.1)), omega (arith, s.1, no_shorter to bytes c), stand_after epoch to ps bytes c ok.1 front s.2)

pub pages_longer : (epoch : ℕ) (ps : List NewPage) (c : List ℕ) → length c ≤ length (with_pages epoch ps c)
pages_longer epoch [] c = omega arith
pages_longer epoch (p ∷ ps) c = omega (arith, no_shorter (slot_start p.slot) (whole_page epoch p) c, pages_longer epoch ps (write (slot_start p.slot) (whole_page epoch p) c))

pub pages_stand : (epoch : ℕ) (ps : List NewPage) (c : List ℕ) → AreWritable ps → HaveOwn ps → StandWhole epoch ps (with_pages epoch ps c)
pages_stand epoch [] c ok own = tt
pages_stand epoch (p ∷ ps) c ok own =
    let at = slot_start p.slot in
    let page = whole_page epoch p in
    let now = write at page c in
    let len = length_whole epoch p ok.0 in
    let reach : at + length page ≤ length now = reaches at page c (omega (arith, len)) in (
      stands_still (IsLeft 0 ps) now (with_pages epoch ps now) page at (pages_agree 0 epoch ps ps now ok.1 (λ i apart. apart))
          (λ i low high. record { root_ = inr (omega (arith, low)); pages_ = apart_slot ps p.slot i own.0 low (omega (arith, high, len)) }) reach (written_stands at page c),
      omega (arith, len, reach, pages_longer epoch ps now),
      pages_stand epoch ps now ok.1 own.1,
    )

-- a page that stands whole is read back
pub whole_read : (image : List ℕ) (epoch : ℕ) (p : NewPage) → IsWritable p → Stands image (slot_start p.slot) (whole_page epoch p) → IsPage image (slot_start p.slot) p.slot × (entries_of image (slot_start p.slot) ≡ p.entries) × (octets_in_use image (slot_start p.slot) ≡ length (entries_octets p.entries))
unfolding whole_page
whole_read image epoch p ok s =
    let at = slot_start p.slot in
    let here = stands_first image (page_octets epoch p.slot p.entries) (replicate (16344 - length (entries_octets p.entries)) 0) at s in
    let few : length p.entries < 2 ^ 32 = omega (arith, few_entries p.entries ok.storable, ok.short) in
    let small : p.slot < 2 ^ 32 = omega (arith, ok.slot_) in
    (page_read image at epoch p.slot p.entries ok.storable few ok.short small here, page_entries image at epoch p.slot p.entries ok.storable few ok.short small here, used_read image at epoch p.slot p.entries ok.storable few ok.short small here)

-- a root is read back
pub record IsRead (root : Root) (image : List ℕ) : Type 0 where
  pub magic : Stands image (area_start root.area + 1) root_magic
  pub epoch : epoch_in image root.area ≡ root.epoch
  pub next : next_in image root.area ≡ root.next
  pub shape_length : shape_length_in image root.area ≡ length root.shape
  pub shape : Stands image (area_start root.area + 32) root.shape
  pub page_count : page_count_in image root.area ≡ length root.slots

pub root_read : (root : Root) (image : List ℕ) → root.epoch < 2 ^ 64 → root.next < 2 ^ 64 → length root.shape ≤ 65536 → length root.slots ≤ 8058 → Stands image (area_start root.area + 1) (root_octets root) → IsRead root image
unfolding root_octets
root_read root image e n few short st =
    let at = area_start root.area in
    let epoch = to_be_bytes w64 root.epoch in
    let next = to_be_bytes w64 root.next in
    let len = to_be_bytes w32 (length root.shape) in
    let count = to_be_bytes w32 (length root.slots) in
    let s8 = stands_second image root_magic (epoch ++ (next ++ (len ++ (count ++ root.shape)))) (at + 1) (at + 8) (omega arith) st in
    let s16 = stands_second image epoch (next ++ (len ++ (count ++ root.shape))) (at + 8) (at + 16) (omega arith) s8 in
    let s24 = stands_second image next (len ++ (count ++ root.shape)) (at + 16) (at + 24) (omega arith) s16 in
    let s28 = stands_second image len (count ++ root.shape) (at + 24) (at + 28) (omega arith) s24 in
    record {
      magic = stands_first image root_magic (epoch ++ (next ++ (len ++ (count ++ root.shape)))) (at + 1) st;
      epoch = ap (from_be_bytes w64) (stands_first image epoch (next ++ (len ++ (count ++ root.shape))) (at + 8) s8) ∙ from_be_bytes-to_be_bytes_8 root.epoch e;
      next = ap (from_be_bytes w64) (stands_first image next (len ++ (count ++ root.shape)) (at + 16) s16) ∙ from_be_bytes-to_be_bytes_8 root.next n;
      shape_length = ap (from_be_bytes w32) (stands_first image len (count ++ root.shape) (at + 24) s24) ∙ from_be_bytes-to_be_bytes_4 (length root.shape) (omega (arith, few));
      shape = stands_second image count root.shape (at + 28) (at + 32) (omega arith) s28;
      page_count = ap (from_be_bytes w32) (stands_first image count root.shape (at + 28) s28) ∙ from_be_bytes-to_be_bytes_4 (length root.slots) (omega (arith, short));
    }

-- slots are read back
pub list_read : (image slots : List ℕ) (at k : ℕ) → ((j : ℕ) → j < length slots → get_or slots j 0 < 16384) → Stands image at (list_octets slots) → k < length slots → number4 image (at + k * 4) ≡ get_or slots k 0
list_read image [] at k below s lt = absurd (omega (arith, lt))
list_read image (x ∷ slots) at zero below s lt =
    ap (number4 image) (let h : at + 0 * 4 ≡ at = omega arith in h) ∙ ap (from_be_bytes w32) (stands_first image (to_be_bytes w32 x) (list_octets slots) at s) ∙ from_be_bytes-to_be_bytes_4 x (omega (arith, below 0 (omega arith)))
list_read image (x ∷ slots) at (suc k) below s lt =
    ap (number4 image) (let h : at + suc k * 4 ≡ (at + 4) + k * 4 = omega arith in h)
    ∙ list_read image slots (at + 4) k (λ j less. below (suc j) (omega (arith, less))) (stands_second image (to_be_bytes w32 x) (list_octets slots) at (at + 4) refl s) (omega (arith, lt))
