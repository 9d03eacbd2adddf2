-- The octets that a checkpoint writes.
use Rattle.std.specs.Prelude.{ℕ, ◌+◌, ◌-◌, ◌^◌, ◌<◌, ◌≤◌, List, [], ◌∷◌, ◌++◌, flat_map, length, replicate, ⊤}
use Rattle.std.specs.Int.{to_be_bytes, w32, w64}
use Rattle.pss_disk.specs.Octets.{write}
use Rattle.page_format.specs.Pages.{Entry, page_magic, page_zeros}
use Rattle.page_format.specs.Places.{area_start, slot_start}
use Rattle.page_format.specs.Roots.{root_magic}
use Rattle.page_format.specs.declared.new_page.NewPage.{NewPage}
use Rattle.page_format.specs.declared.root.Root.{Root}

-- an entry that a page may have
pub record IsStorable (e : Entry) : Type 0 where
  pub home : e.home < 2 ^ 32
  pub serial : e.serial < 2 ^ 64
  pub some : 1 ≤ length e.octets
  pub most : length e.octets ≤ 8000

abbrev pub AreStorable : List Entry → Type 0
AreStorable [] = ⊤
AreStorable (e ∷ es) = IsStorable e × AreStorable es

-- home, length, serial and record
unfoldable pub entry_octets : Entry → List ℕ
entry_octets e = to_be_bytes w32 e.home ++ (to_be_bytes w32 (length e.octets) ++ (to_be_bytes w64 e.serial ++ e.octets))

-- entries one behind the other
abbrev pub entries_octets : List Entry → List ℕ
entries_octets es = flat_map entry_octets es

-- a page that may be written
pub record IsWritable (page : NewPage) : Type 0 where
  pub slot_ : page.slot < 16384
  pub storable : AreStorable page.entries
  pub short : length (entries_octets page.entries) ≤ 16344

abbrev pub AreWritable : List NewPage → Type 0
AreWritable [] = ⊤
AreWritable (page ∷ pages) = IsWritable page × AreWritable pages

-- the head of a page and its entries, without the zero octets that fill it up
abbrev pub page_octets : ℕ → ℕ → List Entry → List ℕ
page_octets epoch slot es =
    page_magic ++ (to_be_bytes w64 epoch ++ (to_be_bytes w32 slot ++ (to_be_bytes w32 (length es) ++ (to_be_bytes w32 (length (entries_octets es)) ++ (page_zeros ++ entries_octets es)))))

-- a whole page: zero octets fill it up
unfoldable pub whole_page : ℕ → NewPage → List ℕ
whole_page epoch page = page_octets epoch page.slot page.entries ++ replicate (16344 - length (entries_octets page.entries)) 0

abbrev pub pages_octets : ℕ → List NewPage → List ℕ
pages_octets epoch pages = flat_map (whole_page epoch) pages

-- what stands in a root area behind its gate, up to the slots
unfoldable pub root_octets : Root → List ℕ
root_octets root =
    root_magic ++ (to_be_bytes w64 root.epoch ++ (to_be_bytes w64 root.next ++ (to_be_bytes w32 (length root.shape) ++ (to_be_bytes w32 (length root.slots) ++ root.shape))))

-- slots one behind the other
abbrev pub list_octets : List ℕ → List ℕ
list_octets slots = flat_map (to_be_bytes w32) slots

-- a content with these pages in their slots
abbrev pub with_pages : ℕ → List NewPage → List ℕ → List ℕ
with_pages epoch [] content = content
with_pages epoch (page ∷ pages) content = with_pages epoch pages (write (slot_start page.slot) (whole_page epoch page) content)

-- a content with a root in its area, but for its gate
abbrev pub with_root : Root → List ℕ → List ℕ
with_root root content = write (area_start root.area + 65568) (list_octets root.slots) (write (area_start root.area + 1) (root_octets root) content)
