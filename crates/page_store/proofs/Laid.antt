-- What is left while pages and the next root are laid.
use Rattle.std.proofs.Common.{ℕ, ◌≡◌, ⊎_elim, inl, inr, ◌+◌, ◌≤◌, List, [], ◌∷◌, length, refl, ap, ◌∙◌, arith}
use Rattle.std.specs.declared.option.Option.{Option}
use Rattle.std.specs.Option.{option_map}
use Rattle.pss_disk.specs.Images.{Agrees, Misses}
use Rattle.pss_disk.specs.Octets.{range_of, write}
use Rattle.pss_disk.proofs.Images.{agrees_then, agrees_write}
use Rattle.page_format.specs.Places.{area_start, slot_start}
use Rattle.page_format.specs.Written.{AreWritable, IsWritable, list_octets, root_octets, whole_page, with_pages, with_root}
use Rattle.page_format.specs.declared.new_page.NewPage.{NewPage}
use Rattle.page_format.specs.declared.root.Root.{Root}
use Rattle.page_store.specs.inner.Laying.{IsApart, IsLeft}
use Rattle.page_store.proofs.PageRuns.{both_maps, misses_root, not_within}
use Rattle.page_format.proofs.Spelled.{length_list, length_root, length_whole}

misses_page : (area epoch : ℕ) (all ps : List NewPage) (p : NewPage) → IsWritable p → ((i : ℕ) → IsApart all i → IsApart (p ∷ ps) i) → Misses (IsLeft area all) (range_of (slot_start p.slot) (whole_page epoch p))
misses_page area epoch all ps p ok fewer i left =
    not_within (range_of (slot_start p.slot) (whole_page epoch p)) i (⊎_elim (λ less. inl less) (λ more. inr (omega (arith, more, length_whole epoch p ok))) (fewer i left.pages_).0)

pub pages_agree : (area epoch : ℕ) (all ps : List NewPage) (c : List ℕ) → AreWritable ps → ((i : ℕ) → IsApart all i → IsApart ps i) → Agrees (IsLeft area all) c (with_pages epoch ps c)
pages_agree area epoch all [] c ok fewer = λ i left lt. refl
pages_agree area epoch all (p ∷ ps) c ok fewer =
    agrees_then (IsLeft area all) c (write (slot_start p.slot) (whole_page epoch p) c) (with_pages epoch ps (write (slot_start p.slot) (whole_page epoch p) c)) (agrees_write (IsLeft area all) (slot_start p.slot) (whole_page epoch p) c (misses_page area epoch all ps p ok.0 fewer))
    (pages_agree area epoch all ps (write (slot_start p.slot) (whole_page epoch p) c) ok.1 (λ i apart. (fewer i apart).1))

pub root_agrees : (root : Root) (pages : List NewPage) (c : List ℕ) → length root.shape ≤ 65536 → length root.slots ≤ 8058 → Agrees (IsLeft root.area pages) c (with_root root c)
root_agrees root pages c shape slots =
    let S = IsLeft root.area pages in
    let one = write (area_start root.area + 1) (root_octets root) c in
    agrees_then S c one (with_root root c)
    (agrees_write S (area_start root.area + 1) (root_octets root) c (misses_root root.area (area_start root.area + 1) pages (root_octets root) (omega arith) (omega (arith, length_root root, shape))))
    (agrees_write S (area_start root.area + 65568) (list_octets root.slots) one (misses_root root.area (area_start root.area + 65568) pages (list_octets root.slots) (omega arith) (omega (arith, length_list root.slots, slots))))

-- a content with a root and its pages
abbrev pub laid : Root → List NewPage → List ℕ → List ℕ
laid root pages c = with_root root (with_pages root.epoch pages c)

-- what is left agrees
pub laid_agrees : (root : Root) (pages : List NewPage) (c : List ℕ) → length root.shape ≤ 65536 → length root.slots ≤ 8058 → AreWritable pages → Agrees (IsLeft root.area pages) c (laid root pages c)
laid_agrees root pages c shape slots ok =
    agrees_then (IsLeft root.area pages) c (with_pages root.epoch pages c) (laid root pages c) (pages_agree root.area root.epoch pages pages c ok (λ i apart. apart)) (root_agrees root pages (with_pages root.epoch pages c) shape slots)

pub laid_content : (root : Root) (pages : List NewPage) (a b c : Option (List ℕ)) → b ≡ option_map (with_pages root.epoch pages) a → c ≡ option_map (with_root root) b → c ≡ option_map (laid root pages) a
laid_content root pages a b c before e = e ∙ ap (option_map (with_root root)) before ∙ both_maps (with_pages root.epoch pages) (with_root root) (laid root pages) a (λ x. refl)
