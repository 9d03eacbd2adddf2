-- What a store stands for is good.
use Rattle.std.proofs.Common.{ℕ, zero, suc, ⊎_elim, inl, ◌+◌, ◌<◌, ◌≤◌, List, [], ◌∷◌, ◌++◌, length, map, get_or, refl, arith}
use Rattle.std.proofs.lemmas.Bool.{cases_lt}
use Rattle.std.specs.List.{AllByRecursion}
use Rattle.pss_disk.specs.inner.Writing.{length-octets_in}
use Rattle.type_layout.specs.declared.schema.Schema.{Schema}
use Rattle.pss_catalog.specs.Catalog.{Catalog, IsGood}
use Rattle.page_format.specs.declared.root.Root.{Root}
use Rattle.page_format.specs.Objects.{HasRecord, IsRightPut}
use Rattle.page_format.specs.Pages.{Entry}
use Rattle.page_format.specs.Pages.{AllFit, AreGiven, IsPage, behind_entry, entries_end, entries_from, entries_in, entries_of, put_of, record_length, serials_of}
use Rattle.page_format.specs.Places.{area_start, slot_start}
use Rattle.page_format.specs.Roots.{HasRoot}
use Rattle.pss_recovery.specs.Laws.{StoresAreGood}
use Rattle.pss_recovery.specs.Mounted.{IsMounted}
use Rattle.pss_recovery.specs.Stands.{IsLoaded}
use Rattle.pss_recovery.specs.declared.parts.Parts.{Parts}
use Rattle.pss_recovery.proofs.Goods.{IsGivenRow, pages_good, replayed_good}

abbrev HaveRecords : List Entry → Type 0
HaveRecords es = AllByRecursion (λ (e : Entry). HasRecord e.octets) es

have_both : (xs ys : List Entry) → HaveRecords xs → HaveRecords ys → HaveRecords (xs ++ ys)
have_both [] ys a b = b
have_both (x ∷ xs) ys a b = (a.0, have_both xs ys a.1 b)

right_rows : (es : List Entry) → HaveRecords es → AllByRecursion IsRightPut (map put_of es)
right_rows [] have = tt
right_rows (e ∷ es) have = (have.0, right_rows es have.1)

given_rows : (next : ℕ) (seen : List ℕ) (es : List Entry) → AreGiven next seen (serials_of es) → AllByRecursion (IsGivenRow next) (map put_of es)
given_rows next seen [] given = tt
given_rows next seen (e ∷ es) given = ((given.0.some, given.0.given), given_rows next (seen ++ e.serial ∷ []) es given.1)

module _ (image : List ℕ) where
  entries_have : (end k at : ℕ) → AllFit end image at k → HaveRecords (entries_from k image at)
  entries_have end zero at fit = tt
  entries_have end (suc k) at fit =
      let here = fit 0 (omega arith) in
      let len = length-octets_in (record { at = at + 16; count = record_length image at }) image in
      (record { some = omega (arith, here.some, len); most = omega (arith, here.most, len) }, entries_have end k (behind_entry image at) (λ j lt. fit (suc j) (omega (arith, lt))))

  pages_have : (slots : List ℕ) → ((k : ℕ) → k < length slots → IsPage image (slot_start (get_or slots k 0)) (get_or slots k 0)) → HaveRecords (entries_in image slots)
  pages_have [] whole = tt
  pages_have (slot ∷ slots) whole =
      have_both (entries_of image (slot_start slot)) (entries_in image slots) (entries_have (entries_end image (slot_start slot)) _ _ ((whole 0 (omega arith)).fit)) (pages_have slots (λ k lt. whole (suc k) (omega (arith, lt))))

pub some_next : (root : Root) (image : List ℕ) → HasRoot root image → 1 ≤ root.next
some_next root image has =
    ⊎_elim {A = root.next < 1} {B = 1 ≤ root.next} {C = 1 ≤ root.next} (λ none. absurd (has.right (area_start root.area + 16) (inl (refl, omega (arith, none, has.fields.next))))) (λ le. le) (cases_lt root.next 1)

pub pages_are_good : (S : Schema) (root : Root) (base : Catalog) (image : List ℕ) → IsLoaded S root base image → IsGood S base root.next
pages_are_good S root base image loaded =
    let es = entries_in image root.slots in
    pages_good S root.next (map put_of es) base (some_next root image loaded.paged.rooted.root_) (given_rows root.next [] es loaded.paged.pages.given) (right_rows es (pages_have image root.slots loaded.paged.pages.whole)) loaded.loaded loaded.bounded

pub mounted_good : (S : Schema) (M : Catalog) (next : ℕ) (store : Parts) (c : List ℕ) → IsMounted S M next store c → IsGood S M next
mounted_good S M next store c mounted = replayed_good S mounted.base mounted.root.next mounted.bodies M next mounted.replayed (pages_are_good S mounted.root mounted.base c mounted.loaded)

pub stores_good : StoresAreGood
stores_good S M next image stands = replayed_good S stands.base stands.root.next stands.bodies M next stands.replayed (pages_are_good S stands.root stands.base image stands.read.loaded)
