-- Roots and pages in an image that has the same octets there.
use Rattle.std.proofs.Common.{ℕ, zero, suc, ◌≡◌, ⊎_elim, inl, inr, ◌+◌, ◌-◌, ◌*◌, ◌%◌, ◌^◌, ◌<◌, ◌≤◌, List, [], ◌∷◌, ◌++◌, length, map, get_or, refl, sym, ap, ◌∙◌, subst, arith}
use Rattle.std.proofs.lemmas.Bool.{cases_lt}
use Rattle.std.specs.Int.{from_be_bytes, w32, w64}
use Rattle.pss_disk.specs.Octets.{octets_in}
use Rattle.pss_disk.specs.Parts.{Stands, number4, number8}
use Rattle.pss_disk.proofs.Parts.{same_part}
use Rattle.redo_journal.specs.Journal.{journal_end, journal_start}
use Rattle.page_format.specs.Laws.{ArePagesKept, AreSame, IsRootThere, IsStoreKept, IsStoreThere}
use Rattle.page_format.specs.Pages.{AllFit, AreGiven, ArePages, Fits, IsPage, IsPageHead, IsSmall, behind_entry, entries_end, entries_from, entries_in, entries_of, entry_at, entry_count, octets_in_use, page_magic, page_zeros, place_of, places_in, record_length, serials_of}
use Rattle.page_format.specs.Places.{area_start, slot_end, slot_start}
use Rattle.page_format.specs.Roots.{Follows, HasRoot, IsRoot, IsWrongField, IsWrongSlot, page_count_in, root_magic, slot_in}
use Rattle.page_format.specs.declared.root.Root.{Root}
use Rattle.page_format.proofs.Fields.{wrong_slot_same}
use Rattle.page_format.proofs.Moved.{same_entry}

module _ (from to : ℕ) (image other : List ℕ) (same : AreSame from to image other) where
  part_same : (at count : ℕ) → from ≤ at → at + count ≤ to → octets_in (record { at = at; count = count }) other ≡ octets_in (record { at = at; count = count }) image
  part_same at count le end = same_part (record { at = at; count = count }) other image (λ i low high. same i (omega (arith, le, low)) (omega (arith, high, end)))

  pub four_same : (at : ℕ) → from ≤ at → at + 4 ≤ to → number4 other at ≡ number4 image at
  four_same at le end = ap (from_be_bytes w32) (part_same at 4 le end)

  pub eight_same : (at : ℕ) → from ≤ at → at + 8 ≤ to → number8 other at ≡ number8 image at
  eight_same at le end = ap (from_be_bytes w64) (part_same at 8 le end)

  pub stands_same : (at : ℕ) (xs : List ℕ) → from ≤ at → at + length xs ≤ to → Stands image at xs → Stands other at xs
  stands_same at xs le end s = part_same at (length xs) le end ∙ s

-- a page
module _ (start slot : ℕ) (image other : List ℕ) (same : AreSame start (start + 16384) image other) where
  pub used_same : octets_in_use other start ≡ octets_in_use image start
  used_same = four_same start (start + 16384) image other same (start + 24) (omega arith) (omega arith)

  count_same : entry_count other start ≡ entry_count image start
  count_same = four_same start (start + 16384) image other same (start + 20) (omega arith) (omega arith)

  head_same : IsPageHead image start slot → IsPageHead other start slot
  head_same h = record {
    magic = stands_same start (start + 16384) image other same start page_magic (omega arith) (omega arith) h.magic;
    slot_ = four_same start (start + 16384) image other same (start + 16) (omega arith) (omega arith) ∙ h.slot_;
    zeros = stands_same start (start + 16384) image other same (start + 28) page_zeros (omega arith) (omega arith) h.zeros;
    used = omega (arith, used_same, h.used);
  }

  module _ (end : ℕ) (short : end ≤ start + 16384) where
    length_same : (at : ℕ) → start ≤ at → at + 16 ≤ end → record_length other at ≡ record_length image at
    length_same at le less = four_same start (start + 16384) image other same (at + 4) (omega (arith, le)) (omega (arith, less, short))

    entry_same : (at : ℕ) → start ≤ at → Fits end at (record_length image at) → entry_at other at ≡ entry_at image at
    entry_same at le f =
        let len = length_same at le (omega (arith, f.within)) in
        same_entry _ _ _ _ _ _ _ _ refl refl (four_same start (start + 16384) image other same at le (omega (arith, f.within, short))) (eight_same start (start + 16384) image other same (at + 8) (omega (arith, le)) (omega (arith, f.within, short)))
        (ap (λ n. octets_in (record { at = at + 16; count = n }) other) len ∙ part_same start (start + 16384) image other same (at + 16) (record_length image at) (omega (arith, le)) (omega (arith, f.within, short)))

    rest_fit : (k at : ℕ) → AllFit end image at (suc k) → AllFit end image (behind_entry image at) k
    rest_fit k at all j lt = all (suc j) (omega (arith, lt))

    behind_same : (at : ℕ) → start ≤ at → Fits end at (record_length image at) → behind_entry other at ≡ behind_entry image at
    behind_same at le f = ap (λ n. at + 16 + n) (length_same at le (omega (arith, f.within)))

    place_same : (k at : ℕ) → start ≤ at → AllFit end image at k → place_of k other at ≡ place_of k image at
    place_same zero at le all = refl
    place_same (suc k) at le all = ap (place_of k other) (behind_same at le (all 0 (omega arith))) ∙ place_same k (behind_entry image at) (omega (arith, le)) (rest_fit k at all)

    place_later : (k at : ℕ) → at ≤ place_of k image at
    place_later zero at = omega arith
    place_later (suc k) at = omega (arith, place_later k (behind_entry image at))

    from_same : (k at : ℕ) → start ≤ at → AllFit end image at k → entries_from k other at ≡ entries_from k image at
    from_same zero at le all = refl
    from_same (suc k) at le all =
        ap (λ e. e ∷ entries_from k other (behind_entry other at)) (entry_same at le (all 0 (omega arith)))
        ∙ ap (λ es. entry_at image at ∷ es) (ap (entries_from k other) (behind_same at le (all 0 (omega arith))) ∙ from_same k (behind_entry image at) (omega (arith, le)) (rest_fit k at all))

    fit_same : (k at : ℕ) → start ≤ at → AllFit end image at k → AllFit end other at k
    fit_same k at le all j lt =
        let here : place_of j other at ≡ place_of j image at = place_same j at le (λ i less. all i (omega (arith, less, lt))) in
        let f = all j lt in
        let there : start ≤ place_of j image at = omega (arith, le, place_later j at) in
        subst (λ p. Fits end p (record_length other p)) (sym here) (subst (λ n. Fits end (place_of j image at) n) (sym (length_same (place_of j image at) there (omega (arith, f.within)))) f)

  short_of : IsPage image start slot → entries_end image start ≤ start + 16384
  short_of p = omega (arith, p.head.used)

  end_same : entries_end other start ≡ entries_end image start
  end_same = ap (λ n. start + 40 + n) used_same

  pub page_same : IsPage image start slot → IsPage other start slot
  page_same p = record {
    head = head_same p.head;
    fit = subst (λ n. AllFit (entries_end other start) other (start + 40) n) (sym count_same)
        (subst (λ n. AllFit n other (start + 40) (entry_count image start)) (sym end_same) (fit_same (entries_end image start) (short_of p) (entry_count image start) (start + 40) (omega arith) p.fit));
    end = ap (λ n. place_of n other (start + 40)) count_same ∙ place_same (entries_end image start) (short_of p) (entry_count image start) (start + 40) (omega arith) p.fit ∙ p.end ∙ sym end_same;
  }

  pub entries_same : IsPage image start slot → entries_of other start ≡ entries_of image start
  entries_same p = ap (λ n. entries_from n other (start + 40)) count_same ∙ from_same (entries_end image start) (short_of p) (entry_count image start) (start + 40) (omega arith) p.fit

-- the pages of some slots
module _ (image other : List ℕ) where
  abbrev Kept : ℕ → Type 0
  Kept slot = AreSame (slot_start slot) (slot_end slot) image other

  pub all_entries : (slots : List ℕ) → ((k : ℕ) → k < length slots → Kept (get_or slots k 0)) → ((k : ℕ) → k < length slots → IsPage image (slot_start (get_or slots k 0)) (get_or slots k 0)) → entries_in other slots ≡ entries_in image slots
  all_entries [] same whole = refl
  all_entries (s ∷ slots) same whole =
      ap (λ l. l ++ entries_in other slots) (entries_same (slot_start s) s image other (same 0 (omega arith)) (whole 0 (omega arith)))
      ∙ ap (λ l. entries_of image (slot_start s) ++ l) (all_entries slots (λ k lt. same (suc k) (omega (arith, lt))) (λ k lt. whole (suc k) (omega (arith, lt))))

  pub all_places : (slots : List ℕ) → ((k : ℕ) → k < length slots → Kept (get_or slots k 0)) → ((k : ℕ) → k < length slots → IsPage image (slot_start (get_or slots k 0)) (get_or slots k 0)) → places_in other slots ≡ places_in image slots
  all_places [] same whole = refl
  all_places (s ∷ slots) same whole =
      ap (λ l. map (λ e. (e.serial, s)) l ++ places_in other slots) (entries_same (slot_start s) s image other (same 0 (omega arith)) (whole 0 (omega arith)))
      ∙ ap (λ l. map (λ e. (e.serial, s)) (entries_of image (slot_start s)) ++ l) (all_places slots (λ k lt. same (suc k) (omega (arith, lt))) (λ k lt. whole (suc k) (omega (arith, lt))))

  small_back : (slot : ℕ) → Kept slot → IsSmall other slot → IsSmall image slot
  small_back slot same s = omega (arith, s, used_same (slot_start slot) slot image other same)

  pages_there : (next : ℕ) (slots : List ℕ) → ((k : ℕ) → k < length slots → Kept (get_or slots k 0)) → ArePages next slots image → ArePages next slots other
  pages_there next slots same p = record {
    whole = λ k lt. page_same (slot_start (get_or slots k 0)) (get_or slots k 0) image other (same k lt) (p.whole k lt);
    given = subst (λ es. AreGiven next [] (serials_of es)) (sym (all_entries slots same p.whole)) p.given;
    packed = λ j k less lt sj sk. p.packed j k less lt (small_back (get_or slots j 0) (same j (omega (arith, less, lt))) sj) (small_back (get_or slots k 0) (same k lt) sk);
  }

pub pages_kept : ArePagesKept
pages_kept next slots image other same = record { pages = pages_there image other next slots same; entries = λ p. all_entries image other slots same p.whole; places = λ p. all_places image other slots same p.whole }

-- the slots of a root lie inside its file
module _ (root : Root) (image : List ℕ) (has : HasRoot root image) where
  slot_right : (k : ℕ) → k < length root.slots → IsWrongSlot (slot_in image root.area) (length image) k → ⊥
  slot_right k lt w = has.right _ (inr (inr (inr (record { k = k; within = omega (arith, lt, has.fields.page_count); place = refl; wrong = w }))))

  pub slot_inside : (k : ℕ) → k < length root.slots → slot_end (get_or root.slots k 0) ≤ length image
  slot_inside k lt =
      let here : slot_in image root.area k ≡ get_or root.slots k 0 = has.fields.slots k lt in
      ⊎_elim {A = length image < slot_end (get_or root.slots k 0)} {B = slot_end (get_or root.slots k 0) ≤ length image} {C = slot_end (get_or root.slots k 0) ≤ length image}
      (λ past. absurd (slot_right k lt (inr (inl (subst (λ s. length image < slot_end s) (sym here) past))))) (λ le. le) (cases_lt (length image) (slot_end (get_or root.slots k 0)))

-- a root
module _ (root : Root) (image other : List ℕ) (has : HasRoot root image) (same : AreSame (area_start root.area) (area_start root.area + 131072) image other) (long : journal_end ≤ length other) (inside : (k : ℕ) → k < length root.slots → slot_end (get_or root.slots k 0) ≤ length other) where
  abbrev start : ℕ
  start = area_start root.area

  eight : (at : ℕ) → start ≤ at → at + 8 ≤ start + 131072 → number8 other at ≡ number8 image at
  eight = eight_same start (start + 131072) image other same

  four : (at : ℕ) → start ≤ at → at + 4 ≤ start + 131072 → number4 other at ≡ number4 image at
  four = four_same start (start + 131072) image other same

  short_shape : length root.shape ≤ 65536
  short_shape = ⊎_elim {A = 65536 < length root.shape} {B = length root.shape ≤ 65536} {C = length root.shape ≤ 65536} (λ more. absurd (has.right (start + 24) (inr (inl (refl, omega (arith, more, has.fields.shape_length)))))) (λ le. le) (cases_lt 65536 (length root.shape))

  few_pages : page_count_in image root.area ≤ 8058
  few_pages = ⊎_elim {A = 8058 < page_count_in image root.area} {B = page_count_in image root.area ≤ 8058} {C = page_count_in image root.area ≤ 8058} (λ more. absurd (has.right (start + 28) (inr (inr (inl (refl, more)))))) (λ le. le) (cases_lt 8058 (page_count_in image root.area))

  count_there : page_count_in other root.area ≡ page_count_in image root.area
  count_there = four (start + 28) (omega arith) (omega arith)

  slot_there : (k : ℕ) → k < 8058 → slot_in other root.area k ≡ slot_in image root.area k
  slot_there k lt = four (start + 65568 + k * 4) (omega arith) (omega (arith, lt))

  wrong_slot_back : (k : ℕ) → k < 8058 → k < length root.slots → IsWrongSlot (slot_in other root.area) (length other) k → IsWrongSlot (slot_in image root.area) (length image) k
  wrong_slot_back k lt within w = shorter (wrong_slot_same (slot_in other root.area) (slot_in image root.area) (length other) k (λ i le. slot_there i (omega (arith, le, lt))) w)
    where
      shorter : IsWrongSlot (slot_in image root.area) (length other) k → IsWrongSlot (slot_in image root.area) (length image) k
      shorter (inl great) = inl great
      shorter (inr (inl past)) = absurd (omega (arith, past, inside k within, has.fields.slots k within))
      shorter (inr (inr twice)) = inr (inr twice)

  wrong_back : (at : ℕ) → IsWrongField other root.area at → IsWrongField image root.area at
  wrong_back at (inl w) = inl (w.0, sym (eight (start + 16) (omega arith) (omega arith)) ∙ w.1)
  wrong_back at (inr (inl w)) = inr (inl (w.0, omega (arith, w.1, four (start + 24) (omega arith) (omega arith))))
  wrong_back at (inr (inr (inl w))) = inr (inr (inl (w.0, omega (arith, w.1, count_there))))
  wrong_back at (inr (inr (inr w))) =
      let few : w.k < 8058 = omega (arith, w.within, count_there, few_pages) in
      inr (inr (inr (record { k = w.k; within = omega (arith, w.within, count_there); place = w.place; wrong = wrong_slot_back w.k few (omega (arith, w.within, count_there, has.fields.page_count)) w.wrong })))

  is_root_there : IsRoot other root.area
  is_root_there = record {
    gate = same start (omega arith) (omega arith) ∙ has.current.root.gate;
    magic = stands_same start (start + 131072) image other same (start + 1) root_magic (omega arith) (omega arith) has.current.root.magic;
  }

  pub root_there_within : (IsRoot other (1 - root.area) → Follows other root.area (1 - root.area)) → HasRoot root other
  root_there_within newer = record {
    long = long;
    current = record { area_ = has.current.area_; root = is_root_there; newer = newer };
    fields = record {
      epoch = eight (start + 8) (omega arith) (omega arith) ∙ has.fields.epoch;
      next = eight (start + 16) (omega arith) (omega arith) ∙ has.fields.next;
      shape_length = four (start + 24) (omega arith) (omega arith) ∙ has.fields.shape_length;
      shape = stands_same start (start + 131072) image other same (start + 32) root.shape (omega arith) (omega (arith, short_shape)) has.fields.shape;
      page_count = count_there ∙ has.fields.page_count;
      slots = λ k lt. slot_there k (omega (arith, lt, has.fields.page_count, few_pages)) ∙ has.fields.slots k lt;
    };
    right = λ at w. has.right at (wrong_back at w);
  }

-- the same in each image that is no shorter
pub root_there : IsRootThere
root_there root image other has same long newer = root_there_within root image other has same (omega (arith, has.long, long)) (λ k lt. omega (arith, long, slot_inside root image has k lt)) newer

pub root_kept : IsRootThere
root_kept root image other has same long newer = root_there root image other has same long newer

-- a store but for its journal
module _ (root : Root) (image other : List ℕ) (has : HasRoot root image) (front : AreSame 0 journal_start image other) (behind : AreSame journal_end (length image) image other) (long : length image ≤ length other) where
  area_same : (area : ℕ) → area ≤ 1 → AreSame (area_start area) (area_start area + 131072) image other
  area_same area le i low high = front i (omega arith) (omega (arith, high, le))

  root_back : (area : ℕ) → area ≤ 1 → IsRoot other area → IsRoot image area
  root_back area le r =
      let back : AreSame (area_start area) (area_start area + 131072) other image = λ i low high. sym (area_same area le i low high) in
      record {
        gate = back (area_start area) (omega arith) (omega arith) ∙ r.gate;
        magic = stands_same (area_start area) (area_start area + 131072) other image back (area_start area + 1) root_magic (omega arith) (omega arith) r.magic;
      }

  epoch_there : (area : ℕ) → area ≤ 1 → number8 other (area_start area + 8) ≡ number8 image (area_start area + 8)
  epoch_there area le = eight_same (area_start area) (area_start area + 131072) image other (area_same area le) (area_start area + 8) (omega arith) (omega arith)

  follows_there : IsRoot other (1 - root.area) → Follows other root.area (1 - root.area)
  follows_there r =
      let le = has.current.area_ in
      let rest : 1 - root.area ≤ 1 = omega arith in
      epoch_there root.area le ∙ has.current.newer (root_back (1 - root.area) rest r) ∙ ap (λ n. (n + 1) % 2 ^ 64) (sym (epoch_there (1 - root.area) rest))

  store_there : IsStoreThere root image other
  store_there = record {
    root_ = root_there root image other has (area_same root.area has.current.area_) long follows_there;
    pages = pages_kept root.next root.slots image other (λ k lt. λ i low high. behind i (omega (arith, low)) (omega (arith, high, slot_inside root image has k lt)));
  }

pub store_kept : IsStoreKept
store_kept root image other has front behind long = store_there root image other has front behind long
