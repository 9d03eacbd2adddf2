-- The next store in an image where it was laid.
use Rattle.std.proofs.Common.{ℕ, zero, suc, ◌≡◌, ◌≢◌, ◌⊎◌, ⊎_elim, inl, inr, ◌+◌, ◌-◌, ◌%◌, ◌^◌, ◌<◌, ◌≤◌, List, [], ◌∷◌, ◌++◌, length, map, get_or, refl, sym, ap, ◌∙◌, subst, arith, append_assoc, length-append}
use Rattle.std.proofs.lemmas.Bool.{cases_lt}
use Rattle.std.proofs.lemmas.List.{get_or-append_right, get_or_append_left, length-map}
use Rattle.pss_disk.specs.Octets.{write}
use Rattle.pss_disk.specs.Parts.{Stands, octet_at}
use Rattle.pss_disk.proofs.Images.{agrees_write, misses_but}
use Rattle.pss_disk.proofs.Parts.{agrees_at, written_stands}
use Rattle.redo_journal.specs.Journal.{journal_end}
use Rattle.page_format.specs.Laws.{AreSame}
use Rattle.page_format.specs.Pages.{AreGiven, ArePages, IsPage, IsSmall, entries_in, entries_of, octets_in_use, places_in, serials_of}
use Rattle.page_format.specs.Places.{area_start, slot_end, slot_start}
use Rattle.page_format.specs.Roots.{Follows, IsWithinLimits, IsWrongField, IsWrongSlot, epoch_in, slot_in}
use Rattle.page_store.specs.Stores.{HasStore}
use Rattle.page_store.specs.Switch.{HasPages, MayFollow, Next, Old, objects_of, places_of, slots_of, uses_of}
use Rattle.page_format.specs.Written.{AreWritable, list_octets, root_octets, with_pages}
use Rattle.page_format.specs.declared.new_page.NewPage.{NewPage}
use Rattle.page_store.specs.inner.Laying.{IsLeft}
use Rattle.page_store.proofs.Laid.{laid, laid_agrees}
use Rattle.page_store.proofs.LaidOctets.{IsRead, StandWhole, apart_front, apart_slot, have_own, list_read, no_shorter, pages_longer, pages_stand, reaches, root_read, stand_after, stands_after, whole_read}
use Rattle.page_format.proofs.Spelled.{length_list, length_root}
use Rattle.page_format.proofs.Staying.{all_entries, all_places, eight_same, page_same, slot_inside, used_same}

-- the image has the next root behind its gate, and its new pages, and is as the content elsewhere
pub record IsLaid (next : Next) (c image : List ℕ) : Type 0 where
  pub head : Stands image (area_start next.root.area + 1) (root_octets next.root)
  pub list : Stands image (area_start next.root.area + 65568) (list_octets next.root.slots)
  pub pages : StandWhole next.root.epoch next.pages image
  pub kept : (i : ℕ) → IsLeft next.root.area next.pages i → i ≢ area_start next.root.area → i < length c → octet_at image i ≡ octet_at c i
  pub long : length c ≤ length image

-- the elements of two lists in a row
each_slot : (P : ℕ → Type 0) (xs ys : List ℕ) → ((k : ℕ) → k < length xs → P (get_or xs k 0)) → ((k : ℕ) → k < length ys → P (get_or ys k 0)) → (k : ℕ) → k < length (xs ++ ys) → P (get_or (xs ++ ys) k 0)
each_slot P xs ys first second k lt =
    ⊎_elim {A = k < length xs} {B = length xs ≤ k} {C = P (get_or (xs ++ ys) k 0)} (λ less. subst P (sym (get_or_append_left xs ys 0 k less)) (first k less))
    (λ more. subst P (sym (get_or-append_right xs ys (length xs) k 0 refl more)) (second (k - length xs) (omega (arith, lt, more, length-append xs ys)))) (cases_lt k (length xs))

entries_append : (image xs ys : List ℕ) → entries_in image (xs ++ ys) ≡ entries_in image xs ++ entries_in image ys
entries_append image [] ys = refl
entries_append image (x ∷ xs) ys = ap (λ l. entries_of image (slot_start x) ++ l) (entries_append image xs ys) ∙ sym (append_assoc (entries_of image (slot_start x)) (entries_in image xs) (entries_in image ys))

places_append : (image xs ys : List ℕ) → places_in image (xs ++ ys) ≡ places_in image xs ++ places_in image ys
places_append image [] ys = refl
places_append image (x ∷ xs) ys =
    ap (λ l. map (λ e. (e.serial, x)) (entries_of image (slot_start x)) ++ l) (places_append image xs ys) ∙ sym (append_assoc (map (λ e. (e.serial, x)) (entries_of image (slot_start x))) (places_in image xs) (places_in image ys))

-- what is read of new pages
module _ (epoch : ℕ) (image : List ℕ) where
  new_entries : (ps : List NewPage) → AreWritable ps → StandWhole epoch ps image → entries_in image (slots_of ps) ≡ objects_of ps
  new_entries [] ok s = refl
  new_entries (p ∷ ps) ok s = ap (λ l. l ++ entries_in image (slots_of ps)) (whole_read image epoch p ok.0 s.0).1 ∙ ap (λ l. p.entries ++ l) (new_entries ps ok.1 s.2)

  new_places : (ps : List NewPage) → AreWritable ps → StandWhole epoch ps image → places_in image (slots_of ps) ≡ places_of ps
  new_places [] ok s = refl
  new_places (p ∷ ps) ok s =
      ap (λ l. map (λ e. (e.serial, p.slot)) l ++ places_in image (slots_of ps)) (whole_read image epoch p ok.0 s.0).1 ∙ ap (λ l. map (λ e. (e.serial, p.slot)) p.entries ++ l) (new_places ps ok.1 s.2)

  new_whole : (ps : List NewPage) → AreWritable ps → StandWhole epoch ps image → (k : ℕ) → k < length (slots_of ps) → IsPage image (slot_start (get_or (slots_of ps) k 0)) (get_or (slots_of ps) k 0)
  new_whole [] ok s k lt = absurd (omega (arith, lt))
  new_whole (p ∷ ps) ok s zero lt = (whole_read image epoch p ok.0 s.0).0
  new_whole (p ∷ ps) ok s (suc k) lt = new_whole ps ok.1 s.2 k (omega (arith, lt))

  new_use : (ps : List NewPage) → AreWritable ps → StandWhole epoch ps image → (k : ℕ) → k < length ps → octets_in_use image (slot_start (get_or (slots_of ps) k 0)) ≡ get_or (uses_of ps) k 0
  new_use [] ok s k lt = absurd (omega (arith, lt))
  new_use (p ∷ ps) ok s zero lt = (whole_read image epoch p ok.0 s.0).2
  new_use (p ∷ ps) ok s (suc k) lt = new_use ps ok.1 s.2 k (omega (arith, lt))

  new_inside : (ps : List NewPage) → StandWhole epoch ps image → (k : ℕ) → k < length (slots_of ps) → slot_end (get_or (slots_of ps) k 0) ≤ length image
  new_inside [] s k lt = absurd (omega (arith, lt))
  new_inside (p ∷ ps) s zero lt = s.1
  new_inside (p ∷ ps) s (suc k) lt = new_inside ps s.2 k (omega (arith, lt))

-- the next root that is within the limits, and new pages that may be written
pub record IsLayable (next : Next) : Type 0 where
  pub limits : IsWithinLimits next.root
  pub given : next.root.next < 2 ^ 64
  pub pages : AreWritable next.pages

module _ (old : Old) (next : Next) (c : List ℕ) (follow : MayFollow old next c) (ok : IsLayable next) where
  abbrev area : ℕ
  area = next.root.area

  abbrev gate : ℕ
  gate = area_start area

  abbrev new : List ℕ
  new = slots_of next.pages

  long_content : journal_end ≤ length c
  long_content = follow.store.root_.long

  count_all : length next.root.slots ≡ length next.kept + length next.pages
  count_all = ap length follow.slots_ ∙ length-append next.kept new ∙ ap (λ n. length next.kept + n) (length-map next.pages (λ (p : NewPage). p.slot))

  new_slots_once : (j k : ℕ) → j < k → k < length next.pages → get_or new j 0 ≡ get_or new k 0 → ⊥
  new_slots_once j k less lt e =
      ok.limits.once (length next.kept + j) (length next.kept + k) (omega (arith, less)) (omega (arith, lt, count_all)) (slot_of j ∙ e ∙ sym (slot_of k))
    where
      slot_of : (i : ℕ) → get_or next.root.slots (length next.kept + i) 0 ≡ get_or new i 0
      slot_of i =
          ap (λ l. get_or l (length next.kept + i) 0) follow.slots_ ∙ get_or-append_right next.kept new (length next.kept) (length next.kept + i) 0 refl (omega arith)
          ∙ ap (λ n. get_or new n 0) (let h : length next.kept + i - length next.kept ≡ i = omega arith in h)

  pub laid_is : IsLaid next c (laid next.root next.pages c)
  laid_is =
      let pages = with_pages next.root.epoch next.pages c in
      let head = write (gate + 1) (root_octets next.root) pages in
      let n = length_root next.root in
      let m = length_list next.root.slots in
      let whole = pages_stand next.root.epoch next.pages c ok.pages (have_own next.pages new_slots_once) in
      let agrees = laid_agrees next.root next.pages c ok.limits.shape_ ok.limits.slots_ ok.pages in
      let le = ok.limits.area_ in
      record {
        head = stands_after (gate + 1) (gate + 65568) (root_octets next.root) (list_octets next.root.slots) head (written_stands (gate + 1) (root_octets next.root) pages) (inl (omega (arith, n, ok.limits.shape_))) (reaches (gate + 1) (root_octets next.root) pages (omega (arith, n)));
        list = written_stands (gate + 65568) (list_octets next.root.slots) head;
        pages = stand_after next.root.epoch (gate + 65568) next.pages (list_octets next.root.slots) head ok.pages (omega (arith, m, le, ok.limits.slots_)) (stand_after next.root.epoch (gate + 1) next.pages (root_octets next.root) pages ok.pages (omega (arith, n, le, ok.limits.shape_)) whole);
        kept = λ i left ne lt. agrees_at (IsLeft area next.pages) c (laid next.root next.pages c) i agrees left lt;
        long = omega (arith, pages_longer next.root.epoch next.pages c, no_shorter (gate + 1) (root_octets next.root) pages, no_shorter (gate + 65568) (list_octets next.root.slots) head);
      }

  module _ (image : List ℕ) (is : IsLaid next c image) where
    -- it is so with the gate open too
    pub opened_is : IsLaid next c (write gate (165 ∷ []) image)
    opened_is =
        let n = length_root next.root in
        let m = length_list next.root.slots in
        let le = ok.limits.area_ in
        record {
          head = stands_after (gate + 1) gate (root_octets next.root) (165 ∷ []) image is.head (inr (omega arith)) (omega (arith, n, le, ok.limits.shape_, long_content, is.long));
          list = stands_after (gate + 65568) gate (list_octets next.root.slots) (165 ∷ []) image is.list (inr (omega arith)) (omega (arith, m, le, ok.limits.slots_, long_content, is.long));
          pages = stand_after next.root.epoch gate next.pages (165 ∷ []) image ok.pages (omega (arith, le)) is.pages;
          kept = λ i left ne lt. agrees_at (λ k. k ≢ gate) image (write gate (165 ∷ []) image) i (agrees_write (λ k. k ≢ gate) gate (165 ∷ []) image (misses_but gate)) ne (omega (arith, lt, is.long)) ∙ is.kept i left ne lt;
          long = omega (arith, is.long, no_shorter gate (165 ∷ []) image);
        }

    -- the slots of the old root, and its area, are as they were
    old_slot : (j : ℕ) → j < length old.root.slots → AreSame (slot_start (get_or old.root.slots j 0)) (slot_end (get_or old.root.slots j 0)) c image
    old_slot j lt i low high =
        is.kept i (record { root_ = inr (omega (arith, low, ok.limits.area_)); pages_ = apart_slot next.pages (get_or old.root.slots j 0) i (λ k less. follow.fresh j k lt less) low high }) (λ e. omega (arith, e, low, ok.limits.area_))
        (omega (arith, high, slot_inside old.root c follow.store.root_ j lt))

    kept_slot : (k : ℕ) → k < length next.kept → AreSame (slot_start (get_or next.kept k 0)) (slot_end (get_or next.kept k 0)) c image
    kept_slot k lt = let h = follow.named k lt in subst (λ s. AreSame (slot_start s) (slot_end s) c image) h.2 (old_slot h.0 h.1)

    kept_page : (k : ℕ) → k < length next.kept → IsPage c (slot_start (get_or next.kept k 0)) (get_or next.kept k 0)
    kept_page k lt = let h = follow.named k lt in subst (λ s. IsPage c (slot_start s) s) h.2 (follow.store.pages.whole h.0 h.1)

    old_area : AreSame (area_start old.root.area) (area_start old.root.area + 131072) c image
    old_area i low high =
        is.kept i (record { root_ = apart_of (cases_lt i (gate + 1)); pages_ = apart_front next.pages i (omega (arith, high, follow.store.root_.current.area_)) }) (λ e. omega (arith, e, low, high, follow.area_)) (omega (arith, high, long_content, follow.store.root_.current.area_))
      where
        apart_of : (i < gate + 1) ⊎ (gate + 1 ≤ i) → (i ≤ gate) ⊎ (gate + 131072 ≤ i)
        apart_of (inl less) = inl (omega (arith, less))
        apart_of (inr more) = inr (omega (arith, more, low, high, follow.area_))

    kept_use : (k : ℕ) → k < length next.kept → octets_in_use image (slot_start (get_or next.kept k 0)) ≡ octets_in_use c (slot_start (get_or next.kept k 0))
    kept_use k lt = used_same (slot_start (get_or next.kept k 0)) (get_or next.kept k 0) c image (kept_slot k lt)

    pub pages_are : HasPages next c image
    pages_are = record {
      places = ap (places_in image) follow.slots_ ∙ places_append image next.kept new ∙ ap (λ l. l ++ places_in image new) (all_places c image next.kept kept_slot kept_page) ∙ ap (λ l. places_in c next.kept ++ l) (new_places next.root.epoch image next.pages ok.pages is.pages);
      kept_uses = kept_use;
      new_uses = new_use next.root.epoch image next.pages ok.pages is.pages;
    }

    objects_are : entries_in image next.root.slots ≡ next.objects
    objects_are =
        ap (entries_in image) follow.slots_ ∙ entries_append image next.kept new ∙ ap (λ l. l ++ entries_in image new) (all_entries c image next.kept kept_slot kept_page)
        ∙ ap (λ l. entries_in c next.kept ++ l) (new_entries next.root.epoch image next.pages ok.pages is.pages) ∙ sym follow.objects_

    -- not both of two pages have little in use
    not_both_small : (j k : ℕ) → j < k → k < length (next.kept ++ new) → IsSmall image (get_or (next.kept ++ new) j 0) → IsSmall image (get_or (next.kept ++ new) k 0) → ⊥
    not_both_small j k less lt sj sk = by (cases_lt j (length next.kept))
      where
        count_new : length new ≡ length next.pages
        count_new = length-map next.pages (λ (p : NewPage). p.slot)

        by : (j < length next.kept) ⊎ (length next.kept ≤ j) → ⊥
        by (inl front) =
            let here : get_or (next.kept ++ new) j 0 ≡ get_or next.kept j 0 = get_or_append_left next.kept new 0 j front in
            follow.large j front (omega (arith, kept_use j front, subst (IsSmall image) here sj))
        by (inr behind) =
            let one : get_or (next.kept ++ new) j 0 ≡ get_or new (j - length next.kept) 0 = get_or-append_right next.kept new (length next.kept) j 0 refl behind in
            let two : get_or (next.kept ++ new) k 0 ≡ get_or new (k - length next.kept) 0 = get_or-append_right next.kept new (length next.kept) k 0 refl (omega (arith, behind, less)) in
            let within : k - length next.kept < length next.pages = omega (arith, lt, less, behind, length-append next.kept new, count_new) in
            follow.packed (j - length next.kept) (k - length next.kept) (omega (arith, less, behind)) within
            (omega (arith, new_use next.root.epoch image next.pages ok.pages is.pages (j - length next.kept) (omega (arith, less, behind, within)), subst (IsSmall image) one sj))
            (omega (arith, new_use next.root.epoch image next.pages ok.pages is.pages (k - length next.kept) within, subst (IsSmall image) two sk))

    pages_right : ArePages next.root.next next.root.slots image
    pages_right = record {
      whole = subst (λ (l : List ℕ). (k : ℕ) → k < length l → IsPage image (slot_start (get_or l k 0)) (get_or l k 0)) (sym follow.slots_)
          (each_slot (λ s. IsPage image (slot_start s) s) next.kept new (λ k lt. page_same (slot_start (get_or next.kept k 0)) (get_or next.kept k 0) c image (kept_slot k lt) (kept_page k lt)) (new_whole next.root.epoch image next.pages ok.pages is.pages));
      given = subst (λ es. AreGiven next.root.next [] (serials_of es)) (sym objects_are) follow.given;
      packed = subst (λ (l : List ℕ). (j k : ℕ) → j < k → k < length l → IsSmall image (get_or l j 0) → IsSmall image (get_or l k 0) → ⊥) (sym follow.slots_) not_both_small;
    }

    all_inside : (k : ℕ) → k < length next.root.slots → slot_end (get_or next.root.slots k 0) ≤ length image
    all_inside =
        subst (λ (l : List ℕ). (k : ℕ) → k < length l → slot_end (get_or l k 0) ≤ length image) (sym follow.slots_)
        (each_slot (λ s. slot_end s ≤ length image) next.kept new (λ k lt. let h = follow.named k lt in omega (arith, slot_inside old.root c follow.store.root_ h.0 h.1, h.2, is.long)) (new_inside next.root.epoch image next.pages is.pages))

    slot_there : (k : ℕ) → k < length next.root.slots → slot_in image area k ≡ get_or next.root.slots k 0
    slot_there k lt = list_read image next.root.slots (gate + 65568) k ok.limits.below is.list lt

    module _ (open_ : octet_at image gate ≡ 165) where
      epoch_given : next.root.epoch < 2 ^ 64
      epoch_given = omega (arith, follow.epoch_)

      read : IsRead next.root image
      read = root_read next.root image epoch_given ok.given ok.limits.shape_ ok.limits.slots_ is.head

      right : (at : ℕ) → IsWrongField image area at → ⊥
      right at (inl w) = omega (arith, w.1, read.next, ok.limits.next_)
      right at (inr (inl w)) = omega (arith, w.1, read.shape_length, ok.limits.shape_)
      right at (inr (inr (inl w))) = omega (arith, w.1, read.page_count, ok.limits.slots_)
      right at (inr (inr (inr w))) = by w.wrong
        where
          lt : w.k < length next.root.slots
          lt = omega (arith, w.within, read.page_count)

          by : IsWrongSlot (slot_in image area) (length image) w.k → ⊥
          by (inl great) = omega (arith, great, slot_there w.k lt, ok.limits.below w.k lt)
          by (inr (inl past)) = omega (arith, past, slot_there w.k lt, all_inside w.k lt)
          by (inr (inr twice)) = ok.limits.once twice.0 w.k twice.1 lt (sym (slot_there twice.0 (omega (arith, twice.1, lt))) ∙ twice.2 ∙ slot_there w.k lt)

      follows : Follows image area (1 - area)
      follows =
          read.epoch ∙ follow.epoch_
          ∙ ap (λ e. (e + 1) % 2 ^ 64) (sym (ap (epoch_in image) (let h : 1 - area ≡ old.root.area = omega (arith, follow.area_) in h)
          ∙ eight_same (area_start old.root.area) (area_start old.root.area + 131072) c image old_area (area_start old.root.area + 8) (omega arith) (omega arith) ∙ follow.store.root_.fields.epoch))

      pub next_store : HasStore next.root next.objects image
      next_store = record {
        root_ = record {
          long = omega (arith, long_content, is.long);
          current = record { area_ = ok.limits.area_; root = record { gate = open_; magic = read.magic }; newer = λ r. follows };
          fields = record { epoch = read.epoch; next = read.next; shape_length = read.shape_length; shape = read.shape; page_count = read.page_count; slots = slot_there };
          right = right;
        };
        pages = pages_right;
        objects_ = objects_are;
      }
