-- Where the entries of pages stand.
use Rattle.std.proofs.Common.{ℕ, zero, suc, ◌≡◌, ◌+◌, ◌-◌, ◌<◌, ◌≤◌, List, [], ◌∷◌, length, map, get_or, drop, Option, None, Some, IfSome, Result, Ok, Err, IfOk, length-append, refl, sym, ap, ◌∙◌, subst, arith}
use Rattle.std.proofs.lemmas.List.{get_or-append-add, get_or_append_left}
use Rattle.pss_disk.specs.Parts.{number4}
use Rattle.page_format.specs.Pages.{IsPage, ArePages, behind_entry, entries_from, entries_in, entries_of, entries_start, entry_count, place_of, put_of}
use Rattle.page_store.specs.Kept.{rows_in}
use Rattle.page_format.specs.Places.{slot_start}
use Rattle.page_format.proofs.NextEntry.{place_step}
use Rattle.pss_recovery.specs.Loading.{entry_places, places_from}

pub length-places_from : (k : ℕ) (image : List ℕ) (at : ℕ) → length (places_from k image at) ≡ k
length-places_from zero image at = refl
length-places_from (suc k) image at = ap suc (length-places_from k image (behind_entry image at))

pub place_from : (k : ℕ) (image : List ℕ) (at i : ℕ) → i < k → get_or (places_from k image at) i 0 ≡ place_of i image at
place_from zero image at i lt = absurd (omega (arith, lt))
place_from (suc k) image at zero lt = refl
place_from (suc k) image at (suc i) lt = place_from k image (behind_entry image at) i (omega (arith, lt))

length-entries_from : (k : ℕ) (image : List ℕ) (at : ℕ) → length (entries_from k image at) ≡ k
length-entries_from zero image at = refl
length-entries_from (suc k) image at = ap suc (length-entries_from k image (behind_entry image at))

length-map_put : (es : List _) → length (map put_of es) ≡ length es
length-map_put [] = refl
length-map_put (e ∷ es) = ap suc (length-map_put es)

length-entries : (image slots : List ℕ) → length (entry_places image slots) ≡ length (entries_in image slots)
length-entries image [] = refl
length-entries image (slot ∷ slots) =
    let start = slot_start slot in
    let count = entry_count image start in
    omega (
      arith,
      length-append (places_from count image (entries_start start)) (entry_places image slots),
      length-append (entries_of image start) (entries_in image slots),
      length-places_from count image (entries_start start),
      length-entries_from count image (entries_start start),
      length-entries image slots,
    )

-- there is a place for each row
pub length-entry_places : (image slots : List ℕ) → length (entry_places image slots) ≡ length (rows_in image slots)
length-entry_places image slots = length-entries image slots ∙ sym (length-map_put (entries_in image slots))

-- of all places those of some pages were passed
pub record ArePassed (image : List ℕ) (all rest : List ℕ) (passed : ℕ) : Type 0 where
  pub count : length (entry_places image all) ≡ passed + length (entry_places image rest)
  pub same : (i : ℕ) → get_or (entry_places image all) (passed + i) 0 ≡ get_or (entry_places image rest) i 0

pub one_passed : (image all : List ℕ) (slot : ℕ) (rest : List ℕ) (passed next : ℕ) → next ≡ passed + entry_count image (slot_start slot) → ArePassed image all (slot ∷ rest) passed → ArePassed image all rest next
one_passed image all slot rest passed next is so =
    let count = entry_count image (slot_start slot) in
    let front = places_from count image (entries_start (slot_start slot)) in
    let len = length-places_from count image (entries_start (slot_start slot)) in
    record {
      count = omega (arith, is, so.count, length-append front (entry_places image rest), len);
      same = λ i.
          ap (λ n. get_or (entry_places image all) n 0) (let e : next + i ≡ passed + (length front + i) = omega (arith, is, len) in e) ∙ so.same (length front + i) ∙ get_or-append-add front (entry_places image rest) i 0;
    }

pub place_here : (image all : List ℕ) (slot : ℕ) (rest : List ℕ) (passed left : ℕ) → left < entry_count image (slot_start slot) → ArePassed image all (slot ∷ rest) passed → get_or (entry_places image all) (passed + left) 0 ≡ place_of left image (entries_start (slot_start slot))
place_here image all slot rest passed left lt so =
    let count = entry_count image (slot_start slot) in
    let front = places_from count image (entries_start (slot_start slot)) in
    let len = length-places_from count image (entries_start (slot_start slot)) in
    so.same left ∙ get_or_append_left front (entry_places image rest) 0 left (omega (arith, lt, len)) ∙ place_from count image (entries_start (slot_start slot)) left lt

-- the walk through a page
pub walk_on : (image : List ℕ) (start k at len next : ℕ) → at ≡ place_of k image (entries_start start) → len ≡ number4 image (at + 4) → next ≡ at + (16 + len) → next ≡ place_of (k + 1) image (entries_start start)
walk_on image start k at len next here is e =
    e ∙ ap (λ n. at + (16 + n)) is ∙ (let h : at + (16 + number4 image (at + 4)) ≡ behind_entry image at = omega arith in h) ∙ ap (behind_entry image) here ∙ sym (place_step image k (entries_start start))

-- ---- what the walk over the pages finds

drop_one : (slots : List ℕ) (j : ℕ) → j < length slots → drop j slots ≡ get_or slots j 0 ∷ drop (suc j) slots
drop_one [] j lt = absurd (omega (arith, lt))
drop_one (slot ∷ slots) zero lt = refl
drop_one (slot ∷ slots) (suc j) lt = drop_one slots j (omega (arith, lt))

drop_next : (slots : List ℕ) (j : ℕ) → j < length slots → drop j slots ≡ get_or slots j 0 ∷ drop (j + 1) slots
drop_next slots j lt = drop_one slots j lt ∙ ap (λ n. get_or slots j 0 ∷ drop n slots) (let e : suc j ≡ j + 1 = omega arith in e)

module _ (slots : List ℕ) (j : ℕ) (lt : j < length slots) (index left count : ℕ) (le : left ≤ index) where
  abbrev slot : ℕ
  slot = get_or slots j 0

  pub found_here : (image : List ℕ) → ArePassed image slots (drop j slots) (index - left) → count ≡ number4 image (slot_start slot + 20) → left < count → (place : ℕ) → (IsPage image (slot_start slot) slot → left < entry_count image (slot_start slot) → place ≡ place_of left image (entries_start (slot_start slot)))
      → (next : ℕ) → ArePages next slots image → index < length (entry_places image slots) → place ≡ get_or (entry_places image slots) index 0
  found_here image passed is less place found next pages within =
      let some : left < entry_count image (slot_start slot) = omega (arith, is, less) in
      found (pages.whole j lt) some ∙ sym (place_here image slots slot (drop (j + 1) slots) (index - left) left some (subst (λ (l : List ℕ). ArePassed image slots l (index - left)) (drop_next slots j lt) passed))
      ∙ ap (λ n. get_or (entry_places image slots) n 0) (let e : index - left + left ≡ index = omega (arith, le) in e)

  pub passed_on : (image : List ℕ) → count ≤ left → ArePassed image slots (drop j slots) (index - left) → count ≡ number4 image (slot_start slot + 20) → ArePassed image slots (drop (j + 1) slots) (index - (left - count))
  passed_on image less passed is =
      one_passed image slots slot (drop (j + 1) slots) (index - left) (index - (left - count)) (omega (arith, is, less, le)) (subst (λ (l : List ℕ). ArePassed image slots l (index - left)) (drop_next slots j lt) passed)

pub found_told : {E : Type 0} (slots : List ℕ) (j : ℕ) (lt : j < length slots) (index left count : ℕ) → left ≤ index → (r : Result ℕ E) (old now : Option (List ℕ)) → now ≡ old → IfSome old (λ image. ArePassed image slots (drop j slots) (index - left))
    → IfSome old (λ image. count ≡ number4 image (slot_start (get_or slots j 0) + 20)) → left < count
    → IfOk r (λ place. IfSome now (λ image. IsPage image (slot_start (get_or slots j 0)) (get_or slots j 0) → left < entry_count image (slot_start (get_or slots j 0)) → place ≡ place_of left image (entries_start (slot_start (get_or slots j 0)))))
    → IfOk r (λ place. IfSome old (λ image. (next : ℕ) → ArePages next slots image → index < length (entry_places image slots) → place ≡ get_or (entry_places image slots) index 0))
found_told slots j lt index left count le (Err e) old now same passed is less found = tt
found_told slots j lt index left count le (Ok place) old now same passed is less found =
    by old passed is (subst (λ (o : Option (List ℕ)). IfSome o (λ image. IsPage image (slot_start (get_or slots j 0)) (get_or slots j 0) → left < entry_count image (slot_start (get_or slots j 0)) → place ≡ place_of left image (entries_start (slot_start (get_or slots j 0))))) same found)
  where
    by : (o : Option (List ℕ)) → IfSome o (λ image. ArePassed image slots (drop j slots) (index - left)) → IfSome o (λ image. count ≡ number4 image (slot_start (get_or slots j 0) + 20))
        → IfSome o (λ image. IsPage image (slot_start (get_or slots j 0)) (get_or slots j 0) → left < entry_count image (slot_start (get_or slots j 0)) → place ≡ place_of left image (entries_start (slot_start (get_or slots j 0))))
        → IfSome o (λ image. (next : ℕ) → ArePages next slots image → index < length (entry_places image slots) → place ≡ get_or (entry_places image slots) index 0)
    by None passed is found = tt
    by (Some image) passed is found = found_here slots j lt index left count le image passed is less place found
