-- An image has a root, or is no store, or its roots are damaged.
use Rattle.std.proofs.Common.{ℕ, zero, suc, ◌≡◌, ◌⊎◌, ⊎_elim, inl, inr, ◌+◌, ◌<◌, ◌≤◌, List, [], ◌∷◌, ◌++◌, length, get_or, refl, sym, ap, ◌∙◌, arith, length-append}
use Rattle.std.proofs.Math.Seq.{get_or-append_seam}
use Rattle.std.proofs.lemmas.Bool.{cases_eq, cases_lt}
use Rattle.std.proofs.lemmas.List.{get_or_append_left}
use Rattle.pss_disk.specs.Octets.{octets_in}
use Rattle.pss_disk.specs.Parts.{Stands, octet_at}
use Rattle.pss_disk.specs.inner.Writing.{length-octets_in}
use Rattle.redo_journal.specs.Journal.{IsOpen, journal_end}
use Rattle.page_format.specs.Places.{area_start, slot_end}
use Rattle.page_format.specs.Roots.{Follows, HasFields, HasRoot, IsCurrent, IsNoStore, IsRoot, IsRootDamage, IsWrongField, IsWrongSlot, IsWrongSlotField, epoch_in, next_in, page_count_in, root_magic, shape_length_in, slot_field, slot_in}
use Rattle.page_format.specs.declared.root.Root.{Root}
use Rattle.page_format.proofs.Decisions.{IsDecided, IsLeast, both_of, least_below, less_decided, most_decided, one_of, some_below, stands_decided}

root_decided : (image : List ℕ) (area : ℕ) → IsDecided (IsRoot image area)
root_decided image area = ⊎_elim (λ both. inl (record { gate = both.0; magic = both.1 })) (λ never. inr (λ r. never (r.gate, r.magic))) (both_of (IsOpen image (area_start area)) (Stands image (area_start area + 1) root_magic) (cases_eq (octet_at image (area_start area)) 165) (stands_decided image (area_start area + 1) root_magic))

slot_decided : (slot : ℕ → ℕ) (len k : ℕ) → IsDecided (IsWrongSlot slot len k)
slot_decided slot len k =
    one_of (16384 ≤ slot k) ((len < slot_end (slot k)) ⊎ ((j : ℕ) × (j < k) × (slot j ≡ slot k))) (most_decided 16384 (slot k))
    (one_of (len < slot_end (slot k)) ((j : ℕ) × (j < k) × (slot j ≡ slot k)) (less_decided len (slot_end (slot k))) (some_below (λ j. slot j ≡ slot k) (λ j. cases_eq (slot j) (slot k)) k))

module _ (image : List ℕ) (area : ℕ) where
  abbrev IsWrongAt : ℕ → ℕ → Type 0
  IsWrongAt at k = (at ≡ slot_field area k) × IsWrongSlot (slot_in image area) (length image) k

  wrong_at : (at k : ℕ) → IsDecided (IsWrongAt at k)
  wrong_at at k = both_of (at ≡ slot_field area k) (IsWrongSlot (slot_in image area) (length image) k) (cases_eq at (slot_field area k)) (slot_decided (slot_in image area) (length image) k)

  slots_decided : (at : ℕ) → IsDecided (IsWrongSlotField image area at)
  slots_decided at = ⊎_elim (λ some. inl (record { k = some.0; within = some.1; place = some.2.0; wrong = some.2.1 })) (λ never. inr (λ w. never (w.k, w.within, (w.place, w.wrong)))) (some_below (IsWrongAt at) (wrong_at at) (page_count_in image area))

  field_decided : (at : ℕ) → IsDecided (IsWrongField image area at)
  field_decided at =
      one_of ((at ≡ area_start area + 16) × (next_in image area ≡ 0)) _ (both_of (at ≡ area_start area + 16) (next_in image area ≡ 0) (cases_eq at (area_start area + 16)) (cases_eq (next_in image area) 0))
      (one_of ((at ≡ area_start area + 24) × (65536 < shape_length_in image area)) _ (both_of (at ≡ area_start area + 24) (65536 < shape_length_in image area) (cases_eq at (area_start area + 24)) (less_decided 65536 (shape_length_in image area)))
      (one_of ((at ≡ area_start area + 28) × (8058 < page_count_in image area)) (IsWrongSlotField image area at) (both_of (at ≡ area_start area + 28) (8058 < page_count_in image area) (cases_eq at (area_start area + 28)) (less_decided 8058 (page_count_in image area))) (slots_decided at)))

  -- each wrong field stands in front of this place
  field_bound : (at : ℕ) → IsWrongField image area at → at < slot_field area (page_count_in image area)
  field_bound at (inl w) = omega (arith, w.0)
  field_bound at (inr (inl w)) = omega (arith, w.0)
  field_bound at (inr (inr (inl w))) = omega (arith, w.0)
  field_bound at (inr (inr (inr w))) = omega (arith, w.place, w.within)

  first_field : ((at : ℕ) × IsLeast (IsWrongField image area) at) ⊎ ((at : ℕ) → IsWrongField image area at → ⊥)
  first_field = ⊎_elim (λ found. inl (found.0, found.2)) (λ none. inr (λ at w. none at (field_bound at w) w)) (least_below (IsWrongField image area) field_decided (slot_field area (page_count_in image area)))

  -- the first slots of the list
  abbrev slots_of : ℕ → List ℕ
  slots_of zero = []
  slots_of (suc n) = slots_of n ++ slot_in image area n ∷ []

  length-slots_of : (n : ℕ) → length (slots_of n) ≡ n
  length-slots_of zero = refl
  length-slots_of (suc n) = omega (arith, length-append (slots_of n) (slot_in image area n ∷ []), length-slots_of n)

  slot_there : (n k : ℕ) → k < n → get_or (slots_of n) k 0 ≡ slot_in image area k
  slot_there zero k lt = absurd (omega (arith, lt))
  slot_there (suc n) k lt =
      ⊎_elim (λ less. get_or_append_left (slots_of n) (slot_in image area n ∷ []) 0 k (omega (arith, less, length-slots_of n)) ∙ slot_there n k less)
      (λ more. let e : k ≡ n = omega (arith, lt, more) in ap (λ i. get_or (slots_of (suc n)) i 0) (e ∙ sym (length-slots_of n)) ∙ get_or-append_seam (slots_of n) (slot_in image area n) [] 0 ∙ ap (slot_in image area) (sym e)) (cases_lt k n)

  -- the root that stands in an area
  abbrev root_there : Root
  root_there = record { area = area; epoch = epoch_in image area; next = next_in image area; shape = octets_in (record { at = area_start area + 32; count = shape_length_in image area }) image; slots = slots_of (page_count_in image area) }

  has_fields : HasFields image root_there
  has_fields =
      let shape : length root_there.shape ≡ shape_length_in image area = length-octets_in (record { at = area_start area + 32; count = shape_length_in image area }) image in
      record {
        epoch = refl;
        next = refl;
        shape_length = sym shape;
        shape = ap (λ n. octets_in (record { at = area_start area + 32; count = n }) image) shape;
        page_count = sym (length-slots_of (page_count_in image area));
        slots = λ k lt. sym (slot_there (page_count_in image area) k (omega (arith, lt, length-slots_of (page_count_in image area))));
      }

abbrev IsFound : List ℕ → Type 0
IsFound image = ((root : Root) × HasRoot root image) ⊎ IsNoStore image ⊎ ((at : ℕ) × IsRootDamage image at)

module _ (image : List ℕ) (long : journal_end ≤ length image) where
  current_found : (area : ℕ) → IsCurrent image area → IsFound image
  current_found area current =
      ⊎_elim (λ wrong. inr (inr (wrong.0, record { long = long; why = inr (record { area = area; current = current; wrong = wrong.1.has; first = wrong.1.least }) })))
      (λ right. inl (root_there image area, record { long = long; current = current; fields = has_fields image area; right = right })) (first_field image area)

  both_found : IsRoot image 0 → IsRoot image 1 → IsDecided (Follows image 0 1) → IsDecided (Follows image 1 0) → IsFound image
  both_found one two (inl follows) other = current_found 0 (record { area_ = omega arith; root = one; newer = λ r. follows })
  both_found one two (inr never) (inl follows) = current_found 1 (record { area_ = omega arith; root = two; newer = λ r. follows })
  both_found one two (inr never) (inr nor) = inr (inr (area_start 1, record { long = long; why = inl (record { first = one; second = two; neither = (never, nor) }, refl) }))

  long_found : IsDecided (IsRoot image 0) → IsDecided (IsRoot image 1) → IsFound image
  long_found (inl one) (inl two) = both_found one two (cases_eq _ _) (cases_eq _ _)
  long_found (inl one) (inr never) = current_found 0 (record { area_ = omega arith; root = one; newer = λ r. absurd (never r) })
  long_found (inr never) (inl two) = current_found 1 (record { area_ = omega arith; root = two; newer = λ r. absurd (never r) })
  long_found (inr never) (inr nor) = inr (inl (inr (never, nor)))

pub root_found : (image : List ℕ) → IsFound image
root_found image = ⊎_elim (λ short. inr (inl (inl short))) (λ long. long_found image long (root_decided image 0) (root_decided image 1)) (cases_lt (length image) journal_end)
