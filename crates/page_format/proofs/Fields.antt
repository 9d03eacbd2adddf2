-- The first wrong field of a root.
use Rattle.std.proofs.Common.{ℕ, ◌≡◌, inl, inr, ◌+◌, ◌<◌, ◌≤◌, List, length, get_or, slice_index, refl, sym, ap, ◌∙◌, subst, arith}
use Rattle.pss_base.specs.declared.damage.DamageKind.TheVariants as kind
use Rattle.pss_disk.specs.Parts.{Stands}
use Rattle.page_format.specs.Places.{area_start, slot_end}
use Rattle.page_format.specs.Refusals.{IsRootRefusal}
use Rattle.page_format.specs.Roots.{HasRoot, IsWrongField, IsWrongFirst, IsWrongSlot, IsWrongSlotField, slot_field, slot_in}
use Rattle.page_format.specs.declared.current.Current.{Current}
use Rattle.page_format.specs.declared.fault.RootFault.TheVariants.{Damaged}
use Rattle.page_format.specs.declared.root.Root.{Root}
use Rattle.page_format.specs.inner.Current.{AreItsSlots, AreRight, IsCurrentHead, IsOpened, IsRightHead, IsWrongHead}

-- slots that are the same up to one are as wrong there
pub wrong_slot_same : (f g : ℕ → ℕ) (len k : ℕ) → ((i : ℕ) → i ≤ k → f i ≡ g i) → IsWrongSlot f len k → IsWrongSlot g len k
wrong_slot_same f g len k same (inl great) = inl (subst (λ s. 16384 ≤ s) (same k (omega arith)) great)
wrong_slot_same f g len k same (inr (inl past)) = inr (inl (subst (λ s. len < slot_end s) (same k (omega arith)) past))
wrong_slot_same f g len k same (inr (inr twice)) = inr (inr (twice.0, twice.1, sym (same twice.0 (omega (arith, twice.1))) ∙ twice.2 ∙ same k (omega arith)))

module _ (found : Current) (image : List ℕ) (is : IsCurrentHead found image) where
  abbrev start : ℕ
  start = area_start found.area

  -- no field in front of the first slot is wrong where the head is right
  in_list : IsRightHead found.head → (i : ℕ) → IsWrongField image found.area i → IsWrongSlotField image found.area i
  in_list right i (inl w) = absurd (omega (arith, w.1, is.head.next, right.next))
  in_list right i (inr (inl w)) = absurd (omega (arith, w.1, is.head.shape_length, right.shape_length))
  in_list right i (inr (inr (inl w))) = absurd (omega (arith, w.1, is.head.page_count, right.page_count))
  in_list right i (inr (inr (inr w))) = w

  before_16 : (i : ℕ) → i < start + 16 → IsWrongField image found.area i → ⊥
  before_16 i lt (inl w) = omega (arith, lt, w.0)
  before_16 i lt (inr (inl w)) = omega (arith, lt, w.0)
  before_16 i lt (inr (inr (inl w))) = omega (arith, lt, w.0)
  before_16 i lt (inr (inr (inr w))) = omega (arith, lt, w.place)

  before_24 : 1 ≤ found.head.next → (i : ℕ) → i < start + 24 → IsWrongField image found.area i → ⊥
  before_24 next i lt (inl w) = omega (arith, w.1, is.head.next, next)
  before_24 next i lt (inr (inl w)) = omega (arith, lt, w.0)
  before_24 next i lt (inr (inr (inl w))) = omega (arith, lt, w.0)
  before_24 next i lt (inr (inr (inr w))) = omega (arith, lt, w.place)

  before_28 : 1 ≤ found.head.next → found.head.shape_length ≤ 65536 → (i : ℕ) → i < start + 28 → IsWrongField image found.area i → ⊥
  before_28 next shape i lt (inl w) = omega (arith, w.1, is.head.next, next)
  before_28 next shape i lt (inr (inl w)) = omega (arith, w.1, is.head.shape_length, shape)
  before_28 next shape i lt (inr (inr (inl w))) = omega (arith, lt, w.0)
  before_28 next shape i lt (inr (inr (inr w))) = omega (arith, lt, w.place)

  pub number_first : (at : ℕ) → IsWrongHead found.head at → IsWrongFirst image (start + at)
  number_first at (inl w) = record {
    area = found.area;
    current = is.current;
    wrong = inl (ap (λ n. start + n) w.0, is.head.next ∙ w.1);
    first = λ i lt. before_16 i (omega (arith, lt, w.0));
  }
  number_first at (inr (inl w)) = record {
    area = found.area;
    current = is.current;
    wrong = inr (inl (ap (λ n. start + n) w.0, omega (arith, is.head.shape_length, w.2)));
    first = λ i lt. before_24 w.1 i (omega (arith, lt, w.0));
  }
  number_first at (inr (inr w)) = record {
    area = found.area;
    current = is.current;
    wrong = inr (inr (inl (ap (λ n. start + n) w.0, omega (arith, is.head.page_count, w.3))));
    first = λ i lt. before_28 w.1 w.2 i (omega (arith, lt, w.0));
  }

  module _ (len : ℕ) (slots : List ℕ) (same_length : length image ≡ len) (right : IsRightHead found.head) (its : AreItsSlots found slots image) where
    listed : (k : ℕ) → k < length slots → (i : ℕ) → i ≤ k → get_or slots i 0 ≡ slot_in image found.area i
    listed k lt i le = sym (its.slots_ i (omega (arith, lt, le)))

    as_listed : (k : ℕ) → k < length slots → IsWrongSlot (slot_in image found.area) (length image) k → IsWrongSlot (slice_index slots) len k
    as_listed k lt w = wrong_slot_same (slot_in image found.area) (slice_index slots) len k (λ i le. sym (listed k lt i le)) (subst (λ n. IsWrongSlot (slot_in image found.area) n k) same_length w)

    pub slot_first : (at : ℕ) → at < length slots → IsWrongSlot (slice_index slots) len at → ((k : ℕ) → k < at → IsWrongSlot (slice_index slots) len k → ⊥) → IsWrongFirst image (slot_field found.area at)
    slot_first at lt w none = record {
      area = found.area;
      current = is.current;
      wrong = inr (inr (inr (record {
        k = at;
        within = omega (arith, lt, its.count, is.head.page_count);
        place = refl;
        wrong = wrong_slot_same (slice_index slots) (slot_in image found.area) (length image) at (listed at lt) (subst (λ n. IsWrongSlot (slice_index slots) n at) (sym same_length) w);
      })));
      first = λ i less f. earlier (in_list right i f) less;
    }
      where
        earlier : {i : ℕ} → IsWrongSlotField image found.area i → i < slot_field found.area at → ⊥
        earlier f less = let small : f.k < at = omega (arith, f.place, less) in none f.k small (as_listed f.k (omega (arith, small, lt)) f.wrong)

    pub none_wrong : AreRight len slots → (i : ℕ) → IsWrongField image found.area i → ⊥
    none_wrong all i w = by (in_list right i w)
      where
        by : IsWrongSlotField image found.area i → ⊥
        by f = let lt : f.k < length slots = omega (arith, f.within, its.count, is.head.page_count) in all f.k lt (as_listed f.k lt f.wrong)

-- a wrong field is a refusal
pub refused_first : (len : ℕ) (found : Current) (image : List ℕ) (at : ℕ) → IsOpened len found image → IsWrongFirst image at → IsRootRefusal (Damaged at kind.Root) image
refused_first len found image at opened first = (refl, record { long = opened.long; why = inr first })

-- the root that was read
pub whole_root : (len : ℕ) (found : Current) (slots shape image : List ℕ) (root : Root) → root ≡ record { area = found.area; epoch = found.head.epoch; next = found.head.next; shape = shape; slots = slots } → IsOpened len found image → IsRightHead found.head → AreItsSlots found slots image → AreRight len slots
    → length shape ≡ found.head.shape_length → Stands image (area_start found.area + 32) shape → HasRoot root image
whole_root len found slots shape image root same opened right its all short stands =
    subst (λ r. HasRoot r image) (sym same)
    (record {
      long = opened.long;
      current = opened.found_.current;
      fields = record {
        epoch = opened.found_.head.epoch;
        next = opened.found_.head.next;
        shape_length = opened.found_.head.shape_length ∙ sym short;
        shape = stands;
        page_count = opened.found_.head.page_count ∙ sym its.count;
        slots = its.slots_;
      };
      right = none_wrong found image opened.found_ len slots opened.len_ right its all;
    })
