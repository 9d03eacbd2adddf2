-- The list of slots, read of its octets.
use Rattle.std.proofs.Common.{ℕ, ◌≡◌, ◌⊎◌, ⊎_elim, inl, inr, ◌+◌, ◌*◌, ◌<◌, ◌≤◌, List, length, get_or, set, slice_index, Bool, true, false, sym, ap, ◌∙◌, arith, below_more}
use Rattle.std.proofs.lemmas.Bool.{cases_eq, cases_lt, true≢false}
use Rattle.std.proofs.lemmas.List.{get_or-set_other, get_or-set_same, length-set}
use Rattle.pss_disk.specs.Parts.{number4}
use Rattle.page_format.specs.Places.{area_start, slot_end}
use Rattle.page_format.specs.Roots.{IsWrongSlot, slot_in}
use Rattle.page_format.specs.inner.Copies.{IsCopy}
use Rattle.page_format.specs.inner.Tested.{AreTested}
use Rattle.page_format.proofs.Buffers.{number4_copied}

pub slots_read : (area count : ℕ) (octets items image slots : List ℕ) → octets ≡ items → ((k : ℕ) → k < count → number4 octets (k * 4) ≡ get_or slots k 0) → IsCopy (area_start area + 65568) (count * 4) items image
    → (k : ℕ) → k < count → slot_in image area k ≡ get_or slots k 0
slots_read area count octets items image slots same is copy k lt =
    sym (number4_copied (area_start area + 65568) (count * 4) items image copy (k * 4) (omega arith)) ∙ ap (λ l. number4 l (k * 4)) (sym same) ∙ is k lt

module _ (slots : List ℕ) (len : ℕ) where
  pub tested_none : (named : List Bool) → length named ≡ 16384 → ((s : ℕ) → get_or named s false ≡ false) → AreTested slots len 0 named
  tested_none named size none = record {
    size = size;
    right = λ j lt. absurd (omega (arith, lt));
    marked = λ j lt. absurd (omega (arith, lt));
    only = λ s e. absurd (true≢false (sym e ∙ none s));
  }

  -- a slot that is too great, ends past the file or is marked
  abbrev pub Fails : List Bool → ℕ → Type 0
  Fails named slot = (16384 ≤ slot) ⊎ (len < slot_end slot) ⊎ (get_or named slot false ≡ true)

  module _ (k : ℕ) (named : List Bool) (t : AreTested slots len k named) where
    pub tested_wrong : Fails named (get_or slots k 0) → IsWrongSlot (slice_index slots) len k
    tested_wrong (inl great) = inl great
    tested_wrong (inr (inl past)) = inr (inl past)
    tested_wrong (inr (inr marked)) = inr (inr (t.only (get_or slots k 0) marked))

    right_here : (Fails named (get_or slots k 0) → ⊥) → IsWrongSlot (slice_index slots) len k → ⊥
    right_here passed (inl great) = passed (inl great)
    right_here passed (inr (inl past)) = passed (inr (inl past))
    right_here passed (inr (inr twice)) = passed (inr (inr (ap (λ s. get_or named s false) (sym twice.2) ∙ t.marked twice.0 twice.1)))

    pub tested_more : (Fails named (get_or slots k 0) → ⊥) → AreTested slots len (k + 1) (set named (get_or slots k 0) true)
    tested_more passed =
        let here = get_or slots k 0 in
        let small : here < length named = ⊎_elim (λ less. omega (arith, less, t.size)) (λ more. absurd (passed (inl more))) (cases_lt here 16384) in
        record {
          size = length-set named here true ∙ t.size;
          right = below_more _ _ t.right (right_here passed);
          marked = below_more (λ j. get_or (set named here true) (get_or slots j 0) false ≡ true) k
              (λ j lt. ⊎_elim (λ e. ap (λ s. get_or (set named here true) s false) e ∙ get_or-set_same named here true false small)
              (λ ne. get_or-set_other named here (get_or slots j 0) true false ne ∙ t.marked j lt) (cases_eq (get_or slots j 0) here))
              (get_or-set_same named here true false small);
          only = λ s e. ⊎_elim {A = s ≡ here} {B = s ≡ here → ⊥} {C = (j : ℕ) × (j < k + 1) × (get_or slots j 0 ≡ s)}
              (λ same. (k, omega arith, sym same))
              (λ ne. let old = t.only s (sym (get_or-set_other named here s true false ne) ∙ e) in (old.0, omega (arith, old.1), old.2)) (cases_eq s here);
        }
