-- Pages that stand one behind the other.
use Rattle.std.proofs.Common.{ℕ, ◌≡◌, ◌+◌, ◌-◌, ◌*◌, ◌<◌, ◌≤◌, List, length, take, drop, get_or, sym, ap, ◌∙◌, subst, arith, length-drop}
use Rattle.std.proofs.lemmas.List.{get_or-drop, take_all}
use Rattle.pss_disk.proofs.Parts.{part_of_part}
use Rattle.page_format.specs.Places.{slot_start}
use Rattle.page_format.specs.inner.Copies.{IsCopy}

-- a part of what was read
pub copy_within : (base n at m : ℕ) (octets image : List ℕ) → IsCopy base n octets image → at + m ≤ n → IsCopy (base + at) m (take m (drop at octets)) image
copy_within base n at m octets image copy le = record { is = ap (λ l. take m (drop at l)) copy.is ∙ part_of_part base n at m image le }

-- one page of them
pub page_of_run : (first slot i count at m : ℕ) (octets image : List ℕ) → IsCopy (slot_start first) (count * 16384) octets image → i < count → slot ≡ first + i → at ≡ i * 16384 → m ≡ 16384 → IsCopy (slot_start slot) 16384 (take m (drop at octets)) image
page_of_run first slot i count at m octets image copy lt is place size =
    subst (λ b. IsCopy b 16384 (take m (drop at octets)) image) (let e : slot_start first + at ≡ slot_start slot = omega (arith, is, place) in e)
    (subst (λ n. IsCopy (slot_start first + at) n (take m (drop at octets)) image) size (copy_within (slot_start first) (count * 16384) at m octets image copy (omega (arith, lt, place, size))))

-- slots of a list from one on
pub run_in_list : (slots : List ℕ) (k count : ℕ) → ((i : ℕ) → i < count → get_or (take (length slots - k) (drop k slots)) i 0 ≡ get_or (take (length slots - k) (drop k slots)) 0 0 + i) → (i : ℕ) → i < count → get_or slots (k + i) 0 ≡ get_or slots k 0 + i
run_in_list slots k count run i lt =
    let whole : take (length slots - k) (drop k slots) ≡ drop k slots = take_all (length slots - k) (drop k slots) (omega (arith, length-drop k slots)) in
    let here : get_or (drop k slots) i 0 ≡ get_or (drop k slots) 0 0 + i = sym (ap (λ l. get_or l i 0) whole) ∙ run i lt ∙ ap (λ l. get_or l 0 0 + i) whole in
    sym (get_or-drop k slots i 0) ∙ here ∙ ap (λ n. n + i) (get_or-drop k slots 0 0 ∙ ap (λ n. get_or slots n 0) (let e : k + 0 ≡ k = omega arith in e))

pub run_ends : (slots : List ℕ) (k count : ℕ) → 0 < count → k + count ≤ length slots → ((i : ℕ) → i < length slots → get_or slots i 0 < 16384) → ((i : ℕ) → i < count → get_or slots (k + i) 0 ≡ get_or slots k 0 + i) → get_or slots k 0 + count ≤ 16384
run_ends slots k count some le below run = omega (arith, some, run (count - 1) (omega (arith, some)), below (k + (count - 1)) (omega (arith, some, le)))
