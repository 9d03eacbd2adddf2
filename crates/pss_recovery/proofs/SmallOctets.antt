-- Octets are below 256, and so are parts of them.
use Rattle.std.proofs.Common.{ℕ, ◌≡◌, ⊎_elim, ◌+◌, ◌^◌, ◌<◌, List, ◌++◌, length, take, drop, get_or, sym, subst, arith}
use Rattle.std.proofs.lemmas.Bool.{cases_lt}
use Rattle.std.proofs.lemmas.List.{get_or-append-add, get_or-drop, get_or_append_left, get_or_past, take-append-drop}
use Rattle.std.specs.Int.{from_be_bytes, w32, w64}
use Rattle.pss_disk.specs.Moments.{Range}
use Rattle.pss_disk.specs.Octets.{octets_in}
use Rattle.pss_disk.specs.inner.Writing.{length-octets_in}
use Rattle.pss_disk.proofs.Parts.{in_part}
use Rattle.redo_journal.specs.Laws.{AreOctets}

past_end : (octets : List ℕ) (i : ℕ) → ((length octets < i + 1) → get_or octets i 0 < 256)
past_end octets i past = let none : get_or octets i 0 ≡ 0 = get_or_past octets i 0 (omega (arith, past)) in omega (arith, none)

pub small_part : (image : List ℕ) (range : Range) → AreOctets image → AreOctets (octets_in range image)
small_part image range small i =
    ⊎_elim (λ lt. subst (λ (x : ℕ). x < 256) (sym (in_part range image i lt)) (small (range.at + i)))
    (λ le. past_end (octets_in range image) i (omega (arith, le, length-octets_in range image))) (cases_lt i range.count)

pub small_rest : (n : ℕ) (octets : List ℕ) → AreOctets octets → AreOctets (drop n octets)
small_rest n octets small i = subst (λ (x : ℕ). x < 256) (sym (get_or-drop n octets i 0)) (small (n + i))

pub small_left : (xs ys : List ℕ) → AreOctets (xs ++ ys) → AreOctets xs
small_left xs ys small i = ⊎_elim (λ lt. subst (λ (x : ℕ). x < 256) (get_or_append_left xs ys 0 i lt) (small i)) (λ le. past_end xs i (omega (arith, le))) (cases_lt i (length xs))

pub small_right : (xs ys : List ℕ) → AreOctets (xs ++ ys) → AreOctets ys
small_right xs ys small i = subst (λ (x : ℕ). x < 256) (get_or-append-add xs ys i 0) (small (length xs + i))

pub small_front : (n : ℕ) (octets : List ℕ) → AreOctets octets → AreOctets (take n octets)
small_front n octets small = small_left (take n octets) (drop n octets) (subst AreOctets (sym (take-append-drop n octets)) small)

pub number_of_4 : (octets : List ℕ) → AreOctets octets → from_be_bytes w32 octets < 2 ^ 32
number_of_4 octets small = omega (arith, small 0, small 1, small 2, small 3)

pub number_of_8 : (octets : List ℕ) → AreOctets octets → from_be_bytes w64 octets < 2 ^ 64
number_of_8 octets small = omega (arith, small 0, small 1, small 2, small 3, small 4, small 5, small 6, small 7)
