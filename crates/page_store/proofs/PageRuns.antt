-- Pages that stand one behind the other, written in one write.
use Rattle.std.proofs.Common.{ℕ, zero, suc, ◌≡◌, ◌⊎◌, ⊎_elim, inl, inr, ◌+◌, ◌-◌, ◌*◌, ◌<◌, ◌≤◌, false, List, [], ◌∷◌, ◌++◌, length, take, drop, get_or, refl, sym, ap, ◌∙◌, arith, length-drop}
use Rattle.std.proofs.lemmas.Grind.{common_steps}
use Rattle.std.proofs.lemmas.List.{length-take-le}
use Rattle.std.specs.declared.option.Option.{Option}
use Rattle.std.proofs.Common.{None, Some}
use Rattle.std.specs.Option.{option_map}
use Rattle.pss_disk.specs.Images.{Misses}
use Rattle.pss_disk.specs.Moments.{Range, is_within}
use Rattle.pss_disk.specs.Octets.{disk_end, range_of, write}
use Rattle.redo_journal.proofs.Writes.{write_then}
use Rattle.page_format.specs.Places.{area_start, slot_end, slot_start}
use Rattle.page_store.specs.Switch.{slots_of}
use Rattle.page_format.specs.Written.{AreWritable, pages_octets, whole_page, with_pages}
use Rattle.page_format.specs.declared.new_page.NewPage.{NewPage}
use Rattle.page_store.specs.inner.Laying.{IsApart, IsLeft, IsRun}
use Rattle.page_format.proofs.Spelled.{length_pages, length_whole, writable_taken}

-- the slot of a page in a list
pub slot_at : (ps : List NewPage) (i : ℕ) (p : NewPage) → i < length ps → p ≡ get_or ps i p → get_or (slots_of ps) i 0 ≡ p.slot
slot_at [] i p lt at = absurd (omega (arith, lt))
slot_at (x ∷ ps) zero p lt at = ap (λ (q : NewPage). q.slot) (sym at)
slot_at (x ∷ ps) (suc i) p lt at = slot_at ps i p (omega (arith, lt)) at

-- a run ends in front of the last slot's end
pub run_inside : (slot : ℕ) (ps : List NewPage) → IsRun slot ps → AreWritable ps → 0 < length ps → slot + length ps ≤ 16384
run_inside slot [] run ok lt = absurd (omega (arith, lt))
run_inside slot (p ∷ []) run ok lt = omega (arith, run.0, ok.0.slot_)
run_inside slot (p ∷ (q ∷ ps)) run ok lt = omega (arith, run_inside (slot + 1) (q ∷ ps) run.1 ok.1 (omega arith))

-- one write and another behind it, where the first one has octets
write_rest : (at to : ℕ) (xs ys c : List ℕ) → 1 ≤ length xs → to ≡ at + length xs → write at (xs ++ ys) c ≡ write to ys (write at xs c)
write_rest at to [] ys c some e = absurd (omega (arith, some))
write_rest at to (x ∷ xs) ys c some e = sym (write_then at to x xs ys c e)

-- one write of a run is a write of each page
pub run_written : (epoch slot : ℕ) (ps : List NewPage) (c : List ℕ) → IsRun slot ps → AreWritable ps → write (slot_start slot) (pages_octets epoch ps) c ≡ with_pages epoch ps c
run_written epoch slot [] c run ok = refl
run_written epoch slot (p ∷ ps) c run ok =
    let len = length_whole epoch p ok.0 in
    write_rest (slot_start slot) (slot_start (slot + 1)) (whole_page epoch p) (pages_octets epoch ps) c (omega (arith, len)) (omega (arith, len))
    ∙ run_written epoch (slot + 1) ps (write (slot_start slot) (whole_page epoch p) c) run.1 ok.1
    ∙ ap (λ s. with_pages epoch ps (write (slot_start s) (whole_page epoch p) c)) (sym run.0)

-- a place outside of a range
pub not_within : (range : Range) (i : ℕ) → (i < range.at) ⊎ (range.at + range.count ≤ i) → is_within range i ≡ false
not_within range i (inl less) = grind (arith, common_steps)
not_within range i (inr more) = grind (arith, common_steps)

-- a place apart from a run is in front of it or behind it
pub apart_from : (slot : ℕ) (ps : List NewPage) (i : ℕ) → IsRun slot ps → IsApart ps i → (i < slot_start slot) ⊎ (slot_start slot + length ps * 16384 ≤ i)
apart_from slot [] i run apart = ⊎_elim {A = i < slot_start slot} {B = slot_start slot ≤ i} {C = (i < slot_start slot) ⊎ (slot_start slot + 0 ≤ i)} (λ less. inl less) (λ more. inr (omega (arith, more))) (two i (slot_start slot))
  where
    two : (i n : ℕ) → (i < n) ⊎ (n ≤ i)
    two i n = grind arith
apart_from slot (p ∷ ps) i run apart = ⊎_elim (λ less. inl (omega (arith, less, run.0))) (λ more. later more (apart_from (slot + 1) ps i run.1 apart.1)) apart.0
  where
    later : slot_end p.slot ≤ i → (i < slot_start (slot + 1)) ⊎ (slot_start (slot + 1) + length ps * 16384 ≤ i) → (i < slot_start slot) ⊎ (slot_start slot + suc (length ps) * 16384 ≤ i)
    later more (inl less) = absurd (omega (arith, more, less, run.0))
    later more (inr behind) = inr (omega (arith, behind))

pub apart_taken : (ps : List NewPage) (n i : ℕ) → IsApart ps i → IsApart (take n ps) i
apart_taken [] zero i apart = tt
apart_taken [] (suc n) i apart = tt
apart_taken (p ∷ ps) zero i apart = tt
apart_taken (p ∷ ps) (suc n) i apart = (apart.0, apart_taken ps n i apart.1)

pub apart_dropped : (ps : List NewPage) (n i : ℕ) → IsApart ps i → IsApart (drop n ps) i
apart_dropped ps zero i apart = apart
apart_dropped [] (suc n) i apart = tt
apart_dropped (p ∷ ps) (suc n) i apart = apart_dropped ps n i apart.1

pub writable_dropped : (ps : List NewPage) (n : ℕ) → AreWritable ps → AreWritable (drop n ps)
writable_dropped ps zero ok = ok
writable_dropped [] (suc n) ok = tt
writable_dropped (p ∷ ps) (suc n) ok = writable_dropped ps n ok.1

-- a write of a run leaves what is apart
pub misses_run : (area slot : ℕ) (all ps : List NewPage) (range : Range) → IsRun slot ps → ((i : ℕ) → IsApart all i → IsApart ps i) → range.at ≡ slot_start slot → range.count ≡ length ps * 16384 → Misses (IsLeft area all) range
misses_run area slot all ps range run fewer at count i left =
    not_within range i (⊎_elim (λ less. inl (omega (arith, less, at))) (λ more. inr (omega (arith, more, at, count))) (apart_from slot ps i run (fewer i left.pages_)))

-- pages written one after another
pub pages_then : (epoch : ℕ) (xs ys : List NewPage) (c : List ℕ) → with_pages epoch ys (with_pages epoch xs c) ≡ with_pages epoch (xs ++ ys) c
pages_then epoch [] ys c = refl
pages_then epoch (x ∷ xs) ys c = pages_then epoch xs ys (write (slot_start x.slot) (whole_page epoch x) c)

pub both_maps : (f g h : List ℕ → List ℕ) (content : Option (List ℕ)) → ((c : List ℕ) → g (f c) ≡ h c) → option_map g (option_map f content) ≡ option_map h content
both_maps f g h None same = refl
both_maps f g h (Some c) same = ap Some (same c)

same_maps : (f g : List ℕ → List ℕ) (content : Option (List ℕ)) → ((c : List ℕ) → f c ≡ g c) → option_map f content ≡ option_map g content
same_maps f g None same = refl
same_maps f g (Some c) same = ap Some (same c)

-- where the first page of a list begins
pub first_start : (ps : List NewPage) (p : NewPage) → 0 < length ps → p ≡ get_or ps 0 p → slot_start p.slot ≡ slot_start (get_or (slots_of ps) 0 0)
first_start ps p lt at = ap slot_start (sym (slot_at ps 0 p lt at))

-- a write of the first pages of a list, which stand one behind the other
module _ (epoch n at : ℕ) (ps : List NewPage) (out : List ℕ) (some : 0 < n) (within : n ≤ length ps) (run : IsRun (get_or (slots_of ps) 0 0) (take n ps)) (ok : AreWritable ps) (start : at ≡ slot_start (get_or (slots_of ps) 0 0)) (is : out ≡ pages_octets epoch (take n ps)) where
  count_taken : length (take n ps) ≡ n
  count_taken = length-take-le n ps within

  out_length : length out ≡ n * 16384
  out_length = ap length is ∙ length_pages epoch (take n ps) (writable_taken ps n ok) ∙ ap (λ m. m * 16384) count_taken

  pub run_fits : at + length out ≤ disk_end
  run_fits = omega (arith, out_length, start, count_taken, run_inside (get_or (slots_of ps) 0 0) (take n ps) run (writable_taken ps n ok) (omega (arith, some, count_taken)))

  pub run_misses : (area : ℕ) (all : List NewPage) → ((i : ℕ) → IsApart all i → IsApart ps i) → Misses (IsLeft area all) (range_of at out)
  run_misses area all fewer =
      misses_run area (get_or (slots_of ps) 0 0) all (take n ps) (range_of at out) run (λ i apart. apart_taken ps n i (fewer i apart)) start (out_length ∙ ap (λ m. m * 16384) (sym count_taken))

  pub run_content : (old new : Option (List ℕ)) → new ≡ option_map (write at out) old → new ≡ option_map (with_pages epoch (take n ps)) old
  run_content old new e =
      e ∙ same_maps (write at out) (with_pages epoch (take n ps)) old
      (λ c. ap (λ m. write m out c) start ∙ ap (λ l. write (slot_start (get_or (slots_of ps) 0 0)) l c) is ∙ run_written epoch (get_or (slots_of ps) 0 0) (take n ps) c run (writable_taken ps n ok))

-- the rest of a list, as a slice of it
pub rest_is : {X : Type 0} (ps : List X) (k : ℕ) → take (length ps - k) (drop k ps) ≡ drop k ps
rest_is ps k = by (length ps - k) (drop k ps) (sym (length-drop k ps))
  where
    by : {Y : Type 0} (n : ℕ) (ys : List Y) → n ≡ length ys → take n ys ≡ ys
    by zero [] e = refl
    by (suc n) [] e = refl
    by zero (y ∷ ys) e = absurd (omega (arith, e))
    by (suc n) (y ∷ ys) e = ap (λ l. y ∷ l) (by n ys (omega (arith, e)))

-- the pages of one more run are written
pub next_content : (epoch k n : ℕ) (ps rest : List NewPage) (a b c : Option (List ℕ)) → rest ≡ drop k ps → b ≡ option_map (with_pages epoch (take k ps)) a → c ≡ option_map (with_pages epoch (take n rest)) b → c ≡ option_map (with_pages epoch (take (k + n) ps)) a
next_content epoch k n ps rest a b c is before e =
    e ∙ ap (option_map (with_pages epoch (take n rest))) before
    ∙ both_maps (with_pages epoch (take k ps)) (with_pages epoch (take n rest)) (with_pages epoch (take (k + n) ps)) a
    (λ x. pages_then epoch (take k ps) (take n rest) x ∙ ap (λ l. with_pages epoch l x) (ap (λ l. take k ps ++ take n l) is ∙ sym (in_two k (k + n) ps refl)))
  where
    nothing : (n : ℕ) → [] ≡ take {A = NewPage} n []
    nothing zero = refl
    nothing (suc n) = refl

    in_two : (k m : ℕ) (qs : List NewPage) → m ≡ k + n → take m qs ≡ take k qs ++ take n (drop k qs)
    in_two zero m qs e = ap (λ i. take i qs) (let h : m ≡ n = omega (arith, e) in h)
    in_two (suc k) zero qs e = absurd (omega (arith, e))
    in_two (suc k) (suc m) [] e = nothing n
    in_two (suc k) (suc m) (q ∷ qs) e = ap (λ l. q ∷ l) (in_two k m qs (omega (arith, e)))

-- a write behind the gate of a root area
pub misses_root : (area at : ℕ) (pages : List NewPage) (bytes : List ℕ) → area_start area + 1 ≤ at → at + length bytes ≤ area_start area + 131072 → Misses (IsLeft area pages) (range_of at bytes)
misses_root area at pages bytes low high i left = not_within (range_of at bytes) i (⊎_elim (λ less. inl (omega (arith, less, low))) (λ more. inr (omega (arith, more, high))) left.root_)
