-- A journal ends, or is wrong at a gate.
use Rattle.std.proofs.Common.{ℕ, zero, suc, get_or, ◌≡◌, ◌⊎◌, inl, inr, ⊎_elim, ◌<◌, ◌≤◌, ◌+◌, List, [], ◌∷◌, ◌++◌, length, Bool, true, false, refl, sym, ap, ◌∙◌, subst, arith}
use Rattle.std.proofs.lemmas.Bool.{cases_eq, cases_lt, true≢false}
use Rattle.std.proofs.lemmas.List.{get_or_past}
use Rattle.std.proofs.lemmas.Nat.{be_bytes_4}
use Rattle.std.proofs.lemmas.Slice.Eq.{bytes_eq-Decides}
use Rattle.std.specs.Int.{to_be_bytes, w32, w64}
use Rattle.std.specs.Str.{bytes_eq}
use Rattle.pss_disk.specs.Octets.{octets_in, range_of}
use Rattle.pss_disk.specs.Parts.{Stands, number4, octet_at}
use Rattle.pss_disk.specs.inner.Writing.{length-octets_in}
use Rattle.pss_disk.proofs.Parts.{in_part, stands_both}
use Rattle.redo_journal.specs.Journal.{Chain, Ends, Fits, HasEpoch, IsWrong, behind, header, journal_end, journal_start, spelled}
use Rattle.redo_journal.specs.Laws.{AreOctets, IsBroken, IsEither, IsHeld}
use Rattle.redo_journal.proofs.Headers.{gate_stands}

-- the records from a gate on, up to one that ends the journal or is wrong
record Stop (epoch : ℕ) (image : List ℕ) (gate : ℕ) : Type 0 where
  bodies : List (List ℕ)
  last : ℕ
  chain : Chain epoch image gate bodies last
  stop : Ends epoch image last ⊎ IsWrong epoch image last

here : (epoch : ℕ) (image : List ℕ) (gate : ℕ) → Ends epoch image gate ⊎ IsWrong epoch image gate → Stop epoch image gate
here epoch image gate stop = record { bodies = []; last = gate; chain = refl; stop = stop }

abbrev body_at : List ℕ → ℕ → List ℕ
body_at image gate = octets_in (record { at = gate + 13; count = number4 image (gate + 9) }) image

length-body_at : (image : List ℕ) (gate : ℕ) → length (body_at image gate) ≡ number4 image (gate + 9)
length-body_at image gate = length-octets_in (record { at = gate + 13; count = number4 image (gate + 9) }) image

-- what stands behind an open gate with the epoch is a record
stands_there : (epoch : ℕ) (image : List ℕ) (gate : ℕ) → AreOctets image → octet_at image gate ≡ 165 → HasEpoch epoch image gate → Stands image gate (spelled epoch (body_at image gate))
unfolding header
stands_there epoch image gate octets open_ epoch_ =
    let body = body_at image gate in
    let four = octets_in (record { at = gate + 9; count = 4 }) image in
    let l : length four ≡ 4 = length-octets_in (record { at = gate + 9; count = 4 }) image in
    let e = to_be_bytes w64 epoch in
    let n = to_be_bytes w32 (length body) in
    let len : n ≡ four = be_bytes_4 four (length body) l (λ i. small i (cases_lt i 4)) (length-body_at image gate) in
    let two : Stands image (gate + 9) n = sym len in
    let three : Stands image (gate + 13) body = ap (λ k. octets_in (record { at = gate + 13; count = k }) image) (length-body_at image gate) in
    stands_both image (165 ∷ []) ((e ++ n) ++ body) gate (gate + 1) refl (gate_stands image gate open_)
    (stands_both image (e ++ n) body (gate + 1) (gate + 13) (omega arith) (stands_both image e n (gate + 1) (gate + 9) (omega arith) epoch_ two) three)
  where
    small : (i : ℕ) → (i < 4) ⊎ (4 ≤ i) → get_or (octets_in (record { at = gate + 9; count = 4 }) image) i 0 < 256
    small i (inl lt) = subst (λ (x : ℕ). x < 256) (sym (in_part (record { at = gate + 9; count = 4 }) image i lt)) (octets (gate + 9 + i))
    small i (inr le) =
        let past : get_or (octets_in (record { at = gate + 9; count = 4 }) image) i 0 ≡ 0 = get_or_past (octets_in (record { at = gate + 9; count = 4 }) image) i 0 (omega (arith, le, length-octets_in (record { at = gate + 9; count = 4 }) image)) in
        omega (arith, past)

has_epoch : (epoch : ℕ) (image : List ℕ) (gate : ℕ) → HasEpoch epoch image gate ⊎ (HasEpoch epoch image gate → ⊥)
has_epoch epoch image gate = by (bytes_eq (octets_in (range_of (gate + 1) (to_be_bytes w64 epoch)) image) (to_be_bytes w64 epoch)) refl
  where
    by : (b : Bool) → bytes_eq (octets_in (range_of (gate + 1) (to_be_bytes w64 epoch)) image) (to_be_bytes w64 epoch) ≡ b → HasEpoch epoch image gate ⊎ (HasEpoch epoch image gate → ⊥)
    by true e = inl ((bytes_eq-Decides (octets_in (range_of (gate + 1) (to_be_bytes w64 epoch)) image) (to_be_bytes w64 epoch)).0 e)
    by false e = inr (λ h. absurd (true≢false (sym ((bytes_eq-Decides (octets_in (range_of (gate + 1) (to_be_bytes w64 epoch)) image) (to_be_bytes w64 epoch)).1 h) ∙ e)))

module _ (epoch : ℕ) (image : List ℕ) (octets : AreOctets image) where
  other_epoch : (gate : ℕ) → octet_at image gate ≡ 165 → (HasEpoch epoch image gate → ⊥) → Stop epoch image gate
  other_epoch gate open_ other = ⊎_elim (λ e. here epoch image gate (inl (inr (e, other)))) (λ ne. here epoch image gate (inr (open_, inl (ne, other)))) (cases_eq gate journal_start)

  -- a record, and what is found behind it
  more : (gate : ℕ) → octet_at image gate ≡ 165 → HasEpoch epoch image gate → Fits gate (number4 image (gate + 9)) → Stop epoch image (behind gate (number4 image (gate + 9))) → Stop epoch image gate
  more gate open_ epoch_ fits rest = record {
    bodies = body_at image gate ∷ rest.bodies;
    last = rest.last;
    chain = (
      subst (λ (k : ℕ). Fits gate k) (sym (length-body_at image gate)) fits,
      stands_there epoch image gate octets open_ epoch_,
      subst (λ (k : ℕ). Chain epoch image (behind gate k) rest.bodies rest.last) (sym (length-body_at image gate)) rest.chain,
    );
    stop = rest.stop;
  }

  opened : (gate : ℕ) → (Fits gate (number4 image (gate + 9)) → Stop epoch image (behind gate (number4 image (gate + 9)))) → octet_at image gate ≡ 165 → Stop epoch image gate
  opened gate rest open_ =
      ⊎_elim
      (λ epoch_. ⊎_elim (λ fits. more gate open_ epoch_ fits (rest fits)) (λ long. here epoch image gate (inr (open_, inr (epoch_, λ fits. omega (arith, fits, long))))) (cases_lt (behind gate (number4 image (gate + 9))) journal_end))
      (other_epoch gate open_) (has_epoch epoch image gate)

  stop_from : (fuel gate : ℕ) → journal_end ≤ gate + fuel → gate < journal_end → Stop epoch image gate
  stop_from zero gate le lt = absurd (omega (arith, le, lt))
  stop_from (suc fuel) gate le lt =
      ⊎_elim (opened gate (λ fits. stop_from fuel (behind gate (number4 image (gate + 9))) (omega (arith, le)) fits)) (λ ne. here epoch image gate (inl (inl ne))) (cases_eq (octet_at image gate) 165)

pub either : IsEither
either epoch image octets = by (stop_from epoch image octets journal_end journal_start (omega arith) (omega arith))
  where
    by : Stop epoch image journal_start → IsHeld epoch image ⊎ IsBroken epoch image
    by s = ⊎_elim (λ ends. inl (record { bodies = s.bodies; end = s.last; holds = record { chain = s.chain; ends = ends } })) (λ wrong. inr (record { at = s.last; damaged = record { bodies = s.bodies; chain = s.chain; wrong = wrong } })) s.stop
