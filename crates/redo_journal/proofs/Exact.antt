-- Records stand in one way only.
use Rattle.std.proofs.Common.{ℕ, ◌≡◌, inl, inr, ◌+◌, List, [], ◌∷◌, ◌++◌, length, refl, sym, ap, ◌∙◌, subst, arith}
use Rattle.std.proofs.lemmas.Nat.{from_be_bytes-to_be_bytes_4}
use Rattle.std.specs.Int.{from_be_bytes, to_be_bytes, w32, w64}
use Rattle.pss_disk.specs.Octets.{octets_in}
use Rattle.pss_disk.specs.Parts.{Stands, number4, octet_at}
use Rattle.pss_disk.proofs.Parts.{stands_at, stands_first, stands_second}
use Rattle.redo_journal.specs.Journal.{Chain, Ends, Fits, HasEpoch, IsWrong, behind, header, journal_start, spelled}
use Rattle.redo_journal.specs.Laws.{HoldsOneList, IsDamagedOnce, IsNeverBoth}

-- the parts of a record
record IsRecord (epoch gate : ℕ) (body image : List ℕ) : Type 0 where
  open_ : octet_at image gate ≡ 165
  epoch_ : HasEpoch epoch image gate
  len : number4 image (gate + 9) ≡ length body
  body_ : Stands image (gate + 13) body

parts : (epoch gate : ℕ) (body image : List ℕ) → Fits gate (length body) → Stands image gate (spelled epoch body) → IsRecord epoch gate body image
unfolding header
parts epoch gate body image fits s =
    let e = to_be_bytes w64 epoch in
    let n = to_be_bytes w32 (length body) in
    let one = stands_first image (165 ∷ []) ((e ++ n) ++ body) gate s in
    let rest = stands_second image (165 ∷ []) ((e ++ n) ++ body) gate (gate + 1) refl s in
    let front = stands_first image (e ++ n) body (gate + 1) rest in
    let len_ : Stands image (gate + 9) n = stands_second image e n (gate + 1) (gate + 9) (omega arith) front in
    record {
      open_ = ap (octet_at image) (let h : gate ≡ gate + 0 = omega arith in h) ∙ stands_at image (165 ∷ []) gate 0 one (omega arith);
      epoch_ = stands_first image e n (gate + 1) front;
      len = ap (from_be_bytes w32) len_ ∙ from_be_bytes-to_be_bytes_4 (length body) (omega (arith, fits));
      body_ = stands_second image (e ++ n) body (gate + 1) (gate + 13) (omega arith) rest;
    }

one_body : (epoch gate : ℕ) (a b image : List ℕ) → IsRecord epoch gate a image → IsRecord epoch gate b image → a ≡ b
one_body epoch gate a b image r s =
    let same : length a ≡ length b = sym r.len ∙ s.len in
    sym r.body_ ∙ ap (λ n. octets_in (record { at = gate + 13; count = n }) image) same ∙ s.body_

-- no record of the epoch that fits stands at the gate
abbrev NoRecord : ℕ → List ℕ → ℕ → Type 0
NoRecord epoch image gate = (body : List ℕ) → Fits gate (length body) → IsRecord epoch gate body image → ⊥

none_at_end : (epoch gate : ℕ) (image : List ℕ) → Ends epoch image gate → NoRecord epoch image gate
none_at_end epoch gate image (inl closed) body fits r = closed r.open_
none_at_end epoch gate image (inr other) body fits r = other.1 r.epoch_

none_where_wrong : (epoch gate : ℕ) (image : List ℕ) → IsWrong epoch image gate → NoRecord epoch image gate
none_where_wrong epoch gate image (open_, inl other) body fits r = other.1 r.epoch_
none_where_wrong epoch gate image (open_, inr long) body fits r = long.1 (subst (λ (n : ℕ). Fits gate n) (sym r.len) fits)

one_chain : (epoch : ℕ) (image : List ℕ) (gate : ℕ) (xs ys : List (List ℕ)) (p q : ℕ) → Chain epoch image gate xs p → Chain epoch image gate ys q → NoRecord epoch image p → NoRecord epoch image q → (xs ≡ ys) × (p ≡ q)
one_chain epoch image gate [] [] p q c d m n = (refl, c ∙ sym d)
one_chain epoch image gate [] (y ∷ ys) p q c d m n = absurd (subst (NoRecord epoch image) c m y d.0 (parts epoch gate y image d.0 d.1))
one_chain epoch image gate (x ∷ xs) [] p q c d m n = absurd (subst (NoRecord epoch image) d n x c.0 (parts epoch gate x image c.0 c.1))
one_chain epoch image gate (x ∷ xs) (y ∷ ys) p q c d m n =
    let same : x ≡ y = one_body epoch gate x y image (parts epoch gate x image c.0 c.1) (parts epoch gate y image d.0 d.1) in
    let rest = one_chain epoch image (behind gate (length x)) xs ys p q c.2 (subst (λ (z : List ℕ). Chain epoch image (behind gate (length z)) ys q) (sym same) d.2) m n in
    (ap (λ z. z ∷ xs) same ∙ ap (λ zs. y ∷ zs) rest.0, rest.1)

pub holds_one_list : HoldsOneList
holds_one_list epoch end last bodies others image h k =
    one_chain epoch image journal_start bodies others end last h.chain k.chain (none_at_end epoch end image h.ends) (none_at_end epoch last image k.ends)

pub damaged_once : IsDamagedOnce
damaged_once epoch at other image d e =
    (one_chain epoch image journal_start d.bodies e.bodies at other d.chain e.chain (none_where_wrong epoch at image d.wrong) (none_where_wrong epoch other image e.wrong)).1

not_both : (epoch gate : ℕ) (image : List ℕ) → Ends epoch image gate → IsWrong epoch image gate → ⊥
not_both epoch gate image (inl closed) wrong = closed wrong.0
not_both epoch gate image (inr first) (open_, inl other) = other.0 first.0
not_both epoch gate image (inr first) (open_, inr long) = first.1 long.0

pub never_both : IsNeverBoth
never_both epoch end at bodies image h d =
    let same = (one_chain epoch image journal_start bodies d.bodies end at h.chain d.chain (none_at_end epoch end image h.ends) (none_where_wrong epoch at image d.wrong)).1 in
    not_both epoch at image (subst (Ends epoch image) same h.ends) d.wrong
