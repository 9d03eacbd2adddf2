-- What a refusal by `BadNul` means, octet by octet.
use Rattle.std.proofs.Common.{◌≡◌, ℕ, ◌+◌, ◌≤◌, Bool, true, false, cond, eqb, ltb, List, [], ◌∷◌, ◌++◌, length, take, drop, Option, Some, None, Ok, Err, refl, sym, ap, subst, ◌∙◌, arith, ◌⊎◌, inl, inr, length-append}
use Rattle.std.proofs.lemmas.Bool.{ltb-false, eqb-true}
use Rattle.std.proofs.lemmas.List.{drop_at, take_at, take-take, get_or-drop}
use Rattle.std.proofs.Math.Seq.{take-append-add}
use Rattle.byteorder.specs.Endian.{big_number, big_bytes}
use Rattle.byteorder.specs.Numbers.{big_from-take}
use Rattle.type_layout.specs.Types.{PlainValue, PlainMember}
use Rattle.type_layout.specs.Values.{IsRecord}
use Rattle.type_layout.specs.Sound.{IsSoundLayout}
use Rattle.type_layout.specs.Spelling.{record_spelling}
use Rattle.cdr_codec.specs.declared.fault.RecordFault.{RecordFault}
use Rattle.cdr_codec.specs.declared.fault.RecordFault.TheVariants.{BadNul, Rest}
use Rattle.cdr_codec.specs.declared.fault.RecordFault.TheVariants as fault
use Rattle.cdr_codec.specs.Primitives.{Primitive, Flag, Pad, Plain, Logical, Enumerator, TextLength, ItemCount, Home, Serial, Letters, width_of, given, wrong_letter, judged, refusal, Piece, joined, size_of, IsRefusedAmong, Agree}
use Rattle.cdr_codec.specs.Reading.{members_at, record_at}
use Rattle.cdr_codec.specs.Laws.{AreOctets, IsFirstWrong, IsLengthZero, BadNulMeans}
use Rattle.cdr_codec.proofs.Octets.{turned_back}
use Rattle.cdr_codec.proofs.Letters.{wrong_is, still_wrong}
use Rattle.cdr_codec.proofs.Readers.{done, bind_err, joined-append, IsNear, IsCut}
use Rattle.cdr_codec.proofs.Records.{sound_fields, record_spelled, spelled_is, members_law, none_behind, none_through, refused_again}

-- ---- which primitives are refused so

abbrev IsZero : Primitive → ℕ → ℕ → List ℕ → Type 0
IsZero p from at rest = (bound : ℕ) × (p ≡ TextLength bound) × (from ≡ at) × (4 ≤ length rest) × (big_number 4 (take 4 rest) ≡ 0)

abbrev IsLetter : Primitive → ℕ → ℕ → List ℕ → Type 0
IsLetter p from at rest = (n : ℕ) × (i : ℕ) × (p ≡ Letters n) × (from + i ≡ at) × (n + 1 ≤ length rest) × (wrong_letter n (take (n + 1) rest) ≡ Some i)

whole : (p : Primitive) (from at : ℕ) (rest : List ℕ) → refusal p from rest ≡ Some (BadNul at) → (width_of p ≤ length rest) × (judged p from (take (width_of p) rest) ≡ Some (BadNul at))
whole p from at rest e = by_test (ltb (length rest) (width_of p)) refl e
  where
    by_test : (t : Bool) → ltb (length rest) (width_of p) ≡ t → cond t (Some (fault.Short (from + length rest))) (judged p from (take (width_of p) rest)) ≡ Some (BadNul at) → (width_of p ≤ length rest) × (judged p from (take (width_of p) rest) ≡ Some (BadNul at))
    by_test true test e = absurd cc
    by_test false test e = (ltb-false _ _ test, e)

is_fault : (t : Bool) (f g : RecordFault) → cond t (Some f) None ≡ Some g → f ≡ g
is_fault true f g e = cc
is_fault false f g e = absurd cc

nul_of : (p : Primitive) (from at : ℕ) (rest : List ℕ) → refusal p from rest ≡ Some (BadNul at) → IsZero p from at rest ⊎ IsLetter p from at rest
nul_of (Letters n) from at rest e = (let w = whole (Letters n) from at rest e in by_wrong (wrong_letter n (take (n + 1) rest)) refl w.1 w.0)
  where
    by_wrong : (o : Option ℕ) → wrong_letter n (take (n + 1) rest) ≡ o → given {B = Option RecordFault} o None (λ i. Some (BadNul (from + i))) ≡ Some (BadNul at) → n + 1 ≤ length rest → IsZero (Letters n) from at rest ⊎ IsLetter (Letters n) from at rest
    by_wrong None wrong e long = absurd cc
    by_wrong (Some i) wrong e long = inr (n, i, refl, cc, long, wrong)
nul_of (TextLength bound) from at rest e = (let w = whole (TextLength bound) from at rest e in by_number (eqb (big_number 4 (take 4 rest)) 0) refl (is_fault _ _ _ w.1) w.0)
  where
    by_number : (t : Bool) → eqb (big_number 4 (take 4 rest)) 0 ≡ t → cond t (BadNul from) (fault.OverBound from) ≡ BadNul at → 4 ≤ length rest → IsZero (TextLength bound) from at rest ⊎ IsLetter (TextLength bound) from at rest
    by_number true test e long = inl (bound, refl, cc, long, eqb-true _ 0 test)
    by_number false test e long = absurd cc
nul_of Flag from at rest e = absurd (let no : fault.BadFlag ≡ BadNul at = is_fault _ _ _ (whole Flag from at rest e).1 in cc)
nul_of Pad from at rest e = absurd (let no : fault.BadPad from ≡ BadNul at = is_fault _ _ _ (whole Pad from at rest e).1 in cc)
nul_of (Plain size) from at rest e = absurd (let no : None ≡ Some (BadNul at) = (whole (Plain size) from at rest e).1 in cc)
nul_of Logical from at rest e = absurd (let no : fault.BadBool from ≡ BadNul at = is_fault _ _ _ (whole Logical from at rest e).1 in cc)
nul_of (Enumerator count) from at rest e = absurd (let no : fault.BadEnum from ≡ BadNul at = is_fault _ _ _ (whole (Enumerator count) from at rest e).1 in cc)
nul_of (ItemCount bound) from at rest e = absurd (let no : fault.OverBound from ≡ BadNul at = is_fault _ _ _ (whole (ItemCount bound) from at rest e).1 in cc)
nul_of (Home homes) from at rest e = absurd (let no : fault.BadRef from ≡ BadNul at = is_fault _ _ _ (whole (Home homes) from at rest e).1 in cc)
nul_of (Serial home) from at rest e = absurd (let no : fault.BadRef from ≡ BadNul at = is_fault _ _ _ (whole (Serial home) from at rest e).1 in cc)

-- ---- what it means of them

-- octets with the same ones up to the first wrong one are refused too
refused_too : (n i at : ℕ) (rest ys : List ℕ) → i ≤ n → wrong_letter n (take (n + 1) rest) ≡ Some i → take (i + 1) ys ≡ take (i + 1) rest → (g : RecordFault) × (refusal (Letters n) at ys ≡ Some g)
refused_too n i at rest ys low wrong same = by_test (ltb (length ys) (n + 1)) refl
  where
    by_wrong : (o : Option ℕ) → wrong_letter n (take (n + 1) ys) ≡ o → (g : RecordFault) × (given {B = Option RecordFault} o None (λ i. Some (BadNul (at + i))) ≡ Some g)
    by_wrong None fine = absurd (still_wrong n i (take (n + 1) rest) (take (n + 1) ys) wrong (take-take (i + 1) (n + 1) ys (omega arith) ∙ same ∙ sym (take-take (i + 1) (n + 1) rest (omega arith))) fine)
    by_wrong (Some j) fine = (BadNul (at + j), refl)

    by_test : (t : Bool) → ltb (length ys) (n + 1) ≡ t → (g : RecordFault) × (cond t (Some (fault.Short (at + length ys))) (judged (Letters n) at (take (n + 1) ys)) ≡ Some g)
    by_test true test = (fault.Short (at + length ys), refl)
    by_test false test = by_wrong (wrong_letter n (take (n + 1) ys)) refl

-- the octets of a record where a piece of it begins
split_at : (members : List PlainMember) (vs : List PlainValue) (front back : List Piece) (next : Piece) → record_spelled members vs 0 ≡ front ++ next ∷ back → record_spelling members vs ≡ joined front ++ (next.octets ++ joined back)
split_at members vs front back next split = sym (spelled_is members vs) ∙ ap joined split ∙ joined-append front (next ∷ back)

letter_means : (members : List PlainMember) → IsSoundLayout members → (bytes : List ℕ) (at : ℕ) (vs : List PlainValue) → IsRecord members vs → (cut : IsCut (record_spelled members vs 0) 0 bytes (BadNul at))
    → IsLetter cut.0.next.what (0 + size_of cut.0.front) at cut.0.rest → IsFirstWrong members bytes at 1
letter_means members sound bytes at vs fits (cut, near) (n, i, is, place, long, wrong) =
    let s = size_of cut.front in
    let w = wrong_is n i cut.rest wrong in
    let here : at ≡ s + i = omega (arith, place) in
    let same : take i (cut.next.octets ++ joined cut.back) ≡ take i cut.rest = subst (λ (p : Primitive). IsNear p cut.next.octets cut.rest) is near i (joined cut.back) wrong in
    let ours : take (s + i) (record_spelling members vs) ≡ joined cut.front ++ take i (cut.next.octets ++ joined cut.back) = ap (take (s + i)) (split_at members vs cut.front cut.back cut.next cut.split) ∙ take-append-add (joined cut.front) (cut.next.octets ++ joined cut.back) i in
    let theirs : take (s + i) bytes ≡ joined cut.front ++ take i cut.rest = ap (take (s + i)) cut.same ∙ take-append-add (joined cut.front) cut.rest i in
    let agree : take (s + i) (record_spelling members vs) ≡ take (s + i) bytes = ours ∙ ap (λ (l : List ℕ). joined cut.front ++ l) same ∙ sym theirs in
    let enough : s + i ≤ length bytes = omega (arith, ap length cut.same, length-append (joined cut.front) cut.rest, long, w.0) in
    let none = none_behind members sound bytes (BadNul at) vs fits cut (i + 1) (λ ys there same. subst (λ (p : Primitive). (g : RecordFault) × (refusal p (0 + s) ys ≡ Some g)) (sym is) (refused_too n i (0 + s) cut.rest ys w.0 wrong same)) in
    let through : s + (i + 1) ≡ at + 1 = omega (arith, here) in
    record {
      values = vs;
      is_record = fits;
      before = subst (λ (k : ℕ). Agree k (record_spelling members vs) bytes) (sym here) (enough, agree);
      none = (λ other fits' agree. none other fits' (subst (λ (k : ℕ). Agree k (record_spelling members other) bytes) (sym through) agree));
    }

zero_means : (members : List PlainMember) → IsSoundLayout members → (bytes : List ℕ) (at : ℕ) → AreOctets bytes → (vs : List PlainValue) → IsRecord members vs → (cut : IsRefusedAmong (record_spelled members vs 0) 0 bytes (BadNul at))
    → IsZero cut.next.what (0 + size_of cut.front) at cut.rest → IsLengthZero members bytes at
zero_means members sound bytes at o vs fits cut (bound, is, place, long, number) =
    let s = size_of cut.front in
    let here : s ≡ at = omega (arith, place) in
    let ours : take s (record_spelling members vs) ≡ joined cut.front = ap (take s) (split_at members vs cut.front cut.back cut.next cut.split) ∙ take_at (joined cut.front) (cut.next.octets ++ joined cut.back) s refl in
    let theirs : take s bytes ≡ joined cut.front = ap (take s) cut.same ∙ take_at (joined cut.front) cut.rest s refl in
    let enough : s ≤ length bytes = omega (arith, ap length cut.same, length-append (joined cut.front) cut.rest) in
    let behind_it : drop s bytes ≡ cut.rest = ap (drop s) cut.same ∙ drop_at (joined cut.front) cut.rest s refl in
    let octets : AreOctets cut.rest = subst AreOctets behind_it (λ i. rw (get_or-drop s bytes i 0) (o (s + i))) in
    let none = none_through members sound bytes (BadNul at) vs fits cut in
    let none' = subst (λ (p : Primitive). (other : List PlainValue) → IsRecord members other → Agree (s + width_of p) (record_spelling members other) bytes → ⊥) is none in
    let zero : big_number 4 cut.rest ≡ 0 = sym (big_from-take 0 4 4 cut.rest (omega arith)) ∙ number in
    let all : take 4 cut.rest ≡ 0 ∷ 0 ∷ 0 ∷ 0 ∷ [] = sym (turned_back (TextLength bound) tt cut.rest octets long) ∙ ap (big_bytes 4) zero in
    record {
      wrong = record {
        values = vs;
        is_record = fits;
        before = subst (λ (k : ℕ). Agree k (record_spelling members vs) bytes) here (enough, ours ∙ sym theirs);
        none = subst (λ (k : ℕ). (other : List PlainValue) → IsRecord members other → Agree (k + 4) (record_spelling members other) bytes → ⊥) here none';
      };
      front = cut.front;
      bound = bound;
      octets = cut.next.octets;
      back = cut.back;
      split = cut.split ∙ ap (λ (p : Primitive). cut.front ++ record { what = p; octets = cut.next.octets } ∷ cut.back) is;
      place = here;
      zero = ap (λ (k : ℕ). take 4 (drop k bytes)) (sym here) ∙ ap (take 4) behind_it ∙ all;
    }

pub bad_nul_means : BadNulMeans
unfolding record_at
bad_nul_means members bytes at sound o refused = elim (bind_err (members_at members bytes 0) (λ x. cond (eqb x.1 (length bytes)) (Ok x.0) (Err (Rest x.1))) (BadNul at) (refused_again members sound bytes (BadNul at) refused)) [
  | inl stop ↦
      let s = (members_law members (sound_fields members sound)).stops bytes 0 (BadNul at) o (omega arith) stop in
      by_primitive s.value s.fits s.cut (nul_of s.cut.0.next.what (0 + size_of s.cut.0.front) at s.cut.0.rest s.cut.0.refused)
  | inr a ↦ absurd (by_test (eqb a.0.1 (length bytes)) a.0.0 a.0.1 a.2)
]
  where
    by_primitive : (vs : List PlainValue) → IsRecord members vs → (cut : IsCut (record_spelled members vs 0) 0 bytes (BadNul at)) → IsZero cut.0.next.what (0 + size_of cut.0.front) at cut.0.rest ⊎ IsLetter cut.0.next.what (0 + size_of cut.0.front) at cut.0.rest → IsFirstWrong members bytes at 1 ⊎ IsLengthZero members bytes at
    by_primitive vs fits cut (inl zero) = inr (zero_means members sound bytes at o vs fits cut.0 zero)
    by_primitive vs fits cut (inr letter) = inl (letter_means members sound bytes at vs fits cut letter)

    by_test : (t : Bool) (us : List PlainValue) (after : ℕ) → cond t (done us) (Err (Rest after)) ≡ Err (BadNul at) → ⊥
    by_test true us after e = cc
    by_test false us after e = cc
