-- What the reader of records owes to their spellings.
use Rattle.std.proofs.Common.{◌≡◌, ℕ, zero, suc, ◌+◌, ◌≤◌, Bool, true, false, cond, eqb, List, [], ◌∷◌, ◌++◌, length, take, drop, Some, None, Result, Ok, Err, refl, sym, ap, subst, ◌∙◌, arith, ◌⊎◌, inl, inr, length-append}
use Rattle.std.specs.Prelude.{replicate, IfOk, IfErr, MatchResult}
use Rattle.std.proofs.lemmas.Bool.{eqb-true, eqb-false, eq-eqb, ne_eqb, le-ltb}
use Rattle.std.proofs.lemmas.List.{append-nil, drop_at, take_at, take-take, take-append-drop, drop-take, length-take, length-drop}
use Rattle.std.proofs.Math.Seq.{drop-length}
use Rattle.byteorder.specs.Endian.{big_bytes}
use Rattle.type_layout.specs.Types.{PlainType, Short, Long, LongLong, UShort, ULong, ULongLong, Char, Boolean, Octet, Str, Seq, Arr, Struct, Enum, RefTo, PlainFields, no_fields, field_and, PlainValue, Int, Character, Truth, Ordinal, Text, Items, Parts, Ref, PlainValues, no_values, value_and, values_of, PlainMember}
use Rattle.type_layout.specs.Values.{IsRecord, layout_fields, count}
use Rattle.type_layout.specs.Sound.{AreSound, IsSoundLayout}
use Rattle.type_layout.specs.Spelling.{gap, padding, each, spelling, spellings, record_spelling}
use Rattle.cdr_codec.specs.declared.fault.RecordFault.{RecordFault}
use Rattle.cdr_codec.specs.declared.fault.RecordFault.TheVariants.{Rest, NoMemory}
use Rattle.cdr_codec.specs.Primitives.{One, Two, Four, Eight, Primitive, Flag, Plain, Logical, Enumerator, TextLength, ItemCount, Home, Serial, width_of, Piece, joined, size_of, followed, pads, aligned, letters, each_piece, pieces, field_pieces, judged, refusal, IsRefusedAmong, Agree, HasRest, IsRefused}
use Rattle.cdr_codec.specs.Reading.{◌>>=◌, judged_at, fields_at, members_at, record_at, Answers}
use Rattle.cdr_codec.specs.Spelled.{SpellsRecord}
use Rattle.cdr_codec.specs.Laws.{AreOctets, HasOneRefusal, HasNoRecord, HasRecordOrRefusal}
use Rattle.cdr_codec.proofs.Readers.{done, failed, bind_id, ok_is, bind_ok, bind_err, joined-append, IsReader, both_law}
use Rattle.cdr_codec.proofs.Ones.{MayBe}
use Rattle.cdr_codec.proofs.Types.{judged_law, bind_same, no_pad, FieldsAre, fields_law}

-- ---- the octets of the pieces are the spelling

joined-pads : (n : ℕ) → joined (pads n) ≡ replicate n 0
joined-pads zero = refl
joined-pads (suc n) = ap (λ (l : List ℕ). 0 ∷ l) (joined-pads n)

joined-aligned : (p : Primitive) (n at : ℕ) → joined (aligned p n at) ≡ padding (width_of p) at ++ big_bytes (width_of p) n
joined-aligned p n at =
    joined-append (pads (gap (width_of p) at)) (record { what = p; octets = big_bytes (width_of p) n } ∷ [])
    ∙ ap (λ (l : List ℕ). l ++ (big_bytes (width_of p) n ++ [])) (joined-pads (gap (width_of p) at))
    ∙ ap (λ (l : List ℕ). padding (width_of p) at ++ l) (append-nil (big_bytes (width_of p) n))

joined-followed : (ps : List Piece) (qs : ℕ → List Piece) (at : ℕ) (text : List ℕ) → joined ps ≡ text → joined (followed ps qs at) ≡ text ++ joined (qs (at + length text))
joined-followed ps qs at text is = joined-append ps (qs (at + size_of ps)) ∙ ap (λ (l : List ℕ). l ++ joined (qs (at + length l))) is

each_joined : (p : PlainValue → ℕ → List Piece) (s : PlainValue → ℕ → List ℕ) → ((v : PlainValue) (at : ℕ) → joined (p v at) ≡ s v at) → (vs : PlainValues) (at : ℕ) → joined (each_piece p vs at) ≡ each s vs at
each_joined p s same no_values at = refl
each_joined p s same (value_and v vs) at = joined-followed (p v at) (each_piece p vs) at (s v at) (same v at) ∙ ap (λ (l : List ℕ). s v at ++ l) (each_joined p s same vs (at + length (s v at)))

abbrev number_text : Primitive → ℕ → ℕ → List ℕ
number_text p n at = padding (width_of p) at ++ big_bytes (width_of p) n

mutual
  pub joined-pieces : (t : PlainType) (v : PlainValue) (at : ℕ) → joined (pieces t v at) ≡ spelling t v at
  joined-pieces Short (Int z) at = joined-aligned (Plain Two) _ at
  joined-pieces Long (Int z) at = joined-aligned (Plain Four) _ at
  joined-pieces LongLong (Int z) at = joined-aligned (Plain Eight) _ at
  joined-pieces UShort (Int z) at = joined-aligned (Plain Two) _ at
  joined-pieces ULong (Int z) at = joined-aligned (Plain Four) _ at
  joined-pieces ULongLong (Int z) at = joined-aligned (Plain Eight) _ at
  joined-pieces Char (Character c) at = joined-aligned (Plain One) c at
  joined-pieces Boolean (Truth b) at = joined-aligned Logical _ at
  joined-pieces Octet (Int z) at = joined-aligned (Plain One) _ at
  joined-pieces (Str bound) (Text bytes) at =
      joined-followed (aligned (TextLength bound) (length bytes + 1) at) (λ next. letters bytes) at (number_text (TextLength bound) (length bytes + 1) at) (joined-aligned (TextLength bound) (length bytes + 1) at)
      ∙ ap (λ (l : List ℕ). number_text (TextLength bound) (length bytes + 1) at ++ l) (append-nil (bytes ++ 0 ∷ []))
  joined-pieces (Seq item bound) (Items vs) at =
      joined-followed (aligned (ItemCount bound) (count vs) at) (each_piece (pieces item) vs) at (number_text (ItemCount bound) (count vs) at) (joined-aligned (ItemCount bound) (count vs) at)
      ∙ ap (λ (l : List ℕ). number_text (ItemCount bound) (count vs) at ++ l) (each_joined (pieces item) (spelling item) (joined-pieces item) vs (at + length (number_text (ItemCount bound) (count vs) at)))
  joined-pieces (Arr item n) (Items vs) at = each_joined (pieces item) (spelling item) (joined-pieces item) vs at
  joined-pieces (Struct fields) (Parts vs) at = joined-field_pieces fields vs at
  joined-pieces (Enum names) (Ordinal n) at = joined-aligned (Enumerator (length names)) n at
  joined-pieces (RefTo homes) (Ref None) at =
      joined-followed (aligned (Home homes) 0 at) (aligned (Serial 0) 0) at (number_text (Home homes) 0 at) (joined-aligned (Home homes) 0 at)
      ∙ ap (λ (l : List ℕ). number_text (Home homes) 0 at ++ l) (joined-aligned (Serial 0) 0 (at + length (number_text (Home homes) 0 at)))
  joined-pieces (RefTo homes) (Ref (Some pid)) at =
      joined-followed (aligned (Home homes) pid.home at) (aligned (Serial pid.home) pid.serial) at (number_text (Home homes) pid.home at) (joined-aligned (Home homes) pid.home at)
      ∙ ap (λ (l : List ℕ). number_text (Home homes) pid.home at ++ l) (joined-aligned (Serial pid.home) pid.serial (at + length (number_text (Home homes) pid.home at)))
  joined-pieces _ _ at = refl

  joined-field_pieces : (fields : PlainFields) (vs : PlainValues) (at : ℕ) → joined (field_pieces fields vs at) ≡ spellings fields vs at
  joined-field_pieces no_fields no_values at = refl
  joined-field_pieces (field_and name t fields) (value_and v vs) at = joined-followed (pieces t v at) (field_pieces fields vs) at (spelling t v at) (joined-pieces t v at) ∙ ap (λ (l : List ℕ). spelling t v at ++ l) (joined-field_pieces fields vs (at + length (spelling t v at)))
  joined-field_pieces _ _ at = refl

-- ---- members

pub sound_fields : (members : List PlainMember) → IsSoundLayout members → AreSound (layout_fields members)
sound_fields [] sound = tt
sound_fields (m ∷ ms) sound = (sound 0 m refl, sound_fields ms (λ i n e. sound (suc i) n e))

abbrev pub record_spelled : List PlainMember → List PlainValue → ℕ → List Piece
record_spelled members vs at = followed (aligned Flag 0 at) (field_pieces (layout_fields members) (values_of vs)) at

pub members_law : (members : List PlainMember) → AreSound (layout_fields members) → IsReader (members_at members) (record_spelled members) (IsRecord members)
unfolding members_at
members_law members sound = both_law (judged_at Flag) (aligned Flag) (MayBe Flag) (λ n. fields_at (layout_fields members)) (λ n vs. field_pieces (layout_fields members) (values_of vs)) (λ n. FieldsAre (layout_fields members)) (members_at members) (record_spelled members) (IsRecord members) (λ n vs. vs)
    (judged_law Flag tt 0 (omega arith, refl)) (λ n f. fields_law (layout_fields members) sound)
    (λ bytes at. bind_same (judged_at Flag bytes at) (λ n. fields_at (layout_fields members) bytes n.1) (λ n. fields_at (layout_fields members) bytes n.1 >>= λ y. done (y.0, y.1)) (λ n. bind_id (fields_at (layout_fields members) bytes n.1)))
    (λ n vs f g. (g, (λ at. ap (λ (k : ℕ). followed (aligned Flag k at) (field_pieces (layout_fields members) (values_of vs)) at) (sym (no_pad n f.1)))))
    (λ vs f. (0, vs, (omega arith, refl), f, refl))

pub spelled_is : (members : List PlainMember) (vs : List PlainValue) → joined (record_spelled members vs 0) ≡ record_spelling members vs
spelled_is members vs = ap (λ (l : List ℕ). 0 ∷ l) (joined-field_pieces (layout_fields members) (values_of vs) 1)

-- ---- records

-- what a record is, by its octets
abbrev IsFound : List PlainMember → List ℕ → List PlainValue → Type 0
IsFound members bytes vs = IsRecord members vs × (bytes ≡ record_spelling members vs)

record_found : (members : List PlainMember) → IsSoundLayout members → (bytes : List ℕ) (vs : List PlainValue) → AreOctets bytes → record_at members bytes ≡ Ok vs → IsFound members bytes vs
unfolding record_at
record_found members sound bytes vs o e =
    let a = bind_ok (members_at members bytes 0) (λ x. cond (eqb x.1 (length bytes)) (Ok x.0) (Err (Rest x.1))) vs e in
    by_test a.0.0 a.0.1 (eqb a.0.1 (length bytes)) refl a.1 a.2
  where
    by_test : (us : List PlainValue) (after : ℕ) (t : Bool) → eqb after (length bytes) ≡ t → members_at members bytes 0 ≡ Ok (us, after) → cond t (done us) (Err (Rest after)) ≡ Ok vs → IsFound members bytes vs
    by_test us after false test read e = absurd cc
    by_test us after true test read e =
        let law = members_law members (sound_fields members sound) in
        let t = law.takes bytes 0 us after o (omega arith) read in
        let end : drop after bytes ≡ [] = ap (λ (k : ℕ). drop k bytes) (eqb-true after (length bytes) test) ∙ drop-length bytes in
        let whole : bytes ≡ record_spelling members us = t.1.whole ∙ ap (λ (l : List ℕ). joined (record_spelled members us 0) ++ l) end ∙ append-nil (joined (record_spelled members us 0)) ∙ spelled_is members us in
        subst (IsFound members bytes) (ok_is us vs e) (t.0, whole)

pub members_again : (members : List PlainMember) → IsSoundLayout members → (bytes : List ℕ) (vs : List PlainValue) (rest : List ℕ) → IsRecord members vs → bytes ≡ record_spelling members vs ++ rest → members_at members bytes 0 ≡ Ok (vs, length (record_spelling members vs))
members_again members sound bytes vs rest fits whole =
    let law = members_law members (sound_fields members sound) in
    law.reads bytes 0 vs rest (omega arith) fits (whole ∙ ap (λ (l : List ℕ). l ++ rest) (sym (spelled_is members vs)))
    ∙ ap (λ (k : ℕ). done (vs, k)) (let e : 0 + size_of (record_spelled members vs 0) ≡ length (record_spelling members vs) = omega (arith, ap length (spelled_is members vs)) in e)

record_again : (members : List PlainMember) → IsSoundLayout members → (bytes : List ℕ) (vs : List PlainValue) → IsFound members bytes vs → record_at members bytes ≡ Ok vs
unfolding record_at
record_again members sound bytes vs found =
    let read = members_again members sound bytes vs [] found.0 (found.1 ∙ sym (append-nil (record_spelling members vs))) in
    rw (read, eq-eqb (length (record_spelling members vs)) (length bytes) (ap length (sym found.1))) refl

-- no record that agrees with the bytes up to a refused primitive has so many more octets as are refused, whatever is behind them
pub none_behind : (members : List PlainMember) → IsSoundLayout members → (bytes : List ℕ) (f : RecordFault) (vs : List PlainValue) → IsRecord members vs → (cut : IsRefusedAmong (record_spelled members vs 0) 0 bytes f)
    → (w : ℕ) → ((ys : List ℕ) → w ≤ length ys → take w ys ≡ take w cut.rest → (g : RecordFault) × (refusal cut.next.what (0 + size_of cut.front) ys ≡ Some g))
    → (other : List PlainValue) → IsRecord members other → Agree (size_of cut.front + w) (record_spelling members other) bytes → ⊥
none_behind members sound bytes f vs fits cut w refused other fits' agree =
    let s = size_of cut.front in
    let bs = record_spelling members other in
    let less : s ≤ s + w = omega arith in
    let behind_it : drop s bytes ≡ cut.rest = ap (drop s) cut.same ∙ drop_at (joined cut.front) cut.rest s refl in
    let first : take s bs ≡ joined cut.front = sym (take-take s (s + w) bs less) ∙ ap (take s) agree.1 ∙ take-take s (s + w) bytes less ∙ ap (take s) cut.same ∙ take_at (joined cut.front) cut.rest s refl in
    let second : take w (drop s bs) ≡ take w cut.rest = sym (drop-take s w bs) ∙ ap (drop s) agree.1 ∙ drop-take s w bytes ∙ ap (take w) behind_it in
    let enough : s + w ≤ length bs = omega (arith, ap length agree.1, length-take (s + w) bs, length-take (s + w) bytes, agree.0) in
    let r = refused (drop s bs) (omega (arith, length-drop s bs, enough)) second in
    let again : IsRefusedAmong (record_spelled members vs 0) 0 bs r.0 = record {
      front = cut.front;
      next = cut.next;
      back = cut.back;
      rest = drop s bs;
      split = cut.split;
      same = sym (take-append-drop s bs) ∙ ap (λ (l : List ℕ). l ++ drop s bs) first;
      refused = r.1;
    } in
    let stop = (members_law members (sound_fields members sound)).refuses bs 0 vs r.0 (omega arith) fits again in
    let read = members_again members sound bs other [] fits' (sym (append-nil bs)) in
    (let no : done (other, length bs) ≡ Err r.0 = sym read ∙ stop in cc)

-- the refused primitive is in no record that agrees with the bytes so far
pub none_through : (members : List PlainMember) → IsSoundLayout members → (bytes : List ℕ) (f : RecordFault) (vs : List PlainValue) → IsRecord members vs → (cut : IsRefusedAmong (record_spelled members vs 0) 0 bytes f)
    → (other : List PlainValue) → IsRecord members other → Agree (size_of cut.front + width_of cut.next.what) (record_spelling members other) bytes → ⊥
none_through members sound bytes f vs fits cut other fits' agree =
    let s = size_of cut.front in
    let w = width_of cut.next.what in
    let long : w ≤ length cut.rest = omega (arith, ap length cut.same, length-append (joined cut.front) cut.rest, agree.0) in
    let judged_so : judged cut.next.what (0 + s) (take w cut.rest) ≡ Some f = rw (le-ltb (length cut.rest) w long) at cut.refused in
    none_behind members sound bytes f vs fits cut w (λ ys there same. (f, rw (le-ltb (length ys) w there, same) judged_so)) other fits' agree

record_refused : (members : List PlainMember) → IsSoundLayout members → (bytes : List ℕ) (f : RecordFault) → AreOctets bytes → record_at members bytes ≡ Err f → IsRefused members bytes f
unfolding record_at
record_refused members sound bytes f o e = elim (bind_err (members_at members bytes 0) (λ x. cond (eqb x.1 (length bytes)) (Ok x.0) (Err (Rest x.1))) f e) [
  | inl stop ↦
      let s = (members_law members (sound_fields members sound)).stops bytes 0 f o (omega arith) stop in
      inl (record { values = s.value; is_record = s.fits; cut = s.cut.0; none = none_through members sound bytes f s.value s.fits s.cut.0 })
  | inr a ↦ inr (by_test a.0.0 a.0.1 (eqb a.0.1 (length bytes)) refl a.1 a.2)
]
  where
    by_test : (us : List PlainValue) (after : ℕ) (t : Bool) → eqb after (length bytes) ≡ t → members_at members bytes 0 ≡ Ok (us, after) → cond t (done us) (Err (Rest after)) ≡ Err f → HasRest members bytes f
    by_test us after true test read e = absurd cc
    by_test us after false test read e =
        let t = (members_law members (sound_fields members sound)).takes bytes 0 us after o (omega arith) read in
        let place : after ≡ length (record_spelling members us) = omega (arith, t.1.after_is, ap length (spelled_is members us)) in
        record {
          values = us;
          is_record = t.0;
          rest = drop after bytes;
          whole = t.1.whole ∙ ap (λ (l : List ℕ). l ++ drop after bytes) (spelled_is members us);
          more = (let apart : after ≡ length bytes → ⊥ = eqb-false after (length bytes) test in omega (arith, length-drop after bytes, t.1.within, apart));
          place = (let is : Rest after ≡ f = cc in sym is ∙ ap Rest place);
        }

pub refused_again : (members : List PlainMember) → IsSoundLayout members → (bytes : List ℕ) (f : RecordFault) → IsRefused members bytes f → record_at members bytes ≡ Err f
unfolding record_at
refused_again members sound bytes f (inl r) =
    let stop = (members_law members (sound_fields members sound)).refuses bytes 0 r.values f (omega arith) r.is_record r.cut in
    rw stop refl
refused_again members sound bytes f (inr r) =
    let read = members_again members sound bytes r.values r.rest r.is_record r.whole in
    let apart = ne_eqb (length (record_spelling members r.values)) (length bytes) (λ e. absurd (omega (arith, e, ap length r.whole, length-append (record_spelling members r.values) r.rest, r.more))) in
    rw (read, apart) (ap (λ (g : RecordFault). failed {A = List PlainValue} g) (sym r.place))

-- ---- answers

pub found_if : (members : List PlainMember) → IsSoundLayout members → (bytes : List ℕ) (result : Result (List PlainValue) RecordFault) → AreOctets bytes → Answers result (record_at members bytes) → IfOk result (λ vs. IsRecord members vs × (bytes ≡ record_spelling members vs))
found_if members sound bytes (Ok vs) o e = record_found members sound bytes vs o e
found_if members sound bytes (Err f) o e = tt

pub found_always : (members : List PlainMember) → IsSoundLayout members → (bytes : List ℕ) (result : Result (List PlainValue) RecordFault) (vs : List PlainValue) → Answers result (record_at members bytes) → IsRecord members vs → bytes ≡ record_spelling members vs → MatchResult result (λ us. us ≡ vs) (λ f. f ≡ NoMemory)
found_always members sound bytes (Ok us) vs e fits whole = (let again = record_again members sound bytes vs (fits, whole) in ok_is us vs (sym e ∙ again))
found_always members sound bytes (Err f) vs (inl memory) fits whole = memory
found_always members sound bytes (Err f) vs (inr e) fits whole = (let again = record_again members sound bytes vs (fits, whole) in absurd (let no : done vs ≡ Err f = sym again ∙ e in cc))

pub refused_if : (members : List PlainMember) → IsSoundLayout members → (bytes : List ℕ) (result : Result (List PlainValue) RecordFault) → AreOctets bytes → Answers result (record_at members bytes) → IfErr result (λ f. (f ≡ NoMemory) ⊎ IsRefused members bytes f)
refused_if members sound bytes (Ok vs) o e = tt
refused_if members sound bytes (Err f) o (inl memory) = inl memory
refused_if members sound bytes (Err f) o (inr e) = inr (record_refused members sound bytes f o e)

pub refused_always : (members : List PlainMember) → IsSoundLayout members → (bytes : List ℕ) (result : Result (List PlainValue) RecordFault) (f : RecordFault) → Answers result (record_at members bytes) → IsRefused members bytes f → MatchResult result (λ vs. ⊥) (λ e. (e ≡ f) ⊎ (e ≡ NoMemory))
refused_always members sound bytes (Ok vs) f e r = (let again = refused_again members sound bytes f r in let no : done vs ≡ Err f = sym e ∙ again in cc)
refused_always members sound bytes (Err g) f (inl memory) r = inr memory
refused_always members sound bytes (Err g) f (inr e) r = (let again = refused_again members sound bytes f r in inl (let same : failed {A = List PlainValue} g ≡ Err f = sym e ∙ again in cc))

-- ---- one thing

pub one_refusal : HasOneRefusal
one_refusal members bytes f g sound p q = (let same : failed {A = List PlainValue} f ≡ Err g = sym (refused_again members sound bytes f p) ∙ refused_again members sound bytes g q in cc)

pub no_record : HasNoRecord
no_record members bytes f sound refused spelled = (let no : done spelled.values ≡ Err f = sym (record_again members sound bytes spelled.values (spelled.is_record, spelled.spelled)) ∙ refused_again members sound bytes f refused in cc)

pub record_or_refusal : HasRecordOrRefusal
record_or_refusal members bytes sound o = by_reading (record_at members bytes) refl
  where
    by_reading : (read : Result (List PlainValue) RecordFault) → record_at members bytes ≡ read → SpellsRecord members bytes ⊎ ((f : RecordFault) × IsRefused members bytes f)
    by_reading (Ok vs) e = (let found = record_found members sound bytes vs o e in inl (record { values = vs; is_record = found.0; spelled = found.1 }))
    by_reading (Err f) e = inr (f, record_refused members sound bytes f o e)
