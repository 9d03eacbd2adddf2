-- Each member of a record, where it stands in the octets.
use Rattle.std.proofs.Common.{◌≡◌, ℕ, zero, suc, ◌+◌, ◌-◌, ◌<◌, ◌≤◌, List, [], ◌∷◌, ◌++◌, length, map, get_or, take, drop, Option, Some, None, Result, Ok, Err, refl, sym, ap, subst, ◌∙◌, append_assoc, arith}
use Rattle.std.specs.Prelude.{slice_range, IfOk}
use Rattle.std.specs.List.{slice_get, flat_map}
use Rattle.std.specs.Int.{w32, to_be_bytes}
use Rattle.std.proofs.lemmas.List.{append-nil, drop_at, drop-drop, take_at, take-map, get_or_default, length-take, length-drop, length-replicate}
use Rattle.type_layout.specs.declared.home.HomeNo.{HomeNo}
use Rattle.type_layout.specs.declared.key.KeyNo.{KeyNo}
use Rattle.type_layout.specs.declared.key.Key.{Key}
use Rattle.type_layout.specs.declared.member.Member.{Member}
use Rattle.type_layout.specs.declared.schema.Home.{Home}
use Rattle.type_layout.specs.declared.schema.Schema.{Schema}
use Rattle.type_layout.specs.Types.{PlainType, Str, Seq, Arr, Struct, RefTo, PlainFields, PlainValue, Text, PlainMember}
use Rattle.type_layout.specs.Views.{plain_type}
use Rattle.type_layout.specs.Members.{plain_member}
use Rattle.type_layout.proofs.Lookups.{got_mapped}
use Rattle.type_layout.specs.Values.{layout_fields}
use Rattle.type_layout.specs.Schemas.{given, home_at, key_at, members_at}
use Rattle.type_layout.specs.Sound.{IsSound, AreSound, IsSoundLayout, IsSoundSchema, IsKeyMember}
use Rattle.type_layout.specs.Spelling.{padding, gap, record_spelling}
use Rattle.type_layout.specs.Keys.{key_part, part_at, key_bytes}
use Rattle.cdr_codec.specs.declared.fault.RecordFault.{RecordFault}
use Rattle.cdr_codec.specs.declared.width.Width.{Width}
use Rattle.cdr_codec.specs.Primitives.{Flag, joined, pieces}
use Rattle.cdr_codec.specs.Reading.{◌>>=◌, judged_at, text_at, value_at, fields_at, members_at as record_members}
use Rattle.cdr_codec.specs.Widths.{octets_in, number_width}
use Rattle.cdr_codec.specs.Places.{IsFound, end_of, count_at, places_of, part_of, part_read, AreRead, indexes_at}
use Rattle.cdr_codec.specs.Spelled.{SpellsRecord, SpellsRecordWith}
use Rattle.cdr_codec.specs.Laws.{AreOctets}
use Rattle.cdr_codec.proofs.Readers.{done, ok_is, bind_ok}
use Rattle.cdr_codec.proofs.Standing.{stands_in}
use Rattle.cdr_codec.proofs.Types.{value_law}
use Rattle.cdr_codec.proofs.Records.{sound_fields, joined-pieces, members_again}
use Rattle.cdr_codec.proofs.Skips.{from_found, to_found, judged_found, text_found}

-- ---- what is read of octets that spell a record

-- the members are read behind the flag
pub fields_read : (members : List PlainMember) → IsSoundLayout members → (bytes : List ℕ) → (s : SpellsRecord members bytes) → fields_at (layout_fields members) bytes 1 ≡ Ok (s.values, length (record_spelling members s.values))
unfolding record_members
fields_read members sound bytes s =
    let whole = members_again members sound bytes s.values [] s.is_record (s.spelled ∙ sym (append-nil (record_spelling members s.values))) in
    let a = bind_ok (judged_at Flag bytes 0) (λ flag. fields_at (layout_fields members) bytes flag.1) (s.values, length (record_spelling members s.values)) whole in
    let stands = judged_found Flag bytes 0 a.0 a.1 in
    let place : 1 ≡ a.0.1 = omega (arith, stands.after) in
    ap (fields_at (layout_fields members) bytes) place ∙ a.2

pub some_octets : (members : List PlainMember) (bytes : List ℕ) → SpellsRecord members bytes → 1 ≤ length bytes
some_octets members bytes s = (let e = ap length s.spelled in omega (arith, e))

-- ---- a member by its number

-- the member has a value, which is read behind the members in front of it
pub record IsMember (ms : List PlainMember) (bytes : List ℕ) (at : ℕ) (vs : List PlainValue) (i : ℕ) (m : PlainMember) : Type 0 where
  pub value : PlainValue
  pub after : ℕ
  pub is : slice_get vs i ≡ Some value
  pub front : IsFound (fields_at (layout_fields (take i ms)) bytes at)
  pub read : value_at m.type bytes (end_of (fields_at (layout_fields (take i ms)) bytes at)) ≡ Ok (value, after)

pub member_read : (ms : List PlainMember) (bytes : List ℕ) (at : ℕ) (vs : List PlainValue) (end : ℕ) → fields_at (layout_fields ms) bytes at ≡ Ok (vs, end) → (i : ℕ) (m : PlainMember) → slice_get ms i ≡ Some m → IsMember ms bytes at vs i m
unfolding fields_at
member_read [] bytes at vs end e i m h = absurd cc
member_read (x ∷ ms) bytes at vs end e zero m h =
    let same : x ≡ m = cc in
    let a = bind_ok (value_at x.type bytes at) (λ first. fields_at (layout_fields ms) bytes first.1 >>= λ others. done (first.0 ∷ others.0, others.1)) (vs, end) e in
    let b = bind_ok (fields_at (layout_fields ms) bytes a.0.1) (λ others. done (a.0.0 ∷ others.0, others.1)) (vs, end) a.2 in
    let made : List PlainValue × ℕ = (a.0.0 ∷ b.0.0, b.0.1) in
    let all : a.0.0 ∷ b.0.0 ≡ vs = ap (λ (p : List PlainValue × ℕ). p.0) (ok_is made (vs, end) b.2) in
    record {
      value = a.0.0;
      after = a.0.1;
      is = ap (λ (l : List PlainValue). slice_get l 0) (sym all);
      front = tt;
      read = ap (λ (n : PlainMember). value_at n.type bytes at) (sym same) ∙ a.1;
    }
member_read (x ∷ ms) bytes at vs end e (suc i) m h =
    let a = bind_ok (value_at x.type bytes at) (λ first. fields_at (layout_fields ms) bytes first.1 >>= λ others. done (first.0 ∷ others.0, others.1)) (vs, end) e in
    let b = bind_ok (fields_at (layout_fields ms) bytes a.0.1) (λ others. done (a.0.0 ∷ others.0, others.1)) (vs, end) a.2 in
    let made : List PlainValue × ℕ = (a.0.0 ∷ b.0.0, b.0.1) in
    let all : a.0.0 ∷ b.0.0 ≡ vs = ap (λ (p : List PlainValue × ℕ). p.0) (ok_is made (vs, end) b.2) in
    let deeper = member_read ms bytes a.0.1 b.0.0 b.0.1 b.1 i m h in
    let front = from_found (fields_at (layout_fields (take i ms)) bytes a.0.1) deeper.front in
    let both : fields_at (layout_fields (take (suc i) (x ∷ ms))) bytes at ≡ Ok (a.0.0 ∷ front.0.0, front.0.1) =
    ap (λ (r : Result (PlainValue × ℕ) RecordFault). r >>= λ first. fields_at (layout_fields (take i ms)) bytes first.1 >>= λ others. done (first.0 ∷ others.0, others.1)) a.1
    ∙ ap (λ (r : Result (List PlainValue × ℕ) RecordFault). r >>= λ others. done (a.0.0 ∷ others.0, others.1)) front.1 in
    let f = to_found (fields_at (layout_fields (take (suc i) (x ∷ ms))) bytes at) (a.0.0 ∷ front.0.0, front.0.1) both in
    let same_place : end_of (fields_at (layout_fields (take (suc i) (x ∷ ms))) bytes at) ≡ end_of (fields_at (layout_fields (take i ms)) bytes a.0.1) = f.1 ∙ sym (to_found (fields_at (layout_fields (take i ms)) bytes a.0.1) front.0 front.1).1 in
    record {
      value = deeper.value;
      after = deeper.after;
      is = ap (λ (l : List PlainValue). slice_get l (suc i)) (sym all) ∙ deeper.is;
      front = f.0;
      read = ap (value_at m.type bytes) same_place ∙ deeper.read;
    }

-- the same by the places of all
pub record IsPlaced (ms : List PlainMember) (bytes : List ℕ) (at : ℕ) (vs : List PlainValue) (i : ℕ) (m : PlainMember) : Type 0 where
  pub value : PlainValue
  pub place : ℕ
  pub after : ℕ
  pub is : slice_get vs i ≡ Some value
  pub there : slice_get (places_of (layout_fields ms) bytes at) i ≡ Some place
  pub within : place ≤ length bytes
  pub read : value_at m.type bytes place ≡ Ok (value, after)

pub member_placed : (ms : List PlainMember) → AreSound (layout_fields ms) → (bytes : List ℕ) → AreOctets bytes → (at : ℕ) → at ≤ length bytes → (vs : List PlainValue) (end : ℕ) → fields_at (layout_fields ms) bytes at ≡ Ok (vs, end) → (i : ℕ) (m : PlainMember) → slice_get ms i ≡ Some m → IsPlaced ms bytes at vs i m
unfolding fields_at
member_placed [] sound bytes o at le vs end e i m h = absurd cc
member_placed (x ∷ ms) sound bytes o at le vs end e zero m h =
    let same : x ≡ m = cc in
    let a = bind_ok (value_at x.type bytes at) (λ first. fields_at (layout_fields ms) bytes first.1 >>= λ others. done (first.0 ∷ others.0, others.1)) (vs, end) e in
    let b = bind_ok (fields_at (layout_fields ms) bytes a.0.1) (λ others. done (a.0.0 ∷ others.0, others.1)) (vs, end) a.2 in
    let made : List PlainValue × ℕ = (a.0.0 ∷ b.0.0, b.0.1) in
    let all : a.0.0 ∷ b.0.0 ≡ vs = ap (λ (p : List PlainValue × ℕ). p.0) (ok_is made (vs, end) b.2) in
    record {
      value = a.0.0;
      place = at;
      after = a.0.1;
      is = ap (λ (l : List PlainValue). slice_get l 0) (sym all);
      there = refl;
      within = le;
      read = ap (λ (n : PlainMember). value_at n.type bytes at) (sym same) ∙ a.1;
    }
member_placed (x ∷ ms) sound bytes o at le vs end e (suc i) m h =
    let a = bind_ok (value_at x.type bytes at) (λ first. fields_at (layout_fields ms) bytes first.1 >>= λ others. done (first.0 ∷ others.0, others.1)) (vs, end) e in
    let b = bind_ok (fields_at (layout_fields ms) bytes a.0.1) (λ others. done (a.0.0 ∷ others.0, others.1)) (vs, end) a.2 in
    let made : List PlainValue × ℕ = (a.0.0 ∷ b.0.0, b.0.1) in
    let all : a.0.0 ∷ b.0.0 ≡ vs = ap (λ (p : List PlainValue × ℕ). p.0) (ok_is made (vs, end) b.2) in
    let law = value_law x.type sound.0 in
    let took = law.takes bytes at a.0.0 a.0.1 o le a.1 in
    let deeper = member_placed ms sound.1 bytes o a.0.1 took.1.within b.0.0 b.0.1 b.1 i m h in
    let next : end_of (value_at x.type bytes at) ≡ a.0.1 = (to_found (value_at x.type bytes at) a.0 a.1).1 in
    record {
      value = deeper.value;
      place = deeper.place;
      after = deeper.after;
      is = ap (λ (l : List PlainValue). slice_get l (suc i)) (sym all) ∙ deeper.is;
      there = ap (λ (k : ℕ). slice_get (places_of (layout_fields ms) bytes k) i) next ∙ deeper.there;
      within = deeper.within;
      read = deeper.read;
    }

-- ---- parts of keys

-- octets behind padding
behind_padding : (k at : ℕ) (octets rest bytes : List ℕ) → length octets ≡ k → drop at bytes ≡ (padding k at ++ octets) ++ rest → take k (drop (at + gap k at) bytes) ≡ octets
behind_padding k at octets rest bytes size whole =
    let more : drop at bytes ≡ padding k at ++ (octets ++ rest) = whole ∙ append_assoc (padding k at) octets rest in
    let pads : length (padding k at) ≡ gap k at = length-replicate (gap k at) 0 in
    ap (take k) (sym (drop-drop (gap k at) at bytes) ∙ ap (drop (gap k at)) more ∙ drop_at (padding k at) (octets ++ rest) (gap k at) pads) ∙ take_at octets rest k size

pub number_part : (t : PlainType) → IsSound t → (w : Width) → number_width t ≡ Some w → (bytes : List ℕ) → AreOctets bytes → (at : ℕ) → at ≤ length bytes → IsFound (value_at t bytes at) → part_of t (value_at t bytes at) ≡ take (octets_in w) (drop (at + gap (octets_in w) at) bytes)
number_part t sound w e bytes o at le found =
    let x = from_found (value_at t bytes at) found in
    let law = value_law t sound in
    let took = law.takes bytes at x.0.0 x.0.1 o le x.1 in
    let stands = stands_in t w e x.0.0 took.0 at in
    let spelled : joined (pieces t x.0.0 at) ≡ padding (octets_in w) at ++ key_part t x.0.0 = joined-pieces t x.0.0 at ∙ stands.0 in
    let whole : drop at bytes ≡ (padding (octets_in w) at ++ key_part t x.0.0) ++ drop x.0.1 bytes = took.1.whole ∙ ap (λ (l : List ℕ). l ++ drop x.0.1 bytes) spelled in
    ap (part_of t) x.1 ∙ sym (behind_padding (octets_in w) at (key_part t x.0.0) (drop x.0.1 bytes) bytes stands.1 whole)

-- a string stands behind the number of its bytes
pub text_part : (bound : ℕ) (bytes : List ℕ) (at : ℕ) → IsFound (value_at (Str bound) bytes at) → part_of (Str bound) (value_at (Str bound) bytes at) ≡ to_be_bytes w32 (count_at bytes at - 1) ++ slice_range bytes (at + gap 4 at + 4) (at + gap 4 at + 4 + (count_at bytes at - 1))
unfolding value_at
text_part bound bytes at found =
    let x = from_found (value_at (Str bound) bytes at) found in
    let a = bind_ok (text_at bound bytes at) (λ t. done (Text t.0, t.1)) x.0 x.1 in
    let t = text_found bound bytes at a.0 a.1 in
    let made : PlainValue × ℕ = (Text a.0.0, a.0.1) in
    let is : x.0.0 ≡ Text a.0.0 = sym (ap (λ (m : PlainValue × ℕ). m.0) (ok_is made x.0 a.2)) in
    let n = count_at bytes at - 1 in
    let first = at + gap 4 at + 4 in
    let size : length (slice_range bytes first (first + n)) ≡ n = omega (arith, length-take (first + n - first) (drop first bytes), length-drop first bytes, t.within, t.some) in
    let text : key_part (Str bound) (Text a.0.0) ≡ to_be_bytes w32 (length (slice_range bytes first (first + n))) ++ slice_range bytes first (first + n) = ap (λ (l : List ℕ). to_be_bytes w32 (length l) ++ l) t.text in
    ap (part_of (Str bound)) x.1 ∙ ap (key_part (Str bound)) is ∙ text ∙ ap (λ (k : ℕ). to_be_bytes w32 k ++ slice_range bytes first (first + n)) size

-- at least its last octet is counted
pub text_some : (bound : ℕ) (bytes : List ℕ) (at : ℕ) → IsFound (value_at (Str bound) bytes at) → 1 ≤ count_at bytes at
unfolding value_at
text_some bound bytes at found =
    let x = from_found (value_at (Str bound) bytes at) found in
    let a = bind_ok (text_at bound bytes at) (λ t. done (Text t.0, t.1)) x.0 x.1 in
    (text_found bound bytes at a.0 a.1).some

-- no other type has a part
pub no_sequence : (item : PlainType) (bound : ℕ) (r : Result (PlainValue × ℕ) RecordFault) → part_of (Seq item bound) r ≡ []
no_sequence item bound (Ok x) = refl
no_sequence item bound (Err f) = refl

pub no_array : (item : PlainType) (n : ℕ) (r : Result (PlainValue × ℕ) RecordFault) → part_of (Arr item n) r ≡ []
no_array item n (Ok x) = refl
no_array item n (Err f) = refl

pub no_struct : (fs : PlainFields) (r : Result (PlainValue × ℕ) RecordFault) → part_of (Struct fs) r ≡ []
no_struct fs (Ok x) = refl
no_struct fs (Err f) = refl

pub no_reference : (homes : List HomeNo) (r : Result (PlainValue × ℕ) RecordFault) → part_of (RefTo homes) r ≡ []
no_reference homes (Ok x) = refl
no_reference homes (Err f) = refl

-- ---- keys

pub are_read : (ms : List PlainMember) → IsSoundLayout ms → (bytes : List ℕ) → AreOctets bytes → (s : SpellsRecord ms bytes) → AreRead ms bytes (places_of (layout_fields ms) bytes 1)
are_read ms sound bytes o s i m at h k =
    let p = member_placed ms (sound_fields ms sound) bytes o 1 (some_octets ms bytes s) s.values (length (record_spelling ms s.values)) (fields_read ms sound bytes s) i m h in
    let same : p.place ≡ at = (let e : Some p.place ≡ Some at = sym p.there ∙ k in cc) in
    let read : value_at m.type bytes at ≡ Ok (p.value, p.after) = ap (value_at m.type bytes) (sym same) ∙ p.read in
    (sound i m h, subst (λ (n : ℕ). n ≤ length bytes) same p.within, (to_found (value_at m.type bytes at) (p.value, p.after) read).0)

-- one of the key's members
one_part : (own other : List PlainMember) → IsSoundLayout other → (bytes : List ℕ) → AreOctets bytes → (s : SpellsRecord other bytes) → (i : ℕ) → IsKeyMember own other i → part_read other bytes (places_of (layout_fields other) bytes 1) i ≡ part_at own s.values i
one_part own other sound bytes o s i is =
    let p = member_placed other (sound_fields other sound) bytes o 1 (some_octets other bytes s) s.values (length (record_spelling other s.values)) (fields_read other sound bytes s) i is.1 is.3 in
    let left : part_read other bytes (places_of (layout_fields other) bytes 1) i ≡ key_part is.1.type p.value = rw (is.3, p.there, p.read) refl in
    let right : part_at own s.values i ≡ key_part is.0.type p.value = rw (is.2, p.is) refl in
    left ∙ ap (λ (t : PlainType). key_part t p.value) (sym is.4) ∙ sym right

all_parts : (own other : List PlainMember) → IsSoundLayout other → (bytes : List ℕ) → AreOctets bytes → (s : SpellsRecord other bytes) → (is : List ℕ) → ((j i : ℕ) → slice_get is j ≡ Some i → IsKeyMember own other i) → flat_map (part_read other bytes (places_of (layout_fields other) bytes 1)) is ≡ flat_map (part_at own s.values) is
all_parts own other sound bytes o s [] each = refl
all_parts own other sound bytes o s (i ∷ is) each =
    let first = one_part own other sound bytes o s i (each 0 i refl) in
    let later = all_parts own other sound bytes o s is (λ j k h. each (suc j) k h) in
    ap (λ (l : List ℕ). l ++ flat_map (part_read other bytes (places_of (layout_fields other) bytes 1)) is) first ∙ ap (λ (l : List ℕ). part_at own s.values i ++ l) later

pub key_read : (S : Schema) → IsSoundSchema S → (k : KeyNo) (h : HomeNo) (bytes : List ℕ) → AreOctets bytes → (s : SpellsRecordWith S k h bytes) → flat_map (part_read (members_at S h) bytes (places_of (layout_fields (members_at S h)) bytes 1)) (indexes_at S k) ≡ key_bytes S k s.whole.values
key_read S sound k h bytes o s = subst (λ (ms : List PlainMember). flat_map (part_read ms bytes (places_of (layout_fields ms) bytes 1)) (indexes_at S k) ≡ key_bytes S k s.whole.values) (sym there) (by_key (key_at S k) refl)
  where
    there : members_at S h ≡ s.home.layout.members
    there = ap (λ (x : Option Home). given x [] (λ home. home.layout.members)) s.there

    by_key : (found : Option Key) → key_at S k ≡ found → flat_map (part_read s.home.layout.members bytes (places_of (layout_fields s.home.layout.members) bytes 1)) (given found [] (λ key. key.members)) ≡ given found [] (λ key. flat_map (part_at (members_at S key.home) s.whole.values) key.members)
    by_key None e = refl
    by_key (Some key) e = all_parts (members_at S key.home) s.home.layout.members (sound.layouts h s.home s.there) bytes o s.whole key.members (sound.key_types k key e h s.home s.there s.keyed)

-- ---- octets of a record of a home

pub if_ok : {X E : Type 0} (r : Result X E) (P Q : X → Type 0) → ((x : X) → P x → Q x) → IfOk r P → IfOk r Q
if_ok (Ok x) P Q weaker p = weaker x p
if_ok (Err e) P Q weaker p = tt

-- a home that is not there has no members
layout_sound : (S : Schema) → IsSoundSchema S → (h : HomeNo) → IsSoundLayout (members_at S h)
layout_sound S sound h = by_home (home_at S h) refl
  where
    by_home : (o : Option Home) → home_at S h ≡ o → IsSoundLayout (given o [] (λ home. home.layout.members))
    by_home None at = λ i m e. absurd cc
    by_home (Some home) at = sound.layouts h home at

pub found_there : (S : Schema) → IsSoundSchema S → (h : HomeNo) (bytes : List ℕ) → SpellsRecord (members_at S h) bytes → (ms : List PlainMember) → ms ≡ members_at S h → IsFound (fields_at (layout_fields ms) bytes 1)
found_there S sound h bytes s ms is =
    let other = members_at S h in
    let read = fields_read other (layout_sound S sound h) bytes s in
    subst (λ (l : List PlainMember). IsFound (fields_at (layout_fields l) bytes 1)) (sym is) (to_found (fields_at (layout_fields other) bytes 1) (s.values, length (record_spelling other s.values)) read).0

module _ (S : Schema) (sound : IsSoundSchema S) (k : KeyNo) (h : HomeNo) (bytes : List ℕ) (o : AreOctets bytes) (s : SpellsRecordWith S k h bytes) (ms : List PlainMember) (places : List ℕ) (is : ms ≡ members_at S h) (at : places ≡ places_of (layout_fields (members_at S h)) bytes 1) where
  pub read_there : AreRead ms bytes places
  read_there =
      let there : ms ≡ s.home.layout.members = is ∙ ap (λ (x : Option Home). given x [] (λ home. home.layout.members)) s.there in
      let same : places ≡ places_of (layout_fields ms) bytes 1 = at ∙ ap (λ (l : List PlainMember). places_of (layout_fields l) bytes 1) (sym is) in
      subst (AreRead ms bytes) (sym same) (subst (λ (l : List PlainMember). AreRead l bytes (places_of (layout_fields l) bytes 1)) (sym there) (are_read s.home.layout.members (sound.layouts h s.home s.there) bytes o s.whole))

  pub key_there : (indexes made : List ℕ) → indexes ≡ indexes_at S k → made ≡ flat_map (part_read ms bytes places) indexes → made ≡ key_bytes S k s.whole.values
  key_there indexes made which so =
      so ∙ ap (flat_map (part_read ms bytes places)) which ∙ ap (λ (l : List ℕ). flat_map (part_read ms bytes l) (indexes_at S k)) at
      ∙ ap (λ (l : List PlainMember). flat_map (part_read l bytes (places_of (layout_fields (members_at S h)) bytes 1)) (indexes_at S k)) is ∙ key_read S sound k h bytes o s

-- ---- a member of octets

pub member_there : (members : List PlainMember) → IsSoundLayout members → (bytes : List ℕ) → (s : SpellsRecord members bytes) → (i : ℕ) (m : PlainMember) → slice_get members i ≡ Some m → IsMember members bytes 1 s.values i m
member_there members sound bytes s i m there = member_read members bytes 1 s.values (length (record_spelling members s.values)) (fields_read members sound bytes s) i m there

-- the same for a member of the program's layout
pub record IsMemberOf (ms : List Member) (bytes : List ℕ) (vs : List PlainValue) (i : ℕ) (m : Member) : Type 0 where
  pub value : PlainValue
  pub after : ℕ
  pub is : slice_get vs i ≡ Some value
  pub front : IsFound (fields_at (layout_fields (map plain_member (take i ms))) bytes 1)
  pub read : value_at (plain_type m.ty) bytes (end_of (fields_at (layout_fields (map plain_member (take i ms))) bytes 1)) ≡ Ok (value, after)

pub member_of : (members : List PlainMember) → IsSoundLayout members → (bytes : List ℕ) → (s : SpellsRecord members bytes) → (ms : List Member) → map plain_member ms ≡ members → (i : ℕ) (m : Member) → i < length ms → m ≡ get_or ms i m → IsMemberOf ms bytes s.values i m
member_of members sound bytes s ms same i m lt is =
    let there : slice_get members i ≡ Some (plain_member m) = ap (λ (l : List PlainMember). slice_get l i) (sym same) ∙ got_mapped plain_member ms i m lt is in
    let found = member_there members sound bytes s i (plain_member m) there in
    let front : take i members ≡ map plain_member (take i ms) = ap (take i) (sym same) ∙ take-map plain_member i ms in
    record {
      value = found.value;
      after = found.after;
      is = found.is;
      front = subst (λ (l : List PlainMember). IsFound (fields_at (layout_fields l) bytes 1)) front found.front;
      read = subst (λ (l : List PlainMember). value_at (plain_type m.ty) bytes (end_of (fields_at (layout_fields l) bytes 1)) ≡ Ok (found.value, found.after)) front found.read;
    }

pub member_is : (ms : List Member) (bytes : List ℕ) (vs : List PlainValue) (i : ℕ) (m : Member) → IsMemberOf ms bytes vs i m → (at : ℕ) → at ≡ end_of (fields_at (layout_fields (map plain_member (take i ms))) bytes 1) → (v : PlainValue) (e : ℕ) → value_at (plain_type m.ty) bytes at ≡ Ok (v, e) → slice_get vs i ≡ Some v
member_is ms bytes vs i m found at place v e read =
    let both : done (found.value, found.after) ≡ done (v, e) = sym (ap (value_at (plain_type m.ty) bytes) place ∙ found.read) ∙ read in
    let one : PlainValue × ℕ = (found.value, found.after) in
    found.is ∙ ap (λ (x : PlainValue × ℕ). Some x.0) (ok_is one (v, e) both)

-- the members in front of one
pub front_found : (members : List PlainMember) → IsSoundLayout members → (bytes : List ℕ) → SpellsRecord members bytes → (ms : List Member) → map plain_member ms ≡ members → (i : ℕ) → i < length ms → IsFound (fields_at (layout_fields (map plain_member (take i ms))) bytes 1)
front_found members sound bytes s [] same i lt = absurd (omega arith)
front_found members sound bytes s (x ∷ xs) same i lt = (member_of members sound bytes s (x ∷ xs) same i (get_or (x ∷ xs) i x) lt (get_or_default (x ∷ xs) i x (get_or (x ∷ xs) i x) lt)).front
