-- Key bytes are equal exactly where the values of the key's members are.
use Rattle.std.proofs.Common.{ℕ, zero, suc, ◌≡◌, List, [], ◌∷◌, ◌++◌, length, map, Option, Some, refl, sym, ap, ◌∙◌, arith, subst, append_assoc}
use Rattle.std.specs.Prelude.{IsTrue, ◌↔◌}
use Rattle.std.specs.Int.{w8, w16, w32, w64, to_be_bytes, cast_unsigned, from_bool}
use Rattle.std.specs.List.{slice_get, flat_map}
use Rattle.std.proofs.lemmas.List.Concat.{flat_map-cons}
use Rattle.type_layout.specs.declared.key.KeyNo.{KeyNo}
use Rattle.type_layout.specs.declared.key.Key.{Key}
use Rattle.type_layout.specs.declared.schema.Schema.{Schema}
use Rattle.type_layout.specs.Types.{PlainType, Short, Long, LongLong, UShort, ULong, ULongLong, Char, Boolean, Octet, Str, Seq, Arr, Struct, Enum, RefTo, PlainValue, Int, Character, Truth, Ordinal, Text, PlainMember}
use Rattle.type_layout.specs.Values.{Of, IsRecord}
use Rattle.type_layout.specs.Schemas.{given, key_at, members_at}
use Rattle.type_layout.specs.Keys.{may_be_keyed, key_part, part_at, key_bytes, IsRecordWith}
use Rattle.type_layout.specs.Sound.{IsSoundSchema, IsKeyMember}
use Rattle.type_layout.proofs.Apart.{Same, split, under, bytes_8, bytes_16, bytes_32, bytes_64, signed_same, unsigned_same, bits_16, bits_32, bits_64, low_8, low_16, low_32, low_64, truth_bits, same_truth}

-- ---- parts

-- no part of a value begins that of another value of the type
IsParted : PlainType → Type 0
IsParted t = (u v : PlainValue) → Of t u → Of t v → (xs ys : List ℕ) → key_part t u ++ xs ≡ key_part t v ++ ys → Same u v xs ys

short_part : IsParted Short
unfolding IsParted
short_part (Int z) (Int y) f g xs ys h = under Int (signed_same w16 z y xs ys f g (bytes_16 (cast_unsigned w16 z) (cast_unsigned w16 y) xs ys (bits_16 z f) (bits_16 y g) h))
short_part (Int z) _ f g xs ys h = absurd g
short_part _ v f g xs ys h = absurd f

long_part : IsParted Long
unfolding IsParted
long_part (Int z) (Int y) f g xs ys h = under Int (signed_same w32 z y xs ys f g (bytes_32 (cast_unsigned w32 z) (cast_unsigned w32 y) xs ys (bits_32 z f) (bits_32 y g) h))
long_part (Int z) _ f g xs ys h = absurd g
long_part _ v f g xs ys h = absurd f

long_long_part : IsParted LongLong
unfolding IsParted
long_long_part (Int z) (Int y) f g xs ys h = under Int (signed_same w64 z y xs ys f g (bytes_64 (cast_unsigned w64 z) (cast_unsigned w64 y) xs ys (bits_64 z f) (bits_64 y g) h))
long_long_part (Int z) _ f g xs ys h = absurd g
long_long_part _ v f g xs ys h = absurd f

ushort_part : IsParted UShort
unfolding IsParted
ushort_part (Int z) (Int y) f g xs ys h = under Int (unsigned_same w16 z y xs ys f.0 g.0 (bytes_16 (cast_unsigned w16 z) (cast_unsigned w16 y) xs ys (low_16 z f) (low_16 y g) h))
ushort_part (Int z) _ f g xs ys h = absurd g
ushort_part _ v f g xs ys h = absurd f

ulong_part : IsParted ULong
unfolding IsParted
ulong_part (Int z) (Int y) f g xs ys h = under Int (unsigned_same w32 z y xs ys f.0 g.0 (bytes_32 (cast_unsigned w32 z) (cast_unsigned w32 y) xs ys (low_32 z f) (low_32 y g) h))
ulong_part (Int z) _ f g xs ys h = absurd g
ulong_part _ v f g xs ys h = absurd f

ulong_long_part : IsParted ULongLong
unfolding IsParted
ulong_long_part (Int z) (Int y) f g xs ys h = under Int (unsigned_same w64 z y xs ys f.0 g.0 (bytes_64 (cast_unsigned w64 z) (cast_unsigned w64 y) xs ys (low_64 z f) (low_64 y g) h))
ulong_long_part (Int z) _ f g xs ys h = absurd g
ulong_long_part _ v f g xs ys h = absurd f

octet_part : IsParted Octet
unfolding IsParted
octet_part (Int z) (Int y) f g xs ys h = under Int (unsigned_same w8 z y xs ys f.0 g.0 (bytes_8 (cast_unsigned w8 z) (cast_unsigned w8 y) xs ys (low_8 z f) (low_8 y g) h))
octet_part (Int z) _ f g xs ys h = absurd g
octet_part _ v f g xs ys h = absurd f

char_part : IsParted Char
unfolding IsParted
char_part (Character c) (Character d) f g xs ys h = under Character (bytes_8 c d xs ys f g h)
char_part (Character c) _ f g xs ys h = absurd g
char_part _ v f g xs ys h = absurd f

truth_part : IsParted Boolean
unfolding IsParted
truth_part (Truth b) (Truth c) f g xs ys h =
    let s = bytes_8 (from_bool b) (from_bool c) xs ys (truth_bits b) (truth_bits c) h in
    record { value = ap Truth (same_truth b c s.value); rest = s.rest }
truth_part (Truth b) _ f g xs ys h = absurd g
truth_part _ v f g xs ys h = absurd f

ordinal_part : (names : List (List ℕ)) → IsParted (Enum names)
unfolding IsParted
ordinal_part names (Ordinal n) (Ordinal m) f g xs ys h = under Ordinal (bytes_32 n m xs ys f.1 g.1 h)
ordinal_part names (Ordinal n) _ f g xs ys h = absurd g
ordinal_part names _ v f g xs ys h = absurd f

text_part : (bound : ℕ) → IsParted (Str bound)
unfolding IsParted
text_part bound (Text b) (Text c) f g xs ys h =
    let s = bytes_32 (length b) (length c) (b ++ xs) (c ++ ys) (omega (arith, f.2)) (omega (arith, g.2))
    (sym (append_assoc (to_be_bytes w32 (length b)) b xs) ∙ h ∙ append_assoc (to_be_bytes w32 (length c)) c ys) in
    under Text (split b c xs ys s.value s.rest)
text_part bound (Text b) _ f g xs ys h = absurd g
text_part bound _ v f g xs ys h = absurd f

part : (t : PlainType) → IsTrue (may_be_keyed t) → IsParted t
part Short k = short_part
part Long k = long_part
part LongLong k = long_long_part
part UShort k = ushort_part
part ULong k = ulong_part
part ULongLong k = ulong_long_part
part Char k = char_part
part Boolean k = truth_part
part Octet k = octet_part
part (Str bound) k = text_part bound
part (Enum names) k = ordinal_part names
part (Seq item bound) k = absurd cc
part (Arr item n) k = absurd cc
part (Struct fs) k = absurd cc
part (RefTo homes) k = absurd cc

-- ---- members

-- a member's value is there, and of its type
record Valued (m : PlainMember) (o : Option PlainValue) : Type 0 where
  value : PlainValue
  there : o ≡ Some value
  of : Of m.type value

valued : (ms : List PlainMember) (vs : List PlainValue) → IsRecord ms vs → (i : ℕ) (m : PlainMember) → slice_get ms i ≡ Some m → Valued m (slice_get vs i)
valued [] vs of i m h = absurd cc
valued (x ∷ ms) [] of i m h = absurd of
valued (x ∷ ms) (y ∷ vs) of zero m h = (let same : x ≡ m = cc in record { value = y; there = refl; of = subst (λ (n : PlainMember). Of n.type y) same of.0 })
valued (x ∷ ms) (y ∷ vs) of (suc i) m h = valued ms vs of.1 i m h

-- the value of a key's member, with the type that the key's own home gives it
record KeyValue (own : List PlainMember) (vs : List PlainValue) (i : ℕ) : Type 0 where
  member : PlainMember
  own_is : slice_get own i ≡ Some member
  keyed : IsTrue (may_be_keyed member.type)
  valued : Valued member (slice_get vs i)

key_value : (own other : List PlainMember) (vs : List PlainValue) (i : ℕ) → IsRecord other vs → IsKeyMember own other i → KeyValue own vs i
key_value own other vs i of is =
    let v = valued other vs of i is.1 is.3 in
    record {
      member = is.0;
      own_is = is.2;
      keyed = is.5;
      valued = record { value = v.value; there = v.there; of = subst (λ (t : PlainType). Of t v.value) (sym is.4) v.of };
    }

part_of : (own : List PlainMember) (vs : List PlainValue) (i : ℕ) (k : KeyValue own vs i) → part_at own vs i ≡ key_part k.member.type k.valued.value
part_of own vs i k =
    ap (λ (o : Option PlainMember). given o [] (λ m. given (slice_get vs i) [] (λ v. key_part m.type v))) k.own_is
    ∙ ap (λ (o : Option PlainValue). given o [] (λ v. key_part k.member.type v)) k.valued.there

member_same : (own : List PlainMember) (us vs : List PlainValue) (i : ℕ) → KeyValue own us i → KeyValue own vs i → (xs ys : List ℕ) → part_at own us i ++ xs ≡ part_at own vs i ++ ys → Same (slice_get us i) (slice_get vs i) xs ys
unfolding IsParted
member_same own us vs i k l xs ys h =
    let one : k.member ≡ l.member = (let e = k.own_is in let d = l.own_is in cc) in
    let of : Of k.member.type l.valued.value = subst (λ (m : PlainMember). Of m.type l.valued.value) (sym one) l.valued.of in
    let there : part_at own vs i ≡ key_part k.member.type l.valued.value = part_of own vs i l ∙ ap (λ (m : PlainMember). key_part m.type l.valued.value) (sym one) in
    let s = part k.member.type k.keyed k.valued.value l.valued.value k.valued.of of xs ys
    (ap (λ (b : List ℕ). b ++ xs) (sym (part_of own us i k)) ∙ h ∙ ap (λ (b : List ℕ). b ++ ys) there) in
    record { value = k.valued.there ∙ ap Some s.value ∙ sym l.valued.there; rest = s.rest }

members_same : (own : List PlainMember) (us vs : List PlainValue) (is : List ℕ)
    → ((j i : ℕ) → slice_get is j ≡ Some i → KeyValue own us i) → ((j i : ℕ) → slice_get is j ≡ Some i → KeyValue own vs i)
    → flat_map (part_at own us) is ≡ flat_map (part_at own vs) is → map (slice_get us) is ≡ map (slice_get vs) is
members_same own us vs [] k l h = refl
members_same own us vs (i ∷ is) k l h =
    let s = member_same own us vs i (k 0 i refl) (l 0 i refl) (flat_map (part_at own us) is) (flat_map (part_at own vs) is) (sym (flat_map-cons (part_at own us) i is) ∙ h ∙ flat_map-cons (part_at own vs) i is) in
    let rest = members_same own us vs is (λ j n e. k (suc j) n e) (λ j n e. l (suc j) n e) s.rest in
    λ a. s.value a ∷ rest a

part_from : List PlainMember → ℕ → Option PlainValue → List ℕ
part_from own i o = given (slice_get own i) [] (λ m. given o [] (λ v. key_part m.type v))

parts_same : (own : List PlainMember) (us vs : List PlainValue) (is : List ℕ) → map (slice_get us) is ≡ map (slice_get vs) is → flat_map (part_at own us) is ≡ flat_map (part_at own vs) is
unfolding part_from
parts_same own us vs [] h = refl
parts_same own us vs (i ∷ is) h =
    let first : slice_get us i ≡ slice_get vs i = cc in
    let others : map (slice_get us) is ≡ map (slice_get vs) is = cc in
    let rest = parts_same own us vs is others in
    flat_map-cons (part_at own us) i is ∙ (λ a. part_from own i (first a) ++ rest a) ∙ sym (flat_map-cons (part_at own vs) i is)

key_is : (S : Schema) (k : KeyNo) (key : Key) → key_at S k ≡ Some key → (vs : List PlainValue) → key_bytes S k vs ≡ flat_map (part_at (members_at S key.home) vs) key.members
key_is S k key at vs = ap (λ (o : Option Key). given o [] (λ found. flat_map (part_at (members_at S found.home) vs) found.members)) at

pub keys_tell : (S : Schema) → IsSoundSchema S → (k : KeyNo) (key : Key) → key_at S k ≡ Some key → (us vs : List PlainValue) → IsRecordWith S k us → IsRecordWith S k vs
    → (key_bytes S k us ≡ key_bytes S k vs) ↔ (map (slice_get us) key.members ≡ map (slice_get vs) key.members)
keys_tell S sound k key at us vs f g = (
  λ h. members_same own us vs key.members
      (λ j i e. key_value own f.home.layout.members us i f.of_home (sound.key_types k key at f.number f.home f.there f.keyed j i e))
      (λ j i e. key_value own g.home.layout.members vs i g.of_home (sound.key_types k key at g.number g.home g.there g.keyed j i e))
      (sym (key_is S k key at us) ∙ h ∙ key_is S k key at vs),
  λ h. key_is S k key at us ∙ parts_same own us vs key.members h ∙ sym (key_is S k key at vs),
)
  where
    own : List PlainMember
    own = members_at S key.home
