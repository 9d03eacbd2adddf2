-- The bytes that keys are compared by.
use Rattle.std.specs.Prelude.{ℕ, ◌≡◌, List, [], ◌∷◌, ◌++◌, length, map, Some, Bool, true, false, IsTrue}
use Rattle.std.specs.List.{slice_get, flat_map}
use Rattle.std.specs.Option.{option_to_list}
use Rattle.std.specs.Int.{w8, w16, w32, w64, to_be_bytes, cast_unsigned, from_bool}
use Rattle.type_layout.specs.declared.home.HomeNo.{HomeNo}
use Rattle.type_layout.specs.declared.schema.Home.{Home}
use Rattle.type_layout.specs.declared.key.KeyNo.{KeyNo}
use Rattle.type_layout.specs.declared.schema.Schema.{Schema}
use Rattle.type_layout.specs.Types.{PlainType, Short, Long, LongLong, UShort, ULong, ULongLong, Char, Boolean, Octet, Str, Seq, Arr, Struct, Enum, RefTo, PlainValue, Int, Character, Truth, Ordinal, Text, PlainMember}
use Rattle.type_layout.specs.Values.{Of, IsRecord}
use Rattle.type_layout.specs.Schemas.{given, home_at, key_at, members_at, has_key}

-- a type that a key's member may have
abbrev pub may_be_keyed : PlainType → Bool
may_be_keyed (Seq _ _) = false
may_be_keyed (Arr _ _) = false
may_be_keyed (Struct _) = false
may_be_keyed (RefTo _) = false
may_be_keyed _ = true

-- one member's value, without padding
abbrev pub key_part : PlainType → PlainValue → List ℕ
key_part Short (Int z) = to_be_bytes w16 (cast_unsigned w16 z)
key_part Long (Int z) = to_be_bytes w32 (cast_unsigned w32 z)
key_part LongLong (Int z) = to_be_bytes w64 (cast_unsigned w64 z)
key_part UShort (Int z) = to_be_bytes w16 (cast_unsigned w16 z)
key_part ULong (Int z) = to_be_bytes w32 (cast_unsigned w32 z)
key_part ULongLong (Int z) = to_be_bytes w64 (cast_unsigned w64 z)
key_part Char (Character c) = to_be_bytes w8 c
key_part Boolean (Truth b) = to_be_bytes w8 (from_bool b)
key_part Octet (Int z) = to_be_bytes w8 (cast_unsigned w8 z)
key_part (Str bound) (Text bytes) = to_be_bytes w32 (length bytes) ++ bytes
key_part (Enum names) (Ordinal n) = to_be_bytes w32 n
key_part _ _ = []

-- the part of the member with this number
abbrev pub part_at : List PlainMember → List PlainValue → ℕ → List ℕ
part_at members values i = given (slice_get members i) [] (λ m. given (slice_get values i) [] (λ v. key_part m.type v))

-- the members' values one behind the other, in the key's order
abbrev pub key_bytes : Schema → KeyNo → List PlainValue → List ℕ
key_bytes S k values = given (key_at S k) [] (λ key. flat_map (part_at (members_at S key.home) values) key.members)

-- the members with these numbers, in this order
abbrev pub chosen : List PlainMember → List ℕ → List PlainMember
chosen members indexes = flat_map (λ i. option_to_list (slice_get members i)) indexes

-- the members of a key, in its order
abbrev pub key_members : Schema → KeyNo → List PlainMember
key_members S k = given (key_at S k) [] (λ key. chosen (members_at S key.home) key.members)

-- the parts of members' values, one behind the other
abbrev pub parts : List PlainMember → List PlainValue → List ℕ
parts (m ∷ ms) (v ∷ vs) = key_part m.type v ++ parts ms vs
parts _ _ = []

-- the bytes of a key whose members have these values, in its order
abbrev pub value_bytes : Schema → KeyNo → List PlainValue → List ℕ
value_bytes S k values = parts (key_members S k) values

-- in the record the members with these numbers have these values
abbrev pub HasValues : List PlainValue → List ℕ → List PlainValue → Type 0
HasValues record_values indexes values = map (slice_get record_values) indexes ≡ map Some values

-- where the member with this number is there, its value is of its type
abbrev pub FitsAt : List PlainMember → List PlainValue → ℕ → Type 0
FitsAt members values i = (m : PlainMember) (v : PlainValue) → slice_get members i ≡ Some m → slice_get values i ≡ Some v → Of m.type v

-- it is so of each of these members
abbrev pub AreFit : List PlainMember → List PlainValue → List ℕ → Type 0
AreFit members values [] = Unit {0}
AreFit members values (i ∷ is) = FitsAt members values i × AreFit members values is

-- the values are a record of a home that has the key
pub record IsRecordWith (S : Schema) (k : KeyNo) (values : List PlainValue) : Type 0 where
  pub number : HomeNo
  pub home : Home
  pub there : home_at S number ≡ Some home
  pub keyed : IsTrue (has_key home k)
  pub of_home : IsRecord home.layout.members values
