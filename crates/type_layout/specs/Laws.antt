-- Laws of spellings and of key bytes.
use Rattle.std.specs.Prelude.{ℕ, ◌≡◌, ◌%◌, ◌↔◌, List, ◌++◌, map, Some}
use Rattle.std.specs.List.{slice_get}
use Rattle.type_layout.specs.declared.key.KeyNo.{KeyNo}
use Rattle.type_layout.specs.declared.key.Key.{Key}
use Rattle.type_layout.specs.declared.schema.Schema.{Schema}
use Rattle.type_layout.specs.Types.{PlainType, PlainValue, PlainMember}
use Rattle.type_layout.specs.Values.{Of, IsRecord}
use Rattle.type_layout.specs.Spelling.{Spells, spelling, record_spelling}
use Rattle.type_layout.specs.Schemas.{key_at}
use Rattle.type_layout.specs.Keys.{IsRecordWith, key_bytes, value_bytes, HasValues}
use Rattle.type_layout.specs.Sound.{IsSoundSchema}

-- a value has one spelling at a place
abbrev pub HasOneSpelling : Type 0
HasOneSpelling = (t : PlainType) (v : PlainValue) (at : ℕ) (a b : List ℕ) → Spells t v at a → Spells t v at b → a ≡ b

-- at places that are equal modulo 8 it is the same, and so is its length
abbrev pub IsSpelledAlike : Type 0
IsSpelledAlike = (t : PlainType) (v : PlainValue) (at place : ℕ) → at % 8 ≡ place % 8 → spelling t v at ≡ spelling t v place

-- no spelling of a value begins that of another value of the type at the place
abbrev pub NoValueBegins : Type 0
NoValueBegins = (t : PlainType) (u v : PlainValue) → Of t u → Of t v → (at : ℕ) (xs ys : List ℕ) → spelling t u at ++ xs ≡ spelling t v at ++ ys → (u ≡ v) × (xs ≡ ys)

-- no record's spelling begins that of another record of the layout
abbrev pub NoRecordBegins : Type 0
NoRecordBegins = (members : List PlainMember) (us vs : List PlainValue) → IsRecord members us → IsRecord members vs → (xs ys : List ℕ) → record_spelling members us ++ xs ≡ record_spelling members vs ++ ys → (us ≡ vs) × (xs ≡ ys)

-- key bytes are equal exactly where the values of the key's members are
abbrev pub KeysTell : Type 0
KeysTell =
    (S : Schema) → IsSoundSchema S → (k : KeyNo) (key : Key) → key_at S k ≡ Some key → (us vs : List PlainValue) → IsRecordWith S k us → IsRecordWith S k vs
    → (key_bytes S k us ≡ key_bytes S k vs) ↔ (map (slice_get us) key.members ≡ map (slice_get vs) key.members)

-- the bytes of the values of a key are those of each record in which the key's members have them
abbrev pub KeyValuesTell : Type 0
KeyValuesTell =
    (S : Schema) → IsSoundSchema S → (k : KeyNo) (key : Key) → key_at S k ≡ Some key → (us vs : List PlainValue) → HasValues us key.members vs
    → key_bytes S k us ≡ value_bytes S k vs
