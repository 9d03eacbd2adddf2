-- Where values begin and end in octets that are known to have them.
use Rattle.std.specs.Prelude.{ℕ, ◌≡◌, ◌+◌, ◌*◌, ◌≤◌, ◌==◌, if◌then◌else◌, List, [], ◌∷◌, length, drop, Result, Ok, Err, Some}
use Rattle.std.specs.List.{slice_get}
use Rattle.byteorder.specs.Endian.{big_number}
use Rattle.type_layout.specs.Types.{PlainType, PlainFields, no_fields, field_and, PlainValue, PlainMember}
use Rattle.type_layout.specs.Spelling.{gap}
use Rattle.type_layout.specs.declared.key.KeyNo.{KeyNo}
use Rattle.type_layout.specs.declared.schema.Schema.{Schema}
use Rattle.type_layout.specs.Schemas.{given, key_at}
use Rattle.type_layout.specs.Sound.{IsSound}
use Rattle.type_layout.specs.Keys.{key_part}
use Rattle.cdr_codec.specs.declared.fault.RecordFault.{RecordFault}
use Rattle.cdr_codec.specs.Reading.{value_at}

-- something is read there
abbrev pub IsFound : {A : Type 0} → Result (A × ℕ) RecordFault → Type 0
IsFound (Ok x) = Unit {0}
IsFound (Err f) = ⊥

-- the place behind what is read, and 0 where nothing is
abbrev pub end_of : {A : Type 0} → Result (A × ℕ) RecordFault → ℕ
end_of (Ok x) = x.1
end_of (Err f) = 0

-- the place behind so many numbers of one width, of which the first alone has padding in front of it
abbrev pub behind_numbers : ℕ → ℕ → ℕ → ℕ
behind_numbers width n at = if n == 0 then at else at + gap width at + n * width

-- the number in four octets at the next place that 4 divides
abbrev pub count_at : List ℕ → ℕ → ℕ
count_at bytes at = big_number 4 (drop (at + gap 4 at) bytes)

-- the places where the fields begin
abbrev pub places_of : PlainFields → List ℕ → ℕ → List ℕ
places_of no_fields bytes at = []
places_of (field_and name type fields) bytes at = at ∷ places_of fields bytes (end_of (value_at type bytes at))

-- what a key has of a value that is read
abbrev pub part_of : PlainType → Result (PlainValue × ℕ) RecordFault → List ℕ
part_of type (Ok x) = key_part type x.0
part_of type (Err f) = []

-- what a key has of the member with this number
abbrev pub part_read : List PlainMember → List ℕ → List ℕ → ℕ → List ℕ
part_read members bytes places i = given (slice_get members i) [] (λ m. given (slice_get places i) [] (λ at. part_of m.type (value_at m.type bytes at)))

-- a sound member of each of these numbers is read at its place
abbrev pub AreRead : List PlainMember → List ℕ → List ℕ → Type 0
AreRead members bytes places = (i : ℕ) (m : PlainMember) (at : ℕ) → slice_get members i ≡ Some m → slice_get places i ≡ Some at → IsSound m.type × (at ≤ length bytes) × IsFound (value_at m.type bytes at)

-- the members that a key is made of
abbrev pub indexes_at : Schema → KeyNo → List ℕ
indexes_at S k = given (key_at S k) [] (λ key. key.members)
