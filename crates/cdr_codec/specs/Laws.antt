-- Octets are one thing: a record of a layout, or refused with one fault.
use Rattle.std.specs.Prelude.{ℕ, ◌+◌, ◌≡◌, ◌<◌, ◌⊎◌, List, [], ◌∷◌, ◌++◌, get_or, drop, take}
use Rattle.type_layout.specs.Types.{PlainValue, PlainMember}
use Rattle.type_layout.specs.Values.{IsRecord}
use Rattle.type_layout.specs.Sound.{IsSoundLayout}
use Rattle.type_layout.specs.Spelling.{record_spelling}
use Rattle.cdr_codec.specs.declared.fault.RecordFault.{RecordFault}
use Rattle.cdr_codec.specs.declared.fault.RecordFault.TheVariants.{BadNul}
use Rattle.cdr_codec.specs.Primitives.{TextLength, Piece, size_of, record_pieces, Agree, IsRefused}
use Rattle.cdr_codec.specs.Spelled.{SpellsRecord}

-- each octet is below 256
abbrev pub AreOctets : List ℕ → Type 0
AreOctets bytes = (i : ℕ) → get_or bytes i 0 < 256

-- octets are refused with one fault
abbrev pub HasOneRefusal : Type 0
HasOneRefusal = (members : List PlainMember) (bytes : List ℕ) (f g : RecordFault) → IsSoundLayout members → IsRefused members bytes f → IsRefused members bytes g → f ≡ g

-- octets that are refused spell no record
abbrev pub HasNoRecord : Type 0
HasNoRecord = (members : List PlainMember) (bytes : List ℕ) (f : RecordFault) → IsSoundLayout members → IsRefused members bytes f → SpellsRecord members bytes → ⊥

-- octets spell a record or are refused
abbrev pub HasRecordOrRefusal : Type 0
HasRecordOrRefusal = (members : List PlainMember) (bytes : List ℕ) → IsSoundLayout members → AreOctets bytes → SpellsRecord members bytes ⊎ ((f : RecordFault) × IsRefused members bytes f)

-- some record of the layout has the octets in front of a place, and none has these and so many more
pub record IsFirstWrong (members : List PlainMember) (bytes : List ℕ) (at width : ℕ) : Type 0 where
  pub values : List PlainValue
  pub is_record : IsRecord members values
  pub before : Agree at (record_spelling members values) bytes
  pub none : (other : List PlainValue) → IsRecord members other → Agree (at + width) (record_spelling members other) bytes → ⊥

-- a string's length begins at a place of that record, and the octets there are those of a 0
pub record IsLengthZero (members : List PlainMember) (bytes : List ℕ) (at : ℕ) : Type 0 where
  pub wrong : IsFirstWrong members bytes at 4
  pub front : List Piece
  pub bound : ℕ
  pub octets : List ℕ
  pub back : List Piece
  pub split : record_pieces members wrong.values ≡ front ++ record { what = TextLength bound; octets = octets } ∷ back
  pub place : size_of front ≡ at
  pub zero : take 4 (drop at bytes) ≡ 0 ∷ 0 ∷ 0 ∷ 0 ∷ []

-- where octets are refused by `BadNul`, either the octet at its place is the first wrong one, or a length of 0 is
abbrev pub BadNulMeans : Type 0
BadNulMeans = (members : List PlainMember) (bytes : List ℕ) (at : ℕ) → IsSoundLayout members → AreOctets bytes → IsRefused members bytes (BadNul at) → IsFirstWrong members bytes at 1 ⊎ IsLengthZero members bytes at
