-- The text that says what a store keeps: a line for each home, member and key.
use Rattle.std.specs.Prelude.{ℕ, ◌+◌, ◌==◌, List, [], ◌∷◌, ◌++◌, map, Option, codes, if◌then◌else◌}
use Rattle.std.specs.List.{flat_map}
use Rattle.std.specs.Fmt.{decimal}
use Rattle.type_layout.specs.declared.home.HomeNo.{HomeNo}
use Rattle.type_layout.specs.declared.key.KeyNo.{KeyNo}
use Rattle.type_layout.specs.declared.key.Key.{Key}
use Rattle.type_layout.specs.declared.schema.Home.{Home}
use Rattle.type_layout.specs.declared.schema.Schema.{Schema}
use Rattle.type_layout.specs.Types.{PlainType, Short, Long, LongLong, UShort, ULong, ULongLong, Char, Boolean, Octet, Str, Seq, Arr, Struct, Enum, RefTo, PlainFields, no_fields, field_and, PlainMember}
use Rattle.type_layout.specs.Schemas.{given, key_at}

-- texts with a comma between them
abbrev pub listed : List (List ℕ) → List ℕ
listed [] = []
listed (t ∷ ts) = t ++ flat_map (λ u. codes "," ++ u) ts

-- a bound behind a comma, where there is one
abbrev pub bound_text : ℕ → List ℕ
bound_text bound = if bound == 0 then [] else codes "," ++ decimal bound

abbrev mutual
  pub type_text : PlainType → List ℕ
  type_text Short = codes "short"
  type_text Long = codes "long"
  type_text LongLong = codes "longlong"
  type_text UShort = codes "ushort"
  type_text ULong = codes "ulong"
  type_text ULongLong = codes "ulonglong"
  type_text Char = codes "char"
  type_text Boolean = codes "boolean"
  type_text Octet = codes "octet"
  type_text (Str bound) = if bound == 0 then codes "string" else codes "string<" ++ decimal bound ++ codes ">"
  type_text (Seq item bound) = codes "seq(" ++ type_text item ++ bound_text bound ++ codes ")"
  type_text (Arr item n) = codes "arr(" ++ type_text item ++ codes "," ++ decimal n ++ codes ")"
  type_text (Struct fields) = codes "struct(" ++ listed (field_texts fields) ++ codes ")"
  type_text (Enum names) = codes "enum(" ++ listed names ++ codes ")"
  type_text (RefTo homes) = codes "ref(" ++ listed (map (λ h. decimal h.0) homes) ++ codes ")"

  -- each field's name and type
  pub field_texts : PlainFields → List (List ℕ)
  field_texts no_fields = []
  field_texts (field_and name type fields) = (name ++ codes ":" ++ type_text type) ∷ field_texts fields

-- the number of a home's base, or 0
abbrev pub base_number : Option HomeNo → ℕ
base_number base = given base 0 (λ b. b.0)

abbrev pub home_line : ℕ → Home → List ℕ
home_line number home = codes "home " ++ decimal number ++ codes " " ++ decimal (base_number home.base) ++ codes " " ++ home.name ++ 10 ∷ []

abbrev pub member_line : PlainMember → List ℕ
member_line m = codes "member " ++ m.name ++ codes " " ++ type_text m.type ++ 10 ∷ []

-- with the number of the home that introduces the key
abbrev pub key_text : Key → List ℕ
key_text key = codes "key " ++ key.name ++ codes " " ++ decimal key.home.0 ++ codes " " ++ listed (map decimal key.members) ++ 10 ∷ []

abbrev pub key_line : Schema → KeyNo → List ℕ
key_line S k = given (key_at S k) [] key_text

abbrev pub home_lines : Schema → ℕ → Home → List ℕ
home_lines S number home = home_line number home ++ flat_map member_line home.layout.members ++ flat_map (key_line S) home.keys

-- the lines of these homes, of which the first has this number
abbrev pub lines_from : Schema → ℕ → List Home → List ℕ
lines_from S number [] = []
lines_from S number (home ∷ homes) = home_lines S number home ++ lines_from S (number + 1) homes

abbrev pub shape_text : Schema → List ℕ
shape_text S = lines_from S 1 S.homes
