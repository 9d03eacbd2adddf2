-- Which texts are spellings of a value, and where one stands in a line.
use Rattle.std.specs.Prelude.{ℕ, ◌≡◌, ◌≤◌, ◌-◌, List, [], ◌∷◌, ◌++◌, length, take, drop, Some, Bool, true, IsTrue}
use Rattle.std.specs.List.{slice_get, flat_map}
use Rattle.pss_base.specs.Blanks.{is_blank}
use Rattle.type_layout.specs.Types.{PlainType, Short, Long, LongLong, UShort, ULong, ULongLong, Char, Boolean, Octet, Str, Seq, Arr, Struct, Enum, RefTo, PlainFields, no_fields, field_and, PlainValue, Int, Character, Truth, Ordinal, Text, Items, Parts, Ref, PlainValues, no_values, value_and}
use Rattle.type_layout.specs.Values.{Of}
use Rattle.type_layout.specs.ShapeText.{listed}
use Rattle.value_text.specs.Words.{IsNumber, truth_text, IsReference}
use Rattle.value_text.specs.Letters.{SpellsByte, SpellBytes}

-- texts one behind the other
abbrev pub joined : List (List ℕ) → List ℕ
joined texts = flat_map (λ t. t) texts

-- as many texts as values, each writing its value
abbrev pub EachWritten : (PlainValue → List ℕ → Type 0) → PlainValues → List (List ℕ) → Type 0
EachWritten W no_values [] = Unit {0}
EachWritten W (value_and v vs) (t ∷ ts) = W v t × EachWritten W vs ts
EachWritten W _ _ = ⊥

-- values in `[` and `]`, with a comma between them
abbrev pub WritesItems : (PlainValue → List ℕ → Type 0) → PlainValues → List ℕ → Type 0
WritesItems W vs text = (texts : List (List ℕ)) × EachWritten W vs texts × (text ≡ 91 ∷ (listed texts ++ 93 ∷ []))

abbrev mutual
  -- the text writes the value as one of the type, whether or not the type has it
  pub Writes : PlainType → PlainValue → List ℕ → Type 0
  Writes Short (Int z) text = IsNumber z text
  Writes Long (Int z) text = IsNumber z text
  Writes LongLong (Int z) text = IsNumber z text
  Writes UShort (Int z) text = IsNumber z text
  Writes ULong (Int z) text = IsNumber z text
  Writes ULongLong (Int z) text = IsNumber z text
  Writes Char (Character c) text = (piece : List ℕ) × SpellsByte 39 c piece × (text ≡ 39 ∷ (piece ++ 39 ∷ []))
  Writes Boolean (Truth b) text = text ≡ truth_text b
  Writes Octet (Int z) text = IsNumber z text
  Writes (Str bound) (Text bytes) text = (pieces : List (List ℕ)) × SpellBytes 34 bytes pieces × (text ≡ 34 ∷ (joined pieces ++ 34 ∷ []))
  Writes (Seq item bound) (Items vs) text = WritesItems (Writes item) vs text
  Writes (Arr item n) (Items vs) text = WritesItems (Writes item) vs text
  Writes (Struct fields) (Parts vs) text = (texts : List (List ℕ)) × FieldsWritten fields vs texts × (text ≡ 123 ∷ (listed texts ++ 125 ∷ []))
  Writes (Enum names) (Ordinal n) text = slice_get names n ≡ Some text
  Writes (RefTo homes) (Ref pid) text = IsReference pid text
  Writes _ _ text = ⊥

  -- as many texts as fields and values, each writing its value
  pub FieldsWritten : PlainFields → PlainValues → List (List ℕ) → Type 0
  FieldsWritten no_fields no_values [] = Unit {0}
  FieldsWritten (field_and name type fields) (value_and v vs) (t ∷ ts) = Writes type v t × FieldsWritten fields vs ts
  FieldsWritten _ _ _ = ⊥

-- the text is a spelling of a value that the type has
abbrev pub Spells : PlainType → PlainValue → List ℕ → Type 0
Spells type value text = Of type value × Writes type value text

-- nothing follows, or a blank does
abbrev pub is_at_end : List ℕ → Bool
is_at_end [] = true
is_at_end (b ∷ rest) = is_blank b

-- from one place up to another, which is a blank or the text's end, stands a spelling of the value
pub record Stands (type : PlainType) (text : List ℕ) (at : ℕ) (value : PlainValue) (end : ℕ) : Type 0 where
  pub begins : at ≤ end
  pub within : end ≤ length text
  pub ends : IsTrue (is_at_end (drop end text))
  pub spells : Spells type value (take (end - at) (drop at text))
