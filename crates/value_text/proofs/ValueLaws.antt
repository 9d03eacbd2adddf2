-- What the reader of each type owes to its values.
use Rattle.std.proofs.Common.{◌≡◌, ℕ, List, [], ◌∷◌, refl, arith, ℤ}
use Rattle.std.proofs.lemmas.Int.{ints}
use Rattle.type_layout.specs.Types.{PlainType, Short, Long, LongLong, UShort, ULong, ULongLong, Char, Boolean, Octet, Str, Seq, Arr, Struct, Enum, RefTo, PlainFields, no_fields, field_and, PlainValue, Int, Items, PlainValues, no_values, value_and}
use Rattle.type_layout.specs.Values.{Of, EachOf}
use Rattle.type_layout.specs.Sound.{IsSound, AreSound}
use Rattle.value_text.specs.Words.{IsNumber}
use Rattle.value_text.specs.Texts.{EachWritten, WritesItems, Writes, Spells}
use Rattle.value_text.specs.Reading.{character_at, string_at, items_at, value_at, fields_at, more_fields_at}
use Rattle.value_text.proofs.Owing.{Takes, Reads}
use Rattle.value_text.proofs.WordLaws.{IsNarrow, number_takes, number_reads, truth_takes, truth_reads, enumerator_takes, enumerator_reads, no_name_is_empty, reference_takes, reference_reads}
use Rattle.value_text.proofs.QuoteLaws.{character_takes, character_reads, string_takes, string_reads}
use Rattle.value_text.proofs.ListLaws.{list_takes, list_reads, IsClosed, MoreFieldsIn, FieldsIn, no_more_fields_take, more_field_takes, no_fields_take, field_takes, struct_takes, MoreFieldsSpelled, FieldsSpelled, no_more_fields_read, more_field_reads, no_fields_read, field_reads, struct_reads}

mutual
  unfolding value_at

  pub value_takes : (t : PlainType) → Takes (value_at t) (Writes t)
  value_takes Short = number_takes (Writes Short) (λ z text w. w)
  value_takes Long = number_takes (Writes Long) (λ z text w. w)
  value_takes LongLong = number_takes (Writes LongLong) (λ z text w. w)
  value_takes UShort = number_takes (Writes UShort) (λ z text w. w)
  value_takes ULong = number_takes (Writes ULong) (λ z text w. w)
  value_takes ULongLong = number_takes (Writes ULongLong) (λ z text w. w)
  value_takes Char = character_takes
  value_takes Boolean = truth_takes
  value_takes Octet = number_takes (Writes Octet) (λ z text w. w)
  value_takes (Str bound) = string_takes bound
  value_takes (Seq item bound) = list_takes (value_at item) (Writes item) (Writes (Seq item bound)) (λ vs text w. w) (value_takes item)
  value_takes (Arr item n) = list_takes (value_at item) (Writes item) (Writes (Arr item n)) (λ vs text w. w) (value_takes item)
  value_takes (Struct fields) = struct_takes fields (fields_take fields)
  value_takes (Enum names) = enumerator_takes names
  value_takes (RefTo homes) = reference_takes homes

  fields_take : (fields : PlainFields) → Takes (fields_at fields) (FieldsIn fields)
  fields_take no_fields = no_fields_take
  fields_take (field_and name t fields) = field_takes name t fields (value_takes t) (more_fields_take fields)

  more_fields_take : (fields : PlainFields) → Takes (more_fields_at fields) (MoreFieldsIn fields)
  more_fields_take no_fields = no_more_fields_take
  more_fields_take (field_and name t fields) = more_field_takes name t fields (value_takes t) (more_fields_take fields)

-- ---- and back

short_from : (v : PlainValue) (text : List ℕ) → Spells Short v text → (z : ℤ) × (v ≡ Int z) × IsNumber z text × IsNarrow z
short_from (Int z) text w = (z, refl, w.1, (omega (arith, ints, w.0), omega (arith, ints, w.0)))
short_from _ text w = absurd w.0

long_from : (v : PlainValue) (text : List ℕ) → Spells Long v text → (z : ℤ) × (v ≡ Int z) × IsNumber z text × IsNarrow z
long_from (Int z) text w = (z, refl, w.1, (omega (arith, ints, w.0), omega (arith, ints, w.0)))
long_from _ text w = absurd w.0

long_long_from : (v : PlainValue) (text : List ℕ) → Spells LongLong v text → (z : ℤ) × (v ≡ Int z) × IsNumber z text × IsNarrow z
long_long_from (Int z) text w = (z, refl, w.1, (omega (arith, ints, w.0), omega (arith, ints, w.0)))
long_long_from _ text w = absurd w.0

ushort_from : (v : PlainValue) (text : List ℕ) → Spells UShort v text → (z : ℤ) × (v ≡ Int z) × IsNumber z text × IsNarrow z
ushort_from (Int z) text w = (z, refl, w.1, (omega (arith, ints, w.0), omega (arith, ints, w.0)))
ushort_from _ text w = absurd w.0

ulong_from : (v : PlainValue) (text : List ℕ) → Spells ULong v text → (z : ℤ) × (v ≡ Int z) × IsNumber z text × IsNarrow z
ulong_from (Int z) text w = (z, refl, w.1, (omega (arith, ints, w.0), omega (arith, ints, w.0)))
ulong_from _ text w = absurd w.0

ulong_long_from : (v : PlainValue) (text : List ℕ) → Spells ULongLong v text → (z : ℤ) × (v ≡ Int z) × IsNumber z text × IsNarrow z
ulong_long_from (Int z) text w = (z, refl, w.1, (omega (arith, ints, w.0), omega (arith, ints, w.0)))
ulong_long_from _ text w = absurd w.0

octet_from : (v : PlainValue) (text : List ℕ) → Spells Octet v text → (z : ℤ) × (v ≡ Int z) × IsNumber z text × IsNarrow z
octet_from (Int z) text w = (z, refl, w.1, (omega (arith, ints, w.0), omega (arith, ints, w.0)))
octet_from _ text w = absurd w.0

-- items of a type, with their texts
each_spelled : (t : PlainType) (vs : PlainValues) (texts : List (List ℕ)) → EachOf (Of t) vs → EachWritten (Writes t) vs texts → EachWritten (Spells t) vs texts
each_spelled t no_values [] of w = tt
each_spelled t no_values (u ∷ us) of w = absurd w
each_spelled t (value_and v vs) [] of w = absurd w
each_spelled t (value_and v vs) (u ∷ us) of w = ((of.0, w.0), each_spelled t vs us of.1 w.1)

sequence_from : (item : PlainType) (bound : ℕ) (x : PlainValue) (text : List ℕ) → Spells (Seq item bound) x text → (vs : PlainValues) × (x ≡ Items vs) × WritesItems (Spells item) vs text
sequence_from item bound (Items vs) text w = (vs, refl, (w.1.0, each_spelled item vs w.1.0 w.0.0 w.1.1, w.1.2))
sequence_from item bound _ text w = absurd w.0

array_from : (item : PlainType) (n : ℕ) (x : PlainValue) (text : List ℕ) → Spells (Arr item n) x text → (vs : PlainValues) × (x ≡ Items vs) × WritesItems (Spells item) vs text
array_from item n (Items vs) text w = (vs, refl, (w.1.0, each_spelled item vs w.1.0 w.0.0 w.1.1, w.1.2))
array_from item n _ text w = absurd w.0

-- no value begins with `]`
closed : (t : PlainType) → IsSound t → IsClosed (value_at t)
unfolding value_at character_at string_at items_at
closed Short sound rest = refl
closed Long sound rest = refl
closed LongLong sound rest = refl
closed UShort sound rest = refl
closed ULong sound rest = refl
closed ULongLong sound rest = refl
closed Char sound rest = refl
closed Boolean sound rest = refl
closed Octet sound rest = refl
closed (Str bound) sound rest = refl
closed (Seq item bound) sound rest = refl
closed (Arr item n) sound rest = refl
closed (Struct fields) sound rest = refl
closed (Enum names) sound rest = rw (no_name_is_empty names sound.2) refl
closed (RefTo homes) sound rest = refl

mutual
  unfolding value_at

  pub value_reads : (t : PlainType) → IsSound t → Reads (value_at t) (Spells t)
  value_reads Short sound = number_reads (Spells Short) short_from
  value_reads Long sound = number_reads (Spells Long) long_from
  value_reads LongLong sound = number_reads (Spells LongLong) long_long_from
  value_reads UShort sound = number_reads (Spells UShort) ushort_from
  value_reads ULong sound = number_reads (Spells ULong) ulong_from
  value_reads ULongLong sound = number_reads (Spells ULongLong) ulong_long_from
  value_reads Char sound = λ x front rest w ends. character_reads x front rest w
  value_reads Boolean sound = truth_reads
  value_reads Octet sound = number_reads (Spells Octet) octet_from
  value_reads (Str bound) sound = λ x front rest w ends. string_reads bound x front rest w
  value_reads (Seq item bound) sound = list_reads (value_at item) (Spells item) (Spells (Seq item bound)) (sequence_from item bound) (value_reads item sound) (closed item sound)
  value_reads (Arr item n) sound = list_reads (value_at item) (Spells item) (Spells (Arr item n)) (array_from item n) (value_reads item sound.2) (closed item sound.2)
  value_reads (Struct fields) sound = struct_reads fields (fields_read fields sound.1)
  value_reads (Enum names) sound = enumerator_reads names sound
  value_reads (RefTo homes) sound = reference_reads homes

  fields_read : (fields : PlainFields) → AreSound fields → Reads (fields_at fields) (FieldsSpelled fields)
  fields_read no_fields sound = no_fields_read
  fields_read (field_and name t fields) sound = field_reads name t fields (value_reads t sound.0) (more_fields_read fields sound.1)

  more_fields_read : (fields : PlainFields) → AreSound fields → Reads (more_fields_at fields) (MoreFieldsSpelled fields)
  more_fields_read no_fields sound = no_more_fields_read
  more_fields_read (field_and name t fields) sound = more_field_reads name t fields (value_reads t sound.0) (more_fields_read fields sound.1)
