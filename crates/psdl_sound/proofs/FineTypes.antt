-- Types that are sound where their texts are short, and whose references lead to no home beyond a number.
use Rattle.std.proofs.Common.{◌≡◌, ℕ, ◌+◌, ◌^◌, ◌<◌, ◌≤◌, List, [], ◌∷◌, ◌++◌, length, Bool, true, false, IsTrue, arith, length-append}
use Rattle.std.specs.Prelude.{codes, nat_le}
use Rattle.std.specs.Fmt.{decimal}
use Rattle.std.specs.List.{flat_map, list_all}
use Rattle.std.specs.Str.{bytes_eq}
use Rattle.psdl_tree.specs.declared.types.IntegerSize.{IntegerSize}
use Rattle.psdl_tree.specs.declared.types.IntegerSize.TheVariants as sizes
use Rattle.type_layout.specs.declared.home.HomeNo.{HomeNo}
use Rattle.type_layout.specs.ShapeText.{listed, bound_text, type_text, field_texts}
use Rattle.type_layout.specs.Sound.{are_distinct, is_name, Rise, HasField, IsSound, AreSound, StaysWithin, StayWithin}
use Rattle.type_layout.specs.Types.{PlainType, Seq, Arr, Struct, Enum, RefTo, PlainFields, no_fields, field_and}
use Rattle.psdl_standings.specs.Standings.{type_by_sign}
use Rattle.psdl_check.proofs.ComposedTypes.{IsHandedOn}

-- of a type
pub record IsFine (most : ℕ) (t : PlainType) : Type 0 where
  pub sound : length (type_text t) < 2 ^ 32 → IsSound t
  pub stays : StaysWithin most t

-- texts, each behind a comma
abbrev with_commas : List (List ℕ) → List ℕ
with_commas texts = flat_map (λ u. codes "," ++ u) texts

-- of a struct's fields
pub record AreFine (most : ℕ) (fs : PlainFields) : Type 0 where
  pub all_sound : length (with_commas (field_texts fs)) < 2 ^ 32 → AreSound fs
  pub all_stay : StayWithin most fs

-- ---- lengths

length_inside : (a t b : List ℕ) → length (a ++ t ++ b) ≡ length a + length t + length b
length_inside a t b = omega (arith, length-append (a ++ t) b, length-append a t)

-- the text of a sequence has that of its items
item_shorter : (item : PlainType) (bound : ℕ) → length (type_text item) ≤ length (type_text (Seq item bound))
item_shorter item bound =
    omega (arith, length_inside (codes "seq(") (type_text item) (bound_text bound), length-append (codes "seq(" ++ type_text item ++ bound_text bound) (codes ")"))

-- the text of an array has that of its elements
element_shorter : (item : PlainType) (count : ℕ) → length (type_text item) ≤ length (type_text (Arr item count))
element_shorter item count =
    omega (
      arith,
      length_inside (codes "arr(") (type_text item) (codes ","),
      length-append (codes "arr(" ++ type_text item ++ codes ",") (decimal count),
      length-append (codes "arr(" ++ type_text item ++ codes "," ++ decimal count) (codes ")"),
    )

as_many_commas : (texts : List (List ℕ)) → length texts ≤ length (with_commas texts)
as_many_commas [] = omega arith
as_many_commas (t ∷ ts) = omega (arith, as_many_commas ts, length-append (codes "," ++ t) (with_commas ts))

few_listed : (texts : List (List ℕ)) → length texts ≤ length (listed texts) + 1
few_listed [] = omega arith
few_listed (t ∷ ts) = omega (arith, as_many_commas ts, length-append t (with_commas ts))

names_fewer : (names : List (List ℕ)) → length names ≤ length (type_text (Enum names))
names_fewer names = omega (arith, few_listed names, length_inside (codes "enum(") (listed names) (codes ")"))

fields_shorter : (fs : PlainFields) → HasField fs → length (with_commas (field_texts fs)) ≤ length (type_text (Struct fs))
fields_shorter no_fields h = absurd h
fields_shorter (field_and name type fs) h =
    let text : List ℕ = name ++ codes ":" ++ type_text type in
    omega (
      arith,
      length_inside (codes "struct(") (listed (field_texts (field_and name type fs))) (codes ")"),
      length-append text (with_commas (field_texts fs)),
      length-append (codes "," ++ text) (with_commas (field_texts fs)),
    )

-- ---- types with parts

-- a sequence of what is fine
sequence_fine : (most : ℕ) (item : PlainType) (bound : ℕ) → IsFine most item → IsFine most (Seq item bound)
sequence_fine most item bound fine = record { sound = λ short. fine.sound (omega (arith, short, item_shorter item bound)); stays = fine.stays }

-- an array of what is fine, with a dimension that is in range
array_fine : (most : ℕ) (item : PlainType) (count : ℕ) → 0 < count → count < 2 ^ 16 → IsFine most item → IsFine most (Arr item count)
array_fine most item count some few fine = record { sound = λ short. (some, few, fine.sound (omega (arith, short, element_shorter item count))); stays = fine.stays }

-- no fields
no_fields_fine : (most : ℕ) → AreFine most no_fields
no_fields_fine most = record { all_sound = λ short. tt; all_stay = tt }

-- a field in front of others
field_fine : (most : ℕ) (name : List ℕ) (type : PlainType) (fs : PlainFields) → IsFine most type → AreFine most fs → AreFine most (field_and name type fs)
field_fine most name type fs fine others =
    let text : List ℕ = name ++ codes ":" ++ type_text type in
    let whole : length (with_commas (field_texts (field_and name type fs))) ≡ 1 + (length text + length (with_commas (field_texts fs))) =
    omega (arith, length-append (codes "," ++ text) (with_commas (field_texts fs))) in
    let own : length (type_text type) ≤ length text = omega (arith, length-append (name ++ codes ":") (type_text type)) in
    record {
      all_sound = λ short. (fine.sound (omega (arith, short, whole, own)), others.all_sound (omega (arith, short, whole)));
      all_stay = (fine.stays, others.all_stay);
    }

-- a struct with a field
struct_fine : (most : ℕ) (fs : PlainFields) → HasField fs → AreFine most fs → IsFine most (Struct fs)
struct_fine most fs some fine = record { sound = λ short. (some, fine.all_sound (omega (arith, short, fields_shorter fs some))); stays = fine.all_stay }

integer_fine : (most : ℕ) (unsigned : Bool) (size : IntegerSize) → IsFine most (type_by_sign unsigned size)
integer_fine most true sizes.Short = record { sound = λ short. tt; stays = tt }
integer_fine most true sizes.Long = record { sound = λ short. tt; stays = tt }
integer_fine most true sizes.LongLong = record { sound = λ short. tt; stays = tt }
integer_fine most false sizes.Short = record { sound = λ short. tt; stays = tt }
integer_fine most false sizes.Long = record { sound = λ short. tt; stays = tt }
integer_fine most false sizes.LongLong = record { sound = λ short. tt; stays = tt }

-- what has fine parts is fine
pub fine_handed_on : (most : ℕ) → IsHandedOn (IsFine most) (AreFine most)
fine_handed_on most = record {
  integer = λ i. integer_fine most i.unsigned i.size;
  char = record { sound = λ short. tt; stays = tt };
  boolean = record { sound = λ short. tt; stays = tt };
  octet = record { sound = λ short. tt; stays = tt };
  string = λ bound le. record { sound = λ short. tt; stays = tt };
  sequence = λ item bound le fine. sequence_fine most item bound fine;
  array = λ item count size fine. array_fine most item count size.0 (omega (arith, size.1)) fine;
  none = no_fields_fine most;
  field = λ name type fields fine others. field_fine most name type fields fine others;
  struct = λ fields some fine. struct_fine most fields some fine;
}

-- ---- types without parts

-- an enumeration of names, no two of them equal
pub enumeration_fine : (most : ℕ) (names : List (List ℕ)) → 0 < length names → IsTrue (list_all is_name names) → IsTrue (are_distinct bytes_eq names) → IsFine most (Enum names)
enumeration_fine most names some are apart = record { sound = λ short. (some, omega (arith, short, names_fewer names), are, apart); stays = tt }

-- a reference to homes that rise up to the number
pub reference_fine : (most : ℕ) (homes : List HomeNo) → Rise 0 homes → IsTrue (list_all (λ h. nat_le h.0 most) homes) → IsFine most (RefTo homes)
reference_fine most homes rise low = record { sound = λ short. rise; stays = low }
