-- The definitions on worked rows.
use Rattle.std.proofs.Common.{ℕ, ◌≡◌, List, [], ◌∷◌, ◌++◌, Some, None, true, false, map, refl}
use Rattle.std.specs.Prelude.{pos, negsuc, not, replicate, codes}
use Rattle.std.specs.Fmt.{digits}
use Rattle.std.specs.List.{flat_map, list_all}
use Rattle.type_layout.specs.declared.home.HomeNo.{HomeNo}
use Rattle.type_layout.specs.declared.schema.Schema.{Schema}
use Rattle.type_layout.specs.Types.{PlainType, Short, Long, LongLong, UShort, ULong, ULongLong, Char, Boolean, Octet, Str, Seq, Arr, Struct, Enum, RefTo, no_fields, field_and, PlainValue, Int, Character, Truth, Ordinal, Text, Items, Parts, Ref, PlainValues, no_values, value_and, PlainMember}
use Rattle.type_layout.specs.Testing.{is_of}
use Rattle.type_layout.specs.Defaults.{copies, default}
use Rattle.type_layout.specs.People.{home_1, key_0, person, people, ann}
use Rattle.type_layout.specs.Spelling.{record_spelling}
use Rattle.type_layout.specs.Schemas.{descends}
use Rattle.type_layout.specs.Keys.{part_at, key_bytes}
use Rattle.type_layout.specs.ShapeText.{shape_text}

abbrev home_2 : HomeNo
home_2 = record { 0 = 2 }

abbrev home_3 : HomeNo
home_3 = record { 0 = 3 }

abbrev member : List ℕ → PlainType → PlainMember
member name type = record { name = name; type = type; readonly = false }

-- (1, "ab", TRUE)
mixed : record_spelling (member [] Long ∷ member [] (Str 0) ∷ member [] Boolean ∷ []) (Int (pos 1) ∷ Text (97 ∷ 98 ∷ []) ∷ Truth true ∷ [])
    ≡ 0 ∷ 0 ∷ 0 ∷ 0 ∷ 0 ∷ 0 ∷ 0 ∷ 1 ∷ 0 ∷ 0 ∷ 0 ∷ 3 ∷ 97 ∷ 98 ∷ 0 ∷ 1 ∷ []
mixed = refl

-- (5, 7) of octet and long long
padded : record_spelling (member [] Octet ∷ member [] LongLong ∷ []) (Int (pos 5) ∷ Int (pos 7) ∷ [])
    ≡ 0 ∷ 5 ∷ 0 ∷ 0 ∷ 0 ∷ 0 ∷ 0 ∷ 0 ∷ 0 ∷ 0 ∷ 0 ∷ 0 ∷ 0 ∷ 0 ∷ 0 ∷ 7 ∷ []
padded = refl

-- a member of each type that a key may have, and a value of it
abbrev keyed : List PlainMember
keyed =
    member [] Short ∷ member [] Long ∷ member [] LongLong ∷ member [] UShort ∷ member [] ULong ∷ member [] ULongLong
    ∷ member [] Octet ∷ member [] Char ∷ member [] Boolean ∷ member [] (Str 0) ∷ member [] (Enum (codes "red" ∷ codes "green" ∷ [])) ∷ []

abbrev key_values : List PlainValue
key_values =
    Int (negsuc 1) ∷ Int (pos 258) ∷ Int (negsuc 255) ∷ Int (pos 65535) ∷ Int (pos 4294967294) ∷ Int (pos 1)
    ∷ Int (pos 200) ∷ Character 65 ∷ Truth true ∷ Text (codes "ab") ∷ Ordinal 1 ∷ []

numbers_of_a_key : flat_map (part_at keyed key_values) (0 ∷ 1 ∷ 2 ∷ 3 ∷ 4 ∷ 5 ∷ [])
    ≡ 255 ∷ 254 ∷ 0 ∷ 0 ∷ 1 ∷ 2 ∷ 255 ∷ 255 ∷ 255 ∷ 255 ∷ 255 ∷ 255 ∷ 255 ∷ 0 ∷ 255 ∷ 255 ∷ 255 ∷ 255 ∷ 255 ∷ 254 ∷ 0 ∷ 0 ∷ 0 ∷ 0 ∷ 0 ∷ 0 ∷ 0 ∷ 1 ∷ []
numbers_of_a_key = refl

others_of_a_key : flat_map (part_at keyed key_values) (10 ∷ 9 ∷ 8 ∷ 7 ∷ 6 ∷ [])
    ≡ 0 ∷ 0 ∷ 0 ∷ 1 ∷ 0 ∷ 0 ∷ 0 ∷ 2 ∷ 97 ∷ 98 ∷ 1 ∷ 65 ∷ 200 ∷ []
others_of_a_key = refl

-- ---- people, whose bosses are people

-- ("1", "Ann", nil)
of_ann : record_spelling person ann
    ≡ 0 ∷ 0 ∷ 0 ∷ 0 ∷ 0 ∷ 0 ∷ 0 ∷ 2 ∷ 49 ∷ 0 ∷ 0 ∷ 0 ∷ 0 ∷ 0 ∷ 0 ∷ 4 ∷ 65 ∷ 110 ∷ 110 ∷ 0 ∷ 0 ∷ 0 ∷ 0 ∷ 0 ∷ 0 ∷ 0 ∷ 0 ∷ 0 ∷ 0 ∷ 0 ∷ 0 ∷ 0 ∷ []
of_ann = refl

key_of_ann : key_bytes people key_0 ann ≡ 0 ∷ 0 ∷ 0 ∷ 1 ∷ 49 ∷ []
key_of_ann = refl

shape_of_people : shape_text people
    ≡ codes "home 1 0 PersonHomeBase" ++ 10 ∷ [] ++ codes "member ssn string" ++ 10 ∷ [] ++ codes "member name string" ++ 10 ∷ [] ++ codes "member boss ref(1)" ++ 10 ∷ [] ++ codes "key ssn 1 0" ++ 10 ∷ []
unfolding digits
shape_of_people = refl

descends_from_itself : descends people home_1 home_1 ≡ true
descends_from_itself = refl

descends_from_no_other : descends people home_1 home_2 ≡ false
descends_from_no_other = refl

-- ---- the values of types

abbrev pair_of : PlainType → PlainType
pair_of y = Struct (field_and (codes "x") Short (field_and (codes "y") y no_fields))

-- so many times a number
abbrev numbers : ℕ → ℕ → PlainValues
numbers n k = copies n (Int (pos k))

abbrev colours : PlainType
colours = Enum (codes "red" ∷ codes "green" ∷ [])

abbrev bosses : PlainType
bosses = RefTo (home_1 ∷ home_3 ∷ [])

abbrev pid : ℕ → ℕ → PlainValue
pid home serial = Ref (Some (record { home = home; serial = serial }))

abbrev of_their_type : List (PlainType × PlainValue)
of_their_type =
    (Short, Int (negsuc 32767)) ∷ (Short, Int (pos 32767))
    ∷ (Long, Int (negsuc 2147483647)) ∷ (Long, Int (pos 2147483647))
    ∷ (LongLong, Int (negsuc 9223372036854775807)) ∷ (LongLong, Int (pos 9223372036854775807))
    ∷ (UShort, Int (pos 0)) ∷ (UShort, Int (pos 65535))
    ∷ (ULong, Int (pos 0)) ∷ (ULong, Int (pos 4294967295))
    ∷ (ULongLong, Int (pos 0)) ∷ (ULongLong, Int (pos 18446744073709551615))
    ∷ (Octet, Int (pos 0)) ∷ (Octet, Int (pos 255))
    ∷ (Str 2, Text (codes "ab")) ∷ (Str 0, Text (codes "abc")) ∷ (Str 1, Text (255 ∷ []))
    ∷ (Seq Octet 2, Items (numbers 2 255)) ∷ (Seq Octet 0, Items (numbers 3 255)) ∷ (Arr Short 2, Items (numbers 2 7))
    ∷ (pair_of Short, Parts (numbers 2 1))
    ∷ (bosses, pid 3 1) ∷ (bosses, pid 1 9) ∷ (bosses, Ref None)
    ∷ (colours, Ordinal 1) ∷ (Char, Character 255) ∷ (Boolean, Truth false) ∷ []

are_of_their_type : list_all (λ r. is_of r.0 r.1) of_their_type ≡ true
are_of_their_type = refl

abbrev not_of_their_type : List (PlainType × PlainValue)
not_of_their_type =
    (Short, Int (negsuc 32768)) ∷ (Short, Int (pos 32768)) ∷ (Short, Truth true)
    ∷ (Long, Int (negsuc 2147483648)) ∷ (Long, Int (pos 2147483648)) ∷ (Long, Truth true)
    ∷ (LongLong, Int (negsuc 9223372036854775808)) ∷ (LongLong, Int (pos 9223372036854775808)) ∷ (LongLong, Truth true)
    ∷ (UShort, Int (negsuc 0)) ∷ (UShort, Int (pos 65536)) ∷ (UShort, Truth true)
    ∷ (ULong, Int (negsuc 0)) ∷ (ULong, Int (pos 4294967296)) ∷ (ULong, Truth true)
    ∷ (ULongLong, Int (negsuc 0)) ∷ (ULongLong, Int (pos 18446744073709551616)) ∷ (ULongLong, Truth true)
    ∷ (Octet, Int (negsuc 0)) ∷ (Octet, Int (pos 256)) ∷ (Octet, Truth true)
    ∷ (Str 2, Text (codes "abc")) ∷ (Str 2, Text (97 ∷ 0 ∷ [])) ∷ (Str 0, Text (0 ∷ [])) ∷ (Str 0, Text (256 ∷ []))
    ∷ (Seq Octet 2, Items (numbers 3 255)) ∷ (Seq Octet 2, Items (numbers 1 256)) ∷ (Arr Short 2, Items (numbers 1 7)) ∷ (Arr Short 2, Items (numbers 3 7))
    ∷ (pair_of Short, Parts (numbers 1 1)) ∷ (pair_of Short, Parts (numbers 3 1)) ∷ (pair_of Short, Items (numbers 2 1))
    ∷ (bosses, pid 2 1) ∷ (bosses, pid 3 0)
    ∷ (colours, Ordinal 2) ∷ (Char, Int (pos 65)) ∷ []

are_not_of_their_type : list_all (λ r. not (is_of r.0 r.1)) not_of_their_type ≡ true
are_not_of_their_type = refl

-- ---- defaults

defaults_of_numbers : map default (Short ∷ Long ∷ LongLong ∷ UShort ∷ ULong ∷ ULongLong ∷ Octet ∷ []) ≡ replicate 7 (Int (pos 0))
defaults_of_numbers = refl

defaults_of_others : map default (Char ∷ Boolean ∷ Str 9 ∷ colours ∷ bosses ∷ Seq Long 0 ∷ Arr Long 3 ∷ pair_of Boolean ∷ [])
    ≡ Character 0 ∷ Truth false ∷ Text [] ∷ Ordinal 0 ∷ Ref None ∷ Items no_values ∷ Items (numbers 3 0) ∷ Parts (value_and (Int (pos 0)) (value_and (Truth false) no_values)) ∷ []
defaults_of_others = refl

-- ---- a base, and a home that derives from it and has a member of each type

abbrev named : List ℕ → PlainType → PlainMember
named name type = record { name = name; type = type; readonly = false }

abbrev base_members : List PlainMember
base_members = named (codes "a") Short ∷ named (codes "b") Long ∷ []

abbrev all_members : List PlainMember
all_members =
    base_members
    ++ named (codes "c") LongLong ∷ named (codes "d") UShort ∷ named (codes "e") ULong ∷ named (codes "f") ULongLong ∷ named (codes "g") Char ∷ named (codes "h") Boolean ∷ named (codes "i") Octet
    ∷ named (codes "j") (Str 40) ∷ named (codes "k") (Seq Long 0) ∷ named (codes "l") (Seq (Str 0) 5) ∷ named (codes "m") (Arr (Arr Octet 3) 2) ∷ named (codes "n") (pair_of (pair_of Octet))
    ∷ named (codes "o") colours ∷ named (codes "p") (RefTo (home_1 ∷ home_2 ∷ [])) ∷ []

abbrev every_type : Schema
every_type = record {
  homes =
      record { name = codes "M::Base"; base = None; layout = record { members = base_members }; keys = key_0 ∷ []; factories = [] }
      ∷ record { name = codes "Derived"; base = Some home_1; layout = record { members = all_members }; keys = key_0 ∷ record { 0 = 1 } ∷ []; factories = [] }
      ∷ [];
  keys = record { name = codes "first"; home = home_1; members = 1 ∷ 0 ∷ [] } ∷ record { name = codes "second"; home = home_2; members = 9 ∷ [] } ∷ [];
  provided = [];
}

abbrev line : List ℕ → List ℕ
line text = text ++ 10 ∷ []

shape_of_every_type : shape_text every_type
    ≡ flat_map line
    (codes "home 1 0 M::Base" ∷ codes "member a short" ∷ codes "member b long" ∷ codes "key first 1 1,0"
    ∷ codes "home 2 1 Derived" ∷ codes "member a short" ∷ codes "member b long" ∷ codes "member c longlong" ∷ codes "member d ushort" ∷ codes "member e ulong" ∷ codes "member f ulonglong"
    ∷ codes "member g char" ∷ codes "member h boolean" ∷ codes "member i octet" ∷ codes "member j string<40>" ∷ codes "member k seq(long)" ∷ codes "member l seq(string,5)"
    ∷ codes "member m arr(arr(octet,3),2)" ∷ codes "member n struct(x:short,y:struct(x:short,y:octet))" ∷ codes "member o enum(red,green)" ∷ codes "member p ref(1,2)"
    ∷ codes "key first 1 1,0" ∷ codes "key second 2 9" ∷ [])
unfolding digits
shape_of_every_type = refl

derived : descends every_type home_2 home_1 ≡ true
derived = refl

not_derived : descends every_type home_1 home_2 ≡ false
not_derived = refl
