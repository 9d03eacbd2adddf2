-- The spelling of records, on layouts and records whose octets another program made: a CORBA ORB, omniORB 4.2.
use Rattle.std.proofs.Common.{ℕ, zero, suc, ◌+◌, ◌*◌, ◌≡◌, List, [], ◌∷◌, map, Bool, true, false, Some, None, refl, nat_eq}
use Rattle.std.specs.Prelude.{pos, negsuc, ◌&&◌}
use Rattle.type_layout.specs.Types.{PlainType, Short, Long, LongLong, UShort, ULong, ULongLong, Char, Boolean, Octet, Str, Seq, Arr, Struct, Enum, RefTo, no_fields, field_and, PlainValue, Int, Character, Truth, Ordinal, Text, Items, Parts, Ref, no_values, value_and, PlainMember}
use Rattle.type_layout.specs.Spelling.{record_spelling}

-- the octets are one number to the base 256, behind a 1
record Case : Type 0 where
  types : List PlainType
  values : List PlainValue
  octets : ℕ

number_of : ℕ → List ℕ → ℕ
number_of n [] = n
number_of n (b ∷ bs) = number_of (n * 256 + b) bs

member : PlainType → PlainMember
member type = record { name = []; type = type; readonly = false }

names : ℕ → List (List ℕ)
names zero = []
names (suc n) = [] ∷ names n

is_spelled : Case → Bool
is_spelled c = nat_eq (number_of 1 (record_spelling (map member c.types) c.values)) c.octets

are_spelled : List Case → Bool
are_spelled [] = true
are_spelled (c ∷ cs) = is_spelled c && are_spelled cs

cases : List Case
cases =
    record { types = (Struct (field_and [] Octet (field_and [] (Struct (field_and [] Char no_fields)) no_fields))) ∷ (Str 0) ∷ (Arr Boolean 1) ∷ Short ∷ (Enum (names 1)) ∷ (Seq (Seq (Str 8) 0) 9) ∷ Boolean ∷ (Seq UShort 0) ∷ []; values = (Parts (value_and (Int (pos 0)) (value_and (Parts (value_and (Character 127) no_values)) no_values))) ∷ (Text (89 ∷ 87 ∷ 77 ∷ 75 ∷ 205 ∷ 163 ∷ [])) ∷ (Items (value_and (Truth true) no_values)) ∷ (Int (negsuc 17891)) ∷ (Ordinal 0) ∷ (Items no_values) ∷ (Truth false) ∷ (Items no_values) ∷ []; octets = 0x100007f000000000759574d4bcda30001ba1c000000000000000000000000000000000000 } ∷
    record { types = LongLong ∷ UShort ∷ Octet ∷ Octet ∷ Long ∷ (RefTo []) ∷ ULongLong ∷ ULong ∷ []; values = (Int (negsuc 1157998766410740173)) ∷ (Int (pos 65535)) ∷ (Int (pos 1)) ∷ (Int (pos 255)) ∷ (Int (pos 0)) ∷ (Ref (Some (record { home = 1; serial = 18446744073709551615 }))) ∷ (Int (pos 18446744073709551615)) ∷ (Int (pos 2764047325)) ∷ []; octets = 0x10000000000000000efedf641ddbf4e32ffff01ff000000000000000100000000ffffffffffffffffffffffffffffffffa4c003dd } ∷
    record { types = (Arr (Arr (Seq UShort 1) 1) 1) ∷ ULong ∷ (Enum (names 3)) ∷ (Str 0) ∷ Long ∷ Char ∷ Boolean ∷ Octet ∷ []; values = (Items (value_and (Items (value_and (Items (value_and (Int (pos 44376)) no_values)) no_values)) no_values)) ∷ (Int (pos 4294967295)) ∷ (Ordinal 1) ∷ (Text (55 ∷ 244 ∷ 115 ∷ 40 ∷ [])) ∷ (Int (negsuc 2147483647)) ∷ (Character 128) ∷ (Truth false) ∷ (Int (pos 2)) ∷ []; octets = 0x10000000000000001ad580000ffffffff000000010000000537f473280000000080000000800002 } ∷
    record { types = ULong ∷ (Seq (Struct (field_and [] Short no_fields)) 0) ∷ LongLong ∷ (Enum (names 7)) ∷ (RefTo []) ∷ ULong ∷ Octet ∷ Char ∷ []; values = (Int (pos 0)) ∷ (Items (value_and (Parts (value_and (Int (pos 32767)) no_values)) (value_and (Parts (value_and (Int (pos 23967)) no_values)) (value_and (Parts (value_and (Int (negsuc 0)) no_values)) (value_and (Parts (value_and (Int (pos 0)) no_values)) (value_and (Parts (value_and (Int (pos 32767)) no_values)) no_values)))))) ∷ (Int (pos 1)) ∷ (Ordinal 5) ∷ (Ref (Some (record { home = 6; serial = 18446744073709551615 }))) ∷ (Int (pos 0)) ∷ (Int (pos 147)) ∷ (Character 128) ∷ []; octets = 0x10000000000000000000000057fff5d9fffff00007fff000000000000000000010000000500000006ffffffffffffffff000000009380 } ∷
    record { types = (Str 40) ∷ (Struct (field_and [] (Enum (names 3)) (field_and [] ULong (field_and [] (Str 0) (field_and [] (Struct (field_and [] (Str 1) (field_and [] ULongLong (field_and [] (Struct (field_and [] Long (field_and [] Short no_fields))) no_fields)))) no_fields))))) ∷ []; values = (Text ([])) ∷ (Parts (value_and (Ordinal 2) (value_and (Int (pos 2204788873)) (value_and (Text (98 ∷ 77 ∷ 84 ∷ 126 ∷ 222 ∷ 121 ∷ [])) (value_and (Parts (value_and (Text (196 ∷ [])) (value_and (Int (pos 0)) (value_and (Parts (value_and (Int (pos 1)) (value_and (Int (negsuc 3138)) no_values))) no_values)))) no_values))))) ∷ []; octets = 0x100000000000000010000000000000002836a688900000007624d547ede79000000000002c4000000000000000000000000000001f3bd } ∷
    record { types = Boolean ∷ ULongLong ∷ (RefTo []) ∷ (Enum (names 7)) ∷ (Arr Octet 3) ∷ UShort ∷ (Enum (names 1)) ∷ (Seq ULong 0) ∷ []; values = (Truth false) ∷ (Int (pos 0)) ∷ (Ref (Some (record { home = 8; serial = 18446744073709551615 }))) ∷ (Ordinal 5) ∷ (Items (value_and (Int (pos 0)) (value_and (Int (pos 0)) (value_and (Int (pos 0)) no_values)))) ∷ (Int (pos 0)) ∷ (Ordinal 0) ∷ (Items (value_and (Int (pos 1)) no_values)) ∷ []; octets = 0x1000000000000000000000000000000000000000800000000ffffffffffffffff000000050000000000000000000000000000000100000001 } ∷
    record { types = UShort ∷ (RefTo []) ∷ (Struct (field_and [] ULong no_fields)) ∷ (Seq ULong 1) ∷ LongLong ∷ (Str 0) ∷ UShort ∷ (Arr Char 2) ∷ []; values = (Int (pos 65535)) ∷ (Ref (Some (record { home = 5; serial = 1 }))) ∷ (Parts (value_and (Int (pos 2931502475)) no_values)) ∷ (Items no_values) ∷ (Int (pos 9223372036854775807)) ∷ (Text (121 ∷ 238 ∷ 87 ∷ 60 ∷ 103 ∷ 86 ∷ 38 ∷ 111 ∷ 116 ∷ 79 ∷ [])) ∷ (Int (pos 65535)) ∷ (Items (value_and (Character 244) (value_and (Character 65) no_values))) ∷ []; octets = 0x10000ffff000000050000000000000001aebb2d8b000000007fffffffffffffff0000000b79ee573c6756266f744f0000fffff441 } ∷
    record { types = (Str 1) ∷ (Arr (Str 0) 1) ∷ Boolean ∷ (Struct (field_and [] (Seq Boolean 0) (field_and [] UShort no_fields))) ∷ Short ∷ []; values = (Text ([])) ∷ (Items (value_and (Text ([])) no_values)) ∷ (Truth false) ∷ (Parts (value_and (Items (value_and (Truth false) (value_and (Truth true) (value_and (Truth true) (value_and (Truth false) (value_and (Truth false) no_values)))))) (value_and (Int (pos 0)) no_values))) ∷ (Int (pos 0)) ∷ []; octets = 0x100000000000000010000000000000001000000000000000500010100000000000000 } ∷
    record { types = ULongLong ∷ LongLong ∷ Boolean ∷ (Seq ULong 0) ∷ Long ∷ UShort ∷ (Str 0) ∷ Char ∷ []; values = (Int (pos 3218094123965324919)) ∷ (Int (pos 0)) ∷ (Truth false) ∷ (Items no_values) ∷ (Int (negsuc 2043724486)) ∷ (Int (pos 1)) ∷ (Text ([])) ∷ (Character 0) ∷ []; octets = 0x100000000000000002ca8f78e38b99e7700000000000000000000000000000000862f3d3900010000000000010000 } ∷
    record { types = (Arr (Seq Long 0) 2) ∷ (Seq Short 4) ∷ Char ∷ Short ∷ (Enum (names 7)) ∷ (RefTo []) ∷ []; values = (Items (value_and (Items no_values) (value_and (Items (value_and (Int (pos 1)) (value_and (Int (negsuc 1394811381)) (value_and (Int (pos 1569310531)) (value_and (Int (pos 606606861)) (value_and (Int (pos 1)) no_values)))))) no_values))) ∷ (Items no_values) ∷ (Character 92) ∷ (Int (pos 1)) ∷ (Ordinal 0) ∷ (Ref None) ∷ []; octets = 0x100000000000000000000000500000001acdcde0a5d89c7432428160d00000001000000005c00000100000000000000000000000000000000 } ∷
    record { types = Octet ∷ (Struct (field_and [] (Arr ULongLong 1) (field_and [] (Str 0) (field_and [] Char (field_and [] (Seq (Seq ULong 9) 4) no_fields))))) ∷ Boolean ∷ []; values = (Int (pos 60)) ∷ (Parts (value_and (Items (value_and (Int (pos 8761004268369075886)) no_values)) (value_and (Text (89 ∷ 96 ∷ 97 ∷ 100 ∷ 223 ∷ 119 ∷ 43 ∷ 163 ∷ 46 ∷ 58 ∷ 102 ∷ 82 ∷ [])) (value_and (Character 65) (value_and (Items (value_and (Items no_values) (value_and (Items no_values) no_values))) no_values))))) ∷ (Truth false) ∷ []; octets = 0x1003c000000000000799556f6dbd1deae0000000d59606164df772ba32e3a66520041000000000002000000000000000000 } ∷
    record { types = Octet ∷ (Str 8) ∷ (Arr (Seq UShort 0) 1) ∷ (Enum (names 1)) ∷ (Enum (names 3)) ∷ LongLong ∷ Short ∷ (Arr UShort 2) ∷ []; values = (Int (pos 1)) ∷ (Text ([])) ∷ (Items (value_and (Items (value_and (Int (pos 60877)) (value_and (Int (pos 1)) (value_and (Int (pos 1)) (value_and (Int (pos 0)) (value_and (Int (pos 65535)) no_values)))))) no_values)) ∷ (Ordinal 0) ∷ (Ordinal 1) ∷ (Int (pos 1)) ∷ (Int (negsuc 0)) ∷ (Items (value_and (Int (pos 22554)) (value_and (Int (pos 63341)) no_values))) ∷ []; octets = 0x100010000000000010000000000000005edcd000100010000ffff00000000000000000001000000000000000000000001ffff581af76d } ∷
    record { types = ULong ∷ ULongLong ∷ (Seq (Seq (Enum (names 7)) 4) 0) ∷ Boolean ∷ (RefTo []) ∷ Long ∷ []; values = (Int (pos 0)) ∷ (Int (pos 0)) ∷ (Items (value_and (Items (value_and (Ordinal 5) no_values)) no_values)) ∷ (Truth true) ∷ (Ref (Some (record { home = 8; serial = 5961023804968563214 }))) ∷ (Int (negsuc 2147483647)) ∷ []; octets = 0x10000000000000000000000000000000000000001000000010000000501000000000000080000000052b9cf9158cc720e80000000 } ∷
    record { types = (Str 0) ∷ (Struct (field_and [] Short (field_and [] LongLong (field_and [] Char (field_and [] (Str 3) no_fields))))) ∷ Long ∷ []; values = (Text ([])) ∷ (Parts (value_and (Int (negsuc 32767)) (value_and (Int (pos 0)) (value_and (Character 255) (value_and (Text (91 ∷ 75 ∷ 90 ∷ [])) no_values))))) ∷ (Int (pos 0)) ∷ []; octets = 0x1000000000000000100008000000000000000000000000000ff000000000000045b4b5a0000000000 } ∷
    record { types = Short ∷ Char ∷ UShort ∷ ULongLong ∷ Octet ∷ (Seq (Struct (field_and [] LongLong no_fields)) 4) ∷ Octet ∷ Char ∷ []; values = (Int (pos 32767)) ∷ (Character 154) ∷ (Int (pos 17448)) ∷ (Int (pos 1)) ∷ (Int (pos 0)) ∷ (Items (value_and (Parts (value_and (Int (negsuc 3539414410613635354)) no_values)) (value_and (Parts (value_and (Int (pos 1462518805813616276)) no_values)) (value_and (Parts (value_and (Int (pos 0)) no_values)) (value_and (Parts (value_and (Int (pos 1)) no_values)) no_values))))) ∷ (Int (pos 0)) ∷ (Character 0) ∷ []; octets = 0x100007fff9a00442800000000000000010000000000000004cee179589e79c6e5144be91ae9d95e94000000000000000000000000000000010000 } ∷
    record { types = UShort ∷ Long ∷ UShort ∷ Char ∷ (Str 0) ∷ (Enum (names 3)) ∷ ULongLong ∷ (Seq (Str 3) 0) ∷ []; values = (Int (pos 20130)) ∷ (Int (pos 46729270)) ∷ (Int (pos 1)) ∷ (Character 255) ∷ (Text ([])) ∷ (Ordinal 2) ∷ (Int (pos 0)) ∷ (Items no_values) ∷ []; octets = 0x100004ea202c908360001ff00000000010000000000000002000000000000000000000000 } ∷
    record { types = UShort ∷ (Seq ULong 1) ∷ (Enum (names 3)) ∷ (Arr (Str 0) 2) ∷ ULong ∷ LongLong ∷ Char ∷ Boolean ∷ []; values = (Int (pos 65535)) ∷ (Items (value_and (Int (pos 3169329752)) no_values)) ∷ (Ordinal 1) ∷ (Items (value_and (Text (98 ∷ 51 ∷ 38 ∷ 162 ∷ 5 ∷ 5 ∷ 58 ∷ 12 ∷ 57 ∷ 144 ∷ 212 ∷ 96 ∷ [])) (value_and (Text ([])) no_values))) ∷ (Int (pos 3699979786)) ∷ (Int (pos 1)) ∷ (Character 127) ∷ (Truth true) ∷ []; octets = 0x10000ffff00000001bce82258000000010000000d623326a205053a0c3990d460000000000000000100000000dc89360a00000000000000017f01 } ∷
    record { types = (Str 0) ∷ (Struct (field_and [] Short (field_and [] (Seq Octet 1) (field_and [] (Seq Boolean 9) (field_and [] Long no_fields))))) ∷ (Struct (field_and [] (Str 0) (field_and [] Boolean no_fields))) ∷ Octet ∷ Octet ∷ []; values = (Text (101 ∷ 117 ∷ 97 ∷ 116 ∷ 72 ∷ 225 ∷ 15 ∷ 84 ∷ 210 ∷ 68 ∷ 73 ∷ 92 ∷ [])) ∷ (Parts (value_and (Int (pos 32767)) (value_and (Items (value_and (Int (pos 1)) no_values)) (value_and (Items no_values) (value_and (Int (pos 0)) no_values))))) ∷ (Parts (value_and (Text (71 ∷ 126 ∷ 92 ∷ 94 ∷ 74 ∷ 118 ∷ 57 ∷ 112 ∷ 148 ∷ 202 ∷ 150 ∷ 161 ∷ [])) (value_and (Truth true) no_values))) ∷ (Int (pos 255)) ∷ (Int (pos 255)) ∷ []; octets = 0x1000000000000000d6575617448e10f54d244495c00007fff000000010100000000000000000000000000000d477e5c5e4a76397094ca96a10001ffff } ∷
    record { types = ULongLong ∷ (Enum (names 3)) ∷ ULong ∷ Boolean ∷ LongLong ∷ Octet ∷ UShort ∷ Char ∷ []; values = (Int (pos 0)) ∷ (Ordinal 2) ∷ (Int (pos 0)) ∷ (Truth true) ∷ (Int (pos 1)) ∷ (Int (pos 0)) ∷ (Int (pos 0)) ∷ (Character 65) ∷ []; octets = 0x1000000000000000000000000000000000000000200000000010000000000000000000000000000010000000041 } ∷
    record { types = (Struct (field_and [] Boolean (field_and [] Long (field_and [] (Seq (Str 1) 0) (field_and [] Char no_fields))))) ∷ UShort ∷ Long ∷ []; values = (Parts (value_and (Truth false) (value_and (Int (negsuc 0)) (value_and (Items no_values) (value_and (Character 255) no_values))))) ∷ (Int (pos 21494)) ∷ (Int (negsuc 2019594049)) ∷ []; octets = 0x100000000ffffffff00000000ff0053f6879f70be } ∷
    record { types = (RefTo []) ∷ (Struct (field_and [] (Struct (field_and [] UShort no_fields)) no_fields)) ∷ (Str 0) ∷ (Str 0) ∷ (Arr (Enum (names 3)) 2) ∷ Octet ∷ []; values = (Ref (Some (record { home = 2; serial = 6930132768839211747 }))) ∷ (Parts (value_and (Parts (value_and (Int (pos 1)) no_values)) no_values)) ∷ (Text ([])) ∷ (Text (49 ∷ 82 ∷ 31 ∷ 100 ∷ 165 ∷ 251 ∷ 200 ∷ 71 ∷ [])) ∷ (Items (value_and (Ordinal 1) (value_and (Ordinal 2) no_values))) ∷ (Int (pos 212)) ∷ []; octets = 0x10000000000000002602cc7092cf49ae30001000000000001000000000000000931521f64a5fbc847000000000000000100000002d4 } ∷
    record { types = Char ∷ (Arr (Enum (names 7)) 2) ∷ Long ∷ Short ∷ (Enum (names 2)) ∷ (Seq Boolean 9) ∷ UShort ∷ UShort ∷ []; values = (Character 10) ∷ (Items (value_and (Ordinal 6) (value_and (Ordinal 0) no_values))) ∷ (Int (pos 598791607)) ∷ (Int (pos 1)) ∷ (Ordinal 0) ∷ (Items no_values) ∷ (Int (pos 0)) ∷ (Int (pos 1)) ∷ []; octets = 0x1000a0000000000060000000023b0d5b700010000000000000000000000000001 } ∷
    record { types = Short ∷ (RefTo []) ∷ ULongLong ∷ Long ∷ UShort ∷ LongLong ∷ []; values = (Int (negsuc 0)) ∷ (Ref (Some (record { home = 2; serial = 4442810021715705319 }))) ∷ (Int (pos 1)) ∷ (Int (negsuc 1676066034)) ∷ (Int (pos 1)) ∷ (Int (pos 9223372036854775807)) ∷ []; octets = 0x10000ffff000000023da8082cfce8fde700000000000000019c19430d000100007fffffffffffffff } ∷
    record { types = (Str 1) ∷ Boolean ∷ ULong ∷ (Arr (Seq ULong 0) 1) ∷ (Str 1) ∷ ULongLong ∷ []; values = (Text (45 ∷ [])) ∷ (Truth true) ∷ (Int (pos 1)) ∷ (Items (value_and (Items no_values) no_values)) ∷ (Text (86 ∷ [])) ∷ (Int (pos 18446744073709551615)) ∷ []; octets = 0x100000000000000022d0001000000000100000000000000025600000000000000ffffffffffffffff } ∷
    record { types = (Seq Octet 9) ∷ (Arr Short 5) ∷ Octet ∷ ULong ∷ (RefTo []) ∷ []; values = (Items no_values) ∷ (Items (value_and (Int (negsuc 0)) (value_and (Int (pos 0)) (value_and (Int (pos 0)) (value_and (Int (pos 32767)) (value_and (Int (pos 23743)) no_values)))))) ∷ (Int (pos 0)) ∷ (Int (pos 0)) ∷ (Ref (Some (record { home = 2; serial = 7980682699999816214 }))) ∷ []; octets = 0x10000000000000000ffff000000007fff5cbf00000000000000000002000000006ec114a1d6982a16 } ∷
    record { types = LongLong ∷ (Enum (names 3)) ∷ (Seq Char 1) ∷ Octet ∷ (Arr (Enum (names 1)) 2) ∷ (Struct (field_and [] Octet no_fields)) ∷ []; values = (Int (negsuc 9223372036854775807)) ∷ (Ordinal 2) ∷ (Items no_values) ∷ (Int (pos 255)) ∷ (Items (value_and (Ordinal 0) (value_and (Ordinal 0) no_values))) ∷ (Parts (value_and (Int (pos 255)) no_values)) ∷ []; octets = 0x1000000000000000080000000000000000000000200000000ff0000000000000000000000ff } ∷
    record { types = (Str 3) ∷ (Seq Octet 1) ∷ (Arr (Seq Boolean 0) 5) ∷ []; values = (Text (123 ∷ 44 ∷ 108 ∷ [])) ∷ (Items (value_and (Int (pos 54)) no_values)) ∷ (Items (value_and (Items no_values) (value_and (Items no_values) (value_and (Items (value_and (Truth false) (value_and (Truth false) no_values))) (value_and (Items (value_and (Truth true) (value_and (Truth false) (value_and (Truth true) no_values)))) (value_and (Items (value_and (Truth false) (value_and (Truth false) (value_and (Truth true) (value_and (Truth false) (value_and (Truth true) no_values)))))) no_values)))))) ∷ []; octets = 0x100000000000000047b2c6c000000000136000000000000000000000000000002000000000000000301000100000000050000010001 } ∷
    record { types = (Enum (names 7)) ∷ ULongLong ∷ UShort ∷ (Seq Short 0) ∷ ULong ∷ LongLong ∷ (Enum (names 1)) ∷ LongLong ∷ []; values = (Ordinal 1) ∷ (Int (pos 0)) ∷ (Int (pos 0)) ∷ (Items no_values) ∷ (Int (pos 3470942897)) ∷ (Int (negsuc 9223372036854775807)) ∷ (Ordinal 0) ∷ (Int (pos 0)) ∷ []; octets = 0x1000000000000000100000000000000000000000000000000cee262b100000000800000000000000000000000000000000000000000000000 } ∷
    record { types = Octet ∷ (Str 0) ∷ (RefTo []) ∷ ULong ∷ Long ∷ ULongLong ∷ []; values = (Int (pos 255)) ∷ (Text (3 ∷ 217 ∷ 195 ∷ 47 ∷ [])) ∷ (Ref None) ∷ (Int (pos 3216682189)) ∷ (Int (pos 0)) ∷ (Int (pos 0)) ∷ []; octets = 0x100ff00000000000503d9c32f0000000000000000000000000000000000000000bfbaaccd000000000000000000000000 } ∷
    record { types = Long ∷ Boolean ∷ Char ∷ (Enum (names 1)) ∷ LongLong ∷ (Struct (field_and [] (Seq Long 0) (field_and [] Char no_fields))) ∷ []; values = (Int (pos 1347718956)) ∷ (Truth true) ∷ (Character 127) ∷ (Ordinal 0) ∷ (Int (negsuc 0)) ∷ (Parts (value_and (Items (value_and (Int (negsuc 2147483647)) no_values)) (value_and (Character 39) no_values))) ∷ []; octets = 0x10000000050548f2c017f000000000000ffffffffffffffff000000018000000027 } ∷
    record { types = LongLong ∷ Char ∷ (Str 1) ∷ Short ∷ (Arr Long 2) ∷ []; values = (Int (negsuc 1832564415171970527)) ∷ (Character 88) ∷ (Text (121 ∷ [])) ∷ (Int (pos 0)) ∷ (Items (value_and (Int (pos 1)) (value_and (Int (negsuc 0)) no_values))) ∷ []; octets = 0x10000000000000000e6916c5fada73a2058000000000000027900000000000001ffffffff } ∷
    record { types = (Enum (names 7)) ∷ (Str 0) ∷ (Seq Octet 9) ∷ Boolean ∷ (RefTo []) ∷ []; values = (Ordinal 0) ∷ (Text ([])) ∷ (Items no_values) ∷ (Truth true) ∷ (Ref (Some (record { home = 2; serial = 15341461616770505233 }))) ∷ []; octets = 0x10000000000000000000000010000000000000000010000000000000200000000d4e7d20ed2e55a11 } ∷
    record { types = (Str 0) ∷ ULong ∷ (Struct (field_and [] (Seq UShort 0) (field_and [] Octet (field_and [] Boolean no_fields)))) ∷ []; values = (Text (18 ∷ 48 ∷ 83 ∷ 191 ∷ [])) ∷ (Int (pos 4294967295)) ∷ (Parts (value_and (Items (value_and (Int (pos 0)) (value_and (Int (pos 19574)) (value_and (Int (pos 1)) (value_and (Int (pos 20381)) (value_and (Int (pos 15107)) no_values)))))) (value_and (Int (pos 1)) (value_and (Truth true) no_values)))) ∷ []; octets = 0x10000000000000005123053bf00000000ffffffff0000000500004c7600014f9d3b030101 } ∷
    record { types = (Struct (field_and [] Octet (field_and [] UShort (field_and [] UShort (field_and [] (Str 40) no_fields))))) ∷ Long ∷ (Arr Octet 5) ∷ []; values = (Parts (value_and (Int (pos 8)) (value_and (Int (pos 0)) (value_and (Int (pos 0)) (value_and (Text (49 ∷ 59 ∷ 44 ∷ 102 ∷ 119 ∷ 197 ∷ 17 ∷ 22 ∷ 43 ∷ 74 ∷ 75 ∷ 30 ∷ 109 ∷ 35 ∷ 37 ∷ 19 ∷ 48 ∷ 110 ∷ 20 ∷ 42 ∷ [])) no_values))))) ∷ (Int (negsuc 2147483647)) ∷ (Items (value_and (Int (pos 0)) (value_and (Int (pos 1)) (value_and (Int (pos 255)) (value_and (Int (pos 255)) (value_and (Int (pos 255)) no_values)))))) ∷ []; octets = 0x1000800000000000000000015313b2c6677c511162b4a4b1e6d232513306e142a00000000800000000001ffffff } ∷
    record { types = UShort ∷ (Enum (names 7)) ∷ (Seq Short 4) ∷ (RefTo []) ∷ (Str 0) ∷ []; values = (Int (pos 20745)) ∷ (Ordinal 4) ∷ (Items (value_and (Int (negsuc 23622)) no_values)) ∷ (Ref (Some (record { home = 1; serial = 6299555018950699689 }))) ∷ (Text (115 ∷ 69 ∷ 248 ∷ 89 ∷ 32 ∷ 59 ∷ 74 ∷ [])) ∷ []; octets = 0x1000051090000000400000001a3b900000000000100000000576c83e9cb95eaa9000000087345f859203b4a00 } ∷
    record { types = UShort ∷ Long ∷ (Seq Boolean 0) ∷ (Str 0) ∷ ULong ∷ LongLong ∷ ULong ∷ Long ∷ []; values = (Int (pos 65535)) ∷ (Int (negsuc 1100545427)) ∷ (Items no_values) ∷ (Text ([])) ∷ (Int (pos 1)) ∷ (Int (pos 6624504208971698217)) ∷ (Int (pos 4294967295)) ∷ (Int (pos 2147483647)) ∷ []; octets = 0x10000ffffbe67026c000000000000000100000000000000015beef77adcd69029ffffffff7fffffff } ∷
    record { types = (Struct (field_and [] (Enum (names 7)) (field_and [] Long (field_and [] ULongLong no_fields)))) ∷ LongLong ∷ Short ∷ []; values = (Parts (value_and (Ordinal 3) (value_and (Int (pos 1345663120)) (value_and (Int (pos 0)) no_values)))) ∷ (Int (negsuc 4816316687756993953)) ∷ (Int (negsuc 0)) ∷ []; octets = 0x1000000000000000350353090000000000000000000000000bd29017d8c755a5effff } ∷
    record { types = LongLong ∷ (RefTo []) ∷ (Struct (field_and [] (Enum (names 7)) (field_and [] (Arr (Arr Octet 3) 3) (field_and [] Octet no_fields)))) ∷ []; values = (Int (pos 1)) ∷ (Ref None) ∷ (Parts (value_and (Ordinal 4) (value_and (Items (value_and (Items (value_and (Int (pos 1)) (value_and (Int (pos 0)) (value_and (Int (pos 255)) no_values)))) (value_and (Items (value_and (Int (pos 0)) (value_and (Int (pos 255)) (value_and (Int (pos 0)) no_values)))) (value_and (Items (value_and (Int (pos 255)) (value_and (Int (pos 0)) (value_and (Int (pos 0)) no_values)))) no_values)))) (value_and (Int (pos 0)) no_values)))) ∷ []; octets = 0x10000000000000000000000000000000100000000000000000000000000000000000000040100ff00ff00ff000000 } ∷
    record { types = (Seq (Struct (field_and [] ULongLong no_fields)) 4) ∷ ULong ∷ (RefTo []) ∷ []; values = (Items (value_and (Parts (value_and (Int (pos 12472123814125229746)) no_values)) no_values)) ∷ (Int (pos 1536542288)) ∷ (Ref (Some (record { home = 8; serial = 18446744073709551615 }))) ∷ []; octets = 0x10000000000000001ad15e2875f9fd6b25b95c65000000008ffffffffffffffff } ∷
    record { types = (Struct (field_and [] (Arr Char 2) (field_and [] (Str 0) no_fields))) ∷ (Str 8) ∷ []; values = (Parts (value_and (Items (value_and (Character 128) (value_and (Character 255) no_values))) (value_and (Text (178 ∷ 32 ∷ 55 ∷ 62 ∷ 52 ∷ 56 ∷ 78 ∷ 73 ∷ 59 ∷ [])) no_values))) ∷ (Text (40 ∷ 105 ∷ 32 ∷ 90 ∷ 26 ∷ 124 ∷ 102 ∷ 109 ∷ [])) ∷ []; octets = 0x10080ff000000000ab220373e34384e493b000000000000092869205a1a7c666d00 } ∷
    record { types = LongLong ∷ Short ∷ Short ∷ Char ∷ (Seq (Str 0) 0) ∷ (Enum (names 1)) ∷ []; values = (Int (negsuc 4930472749581501704)) ∷ (Int (negsuc 32767)) ∷ (Int (negsuc 0)) ∷ (Character 39) ∷ (Items (value_and (Text ([])) (value_and (Text ([])) no_values))) ∷ (Ordinal 0) ∷ []; octets = 0x10000000000000000bb93712832737af78000ffff27000000000000020000000100000000000000010000000000000000 } ∷
    record { types = ULongLong ∷ (Seq (Struct (field_and [] (Enum (names 7)) (field_and [] LongLong (field_and [] (Seq Octet 1) no_fields)))) 1) ∷ []; values = (Int (pos 18446744073709551615)) ∷ (Items (value_and (Parts (value_and (Ordinal 1) (value_and (Int (pos 9223372036854775807)) (value_and (Items (value_and (Int (pos 0)) no_values)) no_values)))) no_values)) ∷ []; octets = 0x10000000000000000ffffffffffffffff00000001000000017fffffffffffffff0000000100 } ∷
    record { types = UShort ∷ (Struct (field_and [] Long no_fields)) ∷ (Enum (names 1)) ∷ (RefTo []) ∷ Short ∷ []; values = (Int (pos 65535)) ∷ (Parts (value_and (Int (pos 1)) no_values)) ∷ (Ordinal 0) ∷ (Ref (Some (record { home = 8; serial = 9672209275016905029 }))) ∷ (Int (negsuc 32767)) ∷ []; octets = 0x10000ffff000000010000000000000008863a97170e9f01458000 } ∷
    record { types = (Struct (field_and [] Octet (field_and [] Octet (field_and [] UShort (field_and [] (Enum (names 2)) no_fields))))) ∷ (Str 0) ∷ (Arr ULong 1) ∷ []; values = (Parts (value_and (Int (pos 1)) (value_and (Int (pos 187)) (value_and (Int (pos 59734)) (value_and (Ordinal 1) no_values))))) ∷ (Text (118 ∷ 65 ∷ 51 ∷ 115 ∷ 39 ∷ 83 ∷ 61 ∷ 88 ∷ 65 ∷ 70 ∷ 94 ∷ 199 ∷ [])) ∷ (Items (value_and (Int (pos 2267125690)) no_values)) ∷ []; octets = 0x10001bb00e9560000000000010000000d7641337327533d5841465ec700000000872197ba } ∷
    []

spelled_alike : are_spelled cases ≡ true
unfolding are_spelled is_spelled number_of member names cases
spelled_alike = refl
