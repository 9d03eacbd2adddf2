-- Numbers, as they stand in records and in keys.
use Rattle.std.proofs.Common.{◌≡◌, ℕ, ◌++◌, length, Some, refl, subst}
use Rattle.std.specs.Int.{w8, w16, w32, w64, cast_unsigned, from_bool}
use Rattle.byteorder.specs.Numbers.{length-bytes_high_first}
use Rattle.type_layout.specs.Types.{PlainType, Short, Long, LongLong, UShort, ULong, ULongLong, Char, Boolean, Octet, Str, Seq, Arr, Struct, Enum, RefTo, PlainValue, Int, Character, Truth, Ordinal}
use Rattle.type_layout.specs.Values.{Of}
use Rattle.type_layout.specs.Spelling.{padding, spelling}
use Rattle.type_layout.specs.Keys.{key_part}
use Rattle.cdr_codec.specs.declared.width.Width.{Width}
use Rattle.cdr_codec.specs.declared.width.Width.TheVariants as width
use Rattle.cdr_codec.specs.Widths.{octets_in, number_width}

abbrev pub StandsIn : PlainType → PlainValue → ℕ → Width → Type 0
StandsIn t v at w = (spelling t v at ≡ padding (octets_in w) at ++ key_part t v) × (length (key_part t v) ≡ octets_in w)

-- a number is spelled as it stands in a key, behind its padding
pub stands_in : (t : PlainType) (w : Width) → number_width t ≡ Some w → (v : PlainValue) → Of t v → (at : ℕ) → StandsIn t v at w
stands_in Short w e (Int z) of at = (let is : width.Two ≡ w = cc in subst (StandsIn Short (Int z) at) is (refl, length-bytes_high_first 2 (cast_unsigned w16 z)))
stands_in Long w e (Int z) of at = (let is : width.Four ≡ w = cc in subst (StandsIn Long (Int z) at) is (refl, length-bytes_high_first 4 (cast_unsigned w32 z)))
stands_in LongLong w e (Int z) of at = (let is : width.Eight ≡ w = cc in subst (StandsIn LongLong (Int z) at) is (refl, length-bytes_high_first 8 (cast_unsigned w64 z)))
stands_in UShort w e (Int z) of at = (let is : width.Two ≡ w = cc in subst (StandsIn UShort (Int z) at) is (refl, length-bytes_high_first 2 (cast_unsigned w16 z)))
stands_in ULong w e (Int z) of at = (let is : width.Four ≡ w = cc in subst (StandsIn ULong (Int z) at) is (refl, length-bytes_high_first 4 (cast_unsigned w32 z)))
stands_in ULongLong w e (Int z) of at = (let is : width.Eight ≡ w = cc in subst (StandsIn ULongLong (Int z) at) is (refl, length-bytes_high_first 8 (cast_unsigned w64 z)))
stands_in Char w e (Character c) of at = (let is : width.One ≡ w = cc in subst (StandsIn Char (Character c) at) is (refl, length-bytes_high_first 1 c))
stands_in Boolean w e (Truth b) of at = (let is : width.One ≡ w = cc in subst (StandsIn Boolean (Truth b) at) is (refl, length-bytes_high_first 1 (from_bool b)))
stands_in Octet w e (Int z) of at = (let is : width.One ≡ w = cc in subst (StandsIn Octet (Int z) at) is (refl, length-bytes_high_first 1 (cast_unsigned w8 z)))
stands_in (Enum names) w e (Ordinal n) of at = (let is : width.Four ≡ w = cc in subst (StandsIn (Enum names) (Ordinal n) at) is (refl, length-bytes_high_first 4 n))
stands_in (Str bound) w e v of at = absurd cc
stands_in (Seq item bound) w e v of at = absurd cc
stands_in (Arr item n) w e v of at = absurd cc
stands_in (Struct fs) w e v of at = absurd cc
stands_in (RefTo homes) w e v of at = absurd cc
stands_in _ w e v of at = absurd of
