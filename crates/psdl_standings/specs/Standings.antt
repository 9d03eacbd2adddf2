-- What each declaration stands for by those before it: a type, or a whole number.
use Rattle.std.specs.Prelude.{ℕ, ◌+◌, ◌-◌, ℤ, pos, negsuc, List, [], ◌∷◌, ◌++◌, length, map, Option, Some, None, Bool, true, false, if◌then◌else◌}
use Rattle.std.specs.List.{flat_map}
use Rattle.std.specs.Option.{option_map, option_and_then}
use Rattle.std.proofs.Common.{get_or}
use Rattle.psdl_tree.specs.declared.types.IntegerType.{IntegerType}
use Rattle.psdl_tree.specs.declared.types.IntegerSize.{IntegerSize}
use Rattle.psdl_tree.specs.Trees.{Name, Expression, PlainType as PlainTree, IntegerPlain, CharPlain, BooleanPlain, OctetPlain, StringPlain, NamePlain, TypeSpec, PlainSpec, Sequence, Declarator, Field as FieldTree, ConstantType, IntegerConstant, OctetConstant, StringConstant, NameConstant, Constant, Struct as StructTree}
use Rattle.type_layout.specs.Schemas.{given}
use Rattle.type_layout.specs.Types.{PlainType, Short, Long, LongLong, UShort, ULong, ULongLong, Char, Boolean, Octet, Str, Seq, Arr, Struct, Enum, PlainField, fields_of}
use Rattle.psdl_directory.specs.Declarations.{Path, What, IsConstant, IsAlias, IsStruct, IsEnumeration, Declaration, all_identifiers, all_declarators}
use Rattle.psdl_directory.specs.Parts.{all_fields}
use Rattle.psdl_directory.specs.Lookup.{as_is, meaning}
use Rattle.psdl_standings.specs.Values.{is_within, assessed, Assessed}
use Rattle.psdl_tree.specs.declared.types.IntegerSize.TheVariants as sizes

pub data Standing : Type 0 where
  Nothing : Standing
  StandsForType : (type : PlainType) → Standing
  -- a constant of an integer type, with its value where it has one
  StandsForNumber : (type : PlainType) → (value : Option ℤ) → Standing

abbrev pub type_of : Standing → Option PlainType
type_of (StandsForType type) = Some type
type_of _ = None

abbrev pub number_of : Standing → Option ℤ
number_of (StandsForNumber type value) = value
number_of _ = None

-- what the declaration with this number stands for
abbrev pub standing : List Standing → ℕ → Standing
standing done n = get_or done n Nothing

-- what a name in a scope stands for, of the first so many declarations
abbrev pub sight : List Declaration → List Standing → ℕ → Path → Name → Standing
sight all done limit path name = given (meaning as_is all limit path name) Nothing (λ n. standing done n)

-- each is there
abbrev pub all_there : {A : Type 0} → List (Option A) → Option (List A)
all_there [] = Some []
all_there (x ∷ xs) = given x None (λ a. option_map (λ others. a ∷ others) (all_there xs))

-- ---- numbers

-- the values of an integer type; `~` is told the bits of an unsigned one
pub record Range : Type 0 where
  pub least : ℤ
  pub most : ℤ
  pub width : Option ℕ

abbrev pub range : PlainType → Option Range
range Short = Some (record { least = negsuc 32767; most = pos 32767; width = None })
range Long = Some (record { least = negsuc 2147483647; most = pos 2147483647; width = None })
range LongLong = Some (record { least = negsuc 9223372036854775807; most = pos 9223372036854775807; width = None })
range UShort = Some (record { least = pos 0; most = pos 65535; width = Some 16 })
range ULong = Some (record { least = pos 0; most = pos 4294967295; width = Some 32 })
range ULongLong = Some (record { least = pos 0; most = pos 18446744073709551615; width = Some 64 })
range Octet = Some (record { least = pos 0; most = pos 255; width = Some 8 })
range _ = None

-- what an expression comes to by what its names stand for
abbrev pub assessed_by : (Name → Standing) → Option ℕ → Expression → Assessed
assessed_by names width e = assessed (λ name. number_of (names name)) width e

-- the number, where it lies in the range
abbrev pub within : Range → ℤ → Option ℤ
within r z = if is_within r.least r.most z then Some z else None

abbrev pub natural : ℤ → Option ℕ
natural (pos n) = Some n
natural (negsuc n) = None

-- the value of a bound or a dimension, which counts as of unsigned long long
abbrev pub size_by : (Name → Standing) → Expression → Option ℕ
size_by names e = option_and_then natural (assessed_by names (Some 64) e).value

-- ---- types

abbrev pub signed_type : IntegerSize → PlainType
signed_type sizes.Short = Short
signed_type sizes.Long = Long
signed_type sizes.LongLong = LongLong

abbrev pub unsigned_type : IntegerSize → PlainType
unsigned_type sizes.Short = UShort
unsigned_type sizes.Long = ULong
unsigned_type sizes.LongLong = ULongLong

abbrev pub type_by_sign : Bool → IntegerSize → PlainType
type_by_sign true size = unsigned_type size
type_by_sign false size = signed_type size

abbrev pub integer_type : IntegerType → PlainType
integer_type i = type_by_sign i.unsigned i.size

abbrev pub plain_by : (Name → Standing) → PlainTree → Option PlainType
plain_by names (IntegerPlain i) = Some (integer_type i)
plain_by names CharPlain = Some Char
plain_by names BooleanPlain = Some Boolean
plain_by names OctetPlain = Some Octet
plain_by names (StringPlain None) = Some (Str 0)
plain_by names (StringPlain (Some bound)) = option_map Str (size_by names bound)
plain_by names (NamePlain name) = type_of (names name)

abbrev pub spec_by : (Name → Standing) → TypeSpec → Option PlainType
spec_by names (PlainSpec plain) = plain_by names plain
spec_by names (Sequence item None) = option_map (λ t. Seq t 0) (spec_by names item)
spec_by names (Sequence item (Some bound)) = given (spec_by names item) None (λ t. option_map (Seq t) (size_by names bound))

-- x[2][3] is an array of 2 of arrays of 3
abbrev pub arrays_by : (Name → Standing) → List Expression → PlainType → Option PlainType
arrays_by names [] type = Some type
arrays_by names (e ∷ es) type = given (arrays_by names es type) None (λ item. option_map (Arr item) (size_by names e))

abbrev pub field_by : (Name → Standing) → TypeSpec → Declarator → Option PlainField
field_by names spec d = option_map (λ t. record { name = d.name.name; type = t }) (option_and_then (arrays_by names d.dimensions) (spec_by names spec))

abbrev pub fields_by : (Name → Standing) → FieldTree → List (Option PlainField)
fields_by names field = map (field_by names field.spec) (all_declarators field.declarators)

abbrev pub struct_by : (Name → Standing) → StructTree → Option PlainType
struct_by names struct = option_map (λ fields. Struct (fields_of fields)) (all_there (flat_map (fields_by names) (all_fields struct)))

abbrev pub constant_type_by : (Name → Standing) → ConstantType → Option PlainType
constant_type_by names (IntegerConstant i) = Some (integer_type i)
constant_type_by names OctetConstant = Some Octet
constant_type_by names StringConstant = Some (Str 0)
constant_type_by names (NameConstant name) = type_of (names name)

-- ---- declarations

abbrev pub as_type : Option PlainType → Standing
as_type None = Nothing
as_type (Some type) = StandsForType type

-- the value of a constant is there where it lies in its type
abbrev pub number_by : (Name → Standing) → Expression → PlainType → Standing
number_by names e type = given (range type) Nothing (λ r. StandsForNumber type (option_and_then (within r) (assessed_by names r.width e).value))

abbrev pub constant_by : (Name → Standing) → Constant → Standing
constant_by names c = given (constant_type_by names c.constant_type) Nothing (number_by names c.value)

-- A constant's own identifier does not stand yet in its type and its expression. That of a struct stands in its body.
-- Of a typedef none of the identifiers stands before the type, and a declarator's own stands in its dimensions.
abbrev pub standing_of : List Declaration → List Standing → ℕ → Path → What → Standing
standing_of all done n path (IsConstant constant) = constant_by (sight all done n path) constant
standing_of all done n path (IsAlias before spec dimensions) =
    as_type (option_and_then (arrays_by (sight all done (n + 1) path) dimensions) (spec_by (sight all done (n - before) path) spec))
standing_of all done n path (IsStruct struct) = as_type (struct_by (sight all done (n + 1) path) struct)
standing_of all done n path (IsEnumeration enumerators) = StandsForType (Enum (map (λ i. i.name) (all_identifiers enumerators)))
standing_of all done n path _ = Nothing

abbrev pub standings_after : List Declaration → List Standing → List Declaration → List Standing
standings_after all done [] = done
standings_after all done (d ∷ ds) = standings_after all (done ++ standing_of all done (length done) d.path d.what ∷ []) ds

-- what each declaration stands for
unfoldable pub standings : List Declaration → List Standing
standings all = standings_after all [] all
