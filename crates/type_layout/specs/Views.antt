-- What the types and values of the program stand for.
use Rattle.std.specs.Prelude.{List}
use Rattle.type_layout.specs.declared.ty.Ty.{Ty}
use Rattle.type_layout.specs.declared.ty.Field.{Field}
use Rattle.type_layout.specs.declared.ty.Fields.{Fields}
use Rattle.type_layout.specs.declared.ty.Ty.TheOpen.{Ty-F, Field-F, Fields-F}
use Rattle.type_layout.specs.declared.ty.Ty.TheOpen as open_type
use Rattle.type_layout.specs.declared.ty.Ty.TheFolds.{fold-Ty, fold-Field, fold-Fields}
use Rattle.type_layout.specs.declared.value.Value.{Value}
use Rattle.type_layout.specs.declared.value.Values.{Values}
use Rattle.type_layout.specs.declared.value.Value.TheOpen.{Value-F, Values-F}
use Rattle.type_layout.specs.declared.value.Value.TheOpen as open_value
use Rattle.type_layout.specs.declared.value.Value.TheFolds.{fold-Value, fold-Values}
use Rattle.type_layout.specs.Types.{PlainType, Short, Long, LongLong, UShort, ULong, ULongLong, Char, Boolean, Octet, Str, Seq, Arr, Struct, Enum, RefTo, PlainField, fields_of, PlainValue, Int, Character, Truth, Ordinal, Text, Items, Parts, Ref, values_of}

-- one level of a type, with each type inside already a tree
abbrev pub type_step : Ty-F PlainType PlainField (List PlainField) → PlainType
type_step open_type.Short = Short
type_step open_type.Long = Long
type_step open_type.LongLong = LongLong
type_step open_type.UShort = UShort
type_step open_type.ULong = ULong
type_step open_type.ULongLong = ULongLong
type_step open_type.Char = Char
type_step open_type.Boolean = Boolean
type_step open_type.Octet = Octet
type_step (open_type.Str bound) = Str bound
type_step (open_type.Seq item bound) = Seq item.value bound
type_step (open_type.Arr item count) = Arr item.value count
type_step (open_type.Struct fields) = Struct (fields_of fields)
type_step (open_type.Enum names) = Enum names
type_step (open_type.Ref homes) = RefTo homes

-- one level of a field
abbrev pub field_step : Field-F PlainType PlainField (List PlainField) → PlainField
field_step field = record { name = field.name; type = field.ty }

-- one level of a list of fields
abbrev pub fields_step : Fields-F PlainType PlainField (List PlainField) → List PlainField
fields_step fields = fields.fields.items

abbrev pub plain_type : Ty → PlainType
plain_type = fold-Ty PlainType PlainField (List PlainField) type_step field_step fields_step

abbrev pub plain_field : Field → PlainField
plain_field = fold-Field PlainType PlainField (List PlainField) type_step field_step fields_step

abbrev pub plain_fields : Fields → List PlainField
plain_fields = fold-Fields PlainType PlainField (List PlainField) type_step field_step fields_step

-- one level of a value, with each value inside already a tree
abbrev pub value_step : Value-F PlainValue (List PlainValue) → PlainValue
value_step (open_value.Int z) = Int z
value_step (open_value.Char c) = Character c
value_step (open_value.Bool b) = Truth b
value_step (open_value.Enum n) = Ordinal n
value_step (open_value.Str bytes) = Text bytes
value_step (open_value.List vs) = Items (values_of vs)
value_step (open_value.Struct vs) = Parts (values_of vs)
value_step (open_value.Ref pid) = Ref pid

-- one level of a list of values
abbrev pub values_step : Values-F PlainValue (List PlainValue) → List PlainValue
values_step vs = vs.values.items

abbrev pub plain_value : Value → PlainValue
plain_value = fold-Value PlainValue (List PlainValue) value_step values_step

abbrev pub plain_values : Values → List PlainValue
plain_values = fold-Values PlainValue (List PlainValue) value_step values_step
