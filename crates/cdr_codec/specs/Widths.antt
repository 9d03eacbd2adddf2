-- The widths of numbers.
use Rattle.std.specs.Prelude.{ℕ, pos, ◌<◌, ◌^◌, length, Option, Some, None, Result, Ok, Err, not, ◌==◌, nat_lt, if◌then◌else◌}
use Rattle.std.specs.Int.{w16, w32, w64, cast_signed}
use Rattle.type_layout.specs.Types.{PlainType, Short, Long, LongLong, UShort, ULong, ULongLong, Char, Boolean, Octet, Enum, PlainValue, Int, Character, Truth, Ordinal}
use Rattle.cdr_codec.specs.declared.fault.Found.{Found}
use Rattle.cdr_codec.specs.declared.fault.RecordFault.{RecordFault}
use Rattle.cdr_codec.specs.declared.fault.RecordFault.TheVariants as fault
use Rattle.cdr_codec.specs.declared.width.Width.{Width}
use Rattle.cdr_codec.specs.declared.width.Width.TheVariants.{One, Two, Four, Eight}

-- how many octets
abbrev pub octets_in : Width → ℕ
octets_in One = 1
octets_in Two = 2
octets_in Four = 4
octets_in Eight = 8

-- the width of the type's values, where they are numbers
abbrev pub number_width : PlainType → Option Width
number_width Short = Some Two
number_width Long = Some Four
number_width LongLong = Some Eight
number_width UShort = Some Two
number_width ULong = Some Four
number_width ULongLong = Some Eight
number_width Char = Some One
number_width Boolean = Some One
number_width Octet = Some One
number_width (Enum _) = Some Four
number_width _ = None

-- a number of the type's width
abbrev pub FitsNumber : PlainType → ℕ → Type 0
FitsNumber Short n = n < 2 ^ 16
FitsNumber Long n = n < 2 ^ 32
FitsNumber LongLong n = n < 2 ^ 64
FitsNumber UShort n = n < 2 ^ 16
FitsNumber ULong n = n < 2 ^ 32
FitsNumber ULongLong n = n < 2 ^ 64
FitsNumber Char n = n < 2 ^ 8
FitsNumber Boolean n = n < 2 ^ 8
FitsNumber Octet n = n < 2 ^ 8
FitsNumber (Enum names) n = n < 2 ^ 32
FitsNumber _ n = ⊥

-- the value that a number stands for, or why it stands for none
abbrev pub number_value : PlainType → Found → Result PlainValue RecordFault
number_value Short x = Ok (Int (cast_signed w16 x.number))
number_value Long x = Ok (Int (cast_signed w32 x.number))
number_value LongLong x = Ok (Int (cast_signed w64 x.number))
number_value UShort x = Ok (Int (pos x.number))
number_value ULong x = Ok (Int (pos x.number))
number_value ULongLong x = Ok (Int (pos x.number))
number_value Octet x = Ok (Int (pos x.number))
number_value Char x = Ok (Character x.number)
number_value Boolean x = if nat_lt 1 x.number then Err (fault.BadBool x.start) else Ok (Truth (x.number == 1))
number_value (Enum names) x = if not (nat_lt x.number (length names)) then Err (fault.BadEnum x.start) else Ok (Ordinal x.number)
number_value _ x = Err fault.NoMemory
