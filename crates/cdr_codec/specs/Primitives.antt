-- What stands in a record: primitive after primitive, what each may hold, and with which fault it is refused.
use Rattle.std.specs.Prelude.{ℕ, ◌+◌, ◌-◌, ◌≡◌, ◌<◌, ◌≤◌, ◌⊎◌, List, [], ◌∷◌, ◌++◌, length, take, replicate, slice_index, Option, Some, None, Bool, false, not, ◌||◌, ◌==◌, nat_lt, if◌then◌else◌}
use Rattle.std.specs.List.{position}
use Rattle.std.specs.Int.{w8, w16, w32, w64, cast_unsigned, from_bool}
use Rattle.byteorder.specs.Endian.{big_bytes, big_number}
use Rattle.pss_base.specs.declared.pid.Pid.{Pid}
use Rattle.type_layout.specs.declared.home.HomeNo.{HomeNo}
use Rattle.type_layout.specs.Types.{PlainType, Short, Long, LongLong, UShort, ULong, ULongLong, Char, Boolean, Octet, Str, Seq, Arr, Struct, Enum, RefTo, PlainFields, no_fields, field_and, PlainValue, Int, Character, Truth, Ordinal, Text, Items, Parts, Ref, PlainValues, no_values, value_and, values_of, PlainMember}
use Rattle.type_layout.specs.Values.{count, is_over, lists, layout_fields, IsRecord}
use Rattle.type_layout.specs.Spelling.{gap, record_spelling}
use Rattle.cdr_codec.specs.declared.fault.RecordFault.{RecordFault}
use Rattle.cdr_codec.specs.declared.fault.RecordFault.TheVariants.{BadFlag, BadBool, BadEnum, BadNul, BadPad, OverBound, BadRef, Rest, NoMemory}
use Rattle.cdr_codec.specs.declared.fault.RecordFault.TheVariants as fault

-- the octets of a number that any value fills
pub data Size : Type 0 where
  One : Size
  Two : Size
  Four : Size
  Eight : Size

pub data Primitive : Type 0 where
  Flag : Primitive
  Pad : Primitive
  Plain : (size : Size) → Primitive
  Logical : Primitive
  Enumerator : (count : ℕ) → Primitive
  TextLength : (bound : ℕ) → Primitive
  ItemCount : (bound : ℕ) → Primitive
  Home : (homes : List HomeNo) → Primitive
  Serial : (home : ℕ) → Primitive
  -- so many octets of a string, and its last
  Letters : (n : ℕ) → Primitive

abbrev pub octets_of : Size → ℕ
octets_of One = 1
octets_of Two = 2
octets_of Four = 4
octets_of Eight = 8

-- how many octets a primitive has
abbrev pub width_of : Primitive → ℕ
width_of Flag = 1
width_of Pad = 1
width_of (Plain size) = octets_of size
width_of Logical = 1
width_of (Enumerator count) = 4
width_of (TextLength bound) = 4
width_of (ItemCount bound) = 4
width_of (Home homes) = 4
width_of (Serial home) = 8
width_of (Letters n) = n + 1

-- a primitive does not have this number
abbrev pub refuses : Primitive → ℕ → Bool
refuses Flag n = not (n == 0)
refuses Pad n = not (n == 0)
refuses (Plain size) n = false
refuses Logical n = nat_lt 1 n
refuses (Enumerator count) n = not (nat_lt n count)
refuses (TextLength bound) n = n == 0 || is_over bound (n - 1)
refuses (ItemCount bound) n = is_over bound n
refuses (Home homes) n = not (n == 0 || lists homes n)
refuses (Serial home) n = if home == 0 then not (n == 0) else n == 0
refuses (Letters letters) n = false

-- the fault of a primitive that begins at a place and has a number that it may not have
abbrev pub fault_at : Primitive → ℕ → ℕ → RecordFault
fault_at Flag n at = BadFlag
fault_at Pad n at = BadPad at
fault_at (Plain size) n at = NoMemory
fault_at Logical n at = BadBool at
fault_at (Enumerator count) n at = BadEnum at
fault_at (TextLength bound) n at = if n == 0 then BadNul at else OverBound at
fault_at (ItemCount bound) n at = OverBound at
fault_at (Home homes) n at = BadRef at
fault_at (Serial home) n at = BadRef at
fault_at (Letters letters) n at = NoMemory

abbrev pub given : {A B : Type 0} → Option A → B → (A → B) → B
given None other f = other
given (Some x) other f = f x

-- the place among n octets and a last one of the first that is wrong: a 0 among the n, or a last one that is not 0
abbrev pub wrong_letter : ℕ → List ℕ → Option ℕ
wrong_letter n octets = given (position (λ b. b == 0) (take n octets)) (if slice_index octets n == 0 then None else Some n) Some

-- the fault of a primitive with these octets, where it may not have them
abbrev pub judged : Primitive → ℕ → List ℕ → Option RecordFault
judged (Letters n) at octets = given (wrong_letter n octets) None (λ i. Some (BadNul (at + i)))
judged p at octets = if refuses p (big_number (width_of p) octets) then Some (fault_at p (big_number (width_of p) octets) at) else None

-- the fault of a primitive, where these octets stand from its place to the end
abbrev pub refusal : Primitive → ℕ → List ℕ → Option RecordFault
refusal p at octets = if nat_lt (length octets) (width_of p) then Some (fault.Short (at + length octets)) else judged p at (take (width_of p) octets)

-- a primitive and its octets
pub record Piece : Type 0 where
  pub what : Primitive
  pub octets : List ℕ

abbrev pub joined : List Piece → List ℕ
joined [] = []
joined (p ∷ ps) = p.octets ++ joined ps

-- how many octets the pieces have
abbrev pub size_of : List Piece → ℕ
size_of ps = length (joined ps)

abbrev pub pads : ℕ → List Piece
pads n = replicate n (record { what = Pad; octets = 0 ∷ [] })

-- a number at a multiple of its width, behind its padding
abbrev pub aligned : Primitive → ℕ → ℕ → List Piece
aligned p n at = pads (gap (width_of p) at) ++ record { what = p; octets = big_bytes (width_of p) n } ∷ []

-- the octets of a string, and a 0
abbrev pub letters : List ℕ → List Piece
letters bytes = record { what = Letters (length bytes); octets = bytes ++ 0 ∷ [] } ∷ []

-- first pieces, and others where these end
abbrev pub followed : List Piece → (ℕ → List Piece) → ℕ → List Piece
followed first others at = first ++ others (at + size_of first)

abbrev pub home_of : Option Pid → ℕ
home_of None = 0
home_of (Some pid) = pid.home

abbrev pub serial_of : Option Pid → ℕ
serial_of None = 0
serial_of (Some pid) = pid.serial

-- the pieces of values one behind the other
abbrev pub each_piece : (PlainValue → ℕ → List Piece) → PlainValues → ℕ → List Piece
each_piece spell no_values at = []
each_piece spell (value_and v vs) at = followed (spell v at) (each_piece spell vs) at

abbrev mutual
  -- the pieces of a value of the type that begins at a place
  pub pieces : PlainType → PlainValue → ℕ → List Piece
  pieces Short (Int z) at = aligned (Plain Two) (cast_unsigned w16 z) at
  pieces Long (Int z) at = aligned (Plain Four) (cast_unsigned w32 z) at
  pieces LongLong (Int z) at = aligned (Plain Eight) (cast_unsigned w64 z) at
  pieces UShort (Int z) at = aligned (Plain Two) (cast_unsigned w16 z) at
  pieces ULong (Int z) at = aligned (Plain Four) (cast_unsigned w32 z) at
  pieces ULongLong (Int z) at = aligned (Plain Eight) (cast_unsigned w64 z) at
  pieces Char (Character c) at = aligned (Plain One) c at
  pieces Boolean (Truth b) at = aligned Logical (from_bool b) at
  pieces Octet (Int z) at = aligned (Plain One) (cast_unsigned w8 z) at
  pieces (Str bound) (Text bytes) at = followed (aligned (TextLength bound) (length bytes + 1) at) (λ next. letters bytes) at
  pieces (Seq item bound) (Items vs) at = followed (aligned (ItemCount bound) (count vs) at) (each_piece (pieces item) vs) at
  pieces (Arr item n) (Items vs) at = each_piece (pieces item) vs at
  pieces (Struct fields) (Parts vs) at = field_pieces fields vs at
  pieces (Enum names) (Ordinal n) at = aligned (Enumerator (length names)) n at
  pieces (RefTo homes) (Ref pid) at = followed (aligned (Home homes) (home_of pid) at) (aligned (Serial (home_of pid)) (serial_of pid)) at
  pieces _ _ at = []

  -- the pieces of the fields' values
  pub field_pieces : PlainFields → PlainValues → ℕ → List Piece
  field_pieces no_fields no_values at = []
  field_pieces (field_and name type fields) (value_and v vs) at = followed (pieces type v at) (field_pieces fields vs) at
  field_pieces _ _ at = []

-- the pieces of a record: the flag, and the members' values
abbrev pub record_pieces : List PlainMember → List PlainValue → List Piece
record_pieces members values = record { what = Flag; octets = 0 ∷ [] } ∷ field_pieces (layout_fields members) (values_of values) 1

-- the octets have the first of the pieces that stand from a place on, and the next one is refused
pub record IsRefusedAmong (ps : List Piece) (at : ℕ) (octets : List ℕ) (f : RecordFault) : Type 0 where
  pub front : List Piece
  pub next : Piece
  pub back : List Piece
  pub rest : List ℕ
  pub split : ps ≡ front ++ next ∷ back
  pub same : octets ≡ joined front ++ rest
  pub refused : refusal next.what (at + size_of front) rest ≡ Some f

-- the first n octets of both are the same
abbrev pub Agree : ℕ → List ℕ → List ℕ → Type 0
Agree n xs ys = (n ≤ length ys) × (take n xs ≡ take n ys)

-- some record of the layout agrees with the bytes up to a primitive, which is refused, and none agrees with them through it
pub record RefusesOne (members : List PlainMember) (bytes : List ℕ) (f : RecordFault) : Type 0 where
  pub values : List PlainValue
  pub is_record : IsRecord members values
  pub cut : IsRefusedAmong (record_pieces members values) 0 bytes f
  pub none : (other : List PlainValue) → IsRecord members other → Agree (size_of cut.front + width_of cut.next.what) (record_spelling members other) bytes → ⊥

-- octets follow the last member of a record of the layout, from this place on
pub record HasRest (members : List PlainMember) (bytes : List ℕ) (f : RecordFault) : Type 0 where
  pub values : List PlainValue
  pub is_record : IsRecord members values
  pub rest : List ℕ
  pub whole : bytes ≡ record_spelling members values ++ rest
  pub more : 0 < length rest
  pub place : f ≡ Rest (length (record_spelling members values))

-- why the bytes are no record of the layout
abbrev pub IsRefused : List PlainMember → List ℕ → RecordFault → Type 0
IsRefused members bytes f = RefusesOne members bytes f ⊎ HasRest members bytes f
