-- Reading from left to right, with the first fault that is met.
use Rattle.std.specs.Prelude.{◌≡◌, ◌⊎◌, ◌+◌, ◌-◌, ◌≤◌, ℕ, zero, suc, pos, List, [], ◌∷◌, length, drop, slice_range, Result, Ok, Err, Option, Some, None, nat_lt, ◌==◌, if◌then◌else◌}
use Rattle.std.specs.List.{position}
use Rattle.std.specs.Int.{w16, w32, w64, cast_signed}
use Rattle.byteorder.specs.Endian.{big_number}
use Rattle.pss_base.specs.declared.pid.Pid.{Pid}
use Rattle.type_layout.specs.declared.home.HomeNo.{HomeNo}
use Rattle.type_layout.specs.Types.{PlainType, Short, Long, LongLong, UShort, ULong, ULongLong, Char, Boolean, Octet, Str, Seq, Arr, Struct, Enum, RefTo, PlainFields, no_fields, field_and, PlainValue, Int, Character, Truth, Ordinal, Text, Items, Parts, Ref, values_of, PlainMember}
use Rattle.type_layout.specs.Values.{layout_fields}
use Rattle.type_layout.specs.Spelling.{gap}
use Rattle.cdr_codec.specs.declared.fault.RecordFault.{RecordFault}
use Rattle.cdr_codec.specs.declared.fault.RecordFault.TheVariants as fault
use Rattle.cdr_codec.specs.declared.fault.Stop.{Stop}
use Rattle.cdr_codec.specs.declared.fault.Stop.TheVariants as stop
use Rattle.cdr_codec.specs.declared.fault.Found.{Found}
use Rattle.cdr_codec.specs.Primitives.{One, Two, Four, Eight, Primitive, Flag, Pad, Plain, Logical, Enumerator, TextLength, ItemCount, Home, Serial, width_of, refuses, fault_at, given}

infixl 10 ◌>>=◌
-- a step, and the next with what the first gave
abbrev pub ◌>>=◌ : {A B : Type 0} → Result A RecordFault → (A → Result B RecordFault) → Result B RecordFault
(Ok x) >>= next = next x
(Err f) >>= next = Err f

-- a function that stopped says what reading says, unless memory ran out
abbrev pub Fails : {Y : Type 0} → Stop → Result Y RecordFault → Type 0
Fails stop.Memory read = Unit {0}
Fails (stop.Fault f) read = read ≡ Err f

-- what a function returned, seen by view, is what reading gives, unless memory ran out
abbrev pub Gives : {X Y : Type 0} → (X → Y) → Result X Stop → Result Y RecordFault → Type 0
Gives view (Ok x) read = read ≡ Ok (view x)
Gives view (Err e) read = Fails e read

-- from a place, at most a step for each octet that was read, and one for what was refused
abbrev pub Advances : {A : Type 0} → ℕ → ℕ → ℕ → ℕ → Result (A × ℕ) Stop → Type 0
Advances at end old new (Ok x) = new + at ≤ old + x.1
Advances at end old new (Err e) = new + at ≤ old + end + 1

-- from a place in the octets, what is read there and the place behind it
abbrev pub Reader : Type 0 → Type 0
Reader A = List ℕ → ℕ → Result (A × ℕ) RecordFault

-- the number in so many octets
unfoldable pub plain_at : ℕ → Reader ℕ
plain_at width bytes at = if nat_lt (length bytes) (at + width) then Err (fault.Short (length bytes)) else Ok (big_number width (drop at bytes), at + width)

-- a primitive that begins here
unfoldable pub one_at : Primitive → Reader ℕ
one_at p bytes at = plain_at (width_of p) bytes at >>= λ n. if refuses p n.0 then Err (fault_at p n.0 at) else Ok (n.0, n.1)

-- so many octets of padding
unfoldable pub pads_at : ℕ → List ℕ → ℕ → Result ℕ RecordFault
pads_at zero bytes at = Ok at
pads_at (suc n) bytes at = one_at Pad bytes at >>= λ b. pads_at n bytes b.1

-- a number behind its padding
unfoldable pub found_at : ℕ → List ℕ → ℕ → Result Found RecordFault
found_at width bytes at = do
  start ← pads_at (gap width at) bytes at
  n ← plain_at width bytes start
  Ok (record { start = start; number = n.0; after = n.1 })

-- the number of a primitive that may have it
unfoldable pub judged_at : Primitive → Reader ℕ
judged_at p bytes at = found_at (width_of p) bytes at >>= λ x. if refuses p x.number then Err (fault_at p x.number x.start) else Ok (x.number, x.after)

-- what was read, seen as another thing
abbrev pub seen : {A B : Type 0} → (A → B) → Reader A → Reader B
seen f read bytes at = read bytes at >>= λ x. Ok (f x.0, x.1)

-- n octets of a string, and a 0
unfoldable pub letters_at : ℕ → Reader (List ℕ)
letters_at n bytes at =
    if nat_lt (length bytes) (at + n + 1) then Err (fault.Short (length bytes))
    else given (position (λ b. b == 0) (slice_range bytes at (at + n)))
    (plain_at 1 bytes (at + n) >>= λ b. if b.0 == 0 then Ok (slice_range bytes at (at + n), b.1) else Err (fault.BadNul (at + n)))
    (λ i. Err (fault.BadNul (at + i)))

-- a string's length, and its octets
unfoldable pub text_at : ℕ → Reader (List ℕ)
text_at bound bytes at = judged_at (TextLength bound) bytes at >>= λ n. letters_at (n.0 - 1) bytes n.1

-- one behind the other, so many
unfoldable pub times_at : {A : Type 0} → Reader A → ℕ → Reader (List A)
times_at one zero bytes at = Ok ([], at)
times_at one (suc n) bytes at = do
  first ← one bytes at
  others ← times_at one n bytes first.1
  Ok (first.0 ∷ others.0, others.1)

-- how many, and these
unfoldable pub items_at : Reader PlainValue → ℕ → Reader (List PlainValue)
items_at one bound bytes at = judged_at (ItemCount bound) bytes at >>= λ n. times_at one n.0 bytes n.1

-- nil, or an object
abbrev pub pid_of : ℕ → ℕ → Option Pid
pid_of home serial = if home == 0 then None else Some (record { home = home; serial = serial })

-- a home, and a serial
unfoldable pub pid_at : List HomeNo → Reader (Option Pid)
pid_at homes bytes at = do
  home ← judged_at (Home homes) bytes at
  serial ← judged_at (Serial home.0) bytes home.1
  Ok (pid_of home.0 serial.0, serial.1)

unfoldable mutual
  pub value_at : PlainType → Reader PlainValue
  value_at Short bytes at = seen (λ n. Int (cast_signed w16 n)) (judged_at (Plain Two)) bytes at
  value_at Long bytes at = seen (λ n. Int (cast_signed w32 n)) (judged_at (Plain Four)) bytes at
  value_at LongLong bytes at = seen (λ n. Int (cast_signed w64 n)) (judged_at (Plain Eight)) bytes at
  value_at UShort bytes at = seen (λ n. Int (pos n)) (judged_at (Plain Two)) bytes at
  value_at ULong bytes at = seen (λ n. Int (pos n)) (judged_at (Plain Four)) bytes at
  value_at ULongLong bytes at = seen (λ n. Int (pos n)) (judged_at (Plain Eight)) bytes at
  value_at Char bytes at = seen Character (judged_at (Plain One)) bytes at
  value_at Boolean bytes at = seen (λ n. Truth (n == 1)) (judged_at Logical) bytes at
  value_at Octet bytes at = seen (λ n. Int (pos n)) (judged_at (Plain One)) bytes at
  value_at (Str bound) bytes at = seen Text (text_at bound) bytes at
  value_at (Seq item bound) bytes at = seen (λ vs. Items (values_of vs)) (items_at (value_at item) bound) bytes at
  value_at (Arr item n) bytes at = seen (λ vs. Items (values_of vs)) (times_at (value_at item) n) bytes at
  value_at (Struct fields) bytes at = seen (λ vs. Parts (values_of vs)) (fields_at fields) bytes at
  value_at (Enum names) bytes at = seen Ordinal (judged_at (Enumerator (length names))) bytes at
  value_at (RefTo homes) bytes at = seen Ref (pid_at homes) bytes at

  pub fields_at : PlainFields → Reader (List PlainValue)
  fields_at no_fields bytes at = Ok ([], at)
  fields_at (field_and name type fields) bytes at = value_at type bytes at >>= λ first. fields_at fields bytes first.1 >>= λ others. Ok (first.0 ∷ others.0, others.1)

-- the flag, and the members
unfoldable pub members_at : List PlainMember → Reader (List PlainValue)
members_at members bytes at = judged_at Flag bytes at >>= λ flag. fields_at (layout_fields members) bytes flag.1

-- all of the octets
unfoldable pub record_at : List PlainMember → List ℕ → Result (List PlainValue) RecordFault
record_at members bytes = members_at members bytes 0 >>= λ x. if x.1 == length bytes then Ok x.0 else Err (fault.Rest x.1)

-- an answer that says what reading says, unless memory ran out
abbrev pub Answers : {X : Type 0} → Result X RecordFault → Result X RecordFault → Type 0
Answers (Ok x) read = read ≡ Ok x
Answers (Err e) read = (e ≡ fault.NoMemory) ⊎ (read ≡ Err e)
