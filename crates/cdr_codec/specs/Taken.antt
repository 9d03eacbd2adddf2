-- How many steps reading takes, also where it stops.
use Rattle.std.specs.Prelude.{◌≡◌, ◌+◌, ℕ, zero, suc, List, Result, Ok, Err}
use Rattle.type_layout.specs.declared.home.HomeNo.{HomeNo}
use Rattle.type_layout.specs.Types.{PlainType, Seq, Arr, Struct, RefTo, PlainFields, no_fields, field_and, PlainValue, PlainMember}
use Rattle.type_layout.specs.Values.{layout_fields}
use Rattle.cdr_codec.specs.declared.fault.RecordFault.{RecordFault}
use Rattle.cdr_codec.specs.declared.fault.Stop.{Stop}
use Rattle.cdr_codec.specs.declared.fault.Stop.TheVariants as stop
use Rattle.cdr_codec.specs.Primitives.{Flag, ItemCount, Home}
use Rattle.cdr_codec.specs.Reading.{Reader, judged_at, value_at}

-- what stopped is not that memory ran out
abbrev pub IsFault : Stop → Type 0
IsFault stop.Memory = ⊥
IsFault (stop.Fault f) = Unit {0}

-- so many steps were taken, unless memory ran out before
abbrev pub Took : {A : Type 0} → ℕ → ℕ → Result A Stop → ℕ → Type 0
Took old new (Ok x) n = new ≡ old + n
Took old new (Err e) n = IsFault e → new ≡ old + n

-- what comes next takes so many, where it comes
abbrev pub then_takes : {A : Type 0} → Result A RecordFault → (A → ℕ) → ℕ
then_takes (Ok x) next = next x
then_takes (Err f) next = 0

-- from a place in the octets, how many steps are taken
abbrev pub Counter : Type 0
Counter = List ℕ → ℕ → ℕ

-- a home, and a serial
unfoldable pub pid_takes : List HomeNo → Counter
pid_takes homes bytes at = 1 + then_takes (judged_at (Home homes) bytes at) (λ home. 1)

-- one behind the other, so many
unfoldable pub times_take : {A : Type 0} → Reader A → Counter → ℕ → Counter
times_take one taken zero bytes at = 0
times_take one taken (suc n) bytes at = taken bytes at + then_takes (one bytes at) (λ first. times_take one taken n bytes first.1)

-- how many, and these
unfoldable pub items_take : Reader PlainValue → Counter → ℕ → Counter
items_take one taken bound bytes at = 1 + then_takes (judged_at (ItemCount bound) bytes at) (λ n. times_take one taken n.0 bytes n.1)

unfoldable mutual
  pub value_takes : PlainType → Counter
  value_takes (Seq item bound) bytes at = items_take (value_at item) (value_takes item) bound bytes at
  value_takes (Arr item n) bytes at = times_take (value_at item) (value_takes item) n bytes at
  value_takes (Struct fields) bytes at = fields_take fields bytes at
  value_takes (RefTo homes) bytes at = pid_takes homes bytes at
  value_takes _ bytes at = 1

  pub fields_take : PlainFields → Counter
  fields_take no_fields bytes at = 0
  fields_take (field_and name type fields) bytes at = value_takes type bytes at + then_takes (value_at type bytes at) (λ first. fields_take fields bytes first.1)

-- the flag, and the members
unfoldable pub members_take : List PlainMember → Counter
members_take members bytes at = 1 + then_takes (judged_at Flag bytes at) (λ flag. fields_take (layout_fields members) bytes flag.1)
