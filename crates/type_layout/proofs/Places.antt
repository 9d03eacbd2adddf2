-- A spelling depends on its place modulo 8 alone.
use Rattle.std.proofs.Common.{ℕ, ◌≡◌, ◌+◌, ◌-◌, ◌%◌, List, [], ◌∷◌, ◌++◌, length, Option, Some, None, refl, ap, arith}
use Rattle.std.specs.Prelude.{replicate}
use Rattle.std.specs.Int.{w8, w16, w32, w64, to_be_bytes}
use Rattle.pss_base.specs.declared.pid.Pid.{Pid}
use Rattle.type_layout.specs.declared.home.HomeNo.{HomeNo}
use Rattle.type_layout.specs.Types.{PlainType, Short, Long, LongLong, UShort, ULong, ULongLong, Char, Boolean, Octet, Str, Seq, Arr, Struct, Enum, RefTo, PlainFields, no_fields, field_and, PlainValue, Int, Character, Truth, Ordinal, Text, Items, Parts, Ref, PlainValues, no_values, value_and}
use Rattle.type_layout.specs.Values.{count}
use Rattle.type_layout.specs.Spelling.{gap, number, reference, each, spelling, spellings}

-- it is the same at two places that are equal modulo 8
abbrev pub IsPeriodic : (ℕ → List ℕ) → Type 0
IsPeriodic f = (a b : ℕ) → a % 8 ≡ b % 8 → f a ≡ f b

constant : (l : List ℕ) → IsPeriodic (λ _. l)
constant l a b h = refl

-- one behind the other
behind : (f g : ℕ → List ℕ) → IsPeriodic f → IsPeriodic g → IsPeriodic (λ at. f at ++ g (at + length (f at)))
behind f g pf pg a b h =
    let e = pf a b h in
    let k : (a + length (f a)) % 8 ≡ (b + length (f b)) % 8 = omega (arith, ap length e) in
    (λ i. e i ++ pg (a + length (f a)) (b + length (f b)) k i)

-- the same where the second does not ask for its place
before : (f : ℕ → List ℕ) (l : List ℕ) → IsPeriodic f → IsPeriodic (λ at. f at ++ l)
before f l pf = behind f (λ _. l) pf (constant l)

gap_1 : (a b : ℕ) → a % 8 ≡ b % 8 → gap 1 a ≡ gap 1 b
gap_1 a b h = omega arith

gap_2 : (a b : ℕ) → a % 8 ≡ b % 8 → gap 2 a ≡ gap 2 b
gap_2 a b h = (let k : a % 2 ≡ b % 2 = omega arith in ap (λ m. (2 - m) % 2) k)

gap_4 : (a b : ℕ) → a % 8 ≡ b % 8 → gap 4 a ≡ gap 4 b
gap_4 a b h = (let k : a % 4 ≡ b % 4 = omega arith in ap (λ m. (4 - m) % 4) k)

gap_8 : (a b : ℕ) → a % 8 ≡ b % 8 → gap 8 a ≡ gap 8 b
gap_8 a b h = ap (λ m. (8 - m) % 8) h

number_8 : (n : ℕ) → IsPeriodic (number w8 n)
number_8 n a b h = ap (λ k. replicate k 0 ++ to_be_bytes w8 n) (gap_1 a b h)

number_16 : (n : ℕ) → IsPeriodic (number w16 n)
number_16 n a b h = ap (λ k. replicate k 0 ++ to_be_bytes w16 n) (gap_2 a b h)

number_32 : (n : ℕ) → IsPeriodic (number w32 n)
number_32 n a b h = ap (λ k. replicate k 0 ++ to_be_bytes w32 n) (gap_4 a b h)

number_64 : (n : ℕ) → IsPeriodic (number w64 n)
number_64 n a b h = ap (λ k. replicate k 0 ++ to_be_bytes w64 n) (gap_8 a b h)

reference_again : (pid : Option Pid) → IsPeriodic (reference pid)
reference_again None = behind (number w32 0) (number w64 0) (number_32 0) (number_64 0)
reference_again (Some pid) = behind (number w32 pid.home) (number w64 pid.serial) (number_32 pid.home) (number_64 pid.serial)

each_again : (spell : PlainValue → ℕ → List ℕ) → ((v : PlainValue) → IsPeriodic (spell v)) → (vs : PlainValues) → IsPeriodic (each spell vs)
each_again spell again no_values = constant []
each_again spell again (value_and v vs) = behind (spell v) (each spell vs) (again v) (each_again spell again vs)

short_again : (v : PlainValue) → IsPeriodic (spelling Short v)
short_again (Int z) = number_16 _
short_again _ = constant []

long_again : (v : PlainValue) → IsPeriodic (spelling Long v)
long_again (Int z) = number_32 _
long_again _ = constant []

long_long_again : (v : PlainValue) → IsPeriodic (spelling LongLong v)
long_long_again (Int z) = number_64 _
long_long_again _ = constant []

ushort_again : (v : PlainValue) → IsPeriodic (spelling UShort v)
ushort_again (Int z) = number_16 _
ushort_again _ = constant []

ulong_again : (v : PlainValue) → IsPeriodic (spelling ULong v)
ulong_again (Int z) = number_32 _
ulong_again _ = constant []

ulong_long_again : (v : PlainValue) → IsPeriodic (spelling ULongLong v)
ulong_long_again (Int z) = number_64 _
ulong_long_again _ = constant []

char_again : (v : PlainValue) → IsPeriodic (spelling Char v)
char_again (Character c) = number_8 c
char_again _ = constant []

truth_again : (v : PlainValue) → IsPeriodic (spelling Boolean v)
truth_again (Truth b) = number_8 _
truth_again _ = constant []

octet_again : (v : PlainValue) → IsPeriodic (spelling Octet v)
octet_again (Int z) = number_8 _
octet_again _ = constant []

text_again : (bound : ℕ) (v : PlainValue) → IsPeriodic (spelling (Str bound) v)
text_again bound (Text bytes) = before (number w32 (length bytes + 1)) (bytes ++ 0 ∷ []) (number_32 (length bytes + 1))
text_again bound _ = constant []

ordinal_again : (names : List (List ℕ)) (v : PlainValue) → IsPeriodic (spelling (Enum names) v)
ordinal_again names (Ordinal n) = number_32 n
ordinal_again names _ = constant []

pid_again : (homes : List HomeNo) (v : PlainValue) → IsPeriodic (spelling (RefTo homes) v)
pid_again homes (Ref pid) = reference_again pid
pid_again homes _ = constant []

sequence_again : (item : PlainType) (bound : ℕ) → ((v : PlainValue) → IsPeriodic (spelling item v)) → (v : PlainValue) → IsPeriodic (spelling (Seq item bound) v)
sequence_again item bound again (Items vs) = behind (number w32 (count vs)) (each (spelling item) vs) (number_32 (count vs)) (each_again (spelling item) again vs)
sequence_again item bound again _ = constant []

array_again : (item : PlainType) (n : ℕ) → ((v : PlainValue) → IsPeriodic (spelling item v)) → (v : PlainValue) → IsPeriodic (spelling (Arr item n) v)
array_again item n again (Items vs) = each_again (spelling item) again vs
array_again item n again _ = constant []

struct_again : (fs : PlainFields) → ((vs : PlainValues) → IsPeriodic (spellings fs vs)) → (v : PlainValue) → IsPeriodic (spelling (Struct fs) v)
struct_again fs again (Parts vs) = again vs
struct_again fs again _ = constant []

mutual
  pub spelled_again : (t : PlainType) (v : PlainValue) → IsPeriodic (spelling t v)
  spelled_again Short v = short_again v
  spelled_again Long v = long_again v
  spelled_again LongLong v = long_long_again v
  spelled_again UShort v = ushort_again v
  spelled_again ULong v = ulong_again v
  spelled_again ULongLong v = ulong_long_again v
  spelled_again Char v = char_again v
  spelled_again Boolean v = truth_again v
  spelled_again Octet v = octet_again v
  spelled_again (Str bound) v = text_again bound v
  spelled_again (Seq item bound) v = sequence_again item bound (spelled_again item) v
  spelled_again (Arr item n) v = array_again item n (spelled_again item) v
  spelled_again (Struct fs) v = struct_again fs (fields_again fs) v
  spelled_again (Enum names) v = ordinal_again names v
  spelled_again (RefTo homes) v = pid_again homes v

  pub fields_again : (fs : PlainFields) (vs : PlainValues) → IsPeriodic (spellings fs vs)
  fields_again no_fields no_values = constant []
  fields_again (field_and name t fs) (value_and v vs) = behind (spelling t v) (spellings fs vs) (spelled_again t v) (fields_again fs vs)
  fields_again no_fields (value_and v vs) = constant []
  fields_again (field_and name t fs) no_values = constant []
