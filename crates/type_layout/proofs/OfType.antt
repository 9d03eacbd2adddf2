-- The test of a type passes exactly the type's values.
use Rattle.std.proofs.Common.{map, drop, ◌≤◌, ℕ, ◌≡◌, ◌+◌, ◌^◌, ◌<◌, ℤ, pos, negsuc, List, [], ◌∷◌, length, Some, None, Bool, true, false, refl, ap, ◌∙◌, arith}
use Rattle.std.specs.Prelude.{not, ◌&&◌, ◌==◌, nat_lt, int_le, FitsSigned, IsTrue}
use Rattle.std.specs.Int.{w8, w16, w32, w64, FitsUnsigned}
use Rattle.std.proofs.lemmas.Int.{ints}
use Rattle.std.proofs.lemmas.Bool.Decides.{nat_tests}
use Rattle.std.proofs.lemmas.List.{drop_all}
use Rattle.type_layout.specs.declared.ty.Field.{Field}
use Rattle.type_layout.specs.declared.value.Value.{Value}
use Rattle.type_layout.specs.declared.member.Member.{Member}
use Rattle.type_layout.specs.Views.{plain_field, plain_value}
use Rattle.type_layout.specs.Members.{plain_member}
use Rattle.type_layout.specs.declared.home.HomeNo.{HomeNo}
use Rattle.type_layout.specs.Types.{PlainType, Short, Long, LongLong, UShort, ULong, ULongLong, Char, Boolean, Octet, Str, Seq, Arr, Struct, Enum, RefTo, PlainFields, no_fields, field_and, PlainValue, Int, Character, Truth, Ordinal, Text, Items, Parts, Ref, PlainValues, no_values, value_and, fields_of, values_of}
use Rattle.type_layout.specs.Values.{Of, AreOf, EachOf, layout_fields, count, is_over, has_zero, are_bytes, lists}
use Rattle.type_layout.specs.Testing.{is_of, are_of, every, is_between, is_character, is_truth, is_text, is_sequence, is_array, is_struct, is_enumerator, is_reference}

-- a test that passes exactly where a fact holds
abbrev pub Tells : Bool → Type 0 → Type 0
Tells b P = (b ≡ true → P) × (P → b ≡ true)

never : Tells false ⊥
never = (λ h. cc, λ h. absurd h)

both_true : (a b : Bool) → (a && b) ≡ true → (a ≡ true) × (b ≡ true)
both_true true b h = (refl, h)
both_true false b h = absurd cc

true_both : (a b : Bool) → a ≡ true → b ≡ true → (a && b) ≡ true
true_both a b p q = ap (λ (x : Bool). x && b) p ∙ q

and_tells : (a b : Bool) (P Q : Type 0) → Tells a P → Tells b Q → Tells (a && b) (P × Q)
and_tells a b P Q p q = (
  λ h. let t = both_true a b h in (p.0 t.0, q.0 t.1),
  λ h. true_both a b (p.1 h.0) (q.1 h.1),
)

not_tells : (b : Bool) → Tells (not b) (b ≡ false)
not_tells true = (λ h. absurd cc, λ h. absurd cc)
not_tells false = (λ h. refl, λ h. refl)

signed_16 : (z : ℤ) → Tells (int_le (negsuc 32767) z && int_le z (pos 32767)) (FitsSigned w16 z)
signed_16 z = (λ h. grind (arith, ints), λ h. grind (arith, ints))

signed_32 : (z : ℤ) → Tells (int_le (negsuc 2147483647) z && int_le z (pos 2147483647)) (FitsSigned w32 z)
signed_32 z = (λ h. grind (arith, ints), λ h. grind (arith, ints))

signed_64 : (z : ℤ) → Tells (int_le (negsuc 9223372036854775807) z && int_le z (pos 9223372036854775807)) (FitsSigned w64 z)
signed_64 z = (λ h. grind (arith, ints), λ h. grind (arith, ints))

unsigned_8 : (z : ℤ) → Tells (int_le (pos 0) z && int_le z (pos 255)) (FitsUnsigned w8 z)
unsigned_8 z = (λ h. grind (arith, ints), λ h. grind (arith, ints))

unsigned_16 : (z : ℤ) → Tells (int_le (pos 0) z && int_le z (pos 65535)) (FitsUnsigned w16 z)
unsigned_16 z = (λ h. grind (arith, ints), λ h. grind (arith, ints))

unsigned_32 : (z : ℤ) → Tells (int_le (pos 0) z && int_le z (pos 4294967295)) (FitsUnsigned w32 z)
unsigned_32 z = (λ h. grind (arith, ints), λ h. grind (arith, ints))

unsigned_64 : (z : ℤ) → Tells (int_le (pos 0) z && int_le z (pos 18446744073709551615)) (FitsUnsigned w64 z)
unsigned_64 z = (λ h. grind (arith, ints), λ h. grind (arith, ints))

short_tells : (v : PlainValue) → Tells (is_between (negsuc 32767) (pos 32767) v) (Of Short v)
short_tells (Int z) = signed_16 z
short_tells _ = never

long_tells : (v : PlainValue) → Tells (is_between (negsuc 2147483647) (pos 2147483647) v) (Of Long v)
long_tells (Int z) = signed_32 z
long_tells _ = never

long_long_tells : (v : PlainValue) → Tells (is_between (negsuc 9223372036854775807) (pos 9223372036854775807) v) (Of LongLong v)
long_long_tells (Int z) = signed_64 z
long_long_tells _ = never

ushort_tells : (v : PlainValue) → Tells (is_between (pos 0) (pos 65535) v) (Of UShort v)
ushort_tells (Int z) = unsigned_16 z
ushort_tells _ = never

ulong_tells : (v : PlainValue) → Tells (is_between (pos 0) (pos 4294967295) v) (Of ULong v)
ulong_tells (Int z) = unsigned_32 z
ulong_tells _ = never

ulong_long_tells : (v : PlainValue) → Tells (is_between (pos 0) (pos 18446744073709551615) v) (Of ULongLong v)
ulong_long_tells (Int z) = unsigned_64 z
ulong_long_tells _ = never

octet_tells : (v : PlainValue) → Tells (is_between (pos 0) (pos 255) v) (Of Octet v)
octet_tells (Int z) = unsigned_8 z
octet_tells _ = never

lt_tells : (a b : ℕ) → Tells (nat_lt a b) (a < b)
lt_tells a b = (λ h. grind (arith, nat_tests), λ h. grind (arith, nat_tests))

eq_tells : (a b : ℕ) → Tells (a == b) (a ≡ b)
eq_tells a b = (λ h. grind (arith, nat_tests), λ h. grind (arith, nat_tests))

char_tells : (v : PlainValue) → Tells (is_character v) (Of Char v)
char_tells (Character c) = lt_tells c 256
char_tells _ = never

truth_tells : (v : PlainValue) → Tells (is_truth v) (Of Boolean v)
truth_tells (Truth b) = (λ h. tt, λ h. refl)
truth_tells _ = never

-- three facts in a row
three_tell : (a b c : Bool) (P Q R : Type 0) → Tells a P → Tells b Q → Tells c R → Tells (a && b && c) (P × Q × R)
three_tell a b c P Q R p q r = (
  λ h. let t = both_true (a && b) c h in let u = both_true a b t.0 in (p.0 u.0, q.0 u.1, r.0 t.1),
  λ h. true_both (a && b) c (true_both a b (p.1 h.0) (q.1 h.1)) (r.1 h.2),
)

below_tells : (n : ℕ) → Tells (nat_lt n 4294967295) (n + 1 < 2 ^ 32)
below_tells n = (λ h. grind (arith, nat_tests), λ h. grind (arith, nat_tests))

text_tells : (bound : ℕ) (v : PlainValue) → Tells (is_text bound v) (Of (Str bound) v)
text_tells bound (Text bytes) =
    let three = three_tell (not (has_zero bytes)) (not (is_over bound (length bytes))) (nat_lt (length bytes) 4294967295) _ _ _ (not_tells (has_zero bytes)) (not_tells (is_over bound (length bytes))) (below_tells (length bytes)) in
    let four = and_tells (not (has_zero bytes) && not (is_over bound (length bytes)) && nat_lt (length bytes) 4294967295) (are_bytes bytes) _ (IsTrue (are_bytes bytes)) three (λ h. h, λ h. h) in
    (λ h. let t = four.0 h in (t.0.0, t.0.1, t.0.2, t.1), λ h. four.1 ((h.0, h.1, h.2), h.3))
text_tells bound _ = never

enumerator_tells : (names : List (List ℕ)) (v : PlainValue) → Tells (is_enumerator names v) (Of (Enum names) v)
enumerator_tells names (Ordinal n) = and_tells (nat_lt n (length names)) (nat_lt n 4294967296) _ _ (lt_tells n (length names)) (lt_tells n (2 ^ 32))
enumerator_tells names _ = never

reference_tells : (homes : List HomeNo) (v : PlainValue) → Tells (is_reference homes v) (Of (RefTo homes) v)
reference_tells homes (Ref None) = (λ h. tt, λ h. refl)
reference_tells homes (Ref (Some pid)) =
    let three = three_tell (lists homes pid.home) (nat_lt pid.home 4294967296) (nat_lt 0 pid.serial) _ _ _ (λ h. h, λ h. h) (lt_tells pid.home (2 ^ 32)) (lt_tells 0 pid.serial) in
    let four = and_tells (lists homes pid.home && nat_lt pid.home 4294967296 && nat_lt 0 pid.serial) (nat_lt pid.serial 18446744073709551616) _ _ three (lt_tells pid.serial (2 ^ 64)) in
    (λ h. let t = four.0 h in (t.0.0, t.0.1, t.0.2, t.1), λ h. four.1 ((h.0, h.1, h.2), h.3))
reference_tells homes _ = never

every_tells : (test : PlainValue → Bool) (P : PlainValue → Type 0) → ((v : PlainValue) → Tells (test v) (P v)) → (vs : PlainValues) → Tells (every test vs) (EachOf P vs)
every_tells test P tells no_values = (λ h. tt, λ h. refl)
every_tells test P tells (value_and v vs) = and_tells (test v) (every test vs) (P v) (EachOf P vs) (tells v) (every_tells test P tells vs)

sequence_tells : (test : PlainValue → Bool) (item : PlainType) (bound : ℕ) → ((v : PlainValue) → Tells (test v) (Of item v)) → (v : PlainValue) → Tells (is_sequence test bound v) (Of (Seq item bound) v)
sequence_tells test item bound tells (Items vs) =
    let three = three_tell (not (is_over bound (count vs))) (nat_lt (count vs) 4294967296) (every test vs) _ _ _ (not_tells (is_over bound (count vs))) (lt_tells (count vs) (2 ^ 32)) (every_tells test (Of item) tells vs) in
    (λ h. let t = three.0 h in (t.2, t.0, t.1), λ h. three.1 (h.1, h.2, h.0))
sequence_tells test item bound tells _ = never

array_tells : (test : PlainValue → Bool) (item : PlainType) (n : ℕ) → ((v : PlainValue) → Tells (test v) (Of item v)) → (v : PlainValue) → Tells (is_array test n v) (Of (Arr item n) v)
array_tells test item n tells (Items vs) =
    let two = and_tells (count vs == n) (every test vs) _ _ (eq_tells (count vs) n) (every_tells test (Of item) tells vs) in
    (λ h. let t = two.0 h in (t.1, t.0), λ h. two.1 (h.1, h.0))
array_tells test item n tells _ = never

struct_tells : (test : PlainValues → Bool) (fields : PlainFields) → ((vs : PlainValues) → Tells (test vs) (AreOf fields vs)) → (v : PlainValue) → Tells (is_struct test v) (Of (Struct fields) v)
struct_tells test fs tells (Parts vs) = tells vs
struct_tells test fs tells _ = never

mutual
  pub type_tells : (t : PlainType) (v : PlainValue) → Tells (is_of t v) (Of t v)
  type_tells Short v = short_tells v
  type_tells Long v = long_tells v
  type_tells LongLong v = long_long_tells v
  type_tells UShort v = ushort_tells v
  type_tells ULong v = ulong_tells v
  type_tells ULongLong v = ulong_long_tells v
  type_tells Char v = char_tells v
  type_tells Boolean v = truth_tells v
  type_tells Octet v = octet_tells v
  type_tells (Str bound) v = text_tells bound v
  type_tells (Seq item bound) v = sequence_tells (is_of item) item bound (type_tells item) v
  type_tells (Arr item n) v = array_tells (is_of item) item n (type_tells item) v
  type_tells (Struct fields) v = struct_tells (are_of fields) fields (fields_tell fields) v
  type_tells (Enum names) v = enumerator_tells names v
  type_tells (RefTo homes) v = reference_tells homes v

  pub fields_tell : (fs : PlainFields) (vs : PlainValues) → Tells (are_of fs vs) (AreOf fs vs)
  fields_tell no_fields no_values = (λ h. tt, λ h. refl)
  fields_tell (field_and name type fs) (value_and v vs) = and_tells (is_of type v) (are_of fs vs) (Of type v) (AreOf fs vs) (type_tells type v) (fields_tell fs vs)
  fields_tell no_fields (value_and v vs) = never
  fields_tell (field_and name type fs) no_values = never

-- values are left where there is no field
pub too_many : (fs : List Field) (i : ℕ) (vs : List Value) → length fs ≤ i → 1 ≤ length vs → are_of (fields_of (map plain_field (drop i fs))) (values_of (map plain_value vs)) ≡ false
too_many fs i vs past some = rw (drop_all i fs past) (by vs some)
  where
    by : (vs : List Value) → 1 ≤ length vs → are_of no_fields (values_of (map plain_value vs)) ≡ false
    by [] h = absurd (omega arith)
    by (v ∷ vs) h = refl

-- the same of members
pub more_than_members : (ms : List Member) (i : ℕ) (vs : List Value) → length ms ≤ i → 1 ≤ length vs → are_of (layout_fields (map plain_member (drop i ms))) (values_of (map plain_value vs)) ≡ false
more_than_members ms i vs past some = rw (drop_all i ms past) (by vs some)
  where
    by : (vs : List Value) → 1 ≤ length vs → are_of no_fields (values_of (map plain_value vs)) ≡ false
    by [] h = absurd (omega arith)
    by (v ∷ vs) h = refl
