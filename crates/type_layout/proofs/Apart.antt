-- No spelling of a value begins that of another value of the type.
use Rattle.std.proofs.Common.{ℕ, ◌≡◌, ◌+◌, ◌%◌, ◌<◌, ◌^◌, ℤ, pos, negsuc, List, [], ◌∷◌, ◌++◌, length, Some, None, Bool, true, false, refl, sym, ap, ◌∙◌, arith, append_assoc, length-append}
use Rattle.std.specs.Prelude.{FitsSigned, ◌≤ℤ◌}
use Rattle.std.specs.Int.{Width, w8, w16, w32, w64, byte_len, to_be_bytes, cast_unsigned, cast_signed, from_bool, FitsUnsigned, from_be_bytes}
use Rattle.std.proofs.lemmas.Int.{ints, to_z-of_z}
use Rattle.std.proofs.lemmas.List.{append_cancel_left, append_cancel_right}
use Rattle.std.proofs.lemmas.Nat.{from_be_bytes-to_be_bytes_2, from_be_bytes-to_be_bytes_4, from_be_bytes-to_be_bytes_8}
use Rattle.type_layout.specs.declared.home.HomeNo.{HomeNo}
use Rattle.type_layout.specs.Types.{PlainType, Short, Long, LongLong, UShort, ULong, ULongLong, Char, Boolean, Octet, Str, Seq, Arr, Struct, Enum, RefTo, PlainFields, no_fields, field_and, PlainValue, Int, Character, Truth, Ordinal, Text, Items, Parts, Ref, PlainValues, no_values, value_and}
use Rattle.type_layout.specs.Values.{Of, AreOf, EachOf, count}
use Rattle.type_layout.specs.Spelling.{padding, number, reference, each, spelling, spellings}

-- two values are one, and what follows them too
pub record Same {A : Type 0} (x y : A) (xs ys : List ℕ) : Type 0 where
  pub value : x ≡ y
  pub rest : xs ≡ ys

-- lists of one length in front of others
pub split : (a b xs ys : List ℕ) → length a ≡ length b → a ++ xs ≡ b ++ ys → Same a b xs ys
split [] [] xs ys len h = record { value = refl; rest = h }
split [] (y ∷ b) xs ys len h = absurd (omega arith)
split (x ∷ a) [] xs ys len h = absurd (omega arith)
split (x ∷ a) (y ∷ b) xs ys len h =
    let first : x ≡ y = cc in
    let others : a ++ xs ≡ b ++ ys = cc in
    let s = split a b xs ys (omega arith) others in
    record { value = λ i. first i ∷ s.value i; rest = s.rest }

-- ---- numbers

pub bytes_8 : (n m : ℕ) (xs ys : List ℕ) → n < 2 ^ 8 → m < 2 ^ 8 → to_be_bytes w8 n ++ xs ≡ to_be_bytes w8 m ++ ys → Same n m xs ys
bytes_8 n m xs ys small low h =
    let s = split (to_be_bytes w8 n) (to_be_bytes w8 m) xs ys refl h in
    let first : n % 256 ≡ m % 256 = (let e = s.value in cc) in
    record { value = omega arith; rest = s.rest }

pub bytes_16 : (n m : ℕ) (xs ys : List ℕ) → n < 2 ^ 16 → m < 2 ^ 16 → to_be_bytes w16 n ++ xs ≡ to_be_bytes w16 m ++ ys → Same n m xs ys
bytes_16 n m xs ys small low h =
    let s = split (to_be_bytes w16 n) (to_be_bytes w16 m) xs ys refl h in
    record { value = sym (from_be_bytes-to_be_bytes_2 n small) ∙ ap (from_be_bytes w16) s.value ∙ from_be_bytes-to_be_bytes_2 m low; rest = s.rest }

pub bytes_32 : (n m : ℕ) (xs ys : List ℕ) → n < 2 ^ 32 → m < 2 ^ 32 → to_be_bytes w32 n ++ xs ≡ to_be_bytes w32 m ++ ys → Same n m xs ys
bytes_32 n m xs ys small low h =
    let s = split (to_be_bytes w32 n) (to_be_bytes w32 m) xs ys refl h in
    record { value = sym (from_be_bytes-to_be_bytes_4 n small) ∙ ap (from_be_bytes w32) s.value ∙ from_be_bytes-to_be_bytes_4 m low; rest = s.rest }

pub bytes_64 : (n m : ℕ) (xs ys : List ℕ) → n < 2 ^ 64 → m < 2 ^ 64 → to_be_bytes w64 n ++ xs ≡ to_be_bytes w64 m ++ ys → Same n m xs ys
bytes_64 n m xs ys small low h =
    let s = split (to_be_bytes w64 n) (to_be_bytes w64 m) xs ys refl h in
    record { value = sym (from_be_bytes-to_be_bytes_8 n small) ∙ ap (from_be_bytes w64) s.value ∙ from_be_bytes-to_be_bytes_8 m low; rest = s.rest }

-- the padding in front is the same
after_padding : (w : Width) (n m at : ℕ) (xs ys : List ℕ) → number w n at ++ xs ≡ number w m at ++ ys → to_be_bytes w n ++ xs ≡ to_be_bytes w m ++ ys
after_padding w n m at xs ys h =
    append_cancel_left (padding (byte_len w) at) (to_be_bytes w n ++ xs) (to_be_bytes w m ++ ys)
    (sym (append_assoc (padding (byte_len w) at) (to_be_bytes w n) xs) ∙ h ∙ append_assoc (padding (byte_len w) at) (to_be_bytes w m) ys)

number_8 : (n m at : ℕ) (xs ys : List ℕ) → n < 2 ^ 8 → m < 2 ^ 8 → number w8 n at ++ xs ≡ number w8 m at ++ ys → Same n m xs ys
number_8 n m at xs ys small low h = bytes_8 n m xs ys small low (after_padding w8 n m at xs ys h)

number_16 : (n m at : ℕ) (xs ys : List ℕ) → n < 2 ^ 16 → m < 2 ^ 16 → number w16 n at ++ xs ≡ number w16 m at ++ ys → Same n m xs ys
number_16 n m at xs ys small low h = bytes_16 n m xs ys small low (after_padding w16 n m at xs ys h)

number_32 : (n m at : ℕ) (xs ys : List ℕ) → n < 2 ^ 32 → m < 2 ^ 32 → number w32 n at ++ xs ≡ number w32 m at ++ ys → Same n m xs ys
number_32 n m at xs ys small low h = bytes_32 n m xs ys small low (after_padding w32 n m at xs ys h)

number_64 : (n m at : ℕ) (xs ys : List ℕ) → n < 2 ^ 64 → m < 2 ^ 64 → number w64 n at ++ xs ≡ number w64 m at ++ ys → Same n m xs ys
number_64 n m at xs ys small low h = bytes_64 n m xs ys small low (after_padding w64 n m at xs ys h)

-- ---- integers

pub bits_16 : (z : ℤ) → FitsSigned w16 z → cast_unsigned w16 z < 2 ^ 16
bits_16 z f = omega (arith, ints)

pub bits_32 : (z : ℤ) → FitsSigned w32 z → cast_unsigned w32 z < 2 ^ 32
bits_32 z f = omega (arith, ints)

pub bits_64 : (z : ℤ) → FitsSigned w64 z → cast_unsigned w64 z < 2 ^ 64
bits_64 z f = omega (arith, ints)

pub signed_same : (w : Width) (z y : ℤ) (xs ys : List ℕ) → FitsSigned w z → FitsSigned w y → Same (cast_unsigned w z) (cast_unsigned w y) xs ys → Same z y xs ys
signed_same w z y xs ys f g s = record { value = sym (to_z-of_z w z f) ∙ ap (cast_signed w) s.value ∙ to_z-of_z w y g; rest = s.rest }

pub low_8 : (z : ℤ) → FitsUnsigned w8 z → cast_unsigned w8 z < 2 ^ 8
low_8 (pos n) f = omega (arith, ints)
low_8 (negsuc n) f = absurd (omega (arith, ints))

pub low_16 : (z : ℤ) → FitsUnsigned w16 z → cast_unsigned w16 z < 2 ^ 16
low_16 (pos n) f = omega (arith, ints)
low_16 (negsuc n) f = absurd (omega (arith, ints))

pub low_32 : (z : ℤ) → FitsUnsigned w32 z → cast_unsigned w32 z < 2 ^ 32
low_32 (pos n) f = omega (arith, ints)
low_32 (negsuc n) f = absurd (omega (arith, ints))

pub low_64 : (z : ℤ) → FitsUnsigned w64 z → cast_unsigned w64 z < 2 ^ 64
low_64 (pos n) f = omega (arith, ints)
low_64 (negsuc n) f = absurd (omega (arith, ints))

pub unsigned_same : (w : Width) (z y : ℤ) (xs ys : List ℕ) → pos 0 ≤ℤ z → pos 0 ≤ℤ y → Same (cast_unsigned w z) (cast_unsigned w y) xs ys → Same z y xs ys
unsigned_same w (pos n) (pos m) xs ys f g s = record { value = ap pos s.value; rest = s.rest }
unsigned_same w (pos n) (negsuc m) xs ys f g s = absurd (omega (arith, ints))
unsigned_same w (negsuc n) y xs ys f g s = absurd (omega (arith, ints))

pub under : {A B : Type 0} {x y : A} {xs ys : List ℕ} (f : A → B) → Same x y xs ys → Same (f x) (f y) xs ys
under f s = record { value = ap f s.value; rest = s.rest }

-- ---- values

-- no value of the type is spelled as the beginning of another
abbrev pub IsApart : PlainType → Type 0
IsApart t = (u v : PlainValue) → Of t u → Of t v → (at : ℕ) (xs ys : List ℕ) → spelling t u at ++ xs ≡ spelling t v at ++ ys → Same u v xs ys

short_apart : IsApart Short
short_apart (Int z) (Int y) f g at xs ys h = under Int (signed_same w16 z y xs ys f g (number_16 (cast_unsigned w16 z) (cast_unsigned w16 y) at xs ys (bits_16 z f) (bits_16 y g) h))
short_apart (Int z) _ f g at xs ys h = absurd g
short_apart _ v f g at xs ys h = absurd f

long_apart : IsApart Long
long_apart (Int z) (Int y) f g at xs ys h = under Int (signed_same w32 z y xs ys f g (number_32 (cast_unsigned w32 z) (cast_unsigned w32 y) at xs ys (bits_32 z f) (bits_32 y g) h))
long_apart (Int z) _ f g at xs ys h = absurd g
long_apart _ v f g at xs ys h = absurd f

long_long_apart : IsApart LongLong
long_long_apart (Int z) (Int y) f g at xs ys h = under Int (signed_same w64 z y xs ys f g (number_64 (cast_unsigned w64 z) (cast_unsigned w64 y) at xs ys (bits_64 z f) (bits_64 y g) h))
long_long_apart (Int z) _ f g at xs ys h = absurd g
long_long_apart _ v f g at xs ys h = absurd f

ushort_apart : IsApart UShort
ushort_apart (Int z) (Int y) f g at xs ys h = under Int (unsigned_same w16 z y xs ys f.0 g.0 (number_16 (cast_unsigned w16 z) (cast_unsigned w16 y) at xs ys (low_16 z f) (low_16 y g) h))
ushort_apart (Int z) _ f g at xs ys h = absurd g
ushort_apart _ v f g at xs ys h = absurd f

ulong_apart : IsApart ULong
ulong_apart (Int z) (Int y) f g at xs ys h = under Int (unsigned_same w32 z y xs ys f.0 g.0 (number_32 (cast_unsigned w32 z) (cast_unsigned w32 y) at xs ys (low_32 z f) (low_32 y g) h))
ulong_apart (Int z) _ f g at xs ys h = absurd g
ulong_apart _ v f g at xs ys h = absurd f

ulong_long_apart : IsApart ULongLong
ulong_long_apart (Int z) (Int y) f g at xs ys h = under Int (unsigned_same w64 z y xs ys f.0 g.0 (number_64 (cast_unsigned w64 z) (cast_unsigned w64 y) at xs ys (low_64 z f) (low_64 y g) h))
ulong_long_apart (Int z) _ f g at xs ys h = absurd g
ulong_long_apart _ v f g at xs ys h = absurd f

octet_apart : IsApart Octet
octet_apart (Int z) (Int y) f g at xs ys h = under Int (unsigned_same w8 z y xs ys f.0 g.0 (number_8 (cast_unsigned w8 z) (cast_unsigned w8 y) at xs ys (low_8 z f) (low_8 y g) h))
octet_apart (Int z) _ f g at xs ys h = absurd g
octet_apart _ v f g at xs ys h = absurd f

char_apart : IsApart Char
char_apart (Character c) (Character d) f g at xs ys h = under Character (number_8 c d at xs ys f g h)
char_apart (Character c) _ f g at xs ys h = absurd g
char_apart _ v f g at xs ys h = absurd f

pub truth_bits : (b : Bool) → from_bool b < 2 ^ 8
truth_bits true = omega arith
truth_bits false = omega arith

pub same_truth : (b c : Bool) → from_bool b ≡ from_bool c → b ≡ c
same_truth true true e = refl
same_truth false false e = refl
same_truth true false e = absurd (omega (arith, e))
same_truth false true e = absurd (omega (arith, e))

truth_apart : IsApart Boolean
truth_apart (Truth b) (Truth c) f g at xs ys h =
    let s = number_8 (from_bool b) (from_bool c) at xs ys (truth_bits b) (truth_bits c) h in
    record { value = ap Truth (same_truth b c s.value); rest = s.rest }
truth_apart (Truth b) _ f g at xs ys h = absurd g
truth_apart _ v f g at xs ys h = absurd f

ordinal_apart : (names : List (List ℕ)) → IsApart (Enum names)
ordinal_apart names (Ordinal n) (Ordinal m) f g at xs ys h = under Ordinal (number_32 n m at xs ys f.1 g.1 h)
ordinal_apart names (Ordinal n) _ f g at xs ys h = absurd g
ordinal_apart names _ v f g at xs ys h = absurd f

text_same : (b c : List ℕ) (at : ℕ) (xs ys : List ℕ) → length b + 1 < 2 ^ 32 → length c + 1 < 2 ^ 32
    → number w32 (length b + 1) at ++ (b ++ 0 ∷ []) ++ xs ≡ number w32 (length c + 1) at ++ (c ++ 0 ∷ []) ++ ys → Same b c xs ys
text_same b c at xs ys small low h =
    let s = number_32 (length b + 1) (length c + 1) at ((b ++ 0 ∷ []) ++ xs) ((c ++ 0 ∷ []) ++ ys) small low
    (sym (append_assoc (number w32 (length b + 1) at) (b ++ 0 ∷ []) xs) ∙ h ∙ append_assoc (number w32 (length c + 1) at) (c ++ 0 ∷ []) ys) in
    let len : length (b ++ 0 ∷ []) ≡ length (c ++ 0 ∷ []) = length-append b (0 ∷ []) ∙ s.value ∙ sym (length-append c (0 ∷ [])) in
    let t = split (b ++ 0 ∷ []) (c ++ 0 ∷ []) xs ys len s.rest in
    record { value = append_cancel_right b c (0 ∷ []) t.value; rest = t.rest }

text_apart : (bound : ℕ) → IsApart (Str bound)
text_apart bound (Text b) (Text c) f g at xs ys h = under Text (text_same b c at xs ys f.2 g.2 h)
text_apart bound (Text b) _ f g at xs ys h = absurd g
text_apart bound _ v f g at xs ys h = absurd f

-- ---- references

numbers_of : ℕ → ℕ → ℕ → List ℕ
numbers_of home serial at = number w32 home at ++ number w64 serial (at + length (number w32 home at))

pid_same : (h s k t at : ℕ) (xs ys : List ℕ) → h < 2 ^ 32 → s < 2 ^ 64 → k < 2 ^ 32 → t < 2 ^ 64 → numbers_of h s at ++ xs ≡ numbers_of k t at ++ ys → Same {A = ℕ × ℕ} (h, s) (k, t) xs ys
unfolding numbers_of
pid_same h s k t at xs ys hs ss ks ts e =
    let a = number_32 h k at (number w64 s (at + length (number w32 h at)) ++ xs) (number w64 t (at + length (number w32 k at)) ++ ys) hs ks
    (sym (append_assoc (number w32 h at) (number w64 s (at + length (number w32 h at))) xs) ∙ e ∙ append_assoc (number w32 k at) (number w64 t (at + length (number w32 k at))) ys) in
    let place : at + length (number w32 h at) ≡ at + length (number w32 k at) = ap (λ (n : ℕ). at + length (number w32 n at)) a.value in
    let b = number_64 s t (at + length (number w32 h at)) xs ys ss ts (a.rest ∙ ap (λ (p : ℕ). number w64 t p ++ ys) (sym place)) in
    record { value = λ i. (a.value i, b.value i); rest = b.rest }

reference_apart : (homes : List HomeNo) → IsApart (RefTo homes)
unfolding numbers_of
reference_apart homes (Ref None) (Ref None) f g at xs ys h =
    record { value = refl; rest = append_cancel_left (reference None at) xs ys h }
reference_apart homes (Ref None) (Ref (Some p)) f g at xs ys h =
    let s = pid_same 0 0 p.home p.serial at xs ys (omega arith) (omega arith) g.1 g.3 h in
    let zero : 0 ≡ p.serial = ap (λ (q : ℕ × ℕ). q.1) s.value in
    absurd (omega (arith, zero, g.2))
reference_apart homes (Ref (Some p)) (Ref None) f g at xs ys h =
    let s = pid_same p.home p.serial 0 0 at xs ys f.1 f.3 (omega arith) (omega arith) h in
    let zero : p.serial ≡ 0 = ap (λ (q : ℕ × ℕ). q.1) s.value in
    absurd (omega (arith, zero, f.2))
reference_apart homes (Ref (Some p)) (Ref (Some q)) f g at xs ys h =
    let s = pid_same p.home p.serial q.home q.serial at xs ys f.1 f.3 g.1 g.3 h in
    record { value = ap (λ (r : ℕ × ℕ). Ref (Some (record { home = r.0; serial = r.1 }))) s.value; rest = s.rest }
reference_apart homes (Ref p) _ f g at xs ys h = absurd g
reference_apart homes _ v f g at xs ys h = absurd f

-- ---- lists of values

each_apart : (P : PlainValue → Type 0) (spell : PlainValue → ℕ → List ℕ)
    → ((u v : PlainValue) → P u → P v → (at : ℕ) (xs ys : List ℕ) → spell u at ++ xs ≡ spell v at ++ ys → Same u v xs ys)
    → (us vs : PlainValues) → EachOf P us → EachOf P vs → count us ≡ count vs → (at : ℕ) (xs ys : List ℕ) → each spell us at ++ xs ≡ each spell vs at ++ ys → Same us vs xs ys
each_apart P spell apart no_values no_values f g n at xs ys h = record { value = refl; rest = h }
each_apart P spell apart no_values (value_and v vs) f g n at xs ys h = absurd (omega (arith, n))
each_apart P spell apart (value_and u us) no_values f g n at xs ys h = absurd (omega (arith, n))
each_apart P spell apart (value_and u us) (value_and v vs) f g n at xs ys h =
    let a = apart u v f.0 g.0 at (each spell us (at + length (spell u at)) ++ xs) (each spell vs (at + length (spell v at)) ++ ys)
    (sym (append_assoc (spell u at) (each spell us (at + length (spell u at))) xs) ∙ h ∙ append_assoc (spell v at) (each spell vs (at + length (spell v at))) ys) in
    let place : at + length (spell u at) ≡ at + length (spell v at) = ap (λ (w : PlainValue). at + length (spell w at)) a.value in
    let n : count us ≡ count vs = omega (arith, n) in
    let b = each_apart P spell apart us vs f.1 g.1 n (at + length (spell u at)) xs ys (a.rest ∙ ap (λ (p : ℕ). each spell vs p ++ ys) (sym place)) in
    record { value = λ i. value_and (a.value i) (b.value i); rest = b.rest }

sequence_apart : (item : PlainType) (bound : ℕ) → IsApart item → IsApart (Seq item bound)
sequence_apart item bound apart (Items us) (Items vs) f g at xs ys h =
    let a = number_32 (count us) (count vs) at (each (spelling item) us (at + length (number w32 (count us) at)) ++ xs) (each (spelling item) vs (at + length (number w32 (count vs) at)) ++ ys) f.2 g.2
    (sym (append_assoc (number w32 (count us) at) (each (spelling item) us (at + length (number w32 (count us) at))) xs) ∙ h ∙ append_assoc (number w32 (count vs) at) (each (spelling item) vs (at + length (number w32 (count vs) at))) ys) in
    let place : at + length (number w32 (count us) at) ≡ at + length (number w32 (count vs) at) = ap (λ (n : ℕ). at + length (number w32 n at)) a.value in
    under Items (each_apart (Of item) (spelling item) apart us vs f.0 g.0 a.value (at + length (number w32 (count us) at)) xs ys (a.rest ∙ ap (λ (p : ℕ). each (spelling item) vs p ++ ys) (sym place)))
sequence_apart item bound apart (Items us) _ f g at xs ys h = absurd g
sequence_apart item bound apart _ v f g at xs ys h = absurd f

array_apart : (item : PlainType) (n : ℕ) → IsApart item → IsApart (Arr item n)
array_apart item n apart (Items us) (Items vs) f g at xs ys h = under Items (each_apart (Of item) (spelling item) apart us vs f.0 g.0 (f.1 ∙ sym g.1) at xs ys h)
array_apart item n apart (Items us) _ f g at xs ys h = absurd g
array_apart item n apart _ v f g at xs ys h = absurd f

-- no values of the fields are spelled as the beginning of others
abbrev pub AreApart : PlainFields → Type 0
AreApart fs = (us vs : PlainValues) → AreOf fs us → AreOf fs vs → (at : ℕ) (xs ys : List ℕ) → spellings fs us at ++ xs ≡ spellings fs vs at ++ ys → Same us vs xs ys

struct_apart : (fs : PlainFields) → AreApart fs → IsApart (Struct fs)
struct_apart fs apart (Parts us) (Parts vs) f g at xs ys h = under Parts (apart us vs f g at xs ys h)
struct_apart fs apart (Parts us) _ f g at xs ys h = absurd g
struct_apart fs apart _ v f g at xs ys h = absurd f

field_apart : (name : List ℕ) (t : PlainType) (fs : PlainFields) → IsApart t → AreApart fs → AreApart (field_and name t fs)
field_apart name t fs one others no_values vs f g at xs ys h = absurd f
field_apart name t fs one others (value_and u us) no_values f g at xs ys h = absurd g
field_apart name t fs one others (value_and u us) (value_and v vs) f g at xs ys h =
    let a = one u v f.0 g.0 at (spellings fs us (at + length (spelling t u at)) ++ xs) (spellings fs vs (at + length (spelling t v at)) ++ ys)
    (sym (append_assoc (spelling t u at) (spellings fs us (at + length (spelling t u at))) xs) ∙ h ∙ append_assoc (spelling t v at) (spellings fs vs (at + length (spelling t v at))) ys) in
    let place : at + length (spelling t u at) ≡ at + length (spelling t v at) = ap (λ (w : PlainValue). at + length (spelling t w at)) a.value in
    let b = others us vs f.1 g.1 (at + length (spelling t u at)) xs ys (a.rest ∙ ap (λ (p : ℕ). spellings fs vs p ++ ys) (sym place)) in
    record { value = λ i. value_and (a.value i) (b.value i); rest = b.rest }

no_field_apart : AreApart no_fields
no_field_apart no_values no_values f g at xs ys h = record { value = refl; rest = h }
no_field_apart no_values (value_and v vs) f g at xs ys h = absurd g
no_field_apart (value_and u us) vs f g at xs ys h = absurd f

mutual
  pub type_apart : (t : PlainType) → IsApart t
  type_apart Short = short_apart
  type_apart Long = long_apart
  type_apart LongLong = long_long_apart
  type_apart UShort = ushort_apart
  type_apart ULong = ulong_apart
  type_apart ULongLong = ulong_long_apart
  type_apart Char = char_apart
  type_apart Boolean = truth_apart
  type_apart Octet = octet_apart
  type_apart (Str bound) = text_apart bound
  type_apart (Seq item bound) = sequence_apart item bound (type_apart item)
  type_apart (Arr item n) = array_apart item n (type_apart item)
  type_apart (Struct fs) = struct_apart fs (fields_apart fs)
  type_apart (Enum names) = ordinal_apart names
  type_apart (RefTo homes) = reference_apart homes

  pub fields_apart : (fs : PlainFields) → AreApart fs
  fields_apart no_fields = no_field_apart
  fields_apart (field_and name t fs) = field_apart name t fs (type_apart t) (fields_apart fs)
