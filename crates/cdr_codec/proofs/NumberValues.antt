-- What is read of a type whose values are numbers.
use Rattle.std.proofs.Common.{◌≡◌, ℕ, suc, zero, ◌+◌, ◌-◌, ◌^◌, ◌<◌, ◌≤◌, Bool, true, false, cond, List, length, get_or, drop, Some, Result, Ok, Err, refl, sym, ap, subst, ◌∙◌, arith}
use Rattle.std.specs.Prelude.{◌==◌, pos, not, nat_lt, slice_range}
use Rattle.std.specs.Int.{w16, w32, w64, cast_signed}
use Rattle.std.proofs.lemmas.Bool.{le-ltb}
use Rattle.std.proofs.lemmas.List.{get_or-drop, get_or-take}
use Rattle.byteorder.specs.Endian.{big_number}
use Rattle.type_layout.specs.Types.{PlainType, Short, Long, LongLong, UShort, ULong, ULongLong, Char, Boolean, Octet, Enum, PlainValue, Int, Character, Truth, Ordinal}
use Rattle.cdr_codec.specs.declared.fault.RecordFault.{RecordFault}
use Rattle.cdr_codec.specs.declared.fault.RecordFault.TheVariants as fault
use Rattle.cdr_codec.specs.declared.fault.Found.{Found}
use Rattle.cdr_codec.specs.declared.width.Width.{Width}
use Rattle.cdr_codec.specs.declared.width.Width.TheVariants as width
use Rattle.cdr_codec.specs.Reading.{◌>>=◌, Fails, plain_at, one_at, pads_at, found_at, judged_at, value_at}
use Rattle.cdr_codec.specs.declared.fault.Stop.{Stop}
use Rattle.cdr_codec.specs.declared.fault.Stop.TheVariants as errors
use Rattle.cdr_codec.specs.Taken.{IsFault, value_takes}
use Rattle.cdr_codec.specs.Widths.{octets_in, number_width, FitsNumber, number_value}
use Rattle.cdr_codec.proofs.Readers.{done}
use Rattle.cdr_codec.proofs.Octets.{first_octet}

-- a number that is found, as the type's value
abbrev pub as_value : PlainType → Result Found RecordFault → Result (PlainValue × ℕ) RecordFault
as_value t found = found >>= λ x. number_value t x >>= λ v. done {A = PlainValue × ℕ} (v, x.after)

plain_reads : (f : ℕ → PlainValue) (r : Result Found RecordFault) → ((r >>= λ x. done {A = ℕ × ℕ} (x.number, x.after)) >>= λ x. done {A = PlainValue × ℕ} (f x.0, x.1)) ≡ (r >>= λ x. done {A = PlainValue × ℕ} (f x.number, x.after))
plain_reads f (Ok x) = refl
plain_reads f (Err e) = refl

by_test : (test : Bool) (e : RecordFault) (n after : ℕ) (f : ℕ → PlainValue)
    → (cond {A = Result (ℕ × ℕ) RecordFault} test (Err e) (Ok (n, after)) >>= λ x. done {A = PlainValue × ℕ} (f x.0, x.1)) ≡ (cond {A = Result PlainValue RecordFault} test (Err e) (Ok (f n)) >>= λ v. done {A = PlainValue × ℕ} (v, after))
by_test true e n after f = refl
by_test false e n after f = refl

tested_reads : (test : Found → Bool) (bad : Found → RecordFault) (f : ℕ → PlainValue) (r : Result Found RecordFault)
    → ((r >>= λ x. cond {A = Result (ℕ × ℕ) RecordFault} (test x) (Err (bad x)) (Ok (x.number, x.after))) >>= λ x. done {A = PlainValue × ℕ} (f x.0, x.1)) ≡ (r >>= λ x. cond {A = Result PlainValue RecordFault} (test x) (Err (bad x)) (Ok (f x.number)) >>= λ v. done {A = PlainValue × ℕ} (v, x.after))
tested_reads test bad f (Ok x) = by_test (test x) (bad x) x.number x.after f
tested_reads test bad f (Err e) = refl

abbrev IsRead : PlainType → List ℕ → ℕ → Width → Type 0
IsRead t bytes at w = value_at t bytes at ≡ as_value t (found_at (octets_in w) bytes at)

pub number_reads : (t : PlainType) (w : Width) → number_width t ≡ Some w → (bytes : List ℕ) (at : ℕ) → IsRead t bytes at w
unfolding value_at judged_at
number_reads Short w e bytes at = (let is : width.Two ≡ w = cc in subst (IsRead Short bytes at) is (plain_reads (λ n. Int (cast_signed w16 n)) (found_at 2 bytes at)))
number_reads Long w e bytes at = (let is : width.Four ≡ w = cc in subst (IsRead Long bytes at) is (plain_reads (λ n. Int (cast_signed w32 n)) (found_at 4 bytes at)))
number_reads LongLong w e bytes at = (let is : width.Eight ≡ w = cc in subst (IsRead LongLong bytes at) is (plain_reads (λ n. Int (cast_signed w64 n)) (found_at 8 bytes at)))
number_reads UShort w e bytes at = (let is : width.Two ≡ w = cc in subst (IsRead UShort bytes at) is (plain_reads (λ n. Int (pos n)) (found_at 2 bytes at)))
number_reads ULong w e bytes at = (let is : width.Four ≡ w = cc in subst (IsRead ULong bytes at) is (plain_reads (λ n. Int (pos n)) (found_at 4 bytes at)))
number_reads ULongLong w e bytes at = (let is : width.Eight ≡ w = cc in subst (IsRead ULongLong bytes at) is (plain_reads (λ n. Int (pos n)) (found_at 8 bytes at)))
number_reads Char w e bytes at = (let is : width.One ≡ w = cc in subst (IsRead Char bytes at) is (plain_reads Character (found_at 1 bytes at)))
number_reads Octet w e bytes at = (let is : width.One ≡ w = cc in subst (IsRead Octet bytes at) is (plain_reads (λ n. Int (pos n)) (found_at 1 bytes at)))
number_reads Boolean w e bytes at = (let is : width.One ≡ w = cc in subst (IsRead Boolean bytes at) is (tested_reads (λ x. nat_lt 1 x.number) (λ x. fault.BadBool x.start) (λ n. Truth (n == 1)) (found_at 1 bytes at)))
number_reads (Enum names) w e bytes at = (let is : width.Four ≡ w = cc in subst (IsRead (Enum names) bytes at) is (tested_reads (λ x. not (nat_lt x.number (length names))) (λ x. fault.BadEnum x.start) Ordinal (found_at 4 bytes at)))
number_reads _ w e bytes at = absurd cc

pub number_takes : (t : PlainType) (w : Width) → number_width t ≡ Some w → (bytes : List ℕ) (at : ℕ) → value_takes t bytes at ≡ 1
unfolding value_takes
number_takes Short w e bytes at = refl
number_takes Long w e bytes at = refl
number_takes LongLong w e bytes at = refl
number_takes UShort w e bytes at = refl
number_takes ULong w e bytes at = refl
number_takes ULongLong w e bytes at = refl
number_takes Char w e bytes at = refl
number_takes Octet w e bytes at = refl
number_takes Boolean w e bytes at = refl
number_takes (Enum names) w e bytes at = refl
number_takes _ w e bytes at = absurd cc

pub number_is : (t : PlainType) (w : Width) → number_width t ≡ Some w → (n : ℕ) → n < 256 ^ octets_in w → FitsNumber t n
number_is Short w e n lt = (let is : width.Two ≡ w = cc in let few = subst (λ (k : Width). n < 256 ^ octets_in k) (sym is) lt in omega arith)
number_is Long w e n lt = (let is : width.Four ≡ w = cc in let few = subst (λ (k : Width). n < 256 ^ octets_in k) (sym is) lt in omega arith)
number_is LongLong w e n lt = (let is : width.Eight ≡ w = cc in let few = subst (λ (k : Width). n < 256 ^ octets_in k) (sym is) lt in omega arith)
number_is UShort w e n lt = (let is : width.Two ≡ w = cc in let few = subst (λ (k : Width). n < 256 ^ octets_in k) (sym is) lt in omega arith)
number_is ULong w e n lt = (let is : width.Four ≡ w = cc in let few = subst (λ (k : Width). n < 256 ^ octets_in k) (sym is) lt in omega arith)
number_is ULongLong w e n lt = (let is : width.Eight ≡ w = cc in let few = subst (λ (k : Width). n < 256 ^ octets_in k) (sym is) lt in omega arith)
number_is Char w e n lt = (let is : width.One ≡ w = cc in let few = subst (λ (k : Width). n < 256 ^ octets_in k) (sym is) lt in omega arith)
number_is Octet w e n lt = (let is : width.One ≡ w = cc in let few = subst (λ (k : Width). n < 256 ^ octets_in k) (sym is) lt in omega arith)
number_is Boolean w e n lt = (let is : width.One ≡ w = cc in let few = subst (λ (k : Width). n < 256 ^ octets_in k) (sym is) lt in omega arith)
number_is (Enum names) w e n lt = (let is : width.Four ≡ w = cc in let few = subst (λ (k : Width). n < 256 ^ octets_in k) (sym is) lt in omega arith)
number_is _ w e n lt = absurd cc

-- what a reader of such a value gives, or stops with

pub value_gives : (t : PlainType) (r : Result Found RecordFault) (x : Found) (v : PlainValue) → r ≡ Ok x → number_value t x ≡ Ok v → as_value t r ≡ Ok (v, x.after)
value_gives t r x v h k = ap (as_value t) h ∙ ap (λ (m : Result PlainValue RecordFault). m >>= λ v. done {A = PlainValue × ℕ} (v, x.after)) k

pub value_fails : (t : PlainType) (e : Stop) (r : Result Found RecordFault) (x : Found) → r ≡ Ok x → Fails e (number_value t x) → Fails e (as_value t r)
value_fails t errors.Memory r x h k = tt
value_fails t (errors.Fault f) r x h k = ap (as_value t) h ∙ ap (λ (m : Result PlainValue RecordFault). m >>= λ v. done {A = PlainValue × ℕ} (v, x.after)) k

pub found_fails : (t : PlainType) (e : Stop) (r : Result Found RecordFault) → Fails e r → Fails e (as_value t r)
found_fails t errors.Memory r h = tt
found_fails t (errors.Fault f) r h = ap (as_value t) h

pub took_one : (e : Stop) (old new n : ℕ) → new ≡ old + 1 → n ≡ 1 → IsFault e → new ≡ old + n
took_one e old new n h k fault = omega (arith, h, k)

-- octets that are all padding
pub pads_fine : (n : ℕ) (bytes : List ℕ) (at : ℕ) → at + n ≤ length bytes → ((k : ℕ) → k < n → get_or bytes (at + k) 0 ≡ 0) → pads_at n bytes at ≡ Ok (at + n)
unfolding pads_at one_at plain_at
pads_fine zero bytes at le zeros = (let same : at ≡ at + 0 = omega arith in ap (λ (k : ℕ). done k) same)
pads_fine (suc n) bytes at le zeros =
    let here : nat_lt (length bytes) (at + 1) ≡ false = le-ltb (length bytes) (at + 1) (omega arith) in
    let same : at + 0 ≡ at = omega arith in
    let is : big_number 1 (drop at bytes) ≡ 0 = first_octet bytes at ∙ ap (λ (k : ℕ). get_or bytes k 0) (sym same) ∙ zeros 0 (omega arith) in
    let later : pads_at n bytes (at + 1) ≡ Ok (at + 1 + n) = pads_fine n bytes (at + 1) (omega arith) (λ k lt. (let moved : at + suc k ≡ at + 1 + k = omega arith in ap (λ (j : ℕ). get_or bytes j 0) (sym moved) ∙ zeros (suc k) (omega arith))) in
    let end : at + 1 + n ≡ at + suc n = omega arith in
    rw (here, is) (later ∙ ap (λ (k : ℕ). done k) end)

pub all_pads : (n : ℕ) (bytes : List ℕ) (at : ℕ) (octets : List ℕ) → at + n ≤ length bytes → octets ≡ slice_range bytes at (at + n) → length octets + at ≡ at + n → ((i : ℕ) → i < length octets → get_or octets i 0 ≡ 0) → pads_at n bytes at ≡ Ok (at + n)
all_pads n bytes at octets le same size zeros = pads_fine n bytes at le (λ k lt.
    let short : k < at + n - at = omega arith in
    sym (get_or-drop at bytes k 0) ∙ sym (get_or-take (at + n - at) (drop at bytes) k 0 short) ∙ ap (λ (l : List ℕ). get_or l k 0) (sym same) ∙ zeros k (omega (arith, size)))
