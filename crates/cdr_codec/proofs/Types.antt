-- What the readers of values owe to the pieces of values.
use Rattle.std.proofs.Common.{◌≡◌, ℕ, zero, suc, ◌+◌, ◌-◌, ◌^◌, ◌<◌, ◌≤◌, Bool, true, false, cond, eqb, ltb, List, [], ◌∷◌, length, Option, Some, None, Result, Ok, Err, refl, sym, ap, subst, ◌∙◌, arith, pos, negsuc, Fits, rules}
use Rattle.std.specs.Prelude.{FitsSigned, IsTrue, not, ◌||◌, ◌&&◌}
use Rattle.std.specs.Int.{w8, w16, w32, w64, FitsUnsigned, cast_signed, cast_unsigned, from_bool}
use Rattle.std.proofs.lemmas.Bool.{ltb-false, ltb-true, le-ltb, lt-ltb, eqb-true, eq-eqb}
use Rattle.std.proofs.lemmas.Int.{of_z-to_z, to_z-of_z, ints}
use Rattle.std.proofs.Math.Facts.{sfits_to_z, Fits-of_z}
use Rattle.byteorder.specs.Endian.{big_bytes}
use Rattle.pss_base.specs.declared.pid.Pid.{Pid}
use Rattle.type_layout.specs.declared.home.HomeNo.{HomeNo}
use Rattle.type_layout.specs.Types.{PlainType, Short, Long, LongLong, UShort, ULong, ULongLong, Char, Boolean, Octet, Str, Seq, Arr, Struct, Enum, RefTo, PlainFields, no_fields, field_and, PlainValue, Int, Character, Truth, Ordinal, Text, Items, Parts, Ref, PlainValues, no_values, value_and, values_of}
use Rattle.type_layout.specs.Values.{Of, AreOf, EachOf, LeadsTo, count, is_over, has_zero, are_bytes, lists}
use Rattle.type_layout.specs.Sound.{IsSound, AreSound, Rise}
use Rattle.type_layout.specs.Spelling.{gap}
use Rattle.cdr_codec.specs.declared.fault.RecordFault.{RecordFault}
use Rattle.cdr_codec.specs.declared.fault.Found.{Found}
use Rattle.cdr_codec.specs.Primitives.{One, Two, Four, Eight, Primitive, Pad, Plain, Logical, Enumerator, TextLength, ItemCount, Home, Serial, width_of, refuses, fault_at, Piece, followed, pads, aligned, letters, home_of, serial_of, each_piece, pieces, field_pieces}
use Rattle.cdr_codec.specs.Reading.{◌>>=◌, Reader, plain_at, one_at, pads_at, found_at, judged_at, letters_at, text_at, times_at, items_at, pid_of, pid_at, value_at, fields_at}
use Rattle.cdr_codec.proofs.Octets.{IsNumber}
use Rattle.cdr_codec.proofs.Readers.{done, bind_id, IsReader, nothing_law, both_law, seen_law}
use Rattle.cdr_codec.proofs.Ones.{MayBe, one_law}
use Rattle.cdr_codec.proofs.Texts.{IsText, letters_law}

-- ---- a number behind its padding

abbrev Any : Unit {0} → Type 0
Any x = Unit {0}

-- nothing but a place
abbrev marked : ℕ → Result (Unit {0} × ℕ) RecordFault
marked after = Ok (tt, after)

abbrev padding_at : ℕ → Reader (Unit {0})
padding_at n bytes at = pads_at n bytes at >>= marked

pub no_pad : (x : ℕ) → not (eqb x 0) ≡ false → x ≡ 0
no_pad x e = by_test (eqb x 0) refl e
  where
    by_test : (t : Bool) → eqb x 0 ≡ t → not t ≡ false → x ≡ 0
    by_test true test e = eqb-true x 0 test
    by_test false test e = absurd cc

pads_again : (r : Result (ℕ × ℕ) RecordFault) (g : ℕ → Result ℕ RecordFault) → ((r >>= λ b. g b.1) >>= marked) ≡ (r >>= λ x. (g x.1 >>= marked) >>= λ y. marked y.1)
pads_again (Ok x) g = by_second (g x.1)
  where
    by_second : (r : Result ℕ RecordFault) → (r >>= marked) ≡ ((r >>= marked) >>= λ y. marked y.1)
    by_second (Ok n) = refl
    by_second (Err f) = refl
pads_again (Err f) g = refl

pads_law : (n : ℕ) → IsReader (padding_at n) (λ x at. pads n) Any
unfolding pads_at
pads_law zero = nothing_law tt Any tt (λ y f. refl)
pads_law (suc n) = both_law (one_at Pad) (λ x at. record { what = Pad; octets = big_bytes 1 x } ∷ []) (MayBe Pad) (λ x. padding_at n) (λ x y at. pads n) (λ x y. Unit {0}) (padding_at (suc n)) (λ x at. pads (suc n)) Any (λ x y. tt)
    (one_law Pad tt 0 (omega arith, refl)) (λ x f. pads_law n) (λ bytes at. pads_again (one_at Pad bytes at) (pads_at n bytes))
    (λ x y f g. (tt, (λ at. ap (λ (b : ℕ). record { what = Pad; octets = big_bytes 1 b } ∷ pads n) (sym (no_pad x f.1)))))
    (λ z f. (0, tt, (omega arith, refl), tt, refl))

padded_law : (k : ℕ) → IsReader (λ bytes at. padding_at (gap k at) bytes at) (λ x at. pads (gap k at)) Any
padded_law k = record {
  some = tt;
  some_fits = tt;
  takes = λ bytes at x after o le e. (pads_law (gap k at)).takes bytes at x after o le e;
  reads = λ bytes at x rest le f h. (pads_law (gap k at)).reads bytes at x rest le f h;
  stops = λ bytes at f o le e. (let s = (pads_law (gap k at)).stops bytes at f o le e in record { value = s.value; fits = s.fits; cut = s.cut });
  refuses = λ bytes at x f le fits cut. (pads_law (gap k at)).refuses bytes at x f le fits cut;
}

abbrev found_is : ℕ → ℕ × ℕ → Result Found RecordFault
found_is start n = Ok (record { start = start; number = n.0; after = n.1 })

abbrev judged_number : Primitive → ℕ → ℕ × ℕ → Result (ℕ × ℕ) RecordFault
judged_number p start n = cond (refuses p n.0) (Err (fault_at p n.0 start)) (Ok (n.0, n.1))

abbrev judged_found : Primitive → Found → Result (ℕ × ℕ) RecordFault
judged_found p x = cond (refuses p x.number) (Err (fault_at p x.number x.start)) (Ok (x.number, x.after))

abbrev same_pair : ℕ × ℕ → Result (ℕ × ℕ) RecordFault
same_pair y = Ok (y.0, y.1)

judged_again : (p : Primitive) (bytes : List ℕ) (at : ℕ) → judged_at p bytes at ≡ (padding_at (gap (width_of p) at) bytes at >>= λ x. one_at p bytes x.1 >>= same_pair)
unfolding judged_at found_at one_at
judged_again p bytes at = by_pads (pads_at (gap (width_of p) at) bytes at)
  where
    by_number : (start : ℕ) (r : Result (ℕ × ℕ) RecordFault) → ((r >>= found_is start) >>= judged_found p) ≡ ((r >>= judged_number p start) >>= same_pair)
    by_number start (Err f) = refl
    by_number start (Ok n) = bind_id (judged_number p start n)

    by_pads : (r : Result ℕ RecordFault) → ((r >>= λ start. plain_at (width_of p) bytes start >>= found_is start) >>= judged_found p) ≡ ((r >>= marked) >>= λ x. (plain_at (width_of p) bytes x.1 >>= judged_number p x.1) >>= same_pair)
    by_pads (Err f) = refl
    by_pads (Ok start) = by_number start (plain_at (width_of p) bytes start)

pub judged_law : (p : Primitive) → IsNumber p → (n : ℕ) → MayBe p n → IsReader (judged_at p) (aligned p) (MayBe p)
judged_law p is n fits = both_law (λ bytes at. padding_at (gap (width_of p) at) bytes at) (λ x at. pads (gap (width_of p) at)) Any (λ x. one_at p) (λ x n at. record { what = p; octets = big_bytes (width_of p) n } ∷ []) (λ x. MayBe p) (judged_at p) (aligned p) (MayBe p) (λ x n. n)
    (padded_law (width_of p)) (λ x f. one_law p is n fits) (judged_again p) (λ x n f g. (g, (λ at. refl))) (λ z f. (tt, z, tt, f, refl))

-- ---- strings

pub bind_same : {A B : Type 0} (r : Result A RecordFault) (f g : A → Result B RecordFault) → ((x : A) → f x ≡ g x) → (r >>= f) ≡ (r >>= g)
bind_same (Ok x) f g same = same x
bind_same (Err e) f g same = refl

none_over : (bound : ℕ) → is_over bound 0 ≡ false
none_over bound = ap (λ (t : Bool). not (eqb bound 0) && t) (le-ltb bound 0 (omega arith)) ∙ by_test (not (eqb bound 0))
  where
    by_test : (b : Bool) → (b && false) ≡ false
    by_test true = refl
    by_test false = refl

-- a string within its bound
abbrev pub IsShort : ℕ → List ℕ → Type 0
IsShort bound bytes = (has_zero bytes ≡ false) × (is_over bound (length bytes) ≡ false) × (length bytes + 1 < 2 ^ 32) × IsTrue (are_bytes bytes)

pub or_false : (a b : Bool) → (a || b) ≡ false → (a ≡ false) × (b ≡ false)
or_false true b e = absurd cc
or_false false b e = (refl, e)

pub not_none : (n : ℕ) → eqb n 0 ≡ false → n ≡ n - 1 + 1
not_none zero e = absurd cc
not_none (suc n) e = omega arith

above_zero : (m : ℕ) → 0 < m → eqb m 0 ≡ false
above_zero m h = by_test (eqb m 0) refl
  where
    by_test : (t : Bool) → eqb m 0 ≡ t → eqb m 0 ≡ false
    by_test true test = (let no : m ≡ 0 = eqb-true m 0 test in absurd (omega arith))
    by_test false test = test

pub may_measure : (bound : ℕ) (t : List ℕ) → IsShort bound t → MayBe (TextLength bound) (length t + 1)
may_measure bound t f =
    let less : length t + 1 - 1 ≡ length t = omega arith in
    let first = above_zero (length t + 1) (omega arith) in
    (omega (arith, f.2), rw (first, less) f.1)

text_law : (bound : ℕ) → IsReader (text_at bound) (λ bytes at. followed (aligned (TextLength bound) (length bytes + 1) at) (λ next. letters bytes) at) (IsShort bound)
unfolding text_at
text_law bound = both_law (judged_at (TextLength bound)) (aligned (TextLength bound)) (MayBe (TextLength bound)) (λ n. letters_at (n - 1)) (λ n t at. letters t) (λ n. IsText (n - 1)) (text_at bound) (λ bytes at. followed (aligned (TextLength bound) (length bytes + 1) at) (λ next. letters bytes) at) (IsShort bound) (λ n t. t)
    (judged_law (TextLength bound) tt 1 (omega arith, none_over bound)) (λ n f. letters_law (n - 1))
    (λ bytes at. bind_same (judged_at (TextLength bound) bytes at) (λ n. letters_at (n.0 - 1) bytes n.1) (λ n. letters_at (n.0 - 1) bytes n.1 >>= λ y. done (y.0, y.1)) (λ n. bind_id (letters_at (n.0 - 1) bytes n.1)))
    forth back
  where
    forth : (n : ℕ) (t : List ℕ) → MayBe (TextLength bound) n → IsText (n - 1) t → IsShort bound t × ((at : ℕ) → followed (aligned (TextLength bound) (length t + 1) at) (λ next. letters t) at ≡ followed (aligned (TextLength bound) n at) (λ next. letters t) at)
    forth n t f g =
        let tests = or_false (eqb n 0) (is_over bound (n - 1)) f.1 in
        let is : n ≡ length t + 1 = not_none n tests.0 ∙ ap (λ (k : ℕ). k + 1) (sym g.1) in
        ((g.0, ap (is_over bound) g.1 ∙ tests.1, omega (arith, is, f.0), g.2), (λ at. ap (λ (k : ℕ). followed (aligned (TextLength bound) k at) (λ next. letters t) at) (sym is)))

    back : (t : List ℕ) → IsShort bound t → (n : ℕ) × (u : List ℕ) × MayBe (TextLength bound) n × IsText (n - 1) u × (u ≡ t)
    back t f = (let less : length t + 1 - 1 ≡ length t = omega arith in (length t + 1, t, may_measure bound t f, (f.0, sym less, f.3), refl))

-- ---- sequences and arrays

-- so many values, each fit
abbrev AreFit : (PlainValue → Type 0) → ℕ → List PlainValue → Type 0
AreFit F n vs = EachOf F (values_of vs) × (count (values_of vs) ≡ n)

times_law : (one : Reader PlainValue) (spell : PlainValue → ℕ → List Piece) (F : PlainValue → Type 0) → IsReader one spell F → (n : ℕ) → IsReader (times_at one n) (λ vs. each_piece spell (values_of vs)) (AreFit F n)
unfolding times_at
times_law one spell F l zero = seen_law (λ bytes at. done (tt, at)) (λ x at. []) Any (times_at one zero) (λ vs. each_piece spell (values_of vs)) (AreFit F 0) (λ x. []) (nothing_law tt Any tt (λ y f. refl)) (λ bytes at. refl) (λ x f. ((tt, refl), (λ at. refl))) none
  where
    none : (vs : List PlainValue) → AreFit F 0 vs → (x : Unit {0}) × Any x × ([] ≡ vs)
    none [] f = (tt, tt, refl)
    none (v ∷ vs) f = absurd (omega (arith, f.1))
times_law one spell F l (suc n) = both_law one spell F (λ v. times_at one n) (λ v vs. each_piece spell (values_of vs)) (λ v. AreFit F n) (times_at one (suc n)) (λ vs. each_piece spell (values_of vs)) (AreFit F (suc n)) (λ v vs. v ∷ vs)
    l (λ v f. times_law one spell F l n) (λ bytes at. refl) (λ v vs f g. (((f, g.0), omega (arith, g.1)), (λ at. refl))) some
  where
    some : (vs : List PlainValue) → AreFit F (suc n) vs → (v : PlainValue) × (us : List PlainValue) × F v × AreFit F n us × (v ∷ us ≡ vs)
    some [] f = absurd (omega (arith, f.1))
    some (v ∷ vs) f = (v, vs, f.0.0, (f.0.1, omega (arith, f.1)), refl)

-- values within a bound
abbrev AreFew : (PlainValue → Type 0) → ℕ → List PlainValue → Type 0
AreFew F bound vs = EachOf F (values_of vs) × (is_over bound (count (values_of vs)) ≡ false) × (count (values_of vs) < 2 ^ 32)

abbrev items_spelled : (PlainValue → ℕ → List Piece) → ℕ → List PlainValue → ℕ → List Piece
items_spelled spell bound vs at = followed (aligned (ItemCount bound) (count (values_of vs)) at) (each_piece spell (values_of vs)) at

items_law : (one : Reader PlainValue) (spell : PlainValue → ℕ → List Piece) (F : PlainValue → Type 0) → IsReader one spell F → (bound : ℕ) → IsReader (items_at one bound) (items_spelled spell bound) (AreFew F bound)
unfolding items_at
items_law one spell F l bound = both_law (judged_at (ItemCount bound)) (aligned (ItemCount bound)) (MayBe (ItemCount bound)) (λ n. times_at one n) (λ n vs. each_piece spell (values_of vs)) (λ n. AreFit F n) (items_at one bound) (items_spelled spell bound) (AreFew F bound) (λ n vs. vs)
    (judged_law (ItemCount bound) tt 0 (omega arith, none_over bound)) (λ n f. times_law one spell F l n)
    (λ bytes at. bind_same (judged_at (ItemCount bound) bytes at) (λ n. times_at one n.0 bytes n.1) (λ n. times_at one n.0 bytes n.1 >>= λ y. done (y.0, y.1)) (λ n. bind_id (times_at one n.0 bytes n.1)))
    (λ n vs f g. ((g.0, ap (is_over bound) g.1 ∙ f.1, omega (arith, f.0, g.1)), (λ at. ap (λ (k : ℕ). followed (aligned (ItemCount bound) k at) (each_piece spell (values_of vs)) at) g.1)))
    (λ vs f. (count (values_of vs), vs, (omega (arith, f.2), f.1), (f.0, refl), refl))

-- ---- references

listed_above : (last n : ℕ) (homes : List HomeNo) → Rise last homes → lists homes n ≡ true → last < n
listed_above last n [] rise e = absurd cc
listed_above last n (h ∷ hs) rise e = by_test (eqb h.0 n) refl e (listed_above h.0 n hs rise.1)
  where
    by_test : (t : Bool) → eqb h.0 n ≡ t → (t || lists hs n) ≡ true → (lists hs n ≡ true → h.0 < n) → last < n
    by_test true test e later = (let is : h.0 ≡ n = eqb-true h.0 n test in omega (arith, rise.0, is))
    by_test false test e later = (let lt = later e in omega (arith, rise.0, lt))

serial_some : (h : ℕ) → (n : ℕ) × MayBe (Serial h) n
serial_some h = by_test (eqb h 0) refl
  where
    by_test : (t : Bool) → eqb h 0 ≡ t → (n : ℕ) × MayBe (Serial h) n
    by_test true test = (0, (omega arith, rw test refl))
    by_test false test = (1, (omega arith, rw test refl))

or_true : (a b : Bool) → b ≡ true → not (a || b) ≡ false
or_true true b e = refl
or_true false b e = ap not e

listed : (a b : Bool) → a ≡ false → not (a || b) ≡ false → b ≡ true
listed true b none e = absurd cc
listed false true none e = refl
listed false false none e = absurd cc

abbrev pid_spelled : List HomeNo → Option Pid → ℕ → List Piece
pid_spelled homes pid at = followed (aligned (Home homes) (home_of pid) at) (aligned (Serial (home_of pid)) (serial_of pid)) at

pub may_lead : (homes : List HomeNo) (pid : Option Pid) → LeadsTo homes pid → MayBe (Home homes) (home_of pid)
may_lead homes None f = (omega arith, refl)
may_lead homes (Some pid) f = (omega (arith, f.1), or_true (eqb pid.home 0) (lists homes pid.home) f.0)

pid_law : (homes : List HomeNo) → Rise 0 homes → IsReader (pid_at homes) (pid_spelled homes) (LeadsTo homes)
unfolding pid_at
pid_law homes rise = both_law (judged_at (Home homes)) (aligned (Home homes)) (MayBe (Home homes)) (λ h. judged_at (Serial h)) (λ h. aligned (Serial h)) (λ h. MayBe (Serial h)) (pid_at homes) (pid_spelled homes) (LeadsTo homes) pid_of
    (judged_law (Home homes) tt 0 (omega arith, refl)) (λ h f. judged_law (Serial h) tt (serial_some h).0 (serial_some h).1) (λ bytes at. refl) (λ h n f g. forth h n f g (eqb h 0) refl) back
  where
    forth : (h n : ℕ) → MayBe (Home homes) h → MayBe (Serial h) n → (t : Bool) → eqb h 0 ≡ t → LeadsTo homes (pid_of h n) × ((at : ℕ) → pid_spelled homes (pid_of h n) at ≡ followed (aligned (Home homes) h at) (aligned (Serial h) n) at)
    forth h n f g true test =
        let home : h ≡ 0 = eqb-true h 0 test in
        let serial : n ≡ 0 = no_pad n (rw test at g.1) in
        let none : pid_of h n ≡ None = rw test refl in (
          subst (LeadsTo homes) (sym none) tt,
          (λ at. ap (λ (p : Option Pid). pid_spelled homes p at) none ∙ ap (λ (k : ℕ). followed (aligned (Home homes) k at) (aligned (Serial k) 0) at) (sym home) ∙ ap (λ (k : ℕ). followed (aligned (Home homes) h at) (aligned (Serial h) k) at) (sym serial)),
        )
    forth h n f g false test =
        let some : pid_of h n ≡ Some (record { home = h; serial = n }) = rw test refl in
        let last : eqb n 0 ≡ false = rw test at g.1 in
        let positive : n ≡ n - 1 + 1 = not_none n last in (
          subst (LeadsTo homes) (sym some) (listed (eqb h 0) (lists homes h) test f.1, omega (arith, f.0), omega (arith, positive), omega (arith, g.0)),
          (λ at. ap (λ (p : Option Pid). pid_spelled homes p at) some),
        )

    back : (pid : Option Pid) → LeadsTo homes pid → (h : ℕ) × (n : ℕ) × MayBe (Home homes) h × MayBe (Serial h) n × (pid_of h n ≡ pid)
    back None f = (0, 0, (omega arith, refl), (omega arith, refl), refl)
    back (Some pid) f =
        let named = f.0 in
        let above = listed_above 0 pid.home homes rise named in
        let first = above_zero pid.home above in
        let second = above_zero pid.serial f.2 in
        (pid.home, pid.serial, may_lead homes (Some pid) f, (omega (arith, f.3), rw first second), rw first refl)

-- ---- values

seen_number : (p : Primitive) → IsNumber p → (n : ℕ) → MayBe p n → (t : PlainType) (make : ℕ → PlainValue)
    → ((bytes : List ℕ) (at : ℕ) → value_at t bytes at ≡ (judged_at p bytes at >>= λ x. done (make x.0, x.1)))
    → ((x : ℕ) → MayBe p x → Of t (make x) × ((at : ℕ) → pieces t (make x) at ≡ aligned p x at))
    → ((v : PlainValue) → Of t v → (x : ℕ) × MayBe p x × (make x ≡ v))
    → IsReader (value_at t) (pieces t) (Of t)
seen_number p is n fits t make same forth back = seen_law (judged_at p) (aligned p) (MayBe p) (value_at t) (pieces t) (Of t) make (judged_law p is n fits) same forth back

short_law : IsReader (value_at Short) (pieces Short) (Of Short)
unfolding value_at
short_law = seen_number (Plain Two) tt 0 (omega arith, refl) Short (λ n. Int (cast_signed w16 n)) (λ bytes at. refl) forth back
  where
    forth : (x : ℕ) → MayBe (Plain Two) x → FitsSigned w16 (cast_signed w16 x) × ((at : ℕ) → aligned (Plain Two) (cast_unsigned w16 (cast_signed w16 x)) at ≡ aligned (Plain Two) x at)
    forth x f =
        let small : x < 2 ^ 16 = omega (arith, f.0) in
        let fits : Fits w16 x = search rules in
        (sfits_to_z fits, (λ at. ap (λ (k : ℕ). aligned (Plain Two) k at) (of_z-to_z w16 x small)))

    back : (v : PlainValue) → Of Short v → (x : ℕ) × MayBe (Plain Two) x × (Int (cast_signed w16 x) ≡ v)
    back (Int z) f = (cast_unsigned w16 z, (let fits = Fits-of_z f in (omega arith, refl)), ap Int (to_z-of_z w16 z f))
    back _ f = absurd f

long_law : IsReader (value_at Long) (pieces Long) (Of Long)
unfolding value_at
long_law = seen_number (Plain Four) tt 0 (omega arith, refl) Long (λ n. Int (cast_signed w32 n)) (λ bytes at. refl) forth back
  where
    forth : (x : ℕ) → MayBe (Plain Four) x → FitsSigned w32 (cast_signed w32 x) × ((at : ℕ) → aligned (Plain Four) (cast_unsigned w32 (cast_signed w32 x)) at ≡ aligned (Plain Four) x at)
    forth x f =
        let small : x < 2 ^ 32 = omega (arith, f.0) in
        let fits : Fits w32 x = search rules in
        (sfits_to_z fits, (λ at. ap (λ (k : ℕ). aligned (Plain Four) k at) (of_z-to_z w32 x small)))

    back : (v : PlainValue) → Of Long v → (x : ℕ) × MayBe (Plain Four) x × (Int (cast_signed w32 x) ≡ v)
    back (Int z) f = (cast_unsigned w32 z, (let fits = Fits-of_z f in (omega arith, refl)), ap Int (to_z-of_z w32 z f))
    back _ f = absurd f

long_long_law : IsReader (value_at LongLong) (pieces LongLong) (Of LongLong)
unfolding value_at
long_long_law = seen_number (Plain Eight) tt 0 (omega arith, refl) LongLong (λ n. Int (cast_signed w64 n)) (λ bytes at. refl) forth back
  where
    forth : (x : ℕ) → MayBe (Plain Eight) x → FitsSigned w64 (cast_signed w64 x) × ((at : ℕ) → aligned (Plain Eight) (cast_unsigned w64 (cast_signed w64 x)) at ≡ aligned (Plain Eight) x at)
    forth x f =
        let small : x < 2 ^ 64 = omega (arith, f.0) in
        let fits : Fits w64 x = search rules in
        (sfits_to_z fits, (λ at. ap (λ (k : ℕ). aligned (Plain Eight) k at) (of_z-to_z w64 x small)))

    back : (v : PlainValue) → Of LongLong v → (x : ℕ) × MayBe (Plain Eight) x × (Int (cast_signed w64 x) ≡ v)
    back (Int z) f = (cast_unsigned w64 z, (let fits = Fits-of_z f in (omega arith, refl)), ap Int (to_z-of_z w64 z f))
    back _ f = absurd f

ushort_law : IsReader (value_at UShort) (pieces UShort) (Of UShort)
unfolding value_at
ushort_law = seen_number (Plain Two) tt 0 (omega arith, refl) UShort (λ n. Int (pos n)) (λ bytes at. refl) forth back
  where
    forth : (x : ℕ) → MayBe (Plain Two) x → FitsUnsigned w16 (pos x) × ((at : ℕ) → aligned (Plain Two) x at ≡ aligned (Plain Two) x at)
    forth x f = (let small : x < 2 ^ 16 = omega (arith, f.0) in ((grind (arith, ints), grind (arith, ints)), (λ at. refl)))

    back : (v : PlainValue) → Of UShort v → (x : ℕ) × MayBe (Plain Two) x × (Int (pos x) ≡ v)
    back (Int (pos n)) f = (n, (omega (arith, ints), refl), refl)
    back (Int (negsuc n)) f = absurd (omega (arith, ints))
    back _ f = absurd f

ulong_law : IsReader (value_at ULong) (pieces ULong) (Of ULong)
unfolding value_at
ulong_law = seen_number (Plain Four) tt 0 (omega arith, refl) ULong (λ n. Int (pos n)) (λ bytes at. refl) forth back
  where
    forth : (x : ℕ) → MayBe (Plain Four) x → FitsUnsigned w32 (pos x) × ((at : ℕ) → aligned (Plain Four) x at ≡ aligned (Plain Four) x at)
    forth x f = (let small : x < 2 ^ 32 = omega (arith, f.0) in ((grind (arith, ints), grind (arith, ints)), (λ at. refl)))

    back : (v : PlainValue) → Of ULong v → (x : ℕ) × MayBe (Plain Four) x × (Int (pos x) ≡ v)
    back (Int (pos n)) f = (n, (omega (arith, ints), refl), refl)
    back (Int (negsuc n)) f = absurd (omega (arith, ints))
    back _ f = absurd f

ulong_long_law : IsReader (value_at ULongLong) (pieces ULongLong) (Of ULongLong)
unfolding value_at
ulong_long_law = seen_number (Plain Eight) tt 0 (omega arith, refl) ULongLong (λ n. Int (pos n)) (λ bytes at. refl) forth back
  where
    forth : (x : ℕ) → MayBe (Plain Eight) x → FitsUnsigned w64 (pos x) × ((at : ℕ) → aligned (Plain Eight) x at ≡ aligned (Plain Eight) x at)
    forth x f = (let small : x < 2 ^ 64 = omega (arith, f.0) in ((grind (arith, ints), grind (arith, ints)), (λ at. refl)))

    back : (v : PlainValue) → Of ULongLong v → (x : ℕ) × MayBe (Plain Eight) x × (Int (pos x) ≡ v)
    back (Int (pos n)) f = (n, (omega (arith, ints), refl), refl)
    back (Int (negsuc n)) f = absurd (omega (arith, ints))
    back _ f = absurd f

octet_law : IsReader (value_at Octet) (pieces Octet) (Of Octet)
unfolding value_at
octet_law = seen_number (Plain One) tt 0 (omega arith, refl) Octet (λ n. Int (pos n)) (λ bytes at. refl) forth back
  where
    forth : (x : ℕ) → MayBe (Plain One) x → FitsUnsigned w8 (pos x) × ((at : ℕ) → aligned (Plain One) x at ≡ aligned (Plain One) x at)
    forth x f = (let small : x < 2 ^ 8 = omega (arith, f.0) in ((grind (arith, ints), grind (arith, ints)), (λ at. refl)))

    back : (v : PlainValue) → Of Octet v → (x : ℕ) × MayBe (Plain One) x × (Int (pos x) ≡ v)
    back (Int (pos n)) f = (n, (omega (arith, ints), refl), refl)
    back (Int (negsuc n)) f = absurd (omega (arith, ints))
    back _ f = absurd f

char_law : IsReader (value_at Char) (pieces Char) (Of Char)
unfolding value_at
char_law = seen_number (Plain One) tt 0 (omega arith, refl) Char Character (λ bytes at. refl) (λ x f. (omega (arith, f.0), (λ at. refl))) back
  where
    back : (v : PlainValue) → Of Char v → (x : ℕ) × MayBe (Plain One) x × (Character x ≡ v)
    back (Character c) f = (c, (omega (arith, f), refl), refl)
    back _ f = absurd f

boolean_law : IsReader (value_at Boolean) (pieces Boolean) (Of Boolean)
unfolding value_at
boolean_law = seen_number Logical tt 0 (omega arith, refl) Boolean (λ n. Truth (eqb n 1)) (λ bytes at. refl) (λ x f. (tt, (λ at. ap (λ (k : ℕ). aligned Logical k at) (again x f.1)))) back
  where
    again : (x : ℕ) → ltb 1 x ≡ false → from_bool (eqb x 1) ≡ x
    again x e = by_test (eqb x 1) refl
      where
        by_test : (t : Bool) → eqb x 1 ≡ t → from_bool t ≡ x
        by_test true test = sym (eqb-true x 1 test)
        by_test false test = (let low = ltb-false 1 x e in by_zero (eqb x 0) refl low)
          where
            by_zero : (u : Bool) → eqb x 0 ≡ u → x ≤ 1 → 0 ≡ x
            by_zero true zero_is low = sym (eqb-true x 0 zero_is)
            by_zero false not_zero low =
                let positive : x ≡ x - 1 + 1 = not_none x not_zero in
                let is : x ≡ 1 = omega arith in
                let no = eq-eqb x 1 is in
                absurd cc

    back : (v : PlainValue) → Of Boolean v → (x : ℕ) × MayBe Logical x × (Truth (eqb x 1) ≡ v)
    back (Truth true) f = (1, (omega arith, refl), refl)
    back (Truth false) f = (0, (omega arith, refl), refl)
    back _ f = absurd f

not_below : (b : Bool) → not b ≡ false → b ≡ true
not_below true e = refl
not_below false e = absurd cc

enumerator_law : (names : List (List ℕ)) → 0 < length names → IsReader (value_at (Enum names)) (pieces (Enum names)) (Of (Enum names))
unfolding value_at
enumerator_law names some = seen_number (Enumerator (length names)) tt 0 (omega arith, ap not (lt-ltb 0 (length names) some)) (Enum names) Ordinal (λ bytes at. refl)
    (λ x f. ((ltb-true x (length names) (not_below (ltb x (length names)) f.1), omega (arith, f.0)), (λ at. refl))) back
  where
    back : (v : PlainValue) → Of (Enum names) v → (x : ℕ) × MayBe (Enumerator (length names)) x × (Ordinal x ≡ v)
    back (Ordinal n) f = (n, (omega (arith, f.1), ap not (lt-ltb n (length names) f.0)), refl)
    back _ f = absurd f

abbrev list_of : PlainValues → List PlainValue
list_of no_values = []
list_of (value_and v vs) = v ∷ list_of vs

values_again : (vs : PlainValues) → values_of (list_of vs) ≡ vs
values_again no_values = refl
values_again (value_and v vs) = ap (value_and v) (values_again vs)

string_law : (bound : ℕ) → IsReader (value_at (Str bound)) (pieces (Str bound)) (Of (Str bound))
unfolding value_at
string_law bound = seen_law (text_at bound) (λ bytes at. followed (aligned (TextLength bound) (length bytes + 1) at) (λ next. letters bytes) at) (IsShort bound) (value_at (Str bound)) (pieces (Str bound)) (Of (Str bound)) Text (text_law bound) (λ bytes at. refl) (λ x f. (f, (λ at. refl))) back
  where
    back : (v : PlainValue) → Of (Str bound) v → (x : List ℕ) × IsShort bound x × (Text x ≡ v)
    back (Text t) f = (t, f, refl)
    back _ f = absurd f

reference_law : (homes : List HomeNo) → Rise 0 homes → IsReader (value_at (RefTo homes)) (pieces (RefTo homes)) (Of (RefTo homes))
unfolding value_at
reference_law homes rise = seen_law (pid_at homes) (pid_spelled homes) (LeadsTo homes) (value_at (RefTo homes)) (pieces (RefTo homes)) (Of (RefTo homes)) Ref (pid_law homes rise) (λ bytes at. refl) (λ x f. (f, (λ at. refl))) back
  where
    back : (v : PlainValue) → Of (RefTo homes) v → (x : Option Pid) × LeadsTo homes x × (Ref x ≡ v)
    back (Ref pid) f = (pid, f, refl)
    back _ f = absurd f

sequence_law : (item : PlainType) (bound : ℕ) → IsReader (value_at item) (pieces item) (Of item) → IsReader (value_at (Seq item bound)) (pieces (Seq item bound)) (Of (Seq item bound))
unfolding value_at
sequence_law item bound l = seen_law (items_at (value_at item) bound) (items_spelled (pieces item) bound) (AreFew (Of item) bound) (value_at (Seq item bound)) (pieces (Seq item bound)) (Of (Seq item bound)) (λ vs. Items (values_of vs)) (items_law (value_at item) (pieces item) (Of item) l bound) (λ bytes at. refl) (λ x f. (f, (λ at. refl))) back
  where
    back : (v : PlainValue) → Of (Seq item bound) v → (x : List PlainValue) × AreFew (Of item) bound x × (Items (values_of x) ≡ v)
    back (Items vs) f = (list_of vs, rw values_again f, ap Items (values_again vs))
    back _ f = absurd f

array_law : (item : PlainType) (n : ℕ) → IsReader (value_at item) (pieces item) (Of item) → IsReader (value_at (Arr item n)) (pieces (Arr item n)) (Of (Arr item n))
unfolding value_at
array_law item n l = seen_law (times_at (value_at item) n) (λ vs. each_piece (pieces item) (values_of vs)) (AreFit (Of item) n) (value_at (Arr item n)) (pieces (Arr item n)) (Of (Arr item n)) (λ vs. Items (values_of vs)) (times_law (value_at item) (pieces item) (Of item) l n) (λ bytes at. refl) (λ x f. (f, (λ at. refl))) back
  where
    back : (v : PlainValue) → Of (Arr item n) v → (x : List PlainValue) × AreFit (Of item) n x × (Items (values_of x) ≡ v)
    back (Items vs) f = (list_of vs, rw values_again f, ap Items (values_again vs))
    back _ f = absurd f

abbrev pub FieldsAre : PlainFields → List PlainValue → Type 0
FieldsAre fields vs = AreOf fields (values_of vs)

struct_law : (fields : PlainFields) → IsReader (fields_at fields) (λ vs. field_pieces fields (values_of vs)) (FieldsAre fields) → IsReader (value_at (Struct fields)) (pieces (Struct fields)) (Of (Struct fields))
unfolding value_at
struct_law fields l = seen_law (fields_at fields) (λ vs. field_pieces fields (values_of vs)) (FieldsAre fields) (value_at (Struct fields)) (pieces (Struct fields)) (Of (Struct fields)) (λ vs. Parts (values_of vs)) l (λ bytes at. refl) (λ x f. (f, (λ at. refl))) back
  where
    back : (v : PlainValue) → Of (Struct fields) v → (x : List PlainValue) × FieldsAre fields x × (Parts (values_of x) ≡ v)
    back (Parts vs) f = (list_of vs, rw values_again f, ap Parts (values_again vs))
    back _ f = absurd f

no_field_law : IsReader (fields_at no_fields) (λ vs. field_pieces no_fields (values_of vs)) (FieldsAre no_fields)
unfolding fields_at
no_field_law = seen_law (λ bytes at. done (tt, at)) (λ x at. []) Any (fields_at no_fields) (λ vs. field_pieces no_fields (values_of vs)) (FieldsAre no_fields) (λ x. []) (nothing_law tt Any tt (λ y f. refl)) (λ bytes at. refl) (λ x f. (tt, (λ at. refl))) back
  where
    back : (vs : List PlainValue) → FieldsAre no_fields vs → (x : Unit {0}) × Any x × ([] ≡ vs)
    back [] f = (tt, tt, refl)
    back (v ∷ vs) f = absurd f

field_law : (name : List ℕ) (t : PlainType) (fields : PlainFields) → IsReader (value_at t) (pieces t) (Of t) → IsReader (fields_at fields) (λ vs. field_pieces fields (values_of vs)) (FieldsAre fields)
    → IsReader (fields_at (field_and name t fields)) (λ vs. field_pieces (field_and name t fields) (values_of vs)) (FieldsAre (field_and name t fields))
unfolding fields_at
field_law name t fields l ls = both_law (value_at t) (pieces t) (Of t) (λ v. fields_at fields) (λ v vs. field_pieces fields (values_of vs)) (λ v. FieldsAre fields) (fields_at (field_and name t fields)) (λ vs. field_pieces (field_and name t fields) (values_of vs)) (FieldsAre (field_and name t fields)) (λ v vs. v ∷ vs)
    l (λ v f. ls) (λ bytes at. refl) (λ v vs f g. ((f, g), (λ at. refl))) back
  where
    back : (vs : List PlainValue) → FieldsAre (field_and name t fields) vs → (v : PlainValue) × (us : List PlainValue) × Of t v × FieldsAre fields us × (v ∷ us ≡ vs)
    back [] f = absurd f
    back (v ∷ vs) f = (v, vs, f.0, f.1, refl)

mutual
  pub value_law : (t : PlainType) → IsSound t → IsReader (value_at t) (pieces t) (Of t)
  value_law Short sound = short_law
  value_law Long sound = long_law
  value_law LongLong sound = long_long_law
  value_law UShort sound = ushort_law
  value_law ULong sound = ulong_law
  value_law ULongLong sound = ulong_long_law
  value_law Char sound = char_law
  value_law Boolean sound = boolean_law
  value_law Octet sound = octet_law
  value_law (Str bound) sound = string_law bound
  value_law (Seq item bound) sound = sequence_law item bound (value_law item sound)
  value_law (Arr item n) sound = array_law item n (value_law item sound.2)
  value_law (Struct fields) sound = struct_law fields (fields_law fields sound.1)
  value_law (Enum names) sound = enumerator_law names sound.0
  value_law (RefTo homes) sound = reference_law homes sound

  pub fields_law : (fields : PlainFields) → AreSound fields → IsReader (fields_at fields) (λ vs. field_pieces fields (values_of vs)) (FieldsAre fields)
  fields_law no_fields sound = no_field_law
  fields_law (field_and name t fields) sound = field_law name t fields (value_law t sound.0) (fields_law fields sound.1)
