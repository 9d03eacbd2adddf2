-- Where what is read ends, by its kind.
use Rattle.std.proofs.Common.{◌≡◌, ℕ, zero, suc, ◌+◌, ◌-◌, ◌<◌, ◌≤◌, Bool, true, false, cond, ltb, List, ◌∷◌, length, map, get_or, drop, Option, Some, None, Result, Ok, Err, refl, sym, ap, subst, ◌∙◌, arith}
use Rattle.std.specs.Prelude.{◌==◌, ◌*◌, slice_range, pos}
use Rattle.std.specs.List.{position}
use Rattle.std.specs.Int.{w16, w32, w64, cast_signed}
use Rattle.std.proofs.lemmas.Bool.{ltb-false, ne_eqb}
use Rattle.byteorder.specs.Endian.{big_number}
use Rattle.pss_base.specs.declared.pid.Pid.{Pid}
use Rattle.type_layout.specs.declared.home.HomeNo.{HomeNo}
use Rattle.type_layout.specs.declared.member.Member.{Member}
use Rattle.type_layout.specs.declared.ty.Field.{Field}
use Rattle.type_layout.specs.declared.ty.Ty.TheFolds.{fold_out-Field}
use Rattle.type_layout.specs.Types.{fields_of, PlainField, PlainType, Short, Long, LongLong, UShort, ULong, ULongLong, Char, Boolean, Octet, Str, Seq, Arr, Struct, Enum, RefTo, PlainFields, no_fields, field_and, Int, Character, Truth, Ordinal, Text, Items, Parts, Ref, values_of}
use Rattle.type_layout.specs.Members.{plain_member}
use Rattle.type_layout.specs.Values.{is_over, layout_fields}
use Rattle.type_layout.specs.Views.{plain_type, plain_field, type_step, field_step, fields_step}
use Rattle.type_layout.specs.Spelling.{gap}
use Rattle.cdr_codec.specs.declared.fault.RecordFault.{RecordFault}
use Rattle.cdr_codec.specs.declared.fault.RecordFault.TheVariants as fault
use Rattle.cdr_codec.specs.declared.width.Width.{Width}
use Rattle.cdr_codec.specs.declared.width.Width.TheVariants as width
use Rattle.cdr_codec.specs.Primitives.{One, Two, Four, Eight, Primitive, Pad, Plain, Logical, Enumerator, TextLength, ItemCount, Home, Serial, width_of, refuses, fault_at, given}
use Rattle.cdr_codec.specs.Reading.{◌>>=◌, Reader, plain_at, one_at, pads_at, found_at, judged_at, seen, letters_at, text_at, times_at, items_at, pid_of, pid_at, value_at, fields_at}
use Rattle.cdr_codec.specs.Widths.{octets_in, number_width}
use Rattle.cdr_codec.specs.Places.{IsFound, end_of, behind_numbers, count_at, places_of}
use Rattle.cdr_codec.proofs.Readers.{done, ok_is, bind_ok}
use Rattle.cdr_codec.proofs.Types.{or_false, not_none}
use Rattle.cdr_codec.proofs.Loop.{fields_drop, members_drop}

-- what is found is read
pub from_found : {A : Type 0} (r : Result (A × ℕ) RecordFault) → IsFound r → (x : A × ℕ) × (r ≡ Ok x)
from_found (Ok x) found = (x, refl)
from_found (Err f) found = absurd found

pub to_found : {A : Type 0} (r : Result (A × ℕ) RecordFault) (x : A × ℕ) → r ≡ Ok x → IsFound r × (end_of r ≡ x.1)
to_found {A} r x is = (subst IsFound (sym is) tt, ap end_of is)

cond_ok : {A : Type 0} (t : Bool) (f : RecordFault) (r y : A) → cond {A = Result A RecordFault} t (Err f) (Ok r) ≡ Ok y → (t ≡ false) × (r ≡ y)
cond_ok true f r y e = absurd cc
cond_ok false f r y e = (refl, ok_is r y e)

-- ---- numbers

plain_found : (w : ℕ) (bytes : List ℕ) (at : ℕ) (x : ℕ × ℕ) → plain_at w bytes at ≡ Ok x → ((big_number w (drop at bytes), at + w) ≡ x) × (at + w ≤ length bytes)
unfolding plain_at
plain_found w bytes at x e =
    let made : ℕ × ℕ = (big_number w (drop at bytes), at + w) in
    let t = cond_ok (ltb (length bytes) (at + w)) (fault.Short (length bytes)) made x e in
    (t.1, ltb-false (length bytes) (at + w) t.0)

pads_found : (n : ℕ) (bytes : List ℕ) (at start : ℕ) → pads_at n bytes at ≡ Ok start → start ≡ at + n
unfolding pads_at one_at
pads_found zero bytes at start e = (let same : at ≡ start = ok_is at start e in omega arith)
pads_found (suc n) bytes at start e =
    let a = bind_ok (one_at Pad bytes at) (λ b. pads_at n bytes b.1) start e in
    let b = bind_ok (plain_at 1 bytes at) (λ n. cond (refuses Pad n.0) (Err (fault_at Pad n.0 at)) (done (n.0, n.1))) a.0 a.1 in
    let one = plain_found 1 bytes at b.0 b.1 in
    let pair : ℕ × ℕ = (b.0.0, b.0.1) in
    let judged = cond_ok (refuses Pad b.0.0) (fault_at Pad b.0.0 at) pair a.0 b.2 in
    let first : at + 1 ≡ a.0.1 = ap (λ (m : ℕ × ℕ). m.1) one.0 ∙ ap (λ (m : ℕ × ℕ). m.1) judged.1 in
    let later = pads_found n bytes a.0.1 start a.2 in
    omega (arith, first, later)

-- a primitive that may have its number
pub record Stands (p : Primitive) (bytes : List ℕ) (at : ℕ) (x : ℕ × ℕ) : Type 0 where
  pub number : x.0 ≡ big_number (width_of p) (drop (at + gap (width_of p) at) bytes)
  pub after : x.1 ≡ at + gap (width_of p) at + width_of p
  pub within : at + gap (width_of p) at + width_of p ≤ length bytes
  pub fine : refuses p x.0 ≡ false

pub judged_found : (p : Primitive) (bytes : List ℕ) (at : ℕ) (x : ℕ × ℕ) → judged_at p bytes at ≡ Ok x → Stands p bytes at x
unfolding judged_at found_at
judged_found p bytes at x e =
    let w = width_of p in
    let a = bind_ok (found_at w bytes at) (λ n. cond (refuses p n.number) (Err (fault_at p n.number n.start)) (done (n.number, n.after))) x e in
    let b = bind_ok (pads_at (gap w at) bytes at) (λ start. plain_at w bytes start >>= λ n. done (record { start = start; number = n.0; after = n.1 })) a.0 a.1 in
    let c = bind_ok (plain_at w bytes b.0) (λ n. done (record { start = b.0; number = n.0; after = n.1 })) a.0 b.2 in
    let start = pads_found (gap w at) bytes at b.0 b.1 in
    let one = plain_found w bytes b.0 c.0 c.1 in
    let made = ok_is (record { start = b.0; number = c.0.0; after = c.0.1 }) a.0 c.2 in
    let pair : ℕ × ℕ = (a.0.number, a.0.after) in
    let judged = cond_ok (refuses p a.0.number) (fault_at p a.0.number a.0.start) pair x a.2 in
    let first : a.0.number ≡ x.0 = ap (λ (m : ℕ × ℕ). m.0) judged.1 in
    let second : a.0.after ≡ x.1 = ap (λ (m : ℕ × ℕ). m.1) judged.1 in
    let number : big_number w (drop b.0 bytes) ≡ a.0.number = ap (λ (m : ℕ × ℕ). m.0) one.0 ∙ (let e : c.0.0 ≡ a.0.number = cc in e) in
    let after : b.0 + w ≡ a.0.after = ap (λ (m : ℕ × ℕ). m.1) one.0 ∙ (let e : c.0.1 ≡ a.0.after = cc in e) in
    record {
      number = sym first ∙ sym number ∙ ap (λ (k : ℕ). big_number w (drop k bytes)) start;
      after = omega (arith, second, after, start);
      within = omega (arith, one.1, start);
      fine = ap (refuses p) (sym first) ∙ judged.0;
    }

-- ---- values

-- what is seen as another thing ends where it does
seen_found : {A B : Type 0} (f : A → B) (read : Reader A) (bytes : List ℕ) (at : ℕ) → IsFound (seen f read bytes at) → IsFound (read bytes at) × (end_of (seen f read bytes at) ≡ end_of (read bytes at))
seen_found {A} {B} f read bytes at found = by_read (read bytes at) found
  where
    by_read : (r : Result (A × ℕ) RecordFault) → IsFound (r >>= λ x. done (f x.0, x.1)) → IsFound r × (end_of (r >>= λ x. done (f x.0, x.1)) ≡ end_of r)
    by_read (Ok x) found = (tt, refl)
    by_read (Err e) found = absurd found

-- a number of so many octets is read
abbrev pub Ends : {A : Type 0} → Result (A × ℕ) RecordFault → List ℕ → ℕ → ℕ → Type 0
Ends r bytes at w = (end_of r ≡ at + gap w at + w) × (at + gap w at + w ≤ length bytes)

seen_ends : {A : Type 0} (f : ℕ → A) (p : Primitive) (bytes : List ℕ) (at : ℕ) → IsFound (seen f (judged_at p) bytes at) → Ends (seen f (judged_at p) bytes at) bytes at (width_of p)
seen_ends f p bytes at found =
    let s = seen_found f (judged_at p) bytes at found in
    let x = from_found (judged_at p bytes at) s.0 in
    let stands = judged_found p bytes at x.0 x.1 in
    (s.1 ∙ (to_found (judged_at p bytes at) x.0 x.1).1 ∙ stands.after, stands.within)

pub number_ends : (t : PlainType) (w : Width) → number_width t ≡ Some w → (bytes : List ℕ) (at : ℕ) → IsFound (value_at t bytes at) → Ends (value_at t bytes at) bytes at (octets_in w)
unfolding value_at
number_ends Short w e bytes at found = (let is : width.Two ≡ w = cc in subst (λ (k : Width). Ends (value_at Short bytes at) bytes at (octets_in k)) is (seen_ends (λ n. Int (cast_signed w16 n)) (Plain Two) bytes at found))
number_ends Long w e bytes at found = (let is : width.Four ≡ w = cc in subst (λ (k : Width). Ends (value_at Long bytes at) bytes at (octets_in k)) is (seen_ends (λ n. Int (cast_signed w32 n)) (Plain Four) bytes at found))
number_ends LongLong w e bytes at found = (let is : width.Eight ≡ w = cc in subst (λ (k : Width). Ends (value_at LongLong bytes at) bytes at (octets_in k)) is (seen_ends (λ n. Int (cast_signed w64 n)) (Plain Eight) bytes at found))
number_ends UShort w e bytes at found = (let is : width.Two ≡ w = cc in subst (λ (k : Width). Ends (value_at UShort bytes at) bytes at (octets_in k)) is (seen_ends (λ n. Int (pos n)) (Plain Two) bytes at found))
number_ends ULong w e bytes at found = (let is : width.Four ≡ w = cc in subst (λ (k : Width). Ends (value_at ULong bytes at) bytes at (octets_in k)) is (seen_ends (λ n. Int (pos n)) (Plain Four) bytes at found))
number_ends ULongLong w e bytes at found = (let is : width.Eight ≡ w = cc in subst (λ (k : Width). Ends (value_at ULongLong bytes at) bytes at (octets_in k)) is (seen_ends (λ n. Int (pos n)) (Plain Eight) bytes at found))
number_ends Char w e bytes at found = (let is : width.One ≡ w = cc in subst (λ (k : Width). Ends (value_at Char bytes at) bytes at (octets_in k)) is (seen_ends Character (Plain One) bytes at found))
number_ends Boolean w e bytes at found = (let is : width.One ≡ w = cc in subst (λ (k : Width). Ends (value_at Boolean bytes at) bytes at (octets_in k)) is (seen_ends (λ n. Truth (n == 1)) Logical bytes at found))
number_ends Octet w e bytes at found = (let is : width.One ≡ w = cc in subst (λ (k : Width). Ends (value_at Octet bytes at) bytes at (octets_in k)) is (seen_ends (λ n. Int (pos n)) (Plain One) bytes at found))
number_ends (Enum names) w e bytes at found = (let is : width.Four ≡ w = cc in subst (λ (k : Width). Ends (value_at (Enum names) bytes at) bytes at (octets_in k)) is (seen_ends Ordinal (Enumerator (length names)) bytes at found))
number_ends _ w e bytes at found = absurd cc

-- the octets of a string, and its last
pub letters_found : (n : ℕ) (bytes : List ℕ) (at : ℕ) (x : List ℕ × ℕ) → letters_at n bytes at ≡ Ok x → (x.0 ≡ slice_range bytes at (at + n)) × (x.1 ≡ at + n + 1) × (at + n + 1 ≤ length bytes)
unfolding letters_at
letters_found n bytes at x e = by_length (ltb (length bytes) (at + n + 1)) refl e
  where
    text : List ℕ
    text = slice_range bytes at (at + n)

    ended : ℕ × ℕ → Result (List ℕ × ℕ) RecordFault
    ended b = cond (b.0 == 0) (done (text, b.1)) (Err (fault.BadNul (at + n)))

    by_last : (b : ℕ × ℕ) (t : Bool) → plain_at 1 bytes (at + n) ≡ Ok b → cond t (done (text, b.1)) (Err (fault.BadNul (at + n))) ≡ Ok x → (x.0 ≡ text) × (x.1 ≡ at + n + 1)
    by_last b false p e = absurd cc
    by_last b true p e =
        let made : List ℕ × ℕ = (text, b.1) in
        let same = ok_is made x e in
        let one = plain_found 1 bytes (at + n) b p in
        (sym (ap (λ (m : List ℕ × ℕ). m.0) same), sym (ap (λ (m : List ℕ × ℕ). m.1) same) ∙ sym (ap (λ (m : ℕ × ℕ). m.1) one.0))

    by_zero : (o : Option ℕ) → given o (plain_at 1 bytes (at + n) >>= ended) (λ i. Err (fault.BadNul (at + i))) ≡ Ok x → (x.0 ≡ text) × (x.1 ≡ at + n + 1)
    by_zero (Some i) e = absurd cc
    by_zero None e = (let b = bind_ok (plain_at 1 bytes (at + n)) ended x e in by_last b.0 (b.0.0 == 0) b.1 b.2)

    by_length : (t : Bool) → ltb (length bytes) (at + n + 1) ≡ t → cond t (Err (fault.Short (length bytes))) (given (position (λ b. b == 0) text) (plain_at 1 bytes (at + n) >>= ended) (λ i. Err (fault.BadNul (at + i)))) ≡ Ok x → (x.0 ≡ text) × (x.1 ≡ at + n + 1) × (at + n + 1 ≤ length bytes)
    by_length true test e = absurd cc
    by_length false test e = (let z = by_zero (position (λ b. b == 0) text) e in (z.0, z.1, ltb-false (length bytes) (at + n + 1) test))

-- a string is read: its length, and its octets
pub record HasText (bytes : List ℕ) (at : ℕ) (x : List ℕ × ℕ) : Type 0 where
  pub some : 1 ≤ count_at bytes at
  pub text : x.0 ≡ slice_range bytes (at + gap 4 at + 4) (at + gap 4 at + 4 + (count_at bytes at - 1))
  pub after : x.1 ≡ at + gap 4 at + 4 + count_at bytes at
  pub within : at + gap 4 at + 4 + count_at bytes at ≤ length bytes

pub text_found : (bound : ℕ) (bytes : List ℕ) (at : ℕ) (x : List ℕ × ℕ) → text_at bound bytes at ≡ Ok x → HasText bytes at x
unfolding text_at
text_found bound bytes at x e =
    let a = bind_ok (judged_at (TextLength bound) bytes at) (λ n. letters_at (n.0 - 1) bytes n.1) x e in
    let s = judged_found (TextLength bound) bytes at a.0 a.1 in
    let l = letters_found (a.0.0 - 1) bytes a.0.1 x a.2 in
    let some : a.0.0 ≡ a.0.0 - 1 + 1 = not_none a.0.0 (or_false (a.0.0 == 0) (is_over bound (a.0.0 - 1)) s.fine).0 in
    let text : x.0 ≡ slice_range bytes (at + gap 4 at + 4) (at + gap 4 at + 4 + (a.0.0 - 1)) = l.0 ∙ ap (λ (k : ℕ). slice_range bytes k (k + (a.0.0 - 1))) s.after in
    record {
      some = omega (arith, some, s.number);
      text = text ∙ ap (λ (k : ℕ). slice_range bytes (at + gap 4 at + 4) (at + gap 4 at + 4 + (k - 1))) s.number;
      after = omega (arith, l.1, some, s.number, s.after);
      within = omega (arith, l.2, some, s.number, s.after);
    }

pub text_ends : (bound : ℕ) (bytes : List ℕ) (at : ℕ) → IsFound (value_at (Str bound) bytes at) → (end_of (value_at (Str bound) bytes at) ≡ at + gap 4 at + 4 + count_at bytes at) × (at + gap 4 at + 4 + count_at bytes at ≤ length bytes)
unfolding value_at
text_ends bound bytes at found =
    let s = seen_found Text (text_at bound) bytes at found in
    let x = from_found (text_at bound bytes at) s.0 in
    let t = text_found bound bytes at x.0 x.1 in
    (s.1 ∙ (to_found (text_at bound bytes at) x.0 x.1).1 ∙ t.after, t.within)

-- a sequence is read: how many items, and these
pub record HasItems (item : PlainType) (bytes : List ℕ) (at : ℕ) (end : ℕ) : Type 0 where
  pub within : at + gap 4 at + 4 ≤ length bytes
  pub found : IsFound (times_at (value_at item) (count_at bytes at) bytes (at + gap 4 at + 4))
  pub ends : end ≡ end_of (times_at (value_at item) (count_at bytes at) bytes (at + gap 4 at + 4))

pub sequence_ends : (item : PlainType) (bound : ℕ) (bytes : List ℕ) (at : ℕ) → IsFound (value_at (Seq item bound) bytes at) → HasItems item bytes at (end_of (value_at (Seq item bound) bytes at))
unfolding value_at items_at
sequence_ends item bound bytes at found =
    let s = seen_found (λ vs. Items (values_of vs)) (items_at (value_at item) bound) bytes at found in
    let x = from_found (items_at (value_at item) bound bytes at) s.0 in
    let a = bind_ok (judged_at (ItemCount bound) bytes at) (λ n. times_at (value_at item) n.0 bytes n.1) x.0 x.1 in
    let j = judged_found (ItemCount bound) bytes at a.0 a.1 in
    let read : times_at (value_at item) (count_at bytes at) bytes (at + gap 4 at + 4) ≡ Ok x.0 = ap (λ (k : ℕ). times_at (value_at item) k bytes (at + gap 4 at + 4)) (sym j.number) ∙ ap (times_at (value_at item) a.0.0 bytes) (sym j.after) ∙ a.2 in
    let t = to_found (times_at (value_at item) (count_at bytes at) bytes (at + gap 4 at + 4)) x.0 read in
    record { within = j.within; found = t.0; ends = s.1 ∙ (to_found (items_at (value_at item) bound bytes at) x.0 x.1).1 ∙ sym t.1 }

pub array_ends : (item : PlainType) (n : ℕ) (bytes : List ℕ) (at : ℕ) → IsFound (value_at (Arr item n) bytes at) → IsFound (times_at (value_at item) n bytes at) × (end_of (value_at (Arr item n) bytes at) ≡ end_of (times_at (value_at item) n bytes at))
unfolding value_at
array_ends item n bytes at found = seen_found (λ vs. Items (values_of vs)) (times_at (value_at item) n) bytes at found

pub struct_ends : (fields : PlainFields) (bytes : List ℕ) (at : ℕ) → IsFound (value_at (Struct fields) bytes at) → IsFound (fields_at fields bytes at) × (end_of (value_at (Struct fields) bytes at) ≡ end_of (fields_at fields bytes at))
unfolding value_at
struct_ends fields bytes at found = seen_found (λ vs. Parts (values_of vs)) (fields_at fields) bytes at found

-- a reference is read: a home, and a serial
abbrev pub behind_home : ℕ → ℕ
behind_home at = at + gap 4 at + 4

pub reference_ends : (homes : List HomeNo) (bytes : List ℕ) (at : ℕ) → IsFound (value_at (RefTo homes) bytes at) → (end_of (value_at (RefTo homes) bytes at) ≡ behind_home at + gap 8 (behind_home at) + 8) × (behind_home at + gap 8 (behind_home at) + 8 ≤ length bytes)
unfolding value_at pid_at
reference_ends homes bytes at found =
    let s = seen_found Ref (pid_at homes) bytes at found in
    let x = from_found (pid_at homes bytes at) s.0 in
    let a = bind_ok (judged_at (Home homes) bytes at) (λ home. judged_at (Serial home.0) bytes home.1 >>= λ serial. done (pid_of home.0 serial.0, serial.1)) x.0 x.1 in
    let b = bind_ok (judged_at (Serial a.0.0) bytes a.0.1) (λ serial. done (pid_of a.0.0 serial.0, serial.1)) x.0 a.2 in
    let home = judged_found (Home homes) bytes at a.0 a.1 in
    let serial = judged_found (Serial a.0.0) bytes a.0.1 b.0 b.1 in
    let pair : Option Pid × ℕ = (pid_of a.0.0 b.0.0, b.0.1) in
    let end : b.0.1 ≡ x.0.1 = ap (λ (m : Option Pid × ℕ). m.1) (ok_is pair x.0 b.2) in
    let place : a.0.1 + gap 8 a.0.1 + 8 ≡ behind_home at + gap 8 (behind_home at) + 8 = ap (λ (k : ℕ). k + gap 8 k + 8) home.after in
    (s.1 ∙ (to_found (pid_at homes bytes at) x.0 x.1).1 ∙ sym end ∙ serial.after ∙ place, omega (arith, serial.within, place))

-- ---- one behind the other

-- the first is read, and then the others
pub record HasFirst {A : Type 0} (first : Result (A × ℕ) RecordFault) (others : ℕ → Result (List A × ℕ) RecordFault) (end : ℕ) : Type 0 where
  pub found : IsFound first
  pub later : IsFound (others (end_of first))
  pub ends : end_of (others (end_of first)) ≡ end

first_of_both : {A : Type 0} (first : Result (A × ℕ) RecordFault) (others : ℕ → Result (List A × ℕ) RecordFault) (whole : Result (List A × ℕ) RecordFault) → whole ≡ (first >>= λ x. others x.1 >>= λ y. done (x.0 ∷ y.0, y.1)) → IsFound whole → HasFirst first others (end_of whole)
first_of_both {A} first others whole is found =
    let x = from_found whole found in
    let a = bind_ok first (λ x. others x.1 >>= λ y. done (x.0 ∷ y.0, y.1)) x.0 (sym is ∙ x.1) in
    let b = bind_ok (others a.0.1) (λ y. done (a.0.0 ∷ y.0, y.1)) x.0 a.2 in
    let f = to_found first a.0 a.1 in
    let there : others (end_of first) ≡ Ok b.0 = ap others f.1 ∙ b.1 in
    let o = to_found (others (end_of first)) b.0 there in
    let pair : List A × ℕ = (a.0.0 ∷ b.0.0, b.0.1) in
    let end : b.0.1 ≡ x.0.1 = ap (λ (m : List A × ℕ). m.1) (ok_is pair x.0 b.2) in
    record { found = f.0; later = o.0; ends = o.1 ∙ end ∙ sym (to_found whole x.0 x.1).1 }

pub times_first : {A : Type 0} (one : Reader A) (n i : ℕ) (bytes : List ℕ) (at : ℕ) → i < n → IsFound (times_at one (n - i) bytes at) → HasFirst (one bytes at) (times_at one (n - (i + 1)) bytes) (end_of (times_at one (n - i) bytes at))
unfolding times_at
times_first one n i bytes at lt found =
    let k : n - i ≡ suc (n - (i + 1)) = omega arith in
    first_of_both (one bytes at) (times_at one (n - (i + 1)) bytes) (times_at one (n - i) bytes at) (ap (λ (m : ℕ). times_at one m bytes at) k) found

pub times_over : {A : Type 0} (one : Reader A) (n i : ℕ) (bytes : List ℕ) (at : ℕ) → n ≤ i → end_of (times_at one (n - i) bytes at) ≡ at
unfolding times_at
times_over {A} one n i bytes at le = (let k : n - i ≡ 0 = omega arith in ap (λ (m : ℕ). end_of (times_at one m bytes at)) k)

pub fields_first : (name : List ℕ) (t : PlainType) (ts : PlainFields) (bytes : List ℕ) (at : ℕ) → IsFound (fields_at (field_and name t ts) bytes at) → HasFirst (value_at t bytes at) (fields_at ts bytes) (end_of (fields_at (field_and name t ts) bytes at))
unfolding fields_at
fields_first name t ts bytes at found = first_of_both (value_at t bytes at) (fields_at ts bytes) (fields_at (field_and name t ts) bytes at) refl found

pub fields_over : (bytes : List ℕ) (at : ℕ) → end_of (fields_at no_fields bytes at) ≡ at
unfolding fields_at
fields_over bytes at = refl

-- ---- numbers of one width

some_numbers : (k n at : ℕ) → behind_numbers k (suc n) at ≡ at + gap k at + suc n * k
some_numbers k n at = ap (λ (b : Bool). cond b at (at + gap k at + suc n * k)) (ne_eqb (suc n) 0 (λ e. absurd (omega (arith, e))))

-- behind a number the next one of its width stands at once
next_number : (w : Width) (n at : ℕ) → at + gap (octets_in w) at + octets_in w + gap (octets_in w) (at + gap (octets_in w) at + octets_in w) + suc n * octets_in w ≡ at + gap (octets_in w) at + suc (suc n) * octets_in w
next_number width.One n at = omega arith
next_number width.Two n at = (let next : gap 2 (at + gap 2 at + 2) ≡ 0 = omega arith in omega (arith, next))
next_number width.Four n at = (let next : gap 4 (at + gap 4 at + 4) ≡ 0 = omega arith in omega (arith, next))
next_number width.Eight n at = (let next : gap 8 (at + gap 8 at + 8) ≡ 0 = omega arith in omega (arith, next))

pub one_more : (w : Width) (n at : ℕ) → behind_numbers (octets_in w) n (at + gap (octets_in w) at + octets_in w) ≡ behind_numbers (octets_in w) (suc n) at
one_more w zero at = (let one : at + gap (octets_in w) at + octets_in w ≡ at + gap (octets_in w) at + 1 * octets_in w = omega arith in one ∙ sym (some_numbers (octets_in w) 0 at))
one_more w (suc n) at = some_numbers (octets_in w) n (at + gap (octets_in w) at + octets_in w) ∙ next_number w n at ∙ sym (some_numbers (octets_in w) (suc n) at)

short_gap : (w : Width) (at : ℕ) → gap (octets_in w) at ≤ 8
short_gap width.One at = omega arith
short_gap width.Two at = omega arith
short_gap width.Four at = omega arith
short_gap width.Eight at = omega arith

-- none too have padding here
pub numbers_fit : (w : Width) (n at size : ℕ) → at ≤ size → behind_numbers (octets_in w) n at ≤ size → at + gap (octets_in w) at + n * octets_in w ≤ size + 8
numbers_fit w zero at size le within = (let short = short_gap w at in omega (arith, le, short))
numbers_fit w (suc n) at size le within = (let some = some_numbers (octets_in w) n at in omega (arith, within, some))

pub numbers_ends : (t : PlainType) (w : Width) → number_width t ≡ Some w → (n : ℕ) (bytes : List ℕ) (at : ℕ) → at ≤ length bytes → IsFound (times_at (value_at t) n bytes at)
    → (end_of (times_at (value_at t) n bytes at) ≡ behind_numbers (octets_in w) n at) × (behind_numbers (octets_in w) n at ≤ length bytes)
unfolding times_at
numbers_ends t w e zero bytes at le found = (refl, le)
numbers_ends t w e (suc n) bytes at le found =
    let first = first_of_both (value_at t bytes at) (times_at (value_at t) n bytes) (times_at (value_at t) (suc n) bytes at) refl found in
    let one = number_ends t w e bytes at first.found in
    let later = numbers_ends t w e n bytes (at + gap (octets_in w) at + octets_in w) one.1 (subst (λ (k : ℕ). IsFound (times_at (value_at t) n bytes k)) one.0 first.later) in
    let ends = sym first.ends ∙ ap (λ (k : ℕ). end_of (times_at (value_at t) n bytes k)) one.0 ∙ later.0 ∙ one_more w n at in
    (ends, subst (λ (k : ℕ). k ≤ length bytes) (one_more w n at) later.1)

-- ---- loops over fields and members

pub field_type : (f : Field) → (plain_field f).type ≡ plain_type f.ty
field_type f = ap (λ (g : PlainField). g.type) (fold_out-Field PlainType PlainField (List PlainField) type_step field_step fields_step f)

pub first_field : (fs : List Field) (i : ℕ) (f : Field) (bytes : List ℕ) (at : ℕ) → i < length fs → f ≡ get_or fs i f → IsFound (fields_at (fields_of (map plain_field (drop i fs))) bytes at)
    → HasFirst (value_at (plain_type f.ty) bytes at) (fields_at (fields_of (map plain_field (drop (i + 1) fs))) bytes) (end_of (fields_at (fields_of (map plain_field (drop i fs))) bytes at))
first_field fs i f bytes at lt is found =
    let later = fields_of (map plain_field (drop (i + 1) fs)) in
    let more = fields_drop fs i f lt is in
    let first = fields_first (plain_field f).name (plain_field f).type later bytes at (subst (λ (ts : PlainFields). IsFound (fields_at ts bytes at)) more found) in
    let whole = subst (λ (ts : PlainFields). HasFirst (value_at (plain_field f).type bytes at) (fields_at later bytes) (end_of (fields_at ts bytes at))) (sym more) first in
    subst (λ (t : PlainType). HasFirst (value_at t bytes at) (fields_at later bytes) (end_of (fields_at (fields_of (map plain_field (drop i fs))) bytes at))) (field_type f) whole

pub first_member : (ms : List Member) (i : ℕ) (m : Member) (bytes : List ℕ) (at : ℕ) → i < length ms → m ≡ get_or ms i m → IsFound (fields_at (layout_fields (map plain_member (drop i ms))) bytes at)
    → HasFirst (value_at (plain_type m.ty) bytes at) (fields_at (layout_fields (map plain_member (drop (i + 1) ms))) bytes) (end_of (fields_at (layout_fields (map plain_member (drop i ms))) bytes at))
first_member ms i m bytes at lt is found =
    let later = layout_fields (map plain_member (drop (i + 1) ms)) in
    let more = members_drop ms i m lt is in
    let first = fields_first (plain_member m).name (plain_type m.ty) later bytes at (subst (λ (ts : PlainFields). IsFound (fields_at ts bytes at)) more found) in
    subst (λ (ts : PlainFields). HasFirst (value_at (plain_type m.ty) bytes at) (fields_at later bytes) (end_of (fields_at ts bytes at))) (sym more) first

pub first_place : (ms : List Member) (i : ℕ) (m : Member) (bytes : List ℕ) (at : ℕ) → i < length ms → m ≡ get_or ms i m
    → places_of (layout_fields (map plain_member (drop i ms))) bytes at ≡ at ∷ places_of (layout_fields (map plain_member (drop (i + 1) ms))) bytes (end_of (value_at (plain_type m.ty) bytes at))
first_place ms i m bytes at lt is = ap (λ (ts : PlainFields). places_of ts bytes at) (members_drop ms i m lt is)
