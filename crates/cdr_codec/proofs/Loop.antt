-- Reading values one after the other, as a loop does.
use Rattle.std.proofs.Common.{◌≡◌, ℕ, suc, ◌-◌, ◌+◌, ◌≤◌, ◌<◌, List, [], ◌∷◌, ◌++◌, Result, Ok, Err, refl, sym, ap, ◌∙◌, append_assoc, arith, length, drop, map, get_or}
use Rattle.std.proofs.lemmas.List.{append-nil}
use Rattle.std.proofs.lemmas.List.{drop_more, drop_all}
use Rattle.type_layout.specs.declared.ty.Field.{Field}
use Rattle.type_layout.specs.declared.member.Member.{Member}
use Rattle.type_layout.specs.Types.{fields_of}
use Rattle.type_layout.specs.Values.{layout_fields}
use Rattle.type_layout.specs.Views.{plain_type, plain_field}
use Rattle.type_layout.specs.Members.{plain_member}
use Rattle.cdr_codec.specs.declared.fault.RecordFault.{RecordFault}
use Rattle.cdr_codec.specs.declared.fault.Stop.{Stop}
use Rattle.cdr_codec.specs.declared.fault.Stop.TheVariants as errors
use Rattle.type_layout.specs.Types.{PlainType, PlainFields, no_fields, field_and, PlainValue}
use Rattle.cdr_codec.specs.Reading.{◌>>=◌, Fails, Reader, times_at, value_at, fields_at}

-- what was read before, and what is still read
abbrev pub with_front : {A : Type 0} → List A → Result (List A × ℕ) RecordFault → Result (List A × ℕ) RecordFault
with_front front read = read >>= λ x. Ok (front ++ x.0, x.1)

regroup : {A : Type 0} (front : List A) (n : A) (read : Result (List A × ℕ) RecordFault) → with_front front (read >>= λ x. Ok (n ∷ x.0, x.1)) ≡ with_front (front ++ n ∷ []) read
regroup {A} front n (Ok x) = ap (λ (ns : List A). Ok (ns, x.1)) (simp append_assoc)
regroup front n (Err f) = refl

pub goes_on : {A : Type 0} (one : Reader A) (front : List A) (count i : ℕ) (bytes : List ℕ) (at : ℕ) (n : A) (after : ℕ) (total : Result (List A × ℕ) RecordFault) → i < count → one bytes at ≡ Ok (n, after)
    → with_front front (times_at one (count - i) bytes at) ≡ total → with_front (front ++ n ∷ []) (times_at one (count - (i + 1)) bytes after) ≡ total
unfolding times_at
goes_on one front count i bytes at n after total lt h so_far =
    let k : count - i ≡ suc (count - (i + 1)) = omega arith in
    let step : with_front front (times_at one (count - i) bytes at) ≡ with_front (front ++ n ∷ []) (times_at one (count - (i + 1)) bytes after) = rw (k, h) (regroup front n (times_at one (count - (i + 1)) bytes after)) in
    sym step ∙ so_far

pub stops : {A : Type 0} (e : Stop) (one : Reader A) (front : List A) (count i : ℕ) (bytes : List ℕ) (at : ℕ) (total : Result (List A × ℕ) RecordFault) → i < count → Fails e (one bytes at)
    → with_front front (times_at one (count - i) bytes at) ≡ total → Fails e total
unfolding times_at
stops errors.Memory one front count i bytes at total lt h so_far = tt
stops (errors.Fault f) one front count i bytes at total lt h so_far =
    let k : count - i ≡ suc (count - (i + 1)) = omega arith in
    let step : with_front front (times_at one (count - i) bytes at) ≡ Err f = rw (k, h) refl in
    sym so_far ∙ step

pub is_done : {A : Type 0} (one : Reader A) (front : List A) (count i : ℕ) (bytes : List ℕ) (at : ℕ) (total : Result (List A × ℕ) RecordFault) → count ≤ i → with_front front (times_at one (count - i) bytes at) ≡ total → total ≡ Ok (front, at)
unfolding times_at
is_done {A} one front count i bytes at total le so_far =
    let k : count - i ≡ 0 = omega arith in
    let step : with_front front (times_at one (count - i) bytes at) ≡ Ok (front, at) = rw k (ap (λ (ns : List A). Ok (ns, at)) (append-nil front)) in
    sym so_far ∙ step

-- the same over the types of the parts
pub fields_go_on : (name : List ℕ) (t : PlainType) (ts : PlainFields) (front : List PlainValue) (bytes : List ℕ) (at : ℕ) (v : PlainValue) (after : ℕ) (total : Result (List PlainValue × ℕ) RecordFault) → value_at t bytes at ≡ Ok (v, after)
    → with_front front (fields_at (field_and name t ts) bytes at) ≡ total → with_front (front ++ v ∷ []) (fields_at ts bytes after) ≡ total
unfolding fields_at
fields_go_on name t ts front bytes at v after total h so_far =
    let step : with_front front (fields_at (field_and name t ts) bytes at) ≡ with_front (front ++ v ∷ []) (fields_at ts bytes after) = rw h (regroup front v (fields_at ts bytes after)) in
    sym step ∙ so_far

pub fields_stop : (e : Stop) (name : List ℕ) (t : PlainType) (ts : PlainFields) (front : List PlainValue) (bytes : List ℕ) (at : ℕ) (total : Result (List PlainValue × ℕ) RecordFault) → Fails e (value_at t bytes at)
    → with_front front (fields_at (field_and name t ts) bytes at) ≡ total → Fails e total
unfolding fields_at
fields_stop errors.Memory name t ts front bytes at total h so_far = tt
fields_stop (errors.Fault f) name t ts front bytes at total h so_far =
    let step : with_front front (fields_at (field_and name t ts) bytes at) ≡ Err f = rw h refl in
    sym so_far ∙ step

pub fields_done : (front : List PlainValue) (bytes : List ℕ) (at : ℕ) (total : Result (List PlainValue × ℕ) RecordFault) → with_front front (fields_at no_fields bytes at) ≡ total → total ≡ Ok (front, at)
unfolding fields_at
fields_done front bytes at total so_far =
    let step : with_front front (fields_at no_fields bytes at) ≡ Ok (front, at) = ap (λ (ns : List PlainValue). Ok (ns, at)) (append-nil front) in
    sym so_far ∙ step

-- the types that a loop has yet to read
pub fields_drop : (fs : List Field) (i : ℕ) (f : Field) → i < length fs → f ≡ get_or fs i f → fields_of (map plain_field (drop i fs)) ≡ field_and (plain_field f).name (plain_field f).type (fields_of (map plain_field (drop (i + 1) fs)))
fields_drop fs i f lt is = ap (λ (l : List Field). fields_of (map plain_field l)) (drop_more fs i f lt ∙ ap (λ (g : Field). g ∷ drop (i + 1) fs) (sym is))

pub fields_out : (fs : List Field) (i : ℕ) → length fs ≤ i → fields_of (map plain_field (drop i fs)) ≡ no_fields
fields_out fs i le = ap (λ (l : List Field). fields_of (map plain_field l)) (drop_all i fs le)

pub members_drop : (ms : List Member) (i : ℕ) (m : Member) → i < length ms → m ≡ get_or ms i m → layout_fields (map plain_member (drop i ms)) ≡ field_and (plain_member m).name (plain_type m.ty) (layout_fields (map plain_member (drop (i + 1) ms)))
members_drop ms i m lt is = ap (λ (l : List Member). layout_fields (map plain_member l)) (drop_more ms i m lt ∙ ap (λ (g : Member). g ∷ drop (i + 1) ms) (sym is))

pub members_out : (ms : List Member) (i : ℕ) → length ms ≤ i → layout_fields (map plain_member (drop i ms)) ≡ no_fields
members_out ms i le = ap (λ (l : List Member). layout_fields (map plain_member l)) (drop_all i ms le)
