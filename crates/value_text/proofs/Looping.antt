-- Reading parts one after the other, as loops do.
use Rattle.std.proofs.Common.{◌≡◌, ℕ, suc, ◌-◌, ◌+◌, ◌≤◌, ◌<◌, Bool, true, false, List, [], ◌∷◌, ◌++◌, Option, Some, None, refl, sym, ap, ◌∙◌, append_assoc, arith, length, drop, map, get_or}
use Rattle.std.proofs.lemmas.List.{append-nil, drop_more}
use Rattle.type_layout.specs.declared.ty.Field.{Field}
use Rattle.type_layout.specs.Types.{PlainType, PlainFields, no_fields, field_and, PlainValue, fields_of}
use Rattle.type_layout.specs.Views.{plain_field}
use Rattle.value_text.specs.declared.fault.ValueFault.{ValueFault}
use Rattle.value_text.specs.declared.fault.ValueFault.TheVariants.{BadValue, NoMemory}
use Rattle.value_text.specs.Reading.{◌>>=◌, Fails, Reader, behind, byte_at, bytes_at, item_at, more_at, after_comma, value_at, more_fields_at}

-- what was read before, and what is still read
abbrev pub with_front : {A : Type 0} → List A → Option (List A × List ℕ) → Option (List A × List ℕ)
with_front front read = read >>= λ x. Some (front ++ x.0, x.1)

regroup : {A : Type 0} (front : List A) (n : A) (read : Option (List A × List ℕ)) → with_front front (read >>= λ x. Some (n ∷ x.0, x.1)) ≡ with_front (front ++ n ∷ []) read
regroup {A} front n (Some x) = ap (λ (ns : List A). Some (ns, x.1)) (simp append_assoc)
regroup front n None = refl

one_less : (count i : ℕ) → i < count → count - i ≡ suc (count - (i + 1))
one_less count i lt = omega arith

-- ---- bytes up to a quote

pub bytes_go_on : (quote : ℕ) (front : List ℕ) (count i : ℕ) (rest : List ℕ) (b : ℕ) (after : List ℕ) (total : Option (List ℕ × List ℕ)) → i < count → behind quote rest ≡ None → byte_at quote rest ≡ Some (b, after)
    → with_front front (bytes_at quote (count - i) rest) ≡ total → with_front (front ++ b ∷ []) (bytes_at quote (count - (i + 1)) after) ≡ total
unfolding bytes_at
bytes_go_on quote front count i rest b after total lt inside h so_far =
    let step : with_front front (bytes_at quote (count - i) rest) ≡ with_front (front ++ b ∷ []) (bytes_at quote (count - (i + 1)) after) = rw (one_less count i lt, inside, h) (regroup front b (bytes_at quote (count - (i + 1)) after)) in
    sym step ∙ so_far

pub bytes_stop : (quote : ℕ) (front : List ℕ) (count i : ℕ) (rest : List ℕ) (total : Option (List ℕ × List ℕ)) → i < count → behind quote rest ≡ None → byte_at quote rest ≡ None
    → with_front front (bytes_at quote (count - i) rest) ≡ total → total ≡ None
unfolding bytes_at
bytes_stop quote front count i rest total lt inside h so_far =
    let step : with_front front (bytes_at quote (count - i) rest) ≡ None = rw (one_less count i lt, inside, h) refl in
    sym so_far ∙ step

pub bytes_end : (quote : ℕ) (front : List ℕ) (count i : ℕ) (rest after : List ℕ) (total : Option (List ℕ × List ℕ)) → i < count → behind quote rest ≡ Some after
    → with_front front (bytes_at quote (count - i) rest) ≡ total → total ≡ Some (front, after)
unfolding bytes_at
bytes_end quote front count i rest after total lt ends so_far =
    let step : with_front front (bytes_at quote (count - i) rest) ≡ Some (front, after) = rw (one_less count i lt, ends) (ap (λ (ns : List ℕ). Some (ns, after)) (append-nil front)) in
    sym so_far ∙ step

pub bytes_out : (quote : ℕ) (front : List ℕ) (count i : ℕ) (rest : List ℕ) (total : Option (List ℕ × List ℕ)) → count ≤ i → with_front front (bytes_at quote (count - i) rest) ≡ total → total ≡ None
unfolding bytes_at
bytes_out quote front count i rest total le so_far =
    let none : count - i ≡ 0 = omega arith in
    let step : with_front front (bytes_at quote (count - i) rest) ≡ None = rw none refl in
    sym so_far ∙ step

-- ---- items up to a bracket

pub items_go_on : (one : Reader PlainValue) (front : List PlainValue) (count i : ℕ) (rest : List ℕ) (v : PlainValue) (goes_on : Bool) (after : List ℕ) (total : Option (List PlainValue × List ℕ)) → i < count → item_at one rest ≡ Some ((v, goes_on), after) → goes_on ≡ true
    → with_front front (more_at one (count - i) rest) ≡ total → with_front (front ++ v ∷ []) (more_at one (count - (i + 1)) after) ≡ total
unfolding more_at
items_go_on one front count i rest v goes_on after total lt h more so_far =
    let step : with_front front (more_at one (count - i) rest) ≡ with_front (front ++ v ∷ []) (more_at one (count - (i + 1)) after) = rw (one_less count i lt, h, more) (regroup front v (more_at one (count - (i + 1)) after)) in
    sym step ∙ so_far

pub items_end : (one : Reader PlainValue) (front : List PlainValue) (count i : ℕ) (rest : List ℕ) (v : PlainValue) (goes_on : Bool) (after : List ℕ) (total : Option (List PlainValue × List ℕ)) → i < count → item_at one rest ≡ Some ((v, goes_on), after) → goes_on ≡ false
    → with_front front (more_at one (count - i) rest) ≡ total → total ≡ Some (front ++ v ∷ [], after)
unfolding more_at
items_end one front count i rest v goes_on after total lt h last so_far =
    let step : with_front front (more_at one (count - i) rest) ≡ Some (front ++ v ∷ [], after) = rw (one_less count i lt, h, last) refl in
    sym so_far ∙ step

pub items_stop : (e : ValueFault) (one : Reader PlainValue) (front : List PlainValue) (count i : ℕ) (rest : List ℕ) (total : Option (List PlainValue × List ℕ)) → i < count → Fails e (item_at one rest)
    → with_front front (more_at one (count - i) rest) ≡ total → Fails e total
unfolding more_at
items_stop NoMemory one front count i rest total lt h so_far = tt
items_stop BadValue one front count i rest total lt h so_far =
    let step : with_front front (more_at one (count - i) rest) ≡ None = rw (one_less count i lt, h) refl in
    sym so_far ∙ step

pub items_out : (one : Reader PlainValue) (front : List PlainValue) (count i : ℕ) (rest : List ℕ) (total : Option (List PlainValue × List ℕ)) → count ≤ i → with_front front (more_at one (count - i) rest) ≡ total → total ≡ None
unfolding more_at
items_out one front count i rest total le so_far =
    let none : count - i ≡ 0 = omega arith in
    let step : with_front front (more_at one (count - i) rest) ≡ None = rw none refl in
    sym so_far ∙ step

-- ---- fields

pub fields_go_on : (name : List ℕ) (t : PlainType) (ts : PlainFields) (front : List PlainValue) (rest : List ℕ) (v : PlainValue) (after : List ℕ) (total : Option (List PlainValue × List ℕ)) → after_comma (value_at t) rest ≡ Some (v, after)
    → with_front front (more_fields_at (field_and name t ts) rest) ≡ total → with_front (front ++ v ∷ []) (more_fields_at ts after) ≡ total
unfolding more_fields_at
fields_go_on name t ts front rest v after total h so_far =
    let step : with_front front (more_fields_at (field_and name t ts) rest) ≡ with_front (front ++ v ∷ []) (more_fields_at ts after) = rw h (regroup front v (more_fields_at ts after)) in
    sym step ∙ so_far

pub fields_stop : (e : ValueFault) (name : List ℕ) (t : PlainType) (ts : PlainFields) (front : List PlainValue) (rest : List ℕ) (total : Option (List PlainValue × List ℕ)) → Fails e (after_comma (value_at t) rest)
    → with_front front (more_fields_at (field_and name t ts) rest) ≡ total → Fails e total
unfolding more_fields_at
fields_stop NoMemory name t ts front rest total h so_far = tt
fields_stop BadValue name t ts front rest total h so_far =
    let step : with_front front (more_fields_at (field_and name t ts) rest) ≡ None = rw h refl in
    sym so_far ∙ step

pub fields_done : (front : List PlainValue) (rest : List ℕ) (total : Option (List PlainValue × List ℕ)) → with_front front (more_fields_at no_fields rest) ≡ total → total ≡ Some (front, rest)
unfolding more_fields_at
fields_done front rest total so_far =
    let step : with_front front (more_fields_at no_fields rest) ≡ Some (front, rest) = ap (λ (ns : List PlainValue). Some (ns, rest)) (append-nil front) in
    sym so_far ∙ step

-- the fields that a loop has yet to read
pub fields_drop : (fs : List Field) (i : ℕ) (f : Field) → i < length fs → f ≡ get_or fs i f → fields_of (map plain_field (drop i fs)) ≡ field_and (plain_field f).name (plain_field f).type (fields_of (map plain_field (drop (i + 1) fs)))
fields_drop fs i f lt is = ap (λ (l : List Field). fields_of (map plain_field l)) (drop_more fs i f lt ∙ ap (λ (g : Field). g ∷ drop (i + 1) fs) (sym is))
