-- Where values end.
use Rattle.std.proofs.Common.{◌≡◌, ℕ, suc, ◌+◌, ◌-◌, ◌^◌, ◌≤◌, ◌<◌, List, [], ◌∷◌, ◌++◌, length, get_or, map, take, drop, Option, Some, None, sym, ap, subst, ◌∙◌, arith, inl, inr, length-append}
use Rattle.std.specs.Prelude.{min}
use Rattle.std.proofs.lemmas.Bool.{cases_lt}
use Rattle.std.proofs.lemmas.List.{length-replicate, drop_all, drop_more, take_rest}
use Rattle.byteorder.specs.Endian.{big_bytes}
use Rattle.byteorder.specs.Numbers.{length-bytes_high_first}
use Rattle.pss_base.specs.declared.pid.Pid.{Pid}
use Rattle.type_layout.specs.declared.value.Value.{Value}
use Rattle.type_layout.specs.declared.member.Member.{Member}
use Rattle.type_layout.specs.Views.{plain_type, plain_value}
use Rattle.type_layout.specs.Members.{plain_member}
use Rattle.cdr_codec.proofs.Loop.{members_drop}
use Rattle.type_layout.specs.Types.{PlainType, Seq, PlainFields, no_fields, field_and, PlainValue, Items, PlainValues, no_values, value_and, values_of}
use Rattle.type_layout.specs.Values.{Of, AreOf, EachOf, count, layout_fields}
use Rattle.type_layout.specs.Spelling.{gap, padding, reference, each, spelling, spellings}
use Rattle.type_layout.specs.Keys.{key_part}
use Rattle.cdr_codec.specs.declared.width.Width.{Width}
use Rattle.cdr_codec.specs.Widths.{octets_in, number_width}
use Rattle.cdr_codec.specs.Lengths.{place_behind}
use Rattle.cdr_codec.specs.Places.{behind_numbers}
use Rattle.cdr_codec.proofs.Sizes.{count_is}
use Rattle.cdr_codec.proofs.Skips.{one_more}
use Rattle.cdr_codec.proofs.Standing.{stands_in}

-- a place that is kept up to a limit goes on as the place does
pub kept : (p q m : ℕ) (f : ℕ → ℕ) → q ≡ min p m → min (q + f q) m ≡ min (p + f p) m
kept p q m f is = elim (cases_lt p m) [
  | inl lt ↦ (let same : q ≡ p = omega (arith, is) in ap (λ (k : ℕ). min (k + f k) m) same)
  | inr le ↦ (let full : q ≡ m = omega (arith, is) in omega (arith, full))
]

pub number_length : (width n at : ℕ) → length (padding width at ++ big_bytes width n) ≡ gap width at + width
number_length width n at = omega (arith, length-append (padding width at) (big_bytes width n), length-replicate {A = ℕ} (gap width at) 0, length-bytes_high_first width n)

-- behind a first text, a text that begins where the first ends
pub length-both : (first : List ℕ) (second : ℕ → List ℕ) (at n : ℕ) → length first ≡ n → length (first ++ second (at + length first)) ≡ n + length (second (at + n))
length-both first second at n is = length-append first (second (at + length first)) ∙ ap (λ (k : ℕ). k + length (second (at + k))) is

-- a number has as many octets as its width, behind its padding
number_is_long : (t : PlainType) (w : Width) → number_width t ≡ Some w → (v : PlainValue) → Of t v → (at : ℕ) → length (spelling t v at) ≡ gap (octets_in w) at + octets_in w
number_is_long t w e v o at =
    let stands = stands_in t w e v o at in
    ap length stands.0 ∙ omega (arith, length-append (padding (octets_in w) at) (key_part t v), length-replicate {A = ℕ} (gap (octets_in w) at) 0, stands.1)

-- the end of a number, by the value that it is
pub number_ends : (t : PlainType) (w : Width) → number_width t ≡ Some w → (v : PlainValue) → Of t v → (at result : ℕ) → result ≡ place_behind at (gap (octets_in w) at + octets_in w) → result ≡ place_behind at (length (spelling t v at))
number_ends t w e v o at result is =
    is ∙ ap (place_behind at) (sym (number_is_long t w e v o at))

-- numbers one behind the other: the first alone has padding in front of it
numbers_are_long : (t : PlainType) (w : Width) → number_width t ≡ Some w → (vs : PlainValues) → EachOf (Of t) vs → (at : ℕ) → at + length (each (spelling t) vs at) ≡ behind_numbers (octets_in w) (count vs) at
numbers_are_long t w e no_values all at = omega arith
numbers_are_long t w e (value_and v vs) all at =
    let first = number_is_long t w e v all.0 at in
    let second = at + (gap (octets_in w) at + octets_in w) in
    let whole : length (each (spelling t) (value_and v vs) at) ≡ gap (octets_in w) at + octets_in w + length (each (spelling t) vs second) = length-both (spelling t v at) (each (spelling t) vs) at (gap (octets_in w) at + octets_in w) first in
    let place : second ≡ at + gap (octets_in w) at + octets_in w = omega arith in
    let more : suc (count vs) ≡ 1 + count vs = omega arith in
    let split : at + length (each (spelling t) (value_and v vs) at) ≡ second + length (each (spelling t) vs second) = omega (arith, whole) in
    split ∙ numbers_are_long t w e vs all.1 second ∙ ap (behind_numbers (octets_in w) (count vs)) place ∙ one_more w (count vs) at ∙ ap (λ (n : ℕ). behind_numbers (octets_in w) n at) more

-- the end of numbers, by the values that they are
pub all_numbers_end : (t : PlainType) (w : Width) → number_width t ≡ Some w → (vs : List Value) → EachOf (Of t) (values_of (map plain_value vs)) → (at result : ℕ) → result ≡ min (behind_numbers (octets_in w) (length vs) at) (2 ^ 64 - 1) → result ≡ place_behind at (length (each (spelling t) (values_of (map plain_value vs)) at))
all_numbers_end t w e vs all at result is =
    let as_many = ap (λ (n : ℕ). behind_numbers (octets_in w) n at) (count_is vs) in
    omega (arith, is, as_many, numbers_are_long t w e (values_of (map plain_value vs)) all at)

-- ---- values that have parts

-- a text that begins where a number ends
behind_number : (width n at first result : ℕ) (f : ℕ → List ℕ) → first ≡ place_behind at (gap width at + width) → result ≡ place_behind first (length (f first))
    → result ≡ place_behind at (length ((padding width at ++ big_bytes width n) ++ f (at + length (padding width at ++ big_bytes width n))))
behind_number width n at first result f is done =
    let size = number_length width n at in
    let whole : length ((padding width at ++ big_bytes width n) ++ f (at + length (padding width at ++ big_bytes width n))) ≡ gap width at + width + length (f (at + (gap width at + width))) = length-both (padding width at ++ big_bytes width n) f at (gap width at + width) size in
    done ∙ kept (at + (gap width at + width)) first (2 ^ 64 - 1) (λ k. length (f k)) is ∙ omega (arith, whole)

pub sequence_ends : (item : PlainType) (bound : ℕ) (vs : PlainValues) (at first result : ℕ) → first ≡ place_behind at (gap 4 at + 4) → result ≡ place_behind first (length (each (spelling item) vs first)) → result ≡ place_behind at (length (spelling (Seq item bound) (Items vs) at))
sequence_ends item bound vs at first result is done = behind_number 4 (count vs) at first result (each (spelling item) vs) is done

pub reference_ends : (pid : Option Pid) (at first result : ℕ) → first ≡ place_behind at (gap 4 at + 4) → result ≡ place_behind first (gap 8 first + 8) → result ≡ place_behind at (length (reference pid at))
reference_ends None at first result is done = behind_number 4 0 at first result (λ k. padding 8 k ++ big_bytes 8 0) is (done ∙ ap (place_behind first) (sym (number_length 8 0 first)))
reference_ends (Some pid) at first result is done = behind_number 4 pid.home at first result (λ k. padding 8 k ++ big_bytes 8 pid.serial) is (done ∙ ap (place_behind first) (sym (number_length 8 pid.serial first)))

-- ---- loops

-- a text, and then a text that begins where it ends
pub one_on : (first : ℕ → List ℕ) (others : ℕ → List ℕ) (p q total : ℕ) → q ≡ place_behind p (length (first p)) → place_behind p (length (first p ++ others (p + length (first p)))) ≡ total → place_behind q (length (others q)) ≡ total
one_on first others p q total is so_far = kept (p + length (first p)) q (2 ^ 64 - 1) (λ k. length (others k)) is ∙ (let whole = length-append (first p) (others (p + length (first p))) in omega (arith, whole, so_far))

place_is : (place total : ℕ) → place < 2 ^ 64 → place_behind place 0 ≡ total → place ≡ total
place_is place total fits is = omega (arith, is)

-- nothing is left of the values, or of the fields
pub items_over : (spell : PlainValue → ℕ → List ℕ) (vs : List Value) (i place total : ℕ) → length vs ≤ i → place < 2 ^ 64 → place_behind place (length (each spell (values_of (map plain_value (drop i vs))) place)) ≡ total → place ≡ total
items_over spell vs i place total over fits is =
    let none : drop i vs ≡ [] = drop_all i vs over in
    place_is place total fits (subst (λ (us : List Value). place_behind place (length (each spell (values_of (map plain_value us)) place)) ≡ total) none is)

pub fields_over : (fields : PlainFields) (vs : PlainValues) (place total : ℕ) → fields ≡ no_fields → place < 2 ^ 64 → AreOf fields vs → place_behind place (length (spellings fields vs place)) ≡ total → place ≡ total
fields_over fields vs place total none fits are is =
    place_is place total fits (empty vs (subst (λ (fs : PlainFields). AreOf fs vs) none are) (subst (λ (fs : PlainFields). place_behind place (length (spellings fs vs place)) ≡ total) none is))
  where
    empty : (us : PlainValues) → AreOf no_fields us → place_behind place (length (spellings no_fields us place)) ≡ total → place_behind place 0 ≡ total
    empty no_values are is = is
    empty (value_and v us) are is = is

pub split_first : {X : Type 0} (xs : List X) (x : X) → 1 ≤ length xs → x ≡ get_or xs 0 x → xs ≡ x ∷ take (length xs - 1) (drop 1 xs)
split_first {X} xs x some is = drop_more xs 0 x (omega arith) ∙ ap (λ (y : X). y ∷ drop 1 xs) (sym is) ∙ ap (λ (ys : List X). x ∷ ys) (sym (take_rest xs 1))

-- a member more
pub members_on : (ms : List Member) (i : ℕ) (m : Member) (v : Value) (rem others : List Value) (p q total : ℕ) → i < length ms → m ≡ get_or ms i m → rem ≡ v ∷ others
    → AreOf (layout_fields (map plain_member (drop i ms))) (values_of (map plain_value rem))
    → q ≡ place_behind p (length (spelling (plain_member m).type (plain_value v) p))
    → place_behind p (length (spellings (layout_fields (map plain_member (drop i ms))) (values_of (map plain_value rem)) p)) ≡ total
    → AreOf (layout_fields (map plain_member (drop (i + 1) ms))) (values_of (map plain_value others)) × (q < 2 ^ 64) × (place_behind q (length (spellings (layout_fields (map plain_member (drop (i + 1) ms))) (values_of (map plain_value others)) q)) ≡ total)
members_on ms i m v rem others p q total lt is split are next so_far =
    let fields = layout_fields (map plain_member (drop (i + 1) ms)) in
    let more = members_drop ms i m lt is in
    let are' = subst (λ (fs : PlainFields). AreOf fs (values_of (map plain_value rem))) more are in
    let are'' = subst (λ (vs : List Value). AreOf (field_and (plain_member m).name (plain_type m.ty) fields) (values_of (map plain_value vs))) split are' in
    let so' = subst (λ (fs : PlainFields). place_behind p (length (spellings fs (values_of (map plain_value rem)) p)) ≡ total) more so_far in
    let so'' = subst (λ (vs : List Value). place_behind p (length (spellings (field_and (plain_member m).name (plain_type m.ty) fields) (values_of (map plain_value vs)) p)) ≡ total) split so' in
    (are''.1, omega (arith, next), one_on (spelling (plain_type m.ty) (plain_value v)) (spellings fields (values_of (map plain_value others))) p q total next so'')
