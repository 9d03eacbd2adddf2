-- The parts of a value are of the parts of its type.
use Rattle.std.proofs.Common.{◌≡◌, ℕ, ◌+◌, ◌/◌, ◌%◌, ◌<◌, ◌≤◌, List, [], ◌∷◌, ◌++◌, length, Box, Global, ℤ, refl, sym, ap, subst, ◌∙◌, arith, append_assoc}
use Rattle.std.specs.Fmt.{decimal, signed_decimal}
use Rattle.std.proofs.lemmas.Fmt.{decimal_digit, decimal_step}
use Rattle.type_layout.specs.declared.ty.Ty.{Ty}
use Rattle.type_layout.specs.declared.ty.Ty.TheVariants as types
use Rattle.type_layout.specs.declared.ty.Ty.TheOpen as open_type
use Rattle.type_layout.specs.declared.ty.Ty.TheFolds.{fold-roll-Ty}
use Rattle.type_layout.specs.Views.{plain_type, type_step, field_step, fields_step}
use Rattle.type_layout.specs.Types.{PlainType, Seq, Arr, Struct, Enum, PlainFields, PlainField, PlainValue, PlainValues, Int, Ordinal, Items, Parts}
use Rattle.type_layout.specs.Values.{Of, AreOf, EachOf}
use Rattle.value_text.specs.Printed.{items_in, parts_in, ordinal_in, list_printed, printed}

elements_of : (item : PlainType) (bound : ℕ) (v : PlainValue) → Of (Seq item bound) v → EachOf (Of item) (items_in v)
elements_of item bound (Items vs) of = of.0
elements_of item bound _ of = absurd of

items_of : (item : PlainType) (n : ℕ) (v : PlainValue) → Of (Arr item n) v → EachOf (Of item) (items_in v)
items_of item n (Items vs) of = of.0
items_of item n _ of = absurd of

-- a sequence or an array, whose item stands in a box
sequence_view : (item : Box Ty Global) (bound : ℕ) → plain_type (types.Seq item bound) ≡ Seq (plain_type item.value) bound
sequence_view item bound = ap plain_type (sym (types.rolls-Seq item bound)) ∙ fold-roll-Ty PlainType PlainField (List PlainField) type_step field_step fields_step (open_type.Seq item bound)

array_view : (item : Box Ty Global) (n : ℕ) → plain_type (types.Arr item n) ≡ Arr (plain_type item.value) n
array_view item n = ap plain_type (sym (types.rolls-Arr item n)) ∙ fold-roll-Ty PlainType PlainField (List PlainField) type_step field_step fields_step (open_type.Arr item n)

pub sequence_is : (ty inner : Ty) (item : Box Ty Global) (bound : ℕ) → ty ≡ types.Seq item bound → inner ≡ item.value → plain_type ty ≡ Seq (plain_type inner) bound
sequence_is ty inner item bound e d = ap plain_type e ∙ sequence_view item bound ∙ ap (λ (x : Ty). Seq (plain_type x) bound) (sym d)

pub array_is : (ty inner : Ty) (item : Box Ty Global) (n : ℕ) → ty ≡ types.Arr item n → inner ≡ item.value → plain_type ty ≡ Arr (plain_type inner) n
array_is ty inner item n e d = ap plain_type e ∙ array_view item n ∙ ap (λ (x : Ty). Arr (plain_type x) n) (sym d)

pub elements_fit : (type item : PlainType) (bound : ℕ) (v : PlainValue) (vs : PlainValues) → type ≡ Seq item bound → vs ≡ items_in v → Of type v → EachOf (Of item) vs
elements_fit type item bound v vs is e of =
    let whole : Of (Seq item bound) v = subst (λ (p : PlainType). Of p v) is of in
    subst (EachOf (Of item)) (sym e) (elements_of item bound v whole)

pub items_fit : (type item : PlainType) (n : ℕ) (v : PlainValue) (vs : PlainValues) → type ≡ Arr item n → vs ≡ items_in v → Of type v → EachOf (Of item) vs
items_fit type item n v vs is e of =
    let whole : Of (Arr item n) v = subst (λ (p : PlainType). Of p v) is of in
    subst (EachOf (Of item)) (sym e) (items_of item n v whole)

-- what is printed between the brackets
pub elements_print : (type item : PlainType) (bound : ℕ) (v : PlainValue) (vs : PlainValues) → type ≡ Seq item bound → vs ≡ items_in v → list_printed (printed item) vs ≡ printed type v
elements_print type item bound v vs is e = ap (list_printed (printed item)) e ∙ ap (λ (p : PlainType). printed p v) (sym is)

pub items_print : (type item : PlainType) (n : ℕ) (v : PlainValue) (vs : PlainValues) → type ≡ Arr item n → vs ≡ items_in v → list_printed (printed item) vs ≡ printed type v
items_print type item n v vs is e = ap (list_printed (printed item)) e ∙ ap (λ (p : PlainType). printed p v) (sym is)

pub parts_fit : (fs : PlainFields) (v : PlainValue) → Of (Struct fs) v → AreOf fs (parts_in v)
parts_fit fs (Parts vs) of = of
parts_fit fs _ of = absurd of

pub ordinal_fits : (names : List (List ℕ)) (v : PlainValue) → Of (Enum names) v → ordinal_in v < length names
ordinal_fits names (Ordinal n) of = of.0
ordinal_fits names _ of = absurd of

-- a number of two digits is printed one after the other
pub two_digits : (n : ℕ) (front middle : List ℕ) → 10 ≤ n → n < 100 → middle ≡ front ++ (48 + n / 10) ∷ [] → middle ++ (48 + n % 10) ∷ [] ≡ front ++ decimal n
two_digits n front middle low high e =
    rw (e, decimal_step n low (omega arith), decimal_digit (n / 10) (omega arith), append_assoc)

-- a number is printed alike by each type that it is of
pub number_prints : (type : PlainType) (z : ℤ) → Of type (Int z) → printed type (Int z) ≡ signed_decimal z
number_prints (Seq _ _) z of = absurd of
number_prints (Arr _ _) z of = absurd of
number_prints (Struct _) z of = absurd of
number_prints (Enum _) z of = absurd of
number_prints _ z of = refl
