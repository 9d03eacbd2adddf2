-- Values that were made, and those that are still to be made behind them.
use Rattle.std.proofs.Common.{◌≡◌, ℕ, suc, ◌+◌, ◌-◌, ◌<◌, ◌≤◌, List, [], ◌∷◌, ◌++◌, refl, sym, ap, ◌∙◌, arith, length, map, drop, get_or}
use Rattle.std.proofs.lemmas.List.{drop_all, drop_more}
use Rattle.type_layout.specs.declared.ty.Field.{Field}
use Rattle.type_layout.specs.Types.{PlainValue, PlainValues, no_values, value_and, values_of, fields_of}
use Rattle.type_layout.specs.Views.{plain_field}
use Rattle.type_layout.specs.Defaults.{copies, default, defaults}

abbrev pub joined : List PlainValue → PlainValues → PlainValues
joined [] vs = vs
joined (x ∷ xs) vs = value_and x (joined xs vs)

pub joined-push : (xs : List PlainValue) (v : PlainValue) (vs : PlainValues) → joined (xs ++ v ∷ []) vs ≡ joined xs (value_and v vs)
joined-push [] v vs = refl
joined-push (x ∷ xs) v vs = ap (value_and x) (joined-push xs v vs)

pub joined-none : (xs : List PlainValue) → joined xs no_values ≡ values_of xs
joined-none [] = refl
joined-none (x ∷ xs) = ap (value_and x) (joined-none xs)

-- one more copy
pub one_copy : (xs ys : List PlainValue) (v : PlainValue) (n i : ℕ) (all : PlainValues) → i < n → ys ≡ xs ++ v ∷ [] → joined xs (copies (n - i) v) ≡ all → joined ys (copies (n - (i + 1)) v) ≡ all
one_copy xs ys v n i all lt pushed so_far =
    let k : n - i ≡ suc (n - (i + 1)) = omega arith in
    ap (λ l. joined l (copies (n - (i + 1)) v)) pushed ∙ joined-push xs v (copies (n - (i + 1)) v) ∙ ap (λ m. joined xs (copies m v)) (sym k) ∙ so_far

pub no_copy : (xs : List PlainValue) (v : PlainValue) (n i : ℕ) (all : PlainValues) → n ≤ i → joined xs (copies (n - i) v) ≡ all → values_of xs ≡ all
no_copy xs v n i all le so_far =
    let k : n - i ≡ 0 = omega arith in
    sym (joined-none xs) ∙ ap (λ m. joined xs (copies m v)) (sym k) ∙ so_far

-- one more field's default
pub one_field : (xs ys : List PlainValue) (fs : List Field) (i : ℕ) (f : Field) (all : PlainValues) → i < length fs → f ≡ get_or fs i f → ys ≡ xs ++ default (plain_field f).type ∷ []
    → joined xs (defaults (fields_of (map plain_field (drop i fs)))) ≡ all → joined ys (defaults (fields_of (map plain_field (drop (i + 1) fs)))) ≡ all
one_field xs ys fs i f all lt is pushed so_far =
    let first : drop i fs ≡ f ∷ drop (i + 1) fs = drop_more fs i f lt ∙ ap (λ x. x ∷ drop (i + 1) fs) (sym is) in
    ap (λ l. joined l (defaults (fields_of (map plain_field (drop (i + 1) fs))))) pushed
    ∙ joined-push xs (default (plain_field f).type) (defaults (fields_of (map plain_field (drop (i + 1) fs))))
    ∙ ap (λ l. joined xs (defaults (fields_of (map plain_field l)))) (sym first)
    ∙ so_far

pub no_field : (xs : List PlainValue) (fs : List Field) (i : ℕ) (all : PlainValues) → length fs ≤ i → joined xs (defaults (fields_of (map plain_field (drop i fs)))) ≡ all → values_of xs ≡ all
no_field xs fs i all le so_far =
    sym (joined-none xs) ∙ ap (λ l. joined xs (defaults (fields_of (map plain_field l)))) (sym (drop_all i fs le)) ∙ so_far
