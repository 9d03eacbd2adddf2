-- Expressions without a fault come to a number.
use Rattle.std.proofs.Common.{◌≡◌, ℕ, List, [], ◌∷◌, ◌++◌, ℤ, pos, Bool, true, false, cond, not, ◌&&◌, ◌||◌, Option, Some, None, is_some, is_none, inl, refl}
use Rattle.std.specs.Int.{w128, int_bit_and, int_bit_or, int_bit_xor}
use Rattle.std.specs.Option.{option_map, option_and_then}
use Rattle.pss_base.specs.declared.place.Place.{Place}
use Rattle.psdl_tree.specs.declared.expressions.ShiftOperator.{ShiftOperator}
use Rattle.psdl_tree.specs.declared.expressions.ShiftOperator.TheVariants as shifts
use Rattle.psdl_tree.specs.declared.expressions.SumOperator.{SumOperator}
use Rattle.psdl_tree.specs.declared.expressions.SumOperator.TheVariants as sums
use Rattle.psdl_tree.specs.declared.expressions.ProductOperator.{ProductOperator}
use Rattle.psdl_tree.specs.declared.expressions.ProductOperator.TheVariants as products
use Rattle.psdl_tree.specs.declared.expressions.UnarySign.{UnarySign}
use Rattle.psdl_tree.specs.Trees.{Name, Primary, NameOperand, IntegerOperand, TextOperand, Group, Unary, Signed, Product, OneUnary, Multiplied, Sum, OneProduct, Added, Shift, OneSum, Shifted, And, OneShift, Anded, Xor, OneAnd, Xored, Expression, OneXor, Ored}
use Rattle.type_layout.specs.Schemas.{given}
use Rattle.psdl_standings.specs.Expressions.{in_primary, in_unary, in_product, in_sum, in_shift, in_and, in_xor, operands}
use Rattle.psdl_standings.specs.Values.{Assessed, ranged, is_wide, is_zero, shift_of, made_by, is_shift, value_by, leaves_range, shifts_too_far, zero_divisor, operated, sign_leaves, signed_by, signed, shift_operator, sum_operator, product_operator, primary, unary, product, product_onto, sum, sum_onto, shift, shift_onto, and, and_onto, xor, xor_onto, assessed, or_onto}
use Rattle.psdl_sound.proofs.Among.{Among, among_front, among_behind}
use Rattle.psdl_check.proofs.FaultlessTexts.{both_empty}

-- a part that does not leave the range and divides by no 0 comes to a number
abbrev pub IsValued : Assessed → Type 0
IsValued a = a.leaves ≡ false → a.zeros ≡ [] → is_some a.value ≡ true

-- what an operand needs
abbrev pub IsOperand : (Name → Option ℤ) → Primary → Type 0
IsOperand env (NameOperand name) = is_some (env name) ≡ true
IsOperand env (IntegerOperand literal) = is_some (ranged (pos literal.value)) ≡ true
IsOperand env (TextOperand literal) = ⊥
IsOperand env (Group place inner) = Unit {0}

-- of each operand
abbrev pub AreOperands : (Name → Option ℤ) → List Primary → Type 0
AreOperands env ps = (p : Primary) → Among p ps → IsOperand env p

-- ---- one operator

four_off : (a b c d : Bool) → a || b || c || d ≡ false → (a ≡ false) × (b ≡ false) × (c ≡ false) × (d ≡ false)
four_off false false false false e = (refl, refl, refl, refl)
four_off true b c d e = absurd (cc)
four_off false true c d e = absurd (cc)
four_off false false true d e = absurd (cc)
four_off false false false true e = absurd (cc)

in_range : (z : ℤ) → not (is_wide z) ≡ false → is_some (ranged z) ≡ true
in_range z off = by (is_wide z) off
  where
    by : (b : Bool) → not b ≡ false → is_some (cond b (Some z) None) ≡ true
    by true off = refl
    by false off = absurd (cc)

-- what is made is in range
made_valued : (o : Option ℤ) → is_some o ≡ true → given o false (λ z. not (is_wide z)) ≡ false → is_some (option_and_then ranged o) ≡ true
made_valued None some off = absurd (cc)
made_valued (Some z) some off = in_range z off

module _ (operator : _) (total : (x y : ℤ) → is_shift operator && is_none (shift_of y) ≡ false → (place : Place) → zero_divisor operator place (Some y) ≡ [] → is_some (made_by operator x y) ≡ true) where
  operated_valued : (place : Place) (a b : Assessed) → IsValued a → IsValued b → IsValued (operated operator place a b)
  operated_valued place a b va vb leaves zeros =
      let off = four_off a.leaves b.leaves (leaves_range operator a.value b.value) (shifts_too_far operator b.value) leaves in
      let outer = both_empty (a.zeros ++ b.zeros) (zero_divisor operator place b.value) zeros in
      let inner = both_empty a.zeros b.zeros outer.0 in
      by a.value b.value (va off.0 inner.0) (vb off.1 inner.1) off.2 off.3 outer.1
    where
      by : (u v : Option ℤ) → is_some u ≡ true → is_some v ≡ true → leaves_range operator u v ≡ false → shifts_too_far operator v ≡ false → zero_divisor operator place v ≡ [] → is_some (value_by operator u v) ≡ true
      by None v p q l s z = absurd (cc)
      by (Some x) None p q l s z = absurd (cc)
      by (Some x) (Some y) p q l s z = made_valued (made_by operator x y) (total x y s place z) l

option_some : {A B : Type 0} (f : A → B) (o : Option A) → is_none o ≡ false → is_some (option_map f o) ≡ true
option_some f None off = absurd (cc)
option_some f (Some x) off = refl

not_zero : (b : Bool) (place : Place) (z : ℤ) → cond b (place ∷ []) [] ≡ [] → is_some (cond b None (Some z)) ≡ true
not_zero true place z e = absurd (cc)
not_zero false place z e = refl

shift_total : (operator : ShiftOperator) (x y : ℤ) → is_shift (shift_operator operator) && is_none (shift_of y) ≡ false → (place : Place) → zero_divisor (shift_operator operator) place (Some y) ≡ [] → is_some (made_by (shift_operator operator) x y) ≡ true
shift_total shifts.Left x y s place z = option_some _ (shift_of y) s
shift_total shifts.Right x y s place z = option_some _ (shift_of y) s

sum_total : (operator : SumOperator) (x y : ℤ) → is_shift (sum_operator operator) && is_none (shift_of y) ≡ false → (place : Place) → zero_divisor (sum_operator operator) place (Some y) ≡ [] → is_some (made_by (sum_operator operator) x y) ≡ true
sum_total sums.Plus x y s place z = refl
sum_total sums.Minus x y s place z = refl

product_total : (operator : ProductOperator) (x y : ℤ) → is_shift (product_operator operator) && is_none (shift_of y) ≡ false → (place : Place) → zero_divisor (product_operator operator) place (Some y) ≡ [] → is_some (made_by (product_operator operator) x y) ≡ true
product_total products.Times x y s place z = refl
product_total products.Divide x y s place z = not_zero (is_zero y) place _ z
product_total products.Remainder x y s place z = not_zero (is_zero y) place _ z

two_off : (a b : Bool) → a || b ≡ false → (a ≡ false) × (b ≡ false)
two_off false false e = (refl, refl)
two_off true b e = absurd (cc)
two_off false true e = absurd (cc)

-- a sign
signed_valued : (width : Option ℕ) (sign : Option UnarySign) (a : Assessed) → IsValued a → IsValued (signed width sign a)
signed_valued width None a v leaves zeros = v leaves zeros
signed_valued width (Some sign) a v leaves zeros =
    let off = two_off a.leaves (sign_leaves width sign.operator a.value) leaves in
    by a.value (v off.0 zeros) off.1
  where
    made : (o : Option ℤ) → given o true (λ z. not (is_wide z)) ≡ false → is_some (option_and_then ranged o) ≡ true
    made None off = absurd (cc)
    made (Some z) off = in_range z off

    by : (u : Option ℤ) → is_some u ≡ true → sign_leaves width sign.operator u ≡ false → is_some (option_and_then ranged (option_and_then (signed_by width sign.operator) u)) ≡ true
    by None p l = absurd (cc)
    by (Some x) p l = made (signed_by width sign.operator x) l

-- an operator on bits
abbrev bitwise : (ℤ → ℤ → ℤ) → Assessed → Assessed → Assessed
bitwise bit a b = record {
  value = given a.value None (λ x. given b.value None (λ y. option_and_then ranged (Some (bit x y))));
  leaves = a.leaves || b.leaves || given a.value false (λ x. given b.value false (λ y. not (is_wide (bit x y)))) || false;
  zeros = a.zeros ++ b.zeros ++ [];
}

bitwise_valued : (bit : ℤ → ℤ → ℤ) (a b : Assessed) → IsValued a → IsValued b → IsValued (bitwise bit a b)
bitwise_valued bit a b va vb leaves zeros =
    let out : Bool = given a.value false (λ x. given b.value false (λ y. not (is_wide (bit x y)))) in
    let off = four_off a.leaves b.leaves out false leaves in
    let outer = both_empty (a.zeros ++ b.zeros) [] zeros in
    let inner = both_empty a.zeros b.zeros outer.0 in
    by a.value b.value (va off.0 inner.0) (vb off.1 inner.1) off.2
  where
    by : (u v : Option ℤ) → is_some u ≡ true → is_some v ≡ true → given u false (λ x. given v false (λ y. not (is_wide (bit x y)))) ≡ false → is_some (given u None (λ x. given v None (λ y. option_and_then ranged (Some (bit x y))))) ≡ true
    by None v p q l = absurd (cc)
    by (Some x) None p q l = absurd (cc)
    by (Some x) (Some y) p q l = in_range (bit x y) l

-- ---- expressions

module _ (env : Name → Option ℤ) (width : Option ℕ) where
  front_operands : (xs ys : List Primary) → AreOperands env (xs ++ ys) → AreOperands env xs
  front_operands xs ys h p a = h p (among_front p xs ys a)

  behind_operands : (xs ys : List Primary) → AreOperands env (xs ++ ys) → AreOperands env ys
  behind_operands xs ys h p a = h p (among_behind p xs ys a)

  mutual
    primary_valued : (p : Primary) → AreOperands env (in_primary p) → IsValued (primary env width p)
    primary_valued (NameOperand name) h leaves zeros = h (NameOperand name) (inl refl)
    primary_valued (IntegerOperand literal) h leaves zeros = h (IntegerOperand literal) (inl refl)
    primary_valued (TextOperand literal) h leaves zeros = absurd (h (TextOperand literal) (inl refl))
    primary_valued (Group place inner) h leaves zeros = expression_valued inner h leaves zeros

    unary_valued : (u : Unary) → AreOperands env (in_unary u) → IsValued (unary env width u)
    unary_valued (Signed sign operand) h = signed_valued width sign (primary env width operand) (primary_valued operand h)

    product_valued : (p : Product) → AreOperands env (in_product p) → IsValued (product env width p)
    product_valued (OneUnary operand) h = unary_valued operand h
    product_valued (Multiplied operand place operator others) h =
        product_onto_valued (unary env width operand) place operator others (unary_valued operand (front_operands (in_unary operand) (in_product others) h)) (behind_operands (in_unary operand) (in_product others) h)

    product_onto_valued : (a : Assessed) (place : Place) (operator : ProductOperator) (p : Product) → IsValued a → AreOperands env (in_product p) → IsValued (product_onto env width a place (product_operator operator) p)
    product_onto_valued a place operator (OneUnary operand) v h = operated_valued (product_operator operator) (product_total operator) place a (unary env width operand) v (unary_valued operand h)
    product_onto_valued a place operator (Multiplied operand next next_operator others) v h =
        product_onto_valued (operated (product_operator operator) place a (unary env width operand)) next next_operator others
        (operated_valued (product_operator operator) (product_total operator) place a (unary env width operand) v (unary_valued operand (front_operands (in_unary operand) (in_product others) h)))
        (behind_operands (in_unary operand) (in_product others) h)

    sum_valued : (s : Sum) → AreOperands env (in_sum s) → IsValued (sum env width s)
    sum_valued (OneProduct operand) h = product_valued operand h
    sum_valued (Added operand place operator others) h =
        sum_onto_valued (product env width operand) place operator others (product_valued operand (front_operands (in_product operand) (in_sum others) h)) (behind_operands (in_product operand) (in_sum others) h)

    sum_onto_valued : (a : Assessed) (place : Place) (operator : SumOperator) (s : Sum) → IsValued a → AreOperands env (in_sum s) → IsValued (sum_onto env width a place (sum_operator operator) s)
    sum_onto_valued a place operator (OneProduct operand) v h = operated_valued (sum_operator operator) (sum_total operator) place a (product env width operand) v (product_valued operand h)
    sum_onto_valued a place operator (Added operand next next_operator others) v h =
        sum_onto_valued (operated (sum_operator operator) place a (product env width operand)) next next_operator others
        (operated_valued (sum_operator operator) (sum_total operator) place a (product env width operand) v (product_valued operand (front_operands (in_product operand) (in_sum others) h)))
        (behind_operands (in_product operand) (in_sum others) h)

    shift_valued : (s : Shift) → AreOperands env (in_shift s) → IsValued (shift env width s)
    shift_valued (OneSum operand) h = sum_valued operand h
    shift_valued (Shifted operand place operator others) h =
        shift_onto_valued (sum env width operand) place operator others (sum_valued operand (front_operands (in_sum operand) (in_shift others) h)) (behind_operands (in_sum operand) (in_shift others) h)

    shift_onto_valued : (a : Assessed) (place : Place) (operator : ShiftOperator) (s : Shift) → IsValued a → AreOperands env (in_shift s) → IsValued (shift_onto env width a place (shift_operator operator) s)
    shift_onto_valued a place operator (OneSum operand) v h = operated_valued (shift_operator operator) (shift_total operator) place a (sum env width operand) v (sum_valued operand h)
    shift_onto_valued a place operator (Shifted operand next next_operator others) v h =
        shift_onto_valued (operated (shift_operator operator) place a (sum env width operand)) next next_operator others
        (operated_valued (shift_operator operator) (shift_total operator) place a (sum env width operand) v (sum_valued operand (front_operands (in_sum operand) (in_shift others) h)))
        (behind_operands (in_sum operand) (in_shift others) h)

    and_valued : (x : And) → AreOperands env (in_and x) → IsValued (and env width x)
    and_valued (OneShift operand) h = shift_valued operand h
    and_valued (Anded operand place others) h =
        and_onto_valued (shift env width operand) place others (shift_valued operand (front_operands (in_shift operand) (in_and others) h)) (behind_operands (in_shift operand) (in_and others) h)

    and_onto_valued : (a : Assessed) (place : Place) (x : And) → IsValued a → AreOperands env (in_and x) → IsValued (and_onto env width a place x)
    and_onto_valued a place (OneShift operand) v h = bitwise_valued (int_bit_and w128) a (shift env width operand) v (shift_valued operand h)
    and_onto_valued a place (Anded operand next others) v h =
        and_onto_valued (bitwise (int_bit_and w128) a (shift env width operand)) next others
        (bitwise_valued (int_bit_and w128) a (shift env width operand) v (shift_valued operand (front_operands (in_shift operand) (in_and others) h)))
        (behind_operands (in_shift operand) (in_and others) h)

    xor_valued : (x : Xor) → AreOperands env (in_xor x) → IsValued (xor env width x)
    xor_valued (OneAnd operand) h = and_valued operand h
    xor_valued (Xored operand place others) h =
        xor_onto_valued (and env width operand) place others (and_valued operand (front_operands (in_and operand) (in_xor others) h)) (behind_operands (in_and operand) (in_xor others) h)

    xor_onto_valued : (a : Assessed) (place : Place) (x : Xor) → IsValued a → AreOperands env (in_xor x) → IsValued (xor_onto env width a place x)
    xor_onto_valued a place (OneAnd operand) v h = bitwise_valued (int_bit_xor w128) a (and env width operand) v (and_valued operand h)
    xor_onto_valued a place (Xored operand next others) v h =
        xor_onto_valued (bitwise (int_bit_xor w128) a (and env width operand)) next others
        (bitwise_valued (int_bit_xor w128) a (and env width operand) v (and_valued operand (front_operands (in_and operand) (in_xor others) h)))
        (behind_operands (in_and operand) (in_xor others) h)

    expression_valued : (e : Expression) → AreOperands env (operands e) → IsValued (assessed env width e)
    expression_valued (OneXor operand) h = xor_valued operand h
    expression_valued (Ored operand place others) h =
        or_onto_valued (xor env width operand) place others (xor_valued operand (front_operands (in_xor operand) (operands others) h)) (behind_operands (in_xor operand) (operands others) h)

    or_onto_valued : (a : Assessed) (place : Place) (e : Expression) → IsValued a → AreOperands env (operands e) → IsValued (or_onto env width a place e)
    or_onto_valued a place (OneXor operand) v h = bitwise_valued (int_bit_or w128) a (xor env width operand) v (xor_valued operand h)
    or_onto_valued a place (Ored operand next others) v h =
        or_onto_valued (bitwise (int_bit_or w128) a (xor env width operand)) next others
        (bitwise_valued (int_bit_or w128) a (xor env width operand) v (xor_valued operand (front_operands (in_xor operand) (operands others) h)))
        (behind_operands (in_xor operand) (operands others) h)

  -- an expression without a fault comes to a number
  pub comes_to : (e : Expression) → AreOperands env (operands e) → IsValued (assessed env width e)
  comes_to e h = expression_valued e h
