-- Values of expressions, which are whole numbers.
use Rattle.std.specs.Prelude.{ℕ, ◌-◌, ◌^◌, ℤ, pos, negsuc, ◌+ℤ◌, ◌-ℤ◌, ◌*ℤ◌, neg_ℤ, int_div, int_rem, int_le, List, [], ◌∷◌, ◌++◌, Option, Some, None, is_none, Bool, true, false, not, ◌&&◌, ◌||◌, nat_lt, ◌==◌, if◌then◌else◌}
use Rattle.std.specs.Int.{w128, int_bit_and, int_bit_or, int_bit_xor, int_shr}
use Rattle.std.specs.Option.{option_and_then, option_map}
use Rattle.pss_base.specs.declared.place.Place.{Place}
use Rattle.psdl_tree.specs.declared.expressions.ShiftOperator.{ShiftOperator}
use Rattle.psdl_tree.specs.declared.expressions.SumOperator.{SumOperator}
use Rattle.psdl_tree.specs.declared.expressions.ProductOperator.{ProductOperator}
use Rattle.psdl_tree.specs.declared.expressions.UnaryOperator.{UnaryOperator}
use Rattle.psdl_tree.specs.declared.expressions.UnarySign.{UnarySign}
use Rattle.psdl_tree.specs.Trees.{Name, Primary, NameOperand, IntegerOperand, TextOperand, Group, Unary, Signed, Product, OneUnary, Multiplied, Sum, OneProduct, Added, Shift, OneSum, Shifted, And, OneShift, Anded, Xor, OneAnd, Xored, Expression, OneXor, Ored}
use Rattle.type_layout.specs.Schemas.{given}
use Rattle.psdl_standings.specs.declared.operator.Operator.{Operator}
use Rattle.psdl_standings.specs.declared.operator.Operator.TheVariants.{Disjunction, Exclusion, Conjunction, ShiftLeft, ShiftRight, Plus, Minus, Times, Quotient, Remainder}
use Rattle.psdl_tree.specs.declared.expressions.ShiftOperator.TheVariants as shifts
use Rattle.psdl_tree.specs.declared.expressions.SumOperator.TheVariants as sums
use Rattle.psdl_tree.specs.declared.expressions.ProductOperator.TheVariants as products
use Rattle.psdl_tree.specs.declared.expressions.UnaryOperator.TheVariants as signs

-- ---- numbers and operators

-- from the least to the most
abbrev pub is_within : ℤ → ℤ → ℤ → Bool
is_within least most z = int_le least z && int_le z most

-- from -2^127 to 2^127 - 1
abbrev pub is_wide : ℤ → Bool
is_wide (pos n) = nat_lt n (2 ^ 127)
is_wide (negsuc n) = nat_lt n (2 ^ 127)

-- the number, where it is in range
abbrev pub ranged : ℤ → Option ℤ
ranged z = if is_wide z then Some z else None

-- a shift is by 0 to 63
abbrev pub shift_of : ℤ → Option ℕ
shift_of (pos n) = if nat_lt 63 n then None else Some n
shift_of (negsuc n) = None

abbrev pub is_zero : ℤ → Bool
is_zero (pos n) = n == 0
is_zero (negsuc n) = false

-- what an operator makes of two numbers: none for a shift that is too far, and for a division by 0
abbrev pub made_by : Operator → ℤ → ℤ → Option ℤ
made_by Disjunction a b = Some (int_bit_or w128 a b)
made_by Exclusion a b = Some (int_bit_xor w128 a b)
made_by Conjunction a b = Some (int_bit_and w128 a b)
made_by ShiftLeft a b = option_map (λ n. a *ℤ pos (2 ^ n)) (shift_of b)
made_by ShiftRight a b = option_map (λ n. int_shr a n) (shift_of b)
made_by Plus a b = Some (a +ℤ b)
made_by Minus a b = Some (a -ℤ b)
made_by Times a b = Some (a *ℤ b)
made_by Quotient a b = if is_zero b then None else Some (int_div a b)
made_by Remainder a b = if is_zero b then None else Some (int_rem a b)

abbrev pub is_shift : Operator → Bool
is_shift ShiftLeft = true
is_shift ShiftRight = true
is_shift _ = false

abbrev pub is_division : Operator → Bool
is_division Quotient = true
is_division Remainder = true
is_division _ = false

-- `-`, `+` and `~`; in an unsigned type of so many bits `~` stays within it
abbrev pub signed_by : Option ℕ → UnaryOperator → ℤ → Option ℤ
signed_by width signs.Minus a = Some (neg_ℤ a)
signed_by width signs.Plus a = Some a
signed_by None signs.Not a = Some (neg_ℤ a -ℤ pos 1)
signed_by (Some bits) signs.Not a = if is_within (pos 0) (pos (2 ^ bits - 1)) a then Some (pos (2 ^ bits - 1) -ℤ a) else None

-- ---- what a part of an expression comes to

pub record Assessed : Type 0 where
  -- none where a part has none
  pub value : Option ℤ
  -- a part leaves the range, or shifts too far
  pub leaves : Bool
  -- the operators whose divisor is 0
  pub zeros : List Place

abbrev pub simply : Option ℤ → Assessed
simply value = record { value = value; leaves = false; zeros = [] }

abbrev pub value_by : Operator → Option ℤ → Option ℤ → Option ℤ
value_by operator a b = given a None (λ x. given b None (λ y. option_and_then ranged (made_by operator x y)))

-- both are there, and what comes of them leaves the range
abbrev pub leaves_range : Operator → Option ℤ → Option ℤ → Bool
leaves_range operator a b = given a false (λ x. given b false (λ y. given (made_by operator x y) false (λ z. not (is_wide z))))

-- of a shift it is the right operand alone that counts
abbrev pub shifts_too_far : Operator → Option ℤ → Bool
shifts_too_far operator b = is_shift operator && given b false (λ y. is_none (shift_of y))

-- of a division it is the right operand alone that counts
abbrev pub zero_divisor : Operator → Place → Option ℤ → List Place
zero_divisor operator place b = if is_division operator && given b false is_zero then place ∷ [] else []

abbrev pub operated : Operator → Place → Assessed → Assessed → Assessed
operated operator place a b = record {
  value = value_by operator a.value b.value;
  leaves = a.leaves || b.leaves || leaves_range operator a.value b.value || shifts_too_far operator b.value;
  zeros = a.zeros ++ b.zeros ++ zero_divisor operator place b.value;
}

abbrev pub sign_leaves : Option ℕ → UnaryOperator → Option ℤ → Bool
sign_leaves width operator a = given a false (λ x. given (signed_by width operator x) true (λ z. not (is_wide z)))

abbrev pub signed : Option ℕ → Option UnarySign → Assessed → Assessed
signed width None a = a
signed width (Some sign) a = record {
  value = option_and_then ranged (option_and_then (signed_by width sign.operator) a.value);
  leaves = a.leaves || sign_leaves width sign.operator a.value;
  zeros = a.zeros;
}

abbrev pub shift_operator : ShiftOperator → Operator
shift_operator shifts.Left = ShiftLeft
shift_operator shifts.Right = ShiftRight

abbrev pub sum_operator : SumOperator → Operator
sum_operator sums.Plus = Plus
sum_operator sums.Minus = Minus

abbrev pub product_operator : ProductOperator → Operator
product_operator products.Times = Times
product_operator products.Divide = Quotient
product_operator products.Remainder = Remainder

-- Each level of operators goes from left to right: a part, and then each further one onto what there is so far.
-- `env` has the values of names, `width` the bits of the unsigned type that the whole is of.
abbrev mutual
  pub primary : (Name → Option ℤ) → Option ℕ → Primary → Assessed
  primary env width (NameOperand name) = simply (env name)
  primary env width (IntegerOperand literal) = simply (ranged (pos literal.value))
  primary env width (TextOperand literal) = simply None
  primary env width (Group place inner) = assessed env width inner

  pub unary : (Name → Option ℤ) → Option ℕ → Unary → Assessed
  unary env width (Signed sign operand) = signed width sign (primary env width operand)

  pub product : (Name → Option ℤ) → Option ℕ → Product → Assessed
  product env width (OneUnary operand) = unary env width operand
  product env width (Multiplied operand place operator others) = product_onto env width (unary env width operand) place (product_operator operator) others

  pub product_onto : (Name → Option ℤ) → Option ℕ → Assessed → Place → Operator → Product → Assessed
  product_onto env width so_far place operator (OneUnary operand) = operated operator place so_far (unary env width operand)
  product_onto env width so_far place operator (Multiplied operand next next_operator others) =
      product_onto env width (operated operator place so_far (unary env width operand)) next (product_operator next_operator) others

  pub sum : (Name → Option ℤ) → Option ℕ → Sum → Assessed
  sum env width (OneProduct operand) = product env width operand
  sum env width (Added operand place operator others) = sum_onto env width (product env width operand) place (sum_operator operator) others

  pub sum_onto : (Name → Option ℤ) → Option ℕ → Assessed → Place → Operator → Sum → Assessed
  sum_onto env width so_far place operator (OneProduct operand) = operated operator place so_far (product env width operand)
  sum_onto env width so_far place operator (Added operand next next_operator others) =
      sum_onto env width (operated operator place so_far (product env width operand)) next (sum_operator next_operator) others

  pub shift : (Name → Option ℤ) → Option ℕ → Shift → Assessed
  shift env width (OneSum operand) = sum env width operand
  shift env width (Shifted operand place operator others) = shift_onto env width (sum env width operand) place (shift_operator operator) others

  pub shift_onto : (Name → Option ℤ) → Option ℕ → Assessed → Place → Operator → Shift → Assessed
  shift_onto env width so_far place operator (OneSum operand) = operated operator place so_far (sum env width operand)
  shift_onto env width so_far place operator (Shifted operand next next_operator others) =
      shift_onto env width (operated operator place so_far (sum env width operand)) next (shift_operator next_operator) others

  pub and : (Name → Option ℤ) → Option ℕ → And → Assessed
  and env width (OneShift operand) = shift env width operand
  and env width (Anded operand place others) = and_onto env width (shift env width operand) place others

  pub and_onto : (Name → Option ℤ) → Option ℕ → Assessed → Place → And → Assessed
  and_onto env width so_far place (OneShift operand) = operated Conjunction place so_far (shift env width operand)
  and_onto env width so_far place (Anded operand next others) = and_onto env width (operated Conjunction place so_far (shift env width operand)) next others

  pub xor : (Name → Option ℤ) → Option ℕ → Xor → Assessed
  xor env width (OneAnd operand) = and env width operand
  xor env width (Xored operand place others) = xor_onto env width (and env width operand) place others

  pub xor_onto : (Name → Option ℤ) → Option ℕ → Assessed → Place → Xor → Assessed
  xor_onto env width so_far place (OneAnd operand) = operated Exclusion place so_far (and env width operand)
  xor_onto env width so_far place (Xored operand next others) = xor_onto env width (operated Exclusion place so_far (and env width operand)) next others

  pub assessed : (Name → Option ℤ) → Option ℕ → Expression → Assessed
  assessed env width (OneXor operand) = xor env width operand
  assessed env width (Ored operand place others) = or_onto env width (xor env width operand) place others

  pub or_onto : (Name → Option ℤ) → Option ℕ → Assessed → Place → Expression → Assessed
  or_onto env width so_far place (OneXor operand) = operated Disjunction place so_far (xor env width operand)
  or_onto env width so_far place (Ored operand next others) = or_onto env width (operated Disjunction place so_far (xor env width operand)) next others
