-- The operand of a level of an expression that has no operator.
use Rattle.std.specs.Prelude.{Option, Some, None}
use Rattle.psdl_tree.specs.declared.expressions.TextLiteral.{TextLiteral}
use Rattle.psdl_tree.specs.Trees.{TextOperand, Unary, Signed, Product, OneUnary, Multiplied, Sum, OneProduct, Added, Shift, OneSum, Shifted, And, OneShift, Anded, Xor, OneAnd, Xored, Expression, OneXor, Ored}

abbrev pub only_xor : Expression → Option Xor
only_xor (OneXor operand) = Some operand
only_xor (Ored operand place others) = None

abbrev pub only_and : Xor → Option And
only_and (OneAnd operand) = Some operand
only_and (Xored operand place others) = None

abbrev pub only_shift : And → Option Shift
only_shift (OneShift operand) = Some operand
only_shift (Anded operand place others) = None

abbrev pub only_sum : Shift → Option Sum
only_sum (OneSum operand) = Some operand
only_sum (Shifted operand place operator others) = None

abbrev pub only_product : Sum → Option Product
only_product (OneProduct operand) = Some operand
only_product (Added operand place operator others) = None

abbrev pub only_unary : Product → Option Unary
only_unary (OneUnary operand) = Some operand
only_unary (Multiplied operand place operator others) = None

-- a string without a sign
abbrev pub only_text : Unary → Option TextLiteral
only_text (Signed None (TextOperand literal)) = Some literal
only_text _ = None

-- the sum that is the whole of an expression
abbrev pub whole_sum : Expression → Option Sum
whole_sum (OneXor (OneAnd (OneShift (OneSum operand)))) = Some operand
whole_sum _ = None
