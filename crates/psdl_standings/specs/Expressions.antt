-- What stands in an expression: its names, its strings and its first token.
use Rattle.std.specs.Prelude.{List, [], ◌∷◌, ◌++◌, Option, Some, None}
use Rattle.pss_base.specs.declared.place.Place.{Place}
use Rattle.psdl_tree.specs.declared.expressions.TextLiteral.{TextLiteral}
use Rattle.psdl_tree.specs.Trees.{Name, Primary, NameOperand, IntegerOperand, TextOperand, Group, Unary, Signed, Product, OneUnary, Multiplied, Sum, OneProduct, Added, Shift, OneSum, Shifted, And, OneShift, Anded, Xor, OneAnd, Xored, Expression, OneXor, Ored}
use Rattle.type_layout.specs.Schemas.{given}
use Rattle.psdl_directory.specs.Lookup.{place_of}

abbrev mutual
  -- the operands without operators in the order of the text
  pub in_primary : Primary → List Primary
  in_primary (NameOperand name) = NameOperand name ∷ []
  in_primary (IntegerOperand literal) = IntegerOperand literal ∷ []
  in_primary (TextOperand literal) = TextOperand literal ∷ []
  in_primary (Group place inner) = operands inner

  pub in_unary : Unary → List Primary
  in_unary (Signed sign operand) = in_primary operand

  pub in_product : Product → List Primary
  in_product (OneUnary operand) = in_unary operand
  in_product (Multiplied operand place operator others) = in_unary operand ++ in_product others

  pub in_sum : Sum → List Primary
  in_sum (OneProduct operand) = in_product operand
  in_sum (Added operand place operator others) = in_product operand ++ in_sum others

  pub in_shift : Shift → List Primary
  in_shift (OneSum operand) = in_sum operand
  in_shift (Shifted operand place operator others) = in_sum operand ++ in_shift others

  pub in_and : And → List Primary
  in_and (OneShift operand) = in_shift operand
  in_and (Anded operand place others) = in_shift operand ++ in_and others

  pub in_xor : Xor → List Primary
  in_xor (OneAnd operand) = in_and operand
  in_xor (Xored operand place others) = in_and operand ++ in_xor others

  pub operands : Expression → List Primary
  operands (OneXor operand) = in_xor operand
  operands (Ored operand place others) = in_xor operand ++ operands others

abbrev pub named_by : Primary → List Name
named_by (NameOperand name) = name ∷ []
named_by _ = []

abbrev pub text_of : Primary → List TextLiteral
text_of (TextOperand literal) = literal ∷ []
text_of _ = []

-- ---- the first part

abbrev pub first_product : Product → Unary
first_product (OneUnary operand) = operand
first_product (Multiplied operand place operator others) = operand

abbrev pub first_sum : Sum → Product
first_sum (OneProduct operand) = operand
first_sum (Added operand place operator others) = operand

abbrev pub first_shift : Shift → Sum
first_shift (OneSum operand) = operand
first_shift (Shifted operand place operator others) = operand

abbrev pub first_and : And → Shift
first_and (OneShift operand) = operand
first_and (Anded operand place others) = operand

abbrev pub first_xor : Xor → And
first_xor (OneAnd operand) = operand
first_xor (Xored operand place others) = operand

abbrev pub first_or : Expression → Xor
first_or (OneXor operand) = operand
first_or (Ored operand place others) = operand

-- the operand that an expression begins with, and its sign
abbrev pub first_operand : Expression → Unary
first_operand e = first_product (first_sum (first_shift (first_and (first_xor (first_or e)))))

abbrev pub primary_place : Primary → Place
primary_place (NameOperand name) = place_of name
primary_place (IntegerOperand literal) = literal.place
primary_place (TextOperand literal) = literal.place
primary_place (Group place inner) = place

abbrev pub unary_place : Unary → Place
unary_place (Signed sign operand) = given sign (primary_place operand) (λ s. s.place)

-- the place of an expression's first token
abbrev pub expression_place : Expression → Place
expression_place e = unary_place (first_operand e)

-- the string that is the whole of an expression
abbrev pub whole_text : Expression → Option TextLiteral
whole_text (OneXor (OneAnd (OneShift (OneSum (OneProduct (OneUnary (Signed None (TextOperand literal)))))))) = Some literal
whole_text _ = None
