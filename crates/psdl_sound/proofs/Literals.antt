-- The literals of an expression are small, where the tokens that spell it are fit.
use Rattle.std.proofs.Common.{◌≡◌, List, ◌++◌, true, refl, ◌∙◌}
use Rattle.std.specs.List.{list_all}
use Rattle.std.proofs.lemmas.Bool.{and_from}
use Rattle.std.proofs.lemmas.List.Folds.{list_all-append}
use Rattle.part_readers.specs.Sentences.{maybe}
use Rattle.psdl_tokens.specs.declared.token.Mark.TheVariants as marks
use Rattle.psdl_tree.specs.Trees.{Primary, NameOperand, IntegerOperand, TextOperand, Group, Unary, Signed, Product, OneUnary, Multiplied, Sum, OneProduct, Added, Shift, OneSum, Shifted, And, OneShift, Anded, Xor, OneAnd, Xored, Expression, OneXor, Ored}
use Rattle.psdl_syntax.specs.Grammar as grammar
use Rattle.psdl_standings.specs.Expressions.{in_primary, in_unary, in_product, in_sum, in_shift, in_and, in_xor, operands}
use Rattle.psdl_sound.specs.SmallLiterals.{is_small}
use Rattle.psdl_sound.proofs.TokenWords.{AreFit}
use Rattle.psdl_sound.proofs.DeclaredNames.{split}

-- operands that are no literals, or small ones
abbrev AllSmall : List Primary → Type 0
AllSmall ps = list_all is_small ps ≡ true

-- those of two parts
both_small : (ps qs : List Primary) → AllSmall ps → AllSmall qs → AllSmall (ps ++ qs)
both_small ps qs a b = list_all-append is_small ps qs ∙ and_from (list_all is_small ps) (list_all is_small qs) a b

-- each part of an expression
mutual
  primary_small : (p : Primary) → AreFit (grammar.primary p) → AllSmall (in_primary p)
  primary_small (NameOperand name) fit = refl
  primary_small (IntegerOperand literal) fit = fit
  primary_small (TextOperand literal) fit = refl
  primary_small (Group place inner) fit = expression_small inner (split (grammar.expression inner) (grammar.sign marks.RightParen) fit).0

  unary_small : (u : Unary) → AreFit (grammar.unary u) → AllSmall (in_unary u)
  unary_small (Signed sign operand) fit = primary_small operand (split (maybe grammar.unary_sign sign) (grammar.primary operand) fit).1

  product_small : (p : Product) → AreFit (grammar.product p) → AllSmall (in_product p)
  product_small (OneUnary operand) fit = unary_small operand fit
  product_small (Multiplied operand place operator others) fit =
      let parts = split (grammar.unary operand) (grammar.placed (grammar.product_mark operator) place ++ grammar.product others) fit in
      both_small (in_unary operand) (in_product others) (unary_small operand parts.0) (product_small others parts.1)

  sum_small : (s : Sum) → AreFit (grammar.sum s) → AllSmall (in_sum s)
  sum_small (OneProduct operand) fit = product_small operand fit
  sum_small (Added operand place operator others) fit =
      let parts = split (grammar.product operand) (grammar.placed (grammar.sum_mark operator) place ++ grammar.sum others) fit in
      both_small (in_product operand) (in_sum others) (product_small operand parts.0) (sum_small others parts.1)

  shift_small : (s : Shift) → AreFit (grammar.shift s) → AllSmall (in_shift s)
  shift_small (OneSum operand) fit = sum_small operand fit
  shift_small (Shifted operand place operator others) fit =
      let parts = split (grammar.sum operand) (grammar.placed (grammar.shift_mark operator) place ++ grammar.shift others) fit in
      both_small (in_sum operand) (in_shift others) (sum_small operand parts.0) (shift_small others parts.1)

  and_small : (a : And) → AreFit (grammar.and a) → AllSmall (in_and a)
  and_small (OneShift operand) fit = shift_small operand fit
  and_small (Anded operand place others) fit =
      let parts = split (grammar.shift operand) (grammar.placed marks.And place ++ grammar.and others) fit in
      both_small (in_shift operand) (in_and others) (shift_small operand parts.0) (and_small others parts.1)

  xor_small : (x : Xor) → AreFit (grammar.xor x) → AllSmall (in_xor x)
  xor_small (OneAnd operand) fit = and_small operand fit
  xor_small (Xored operand place others) fit =
      let parts = split (grammar.and operand) (grammar.placed marks.Xor place ++ grammar.xor others) fit in
      both_small (in_and operand) (in_xor others) (and_small operand parts.0) (xor_small others parts.1)

  pub expression_small : (e : Expression) → AreFit (grammar.expression e) → AllSmall (operands e)
  expression_small (OneXor operand) fit = xor_small operand fit
  expression_small (Ored operand place others) fit =
      let parts = split (grammar.xor operand) (grammar.placed marks.Or place ++ grammar.expression others) fit in
      both_small (in_xor operand) (operands others) (xor_small operand parts.0) (expression_small others parts.1)
