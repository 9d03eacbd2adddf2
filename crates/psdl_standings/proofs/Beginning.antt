-- How expressions begin, and what is the whole of one.
use Rattle.std.proofs.Common.{◌≡◌, List, [], ◌∷◌, map, refl, ap, ◌∙◌}
use Rattle.psdl_tree.specs.declared.expressions.Product.{Product as ProductNode}
use Rattle.psdl_tree.specs.declared.expressions.Sum.{Sum as SumNode}
use Rattle.psdl_tree.specs.declared.expressions.Shift.{Shift as ShiftNode}
use Rattle.psdl_tree.specs.declared.expressions.And.{And as AndNode}
use Rattle.psdl_tree.specs.declared.expressions.Xor.{Xor as XorNode}
use Rattle.psdl_tree.specs.declared.expressions.Expression.{Expression as ExpressionNode}
use Rattle.psdl_tree.specs.declared.expressions.ShiftOperator.{ShiftOperator}
use Rattle.psdl_tree.specs.declared.expressions.SumOperator.{SumOperator}
use Rattle.psdl_tree.specs.declared.expressions.ProductOperator.{ProductOperator}
use Rattle.pss_base.specs.declared.place.Place.{Place}
use Rattle.psdl_tree.specs.declared.expressions.Primary.TheViews.{out-Product, out-Sum, out-Shift, out-And, out-Xor, out-Expression}
use Rattle.psdl_tree.specs.Trees.{Unary, Product, Sum, Shift, And, Xor}
use Rattle.psdl_tree.specs.Views.{unary_view, product_view, product_part_view, product_of, sum_view, sum_part_view, sum_of, shift_view, shift_part_view, shift_of, and_view, and_part_view, and_of, xor_view, xor_part_view, xor_of, expression_view, or_part_view, expression_of}
use Rattle.psdl_tree.proofs.Opened.{product_opened, sum_opened, shift_opened, and_opened, xor_opened, expression_opened}
use Rattle.psdl_standings.specs.Expressions.{first_product, first_sum, first_shift, first_and, first_xor, first_or, first_operand}

product_begun : (x : Unary) (others : List (Place × ProductOperator × Unary)) → first_product (product_of x others) ≡ x
product_begun x [] = refl
product_begun x (y ∷ ys) = refl

pub product_begins : (x : ProductNode) → first_product (product_view x) ≡ unary_view (out-Product x).first
product_begins x = ap first_product (product_opened x) ∙ product_begun (unary_view (out-Product x).first) (map product_part_view (out-Product x).others.items)

sum_begun : (x : Product) (others : List (Place × SumOperator × Product)) → first_sum (sum_of x others) ≡ x
sum_begun x [] = refl
sum_begun x (y ∷ ys) = refl

pub sum_begins : (x : SumNode) → first_sum (sum_view x) ≡ product_view (out-Sum x).first
sum_begins x = ap first_sum (sum_opened x) ∙ sum_begun (product_view (out-Sum x).first) (map sum_part_view (out-Sum x).others.items)

shift_begun : (x : Sum) (others : List (Place × ShiftOperator × Sum)) → first_shift (shift_of x others) ≡ x
shift_begun x [] = refl
shift_begun x (y ∷ ys) = refl

pub shift_begins : (x : ShiftNode) → first_shift (shift_view x) ≡ sum_view (out-Shift x).first
shift_begins x = ap first_shift (shift_opened x) ∙ shift_begun (sum_view (out-Shift x).first) (map shift_part_view (out-Shift x).others.items)

and_begun : (x : Shift) (others : List (Place × Shift)) → first_and (and_of x others) ≡ x
and_begun x [] = refl
and_begun x (y ∷ ys) = refl

pub and_begins : (x : AndNode) → first_and (and_view x) ≡ shift_view (out-And x).first
and_begins x = ap first_and (and_opened x) ∙ and_begun (shift_view (out-And x).first) (map and_part_view (out-And x).others.items)

xor_begun : (x : And) (others : List (Place × And)) → first_xor (xor_of x others) ≡ x
xor_begun x [] = refl
xor_begun x (y ∷ ys) = refl

pub xor_begins : (x : XorNode) → first_xor (xor_view x) ≡ and_view (out-Xor x).first
xor_begins x = ap first_xor (xor_opened x) ∙ xor_begun (and_view (out-Xor x).first) (map xor_part_view (out-Xor x).others.items)

expression_begun : (x : Xor) (others : List (Place × Xor)) → first_or (expression_of x others) ≡ x
expression_begun x [] = refl
expression_begun x (y ∷ ys) = refl

pub expression_begins : (x : ExpressionNode) → first_or (expression_view x) ≡ xor_view (out-Expression x).first
expression_begins x = ap first_or (expression_opened x) ∙ expression_begun (xor_view (out-Expression x).first) (map or_part_view (out-Expression x).others.items)

pub operand_begins : (x : ExpressionNode) → first_operand (expression_view x) ≡ unary_view (out-Product (out-Sum (out-Shift (out-And (out-Xor (out-Expression x).first).first).first).first).first).first
operand_begins x = rw (expression_begins x, xor_begins (out-Expression x).first, and_begins (out-Xor (out-Expression x).first).first, shift_begins (out-And (out-Xor (out-Expression x).first).first).first, sum_begins (out-Shift (out-And (out-Xor (out-Expression x).first).first).first).first) (product_begins (out-Sum (out-Shift (out-And (out-Xor (out-Expression x).first).first).first).first).first)
