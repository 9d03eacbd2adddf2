-- A level of operators of a tree, and one of its parts, opened.
use Rattle.std.proofs.Common.{◌≡◌, map}
use Rattle.pss_base.specs.declared.place.Place.{Place}
use Rattle.psdl_tree.specs.declared.expressions.ShiftOperator.{ShiftOperator}
use Rattle.psdl_tree.specs.declared.expressions.SumOperator.{SumOperator}
use Rattle.psdl_tree.specs.declared.expressions.ProductOperator.{ProductOperator}
use Rattle.psdl_tree.specs.declared.expressions.Product.{Product as ProductNode}
use Rattle.psdl_tree.specs.declared.expressions.ProductPart.{ProductPart as ProductPartNode}
use Rattle.psdl_tree.specs.declared.expressions.Sum.{Sum as SumNode}
use Rattle.psdl_tree.specs.declared.expressions.SumPart.{SumPart as SumPartNode}
use Rattle.psdl_tree.specs.declared.expressions.Shift.{Shift as ShiftNode}
use Rattle.psdl_tree.specs.declared.expressions.ShiftPart.{ShiftPart as ShiftPartNode}
use Rattle.psdl_tree.specs.declared.expressions.And.{And as AndNode}
use Rattle.psdl_tree.specs.declared.expressions.AndPart.{AndPart as AndPartNode}
use Rattle.psdl_tree.specs.declared.expressions.Xor.{Xor as XorNode}
use Rattle.psdl_tree.specs.declared.expressions.XorPart.{XorPart as XorPartNode}
use Rattle.psdl_tree.specs.declared.expressions.Expression.{Expression as ExpressionNode}
use Rattle.psdl_tree.specs.declared.expressions.OrPart.{OrPart as OrPartNode}
use Rattle.psdl_tree.specs.declared.expressions.Group.{Group as GroupNode}
use Rattle.psdl_tree.specs.declared.expressions.Primary.TheViews.{out-Product, out-ProductPart, out-Sum, out-SumPart, out-Shift, out-ShiftPart, out-And, out-AndPart, out-Xor, out-XorPart, out-Expression, out-OrPart, out-Group}
use Rattle.psdl_tree.specs.declared.expressions.Primary.TheFolds.{fold_out-Product, fold_out-ProductPart, fold_out-Sum, fold_out-SumPart, fold_out-Shift, fold_out-ShiftPart, fold_out-And, fold_out-AndPart, fold_out-Xor, fold_out-XorPart, fold_out-Expression, fold_out-OrPart, fold_out-Group}
use Rattle.psdl_tree.specs.Trees.{Primary, And, Expression, Product, Shift, Sum, Unary, Xor}
use Rattle.psdl_tree.specs.Views.{primary_step, and_step, and_part_step, expression_step, group_step, or_part_step, product_step, product_part_step, shift_step, shift_part_step, sum_step, sum_part_step, unary_step, xor_step, xor_part_step, group_view, unary_view, product_view, product_part_view, product_of, sum_view, sum_part_view, sum_of, shift_view, shift_part_view, shift_of, and_view, and_part_view, and_of, xor_view, xor_part_view, xor_of, expression_view, or_part_view, expression_of}

pub product_opened : (x : ProductNode) → product_view x ≡ product_of (unary_view (out-Product x).first) (map product_part_view (out-Product x).others.items)
product_opened x = fold_out-Product Primary And (Place × Shift) Expression (Place × Expression) (Place × Xor) Product (Place × ProductOperator × Unary) Shift (Place × ShiftOperator × Sum) Sum (Place × SumOperator × Product) Unary Xor (Place × And) primary_step and_step and_part_step expression_step group_step or_part_step product_step product_part_step shift_step shift_part_step sum_step sum_part_step unary_step xor_step xor_part_step x

pub product_part_opened : (x : ProductPartNode) → product_part_view x ≡ ((out-ProductPart x).place, (out-ProductPart x).operator, unary_view (out-ProductPart x).operand)
product_part_opened x = fold_out-ProductPart Primary And (Place × Shift) Expression (Place × Expression) (Place × Xor) Product (Place × ProductOperator × Unary) Shift (Place × ShiftOperator × Sum) Sum (Place × SumOperator × Product) Unary Xor (Place × And) primary_step and_step and_part_step expression_step group_step or_part_step product_step product_part_step shift_step shift_part_step sum_step sum_part_step unary_step xor_step xor_part_step x

pub sum_opened : (x : SumNode) → sum_view x ≡ sum_of (product_view (out-Sum x).first) (map sum_part_view (out-Sum x).others.items)
sum_opened x = fold_out-Sum Primary And (Place × Shift) Expression (Place × Expression) (Place × Xor) Product (Place × ProductOperator × Unary) Shift (Place × ShiftOperator × Sum) Sum (Place × SumOperator × Product) Unary Xor (Place × And) primary_step and_step and_part_step expression_step group_step or_part_step product_step product_part_step shift_step shift_part_step sum_step sum_part_step unary_step xor_step xor_part_step x

pub sum_part_opened : (x : SumPartNode) → sum_part_view x ≡ ((out-SumPart x).place, (out-SumPart x).operator, product_view (out-SumPart x).operand)
sum_part_opened x = fold_out-SumPart Primary And (Place × Shift) Expression (Place × Expression) (Place × Xor) Product (Place × ProductOperator × Unary) Shift (Place × ShiftOperator × Sum) Sum (Place × SumOperator × Product) Unary Xor (Place × And) primary_step and_step and_part_step expression_step group_step or_part_step product_step product_part_step shift_step shift_part_step sum_step sum_part_step unary_step xor_step xor_part_step x

pub shift_opened : (x : ShiftNode) → shift_view x ≡ shift_of (sum_view (out-Shift x).first) (map shift_part_view (out-Shift x).others.items)
shift_opened x = fold_out-Shift Primary And (Place × Shift) Expression (Place × Expression) (Place × Xor) Product (Place × ProductOperator × Unary) Shift (Place × ShiftOperator × Sum) Sum (Place × SumOperator × Product) Unary Xor (Place × And) primary_step and_step and_part_step expression_step group_step or_part_step product_step product_part_step shift_step shift_part_step sum_step sum_part_step unary_step xor_step xor_part_step x

pub shift_part_opened : (x : ShiftPartNode) → shift_part_view x ≡ ((out-ShiftPart x).place, (out-ShiftPart x).operator, sum_view (out-ShiftPart x).operand)
shift_part_opened x = fold_out-ShiftPart Primary And (Place × Shift) Expression (Place × Expression) (Place × Xor) Product (Place × ProductOperator × Unary) Shift (Place × ShiftOperator × Sum) Sum (Place × SumOperator × Product) Unary Xor (Place × And) primary_step and_step and_part_step expression_step group_step or_part_step product_step product_part_step shift_step shift_part_step sum_step sum_part_step unary_step xor_step xor_part_step x

pub and_opened : (x : AndNode) → and_view x ≡ and_of (shift_view (out-And x).first) (map and_part_view (out-And x).others.items)
and_opened x = fold_out-And Primary And (Place × Shift) Expression (Place × Expression) (Place × Xor) Product (Place × ProductOperator × Unary) Shift (Place × ShiftOperator × Sum) Sum (Place × SumOperator × Product) Unary Xor (Place × And) primary_step and_step and_part_step expression_step group_step or_part_step product_step product_part_step shift_step shift_part_step sum_step sum_part_step unary_step xor_step xor_part_step x

pub and_part_opened : (x : AndPartNode) → and_part_view x ≡ ((out-AndPart x).place, shift_view (out-AndPart x).operand)
and_part_opened x = fold_out-AndPart Primary And (Place × Shift) Expression (Place × Expression) (Place × Xor) Product (Place × ProductOperator × Unary) Shift (Place × ShiftOperator × Sum) Sum (Place × SumOperator × Product) Unary Xor (Place × And) primary_step and_step and_part_step expression_step group_step or_part_step product_step product_part_step shift_step shift_part_step sum_step sum_part_step unary_step xor_step xor_part_step x

pub xor_opened : (x : XorNode) → xor_view x ≡ xor_of (and_view (out-Xor x).first) (map xor_part_view (out-Xor x).others.items)
xor_opened x = fold_out-Xor Primary And (Place × Shift) Expression (Place × Expression) (Place × Xor) Product (Place × ProductOperator × Unary) Shift (Place × ShiftOperator × Sum) Sum (Place × SumOperator × Product) Unary Xor (Place × And) primary_step and_step and_part_step expression_step group_step or_part_step product_step product_part_step shift_step shift_part_step sum_step sum_part_step unary_step xor_step xor_part_step x

pub xor_part_opened : (x : XorPartNode) → xor_part_view x ≡ ((out-XorPart x).place, and_view (out-XorPart x).operand)
xor_part_opened x = fold_out-XorPart Primary And (Place × Shift) Expression (Place × Expression) (Place × Xor) Product (Place × ProductOperator × Unary) Shift (Place × ShiftOperator × Sum) Sum (Place × SumOperator × Product) Unary Xor (Place × And) primary_step and_step and_part_step expression_step group_step or_part_step product_step product_part_step shift_step shift_part_step sum_step sum_part_step unary_step xor_step xor_part_step x

pub expression_opened : (x : ExpressionNode) → expression_view x ≡ expression_of (xor_view (out-Expression x).first) (map or_part_view (out-Expression x).others.items)
expression_opened x = fold_out-Expression Primary And (Place × Shift) Expression (Place × Expression) (Place × Xor) Product (Place × ProductOperator × Unary) Shift (Place × ShiftOperator × Sum) Sum (Place × SumOperator × Product) Unary Xor (Place × And) primary_step and_step and_part_step expression_step group_step or_part_step product_step product_part_step shift_step shift_part_step sum_step sum_part_step unary_step xor_step xor_part_step x

pub or_part_opened : (x : OrPartNode) → or_part_view x ≡ ((out-OrPart x).place, xor_view (out-OrPart x).operand)
or_part_opened x = fold_out-OrPart Primary And (Place × Shift) Expression (Place × Expression) (Place × Xor) Product (Place × ProductOperator × Unary) Shift (Place × ShiftOperator × Sum) Sum (Place × SumOperator × Product) Unary Xor (Place × And) primary_step and_step and_part_step expression_step group_step or_part_step product_step product_part_step shift_step shift_part_step sum_step sum_part_step unary_step xor_step xor_part_step x

pub group_opened : (x : GroupNode) → group_view x ≡ ((out-Group x).place, expression_view (out-Group x).inner.value)
group_opened x = fold_out-Group Primary And (Place × Shift) Expression (Place × Expression) (Place × Xor) Product (Place × ProductOperator × Unary) Shift (Place × ShiftOperator × Sum) Sum (Place × SumOperator × Product) Unary Xor (Place × And) primary_step and_step and_part_step expression_step group_step or_part_step product_step product_part_step shift_step shift_part_step sum_step sum_part_step unary_step xor_step xor_part_step x
