-- Levels of an expression that have an operator.
use Rattle.std.proofs.Common.{◌≡◌, List, [], ◌∷◌, Vec, Global, length, map, true, false, ◌==◌, None, refl, sym, ap, ◌∙◌, arith, vec_len}
use Rattle.std.proofs.lemmas.Bool.{eq-eqb}
use Rattle.psdl_tree.specs.declared.expressions.Product.{Product as ProductNode}
use Rattle.psdl_tree.specs.declared.expressions.ProductPart.{ProductPart as ProductPartNode}
use Rattle.psdl_tree.specs.declared.expressions.Sum.{Sum as SumNode}
use Rattle.psdl_tree.specs.declared.expressions.SumPart.{SumPart as SumPartNode}
use Rattle.psdl_tree.specs.declared.expressions.Shift.{Shift as ShiftNode}
use Rattle.psdl_tree.specs.declared.expressions.ShiftPart.{ShiftPart as ShiftPartNode}
use Rattle.psdl_tree.specs.declared.expressions.And.{And as AndNode}
use Rattle.psdl_tree.specs.declared.expressions.AndPart.{AndPart as AndPartNode}
use Rattle.psdl_tree.specs.declared.expressions.Xor.{Xor as XorNode}
use Rattle.psdl_tree.specs.declared.expressions.XorPart.{XorPart as XorPartNode}
use Rattle.psdl_tree.specs.declared.expressions.Expression.{Expression as ExpressionNode}
use Rattle.psdl_tree.specs.declared.expressions.OrPart.{OrPart as OrPartNode}
use Rattle.psdl_tree.specs.declared.expressions.Primary.TheViews.{out-Product, out-Sum, out-Shift, out-And, out-Xor, out-Expression}
use Rattle.psdl_tree.specs.Trees.{Unary, Product, Sum, Shift, And, Xor}
use Rattle.psdl_tree.specs.Views.{unary_view, product_view, product_part_view, product_of, sum_view, sum_part_view, sum_of, shift_view, shift_part_view, shift_of, and_view, and_part_view, and_of, xor_view, xor_part_view, xor_of, expression_view, or_part_view, expression_of}
use Rattle.psdl_tree.proofs.Opened.{product_opened, sum_opened, shift_opened, and_opened, xor_opened, expression_opened}
use Rattle.psdl_standings.specs.inner.Alone.{only_xor, only_and, only_shift, only_sum, only_product, only_unary}

not_empty : {X : Type 0} (v : Vec X Global) → (vec_len v == 0) ≡ false → v.items ≡ [] → ⊥
not_empty {X} v test e =
    let none : vec_len v ≡ 0 = omega (arith, v.ok.0, ap (λ (l : List X). length l) e) in
    let both : true ≡ false = sym (eq-eqb (vec_len v) 0 none) ∙ test in absurd (cc)

product_among : (x : Unary) (parts : List ProductPartNode) → (parts ≡ [] → ⊥) → None ≡ only_unary (product_of x (map product_part_view parts))
product_among x [] some = absurd (some refl)
product_among x (p ∷ ps) some = refl

pub product_not_alone : (x : ProductNode) → (vec_len (out-Product x).others == 0) ≡ false → None ≡ only_unary (product_view x)
product_not_alone x test = product_among (unary_view (out-Product x).first) (out-Product x).others.items (not_empty (out-Product x).others test) ∙ ap only_unary (sym (product_opened x))

sum_among : (x : Product) (parts : List SumPartNode) → (parts ≡ [] → ⊥) → None ≡ only_product (sum_of x (map sum_part_view parts))
sum_among x [] some = absurd (some refl)
sum_among x (p ∷ ps) some = refl

pub sum_not_alone : (x : SumNode) → (vec_len (out-Sum x).others == 0) ≡ false → None ≡ only_product (sum_view x)
sum_not_alone x test = sum_among (product_view (out-Sum x).first) (out-Sum x).others.items (not_empty (out-Sum x).others test) ∙ ap only_product (sym (sum_opened x))

shift_among : (x : Sum) (parts : List ShiftPartNode) → (parts ≡ [] → ⊥) → None ≡ only_sum (shift_of x (map shift_part_view parts))
shift_among x [] some = absurd (some refl)
shift_among x (p ∷ ps) some = refl

pub shift_not_alone : (x : ShiftNode) → (vec_len (out-Shift x).others == 0) ≡ false → None ≡ only_sum (shift_view x)
shift_not_alone x test = shift_among (sum_view (out-Shift x).first) (out-Shift x).others.items (not_empty (out-Shift x).others test) ∙ ap only_sum (sym (shift_opened x))

and_among : (x : Shift) (parts : List AndPartNode) → (parts ≡ [] → ⊥) → None ≡ only_shift (and_of x (map and_part_view parts))
and_among x [] some = absurd (some refl)
and_among x (p ∷ ps) some = refl

pub and_not_alone : (x : AndNode) → (vec_len (out-And x).others == 0) ≡ false → None ≡ only_shift (and_view x)
and_not_alone x test = and_among (shift_view (out-And x).first) (out-And x).others.items (not_empty (out-And x).others test) ∙ ap only_shift (sym (and_opened x))

xor_among : (x : And) (parts : List XorPartNode) → (parts ≡ [] → ⊥) → None ≡ only_and (xor_of x (map xor_part_view parts))
xor_among x [] some = absurd (some refl)
xor_among x (p ∷ ps) some = refl

pub xor_not_alone : (x : XorNode) → (vec_len (out-Xor x).others == 0) ≡ false → None ≡ only_and (xor_view x)
xor_not_alone x test = xor_among (and_view (out-Xor x).first) (out-Xor x).others.items (not_empty (out-Xor x).others test) ∙ ap only_and (sym (xor_opened x))

expression_among : (x : Xor) (parts : List OrPartNode) → (parts ≡ [] → ⊥) → None ≡ only_xor (expression_of x (map or_part_view parts))
expression_among x [] some = absurd (some refl)
expression_among x (p ∷ ps) some = refl

pub expression_not_alone : (x : ExpressionNode) → (vec_len (out-Expression x).others == 0) ≡ false → None ≡ only_xor (expression_view x)
expression_not_alone x test = expression_among (xor_view (out-Expression x).first) (out-Expression x).others.items (not_empty (out-Expression x).others test) ∙ ap only_xor (sym (expression_opened x))
