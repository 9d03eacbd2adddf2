-- A level of operators as its first operand and the others behind their operators.
use Rattle.std.proofs.Common.{◌≡◌, List, [], ◌∷◌, ◌++◌, sym, ap, append-nil}
use Rattle.part_readers.specs.Sentences.{joined}
use Rattle.pss_base.specs.declared.place.Place.{Place}
use Rattle.psdl_tokens.specs.declared.token.Mark.TheVariants as marks
use Rattle.psdl_tree.specs.declared.expressions.ShiftOperator.{ShiftOperator}
use Rattle.psdl_tree.specs.declared.expressions.SumOperator.{SumOperator}
use Rattle.psdl_tree.specs.declared.expressions.ProductOperator.{ProductOperator}
use Rattle.psdl_syntax.specs.Seen.{Seen, Placed}
use Rattle.psdl_tree.specs.Trees.{Unary, Product, Sum, Shift, And, Xor}
use Rattle.psdl_syntax.specs.Grammar.{unary, product, sum, shift, and, xor, expression, product_mark, sum_mark, shift_mark}
use Rattle.psdl_tree.specs.Views.{product_of, sum_of, shift_of, and_of, xor_of, expression_of}

abbrev pub product_part : Place × ProductOperator × Unary → List Seen
product_part p = Placed (product_mark p.1) p.0 ∷ unary p.2

pub product_joined : (x : Unary) (ys : List (Place × ProductOperator × Unary)) → product (product_of x ys) ≡ unary x ++ joined product_part ys
product_joined x [] = sym (append-nil (unary x))
product_joined x (y ∷ ys) = ap (λ l. unary x ++ (Placed (product_mark y.1) y.0 ∷ l)) (product_joined y.2 ys)

abbrev pub sum_part : Place × SumOperator × Product → List Seen
sum_part p = Placed (sum_mark p.1) p.0 ∷ product p.2

pub sum_joined : (x : Product) (ys : List (Place × SumOperator × Product)) → sum (sum_of x ys) ≡ product x ++ joined sum_part ys
sum_joined x [] = sym (append-nil (product x))
sum_joined x (y ∷ ys) = ap (λ l. product x ++ (Placed (sum_mark y.1) y.0 ∷ l)) (sum_joined y.2 ys)

abbrev pub shift_part : Place × ShiftOperator × Sum → List Seen
shift_part p = Placed (shift_mark p.1) p.0 ∷ sum p.2

pub shift_joined : (x : Sum) (ys : List (Place × ShiftOperator × Sum)) → shift (shift_of x ys) ≡ sum x ++ joined shift_part ys
shift_joined x [] = sym (append-nil (sum x))
shift_joined x (y ∷ ys) = ap (λ l. sum x ++ (Placed (shift_mark y.1) y.0 ∷ l)) (shift_joined y.2 ys)

abbrev pub and_part : Place × Shift → List Seen
and_part p = Placed (marks.And) p.0 ∷ shift p.1

pub and_joined : (x : Shift) (ys : List (Place × Shift)) → and (and_of x ys) ≡ shift x ++ joined and_part ys
and_joined x [] = sym (append-nil (shift x))
and_joined x (y ∷ ys) = ap (λ l. shift x ++ (Placed (marks.And) y.0 ∷ l)) (and_joined y.1 ys)

abbrev pub xor_part : Place × And → List Seen
xor_part p = Placed (marks.Xor) p.0 ∷ and p.1

pub xor_joined : (x : And) (ys : List (Place × And)) → xor (xor_of x ys) ≡ and x ++ joined xor_part ys
xor_joined x [] = sym (append-nil (and x))
xor_joined x (y ∷ ys) = ap (λ l. and x ++ (Placed (marks.Xor) y.0 ∷ l)) (xor_joined y.1 ys)

abbrev pub or_part : Place × Xor → List Seen
or_part p = Placed (marks.Or) p.0 ∷ xor p.1

pub expression_joined : (x : Xor) (ys : List (Place × Xor)) → expression (expression_of x ys) ≡ xor x ++ joined or_part ys
expression_joined x [] = sym (append-nil (xor x))
expression_joined x (y ∷ ys) = ap (λ l. xor x ++ (Placed (marks.Or) y.0 ∷ l)) (expression_joined y.1 ys)
