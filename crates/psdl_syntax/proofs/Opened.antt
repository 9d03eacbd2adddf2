-- The tokens of a level of operators, by what it holds; and a group that was printed.
use Rattle.std.proofs.Common.{◌≡◌, ◌++◌, ◌∷◌, [], map, ap, sym, ◌∙◌}
use Rattle.part_readers.specs.Sentences.{joined, maybe}
use Rattle.psdl_syntax.specs.Seen.{Sign, Placed}
use Rattle.psdl_tokens.specs.declared.token.Mark.TheVariants as marks
use Rattle.psdl_syntax.specs.declared.printing.printer.Printer.{Printer}
use Rattle.psdl_syntax.specs.Printing.{printed, put_mark}
use Rattle.psdl_syntax.specs.Grammar as grammar
use Rattle.psdl_syntax.proofs.Levels as levels
use Rattle.psdl_syntax.proofs.Printed.{printed_append}
use Rattle.psdl_tree.specs.declared.expressions.Primary.{Primary as PrimaryNode}
use Rattle.psdl_tree.specs.declared.expressions.Primary.TheVariants as nodes
use Rattle.psdl_tree.specs.declared.expressions.Primary.TheOpen as open_primary
use Rattle.psdl_tree.specs.declared.expressions.Primary.TheFolds.{fold-roll-Primary, fold_out-Unary}
use Rattle.pss_base.specs.declared.place.Place.{Place}
use Rattle.psdl_tree.specs.declared.expressions.ShiftOperator.{ShiftOperator}
use Rattle.psdl_tree.specs.declared.expressions.SumOperator.{SumOperator}
use Rattle.psdl_tree.specs.declared.expressions.ProductOperator.{ProductOperator}
use Rattle.psdl_tree.specs.declared.expressions.Unary.{Unary as UnaryNode}
use Rattle.psdl_tree.specs.declared.expressions.Product.{Product as ProductNode}
use Rattle.psdl_tree.specs.declared.expressions.Sum.{Sum as SumNode}
use Rattle.psdl_tree.specs.declared.expressions.Shift.{Shift as ShiftNode}
use Rattle.psdl_tree.specs.declared.expressions.And.{And as AndNode}
use Rattle.psdl_tree.specs.declared.expressions.Xor.{Xor as XorNode}
use Rattle.psdl_tree.specs.declared.expressions.Expression.{Expression as ExpressionNode}
use Rattle.psdl_tree.specs.declared.expressions.Group.{Group as GroupNode}
use Rattle.psdl_tree.specs.declared.expressions.Primary.TheViews.{out-Product, out-Sum, out-Shift, out-And, out-Xor, out-Expression, out-Group, out-Unary}
use Rattle.psdl_tree.specs.Trees.{Primary, Group, Signed, And, Expression, Product, Shift, Sum, Unary, Xor}
use Rattle.psdl_tree.specs.Views.{primary_step, and_step, and_part_step, expression_step, group_step, or_part_step, product_step, product_part_step, shift_step, shift_part_step, sum_step, sum_part_step, unary_step, xor_step, xor_part_step, unary_view, primary_view, product_view, product_part_view, sum_view, sum_part_view, shift_view, shift_part_view, and_view, and_part_view, xor_view, xor_part_view, expression_view, or_part_view}
use Rattle.psdl_tree.proofs.Opened.{product_opened, sum_opened, shift_opened, and_opened, xor_opened, expression_opened, group_opened}

pub product_spelled : (x : ProductNode) → grammar.product (product_view x) ≡ grammar.unary (unary_view (out-Product x).first) ++ joined levels.product_part (map product_part_view (out-Product x).others.items)
product_spelled x = ap grammar.product (product_opened x) ∙ levels.product_joined (unary_view (out-Product x).first) (map product_part_view (out-Product x).others.items)

pub sum_spelled : (x : SumNode) → grammar.sum (sum_view x) ≡ grammar.product (product_view (out-Sum x).first) ++ joined levels.sum_part (map sum_part_view (out-Sum x).others.items)
sum_spelled x = ap grammar.sum (sum_opened x) ∙ levels.sum_joined (product_view (out-Sum x).first) (map sum_part_view (out-Sum x).others.items)

pub shift_spelled : (x : ShiftNode) → grammar.shift (shift_view x) ≡ grammar.sum (sum_view (out-Shift x).first) ++ joined levels.shift_part (map shift_part_view (out-Shift x).others.items)
shift_spelled x = ap grammar.shift (shift_opened x) ∙ levels.shift_joined (sum_view (out-Shift x).first) (map shift_part_view (out-Shift x).others.items)

pub and_spelled : (x : AndNode) → grammar.and (and_view x) ≡ grammar.shift (shift_view (out-And x).first) ++ joined levels.and_part (map and_part_view (out-And x).others.items)
and_spelled x = ap grammar.and (and_opened x) ∙ levels.and_joined (shift_view (out-And x).first) (map and_part_view (out-And x).others.items)

pub xor_spelled : (x : XorNode) → grammar.xor (xor_view x) ≡ grammar.and (and_view (out-Xor x).first) ++ joined levels.xor_part (map xor_part_view (out-Xor x).others.items)
xor_spelled x = ap grammar.xor (xor_opened x) ∙ levels.xor_joined (and_view (out-Xor x).first) (map xor_part_view (out-Xor x).others.items)

pub expression_spelled : (x : ExpressionNode) → grammar.expression (expression_view x) ≡ grammar.xor (xor_view (out-Expression x).first) ++ joined levels.or_part (map or_part_view (out-Expression x).others.items)
expression_spelled x = ap grammar.expression (expression_opened x) ∙ levels.expression_joined (xor_view (out-Expression x).first) (map or_part_view (out-Expression x).others.items)

pub group_spelled : (g : GroupNode) → grammar.primary (primary_view (nodes.Group g)) ≡ Placed marks.LeftParen (out-Group g).place ∷ (grammar.expression (expression_view (out-Group g).inner.value) ++ Sign marks.RightParen ∷ [])
group_spelled g = ap grammar.primary (ap primary_view (sym (nodes.rolls-Group g)) ∙ fold-roll-Primary Primary And (Place × Shift) Expression (Place × Expression) (Place × Xor) Product (Place × ProductOperator × Unary) Shift (Place × ShiftOperator × Sum) Sum (Place × SumOperator × Product) Unary Xor (Place × And) primary_step and_step and_part_step expression_step group_step or_part_step product_step product_part_step shift_step shift_part_step sum_step sum_part_step unary_step xor_step xor_part_step (open_primary.Group g) ∙ ap (λ (t : Place × Expression). Group t.0 t.1) (group_opened g))

pub group_printed : (p m e : Printer) (x : PrimaryNode) (g : GroupNode) (inner : ExpressionNode) → x ≡ nodes.Group g → inner ≡ (out-Group g).inner.value → m ≡ put_mark p marks.LeftParen → e ≡ printed m (grammar.expression (expression_view inner)) → put_mark e marks.RightParen ≡ printed p (grammar.primary (primary_view x))
group_printed p m e x g inner is is_inner is_m is_e =
    rw (is, is_e, is_inner, is_m)
    (sym (ap (printed p) (group_spelled g) ∙ printed_append (put_mark p marks.LeftParen) (grammar.expression (expression_view (out-Group g).inner.value)) (Sign marks.RightParen ∷ [])))

unary_opened : (x : UnaryNode) → unary_view x ≡ Signed (out-Unary x).sign (primary_view (out-Unary x).operand)
unary_opened x = fold_out-Unary Primary And (Place × Shift) Expression (Place × Expression) (Place × Xor) Product (Place × ProductOperator × Unary) Shift (Place × ShiftOperator × Sum) Sum (Place × SumOperator × Product) Unary Xor (Place × And) primary_step and_step and_part_step expression_step group_step or_part_step product_step product_part_step shift_step shift_part_step sum_step sum_part_step unary_step xor_step xor_part_step x

pub unary_printed : (p s : Printer) (x : UnaryNode) → s ≡ printed p (maybe grammar.unary_sign (out-Unary x).sign) → printed s (grammar.primary (primary_view (out-Unary x).operand)) ≡ printed p (grammar.unary (unary_view x))
unary_printed p s x is_s =
    rw is_s (sym (ap (λ (u : Unary). printed p (grammar.unary u)) (unary_opened x) ∙ printed_append p (maybe grammar.unary_sign (out-Unary x).sign) (grammar.primary (primary_view (out-Unary x).operand))))
