use Rattle.std.proofs.Common.{◌≡◌, OnOk, refl, subst}
use Rattle.psdl_syntax.specs.declared.printing.printer.Printer.{Printer}
use Rattle.psdl_tree.specs.declared.expressions.Primary.TheViews as nodes
use Rattle.psdl_syntax.specs.Grammar as grammar
use Rattle.psdl_tree.specs.Views as views
use Rattle.psdl_syntax.proofs.Levels as levels
use Rattle.psdl_tree.proofs.Opened as parts
use Rattle.psdl_syntax.proofs.Opened as opened
use Rattle.psdl_syntax.proofs.Primaries as primaries
use Rattle.psdl_syntax.proofs.Printed.{begins, goes_on, ends, behind_mark}
use Rattle.psdl_syntax.proofs.printing.expressions.+print_expression.Goals as goal

pub print_primary-returns-in_ok-print_expression-in-Group : goal.print_primary-returns-in_ok-print_expression-in-Group
print_primary-returns-in_ok-print_expression-in-Group t c =
    subst (λ (q : Printer). OnOk c.mark-in-Group.result (c.mark-in-Group.new.self ≡ q))
    (opened.group_printed c.args.printer.now c.mark.new.self c.print_expression.new.printer c.args.primary.now c.in-Group.group c.deref.result.now c.in-Group.is c.deref.ensures c.in_ok-mark-in-Group.ensures c.in_ok-print_expression-in-Group.ensures)
    c.mark-in-Group.ensures

pub print_primary-returns-in-Name : goal.print_primary-returns-in-Name
print_primary-returns-in-Name t c = rw (c.in-Name.is, primaries.name_is c.in-Name.name) c.print_name.ensures

pub print_primary-returns-in-Integer : goal.print_primary-returns-in-Integer
print_primary-returns-in-Integer t c = rw (c.in-Integer.is, primaries.number_is c.in-Integer.literal) c.integer.ensures

pub print_primary-returns-in-Text : goal.print_primary-returns-in-Text
print_primary-returns-in-Text t c = rw (c.in-Text.is, primaries.quoted_is c.in-Text.literal) c.string.ensures

pub print_unary-returns : goal.print_unary-returns
print_unary-returns t c =
    subst (λ (q : Printer). OnOk c.print_primary.result (c.print_primary.new.printer ≡ q))
    (opened.unary_printed c.args.printer.now c.print_sign.new.printer c.args.unary.now c.in_ok-print_sign.ensures)
    c.print_primary.ensures

pub print_product-loop-part-init : goal.print_product-loop-part-init
print_product-loop-part-init t c =
    begins levels.product_part views.product_part_view (grammar.unary (views.unary_view (nodes.out-Product c.args.product.now).first)) (grammar.product (views.product_view c.args.product.now)) c.args.printer.now c.print_unary.new.printer c.deref-part-items.result.now (nodes.out-Product c.args.product.now).others.items c.in_ok-print_unary.ensures c.deref-part-items.ensures.value (opened.product_spelled c.args.product.now)

pub print_product-loop-part-preserved : goal.print_product-loop-part-preserved
print_product-loop-part-preserved t c =
    goes_on levels.product_part views.product_part_view c.loop-part.printer c.print_unary-in-loop-part.new.printer _ c.deref-part-items.result.now c.loop-part.part-index c.part-item.result c.loop-part-test.true c.part-item.is
    (rw (parts.product_part_opened c.part-item.result) (behind_mark _ _ _ _ _ (grammar.unary (views.unary_view (nodes.out-ProductPart c.part-item.result).operand)) c.product_mark.ensures c.in_ok-mark.ensures c.in_ok-print_unary-2.ensures)) c.loop-part.invariant

pub print_product-returns : goal.print_product-returns
print_product-returns t c = ends levels.product_part views.product_part_view c.loop-part.printer _ c.deref-part-items.result.now c.loop-part.part-index c.loop-part-test.false c.loop-part.invariant

pub print_sum-loop-part-init : goal.print_sum-loop-part-init
print_sum-loop-part-init t c =
    begins levels.sum_part views.sum_part_view (grammar.product (views.product_view (nodes.out-Sum c.args.sum.now).first)) (grammar.sum (views.sum_view c.args.sum.now)) c.args.printer.now c.print_product.new.printer c.deref-part-items.result.now (nodes.out-Sum c.args.sum.now).others.items c.in_ok-print_product.ensures c.deref-part-items.ensures.value (opened.sum_spelled c.args.sum.now)

pub print_sum-loop-part-preserved : goal.print_sum-loop-part-preserved
print_sum-loop-part-preserved t c =
    goes_on levels.sum_part views.sum_part_view c.loop-part.printer c.print_product-in-loop-part.new.printer _ c.deref-part-items.result.now c.loop-part.part-index c.part-item.result c.loop-part-test.true c.part-item.is
    (rw (parts.sum_part_opened c.part-item.result) (behind_mark _ _ _ _ _ (grammar.product (views.product_view (nodes.out-SumPart c.part-item.result).operand)) c.sum_mark.ensures c.in_ok-mark.ensures c.in_ok-print_product-2.ensures)) c.loop-part.invariant

pub print_sum-returns : goal.print_sum-returns
print_sum-returns t c = ends levels.sum_part views.sum_part_view c.loop-part.printer _ c.deref-part-items.result.now c.loop-part.part-index c.loop-part-test.false c.loop-part.invariant

pub print_shift-loop-part-init : goal.print_shift-loop-part-init
print_shift-loop-part-init t c =
    begins levels.shift_part views.shift_part_view (grammar.sum (views.sum_view (nodes.out-Shift c.args.shift.now).first)) (grammar.shift (views.shift_view c.args.shift.now)) c.args.printer.now c.print_sum.new.printer c.deref-part-items.result.now (nodes.out-Shift c.args.shift.now).others.items c.in_ok-print_sum.ensures c.deref-part-items.ensures.value (opened.shift_spelled c.args.shift.now)

pub print_shift-loop-part-preserved : goal.print_shift-loop-part-preserved
print_shift-loop-part-preserved t c =
    goes_on levels.shift_part views.shift_part_view c.loop-part.printer c.print_sum-in-loop-part.new.printer _ c.deref-part-items.result.now c.loop-part.part-index c.part-item.result c.loop-part-test.true c.part-item.is
    (rw (parts.shift_part_opened c.part-item.result) (behind_mark _ _ _ _ _ (grammar.sum (views.sum_view (nodes.out-ShiftPart c.part-item.result).operand)) c.shift_mark.ensures c.in_ok-mark.ensures c.in_ok-print_sum-2.ensures)) c.loop-part.invariant

pub print_shift-returns : goal.print_shift-returns
print_shift-returns t c = ends levels.shift_part views.shift_part_view c.loop-part.printer _ c.deref-part-items.result.now c.loop-part.part-index c.loop-part-test.false c.loop-part.invariant

pub print_and-loop-part-init : goal.print_and-loop-part-init
print_and-loop-part-init t c =
    begins levels.and_part views.and_part_view (grammar.shift (views.shift_view (nodes.out-And c.args.and.now).first)) (grammar.and (views.and_view c.args.and.now)) c.args.printer.now c.print_shift.new.printer c.deref-part-items.result.now (nodes.out-And c.args.and.now).others.items c.in_ok-print_shift.ensures c.deref-part-items.ensures.value (opened.and_spelled c.args.and.now)

pub print_and-loop-part-preserved : goal.print_and-loop-part-preserved
print_and-loop-part-preserved t c =
    goes_on levels.and_part views.and_part_view c.loop-part.printer c.print_shift-in-loop-part.new.printer _ c.deref-part-items.result.now c.loop-part.part-index c.part-item.result c.loop-part-test.true c.part-item.is
    (rw (parts.and_part_opened c.part-item.result) (behind_mark _ _ _ _ _ (grammar.shift (views.shift_view (nodes.out-AndPart c.part-item.result).operand)) refl c.in_ok-mark.ensures c.in_ok-print_shift-2.ensures)) c.loop-part.invariant

pub print_and-returns : goal.print_and-returns
print_and-returns t c = ends levels.and_part views.and_part_view c.loop-part.printer _ c.deref-part-items.result.now c.loop-part.part-index c.loop-part-test.false c.loop-part.invariant

pub print_xor-loop-part-init : goal.print_xor-loop-part-init
print_xor-loop-part-init t c =
    begins levels.xor_part views.xor_part_view (grammar.and (views.and_view (nodes.out-Xor c.args.xor.now).first)) (grammar.xor (views.xor_view c.args.xor.now)) c.args.printer.now c.print_and.new.printer c.deref-part-items.result.now (nodes.out-Xor c.args.xor.now).others.items c.in_ok-print_and.ensures c.deref-part-items.ensures.value (opened.xor_spelled c.args.xor.now)

pub print_xor-loop-part-preserved : goal.print_xor-loop-part-preserved
print_xor-loop-part-preserved t c =
    goes_on levels.xor_part views.xor_part_view c.loop-part.printer c.print_and-in-loop-part.new.printer _ c.deref-part-items.result.now c.loop-part.part-index c.part-item.result c.loop-part-test.true c.part-item.is
    (rw (parts.xor_part_opened c.part-item.result) (behind_mark _ _ _ _ _ (grammar.and (views.and_view (nodes.out-XorPart c.part-item.result).operand)) refl c.in_ok-mark.ensures c.in_ok-print_and-2.ensures)) c.loop-part.invariant

pub print_xor-returns : goal.print_xor-returns
print_xor-returns t c = ends levels.xor_part views.xor_part_view c.loop-part.printer _ c.deref-part-items.result.now c.loop-part.part-index c.loop-part-test.false c.loop-part.invariant

pub print_expression-loop-part-init : goal.print_expression-loop-part-init
print_expression-loop-part-init t c =
    begins levels.or_part views.or_part_view (grammar.xor (views.xor_view (nodes.out-Expression c.args.expression.now).first)) (grammar.expression (views.expression_view c.args.expression.now)) c.args.printer.now c.print_xor.new.printer c.deref-part-items.result.now (nodes.out-Expression c.args.expression.now).others.items c.in_ok-print_xor.ensures c.deref-part-items.ensures.value (opened.expression_spelled c.args.expression.now)

pub print_expression-loop-part-preserved : goal.print_expression-loop-part-preserved
print_expression-loop-part-preserved t c =
    goes_on levels.or_part views.or_part_view c.loop-part.printer c.print_xor-in-loop-part.new.printer _ c.deref-part-items.result.now c.loop-part.part-index c.part-item.result c.loop-part-test.true c.part-item.is
    (rw (parts.or_part_opened c.part-item.result) (behind_mark _ _ _ _ _ (grammar.xor (views.xor_view (nodes.out-OrPart c.part-item.result).operand)) refl c.in_ok-mark.ensures c.in_ok-print_xor-2.ensures)) c.loop-part.invariant

pub print_expression-returns : goal.print_expression-returns
print_expression-returns t c = ends levels.or_part views.or_part_view c.loop-part.printer _ c.deref-part-items.result.now c.loop-part.part-index c.loop-part-test.false c.loop-part.invariant
