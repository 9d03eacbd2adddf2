use Rattle.std.proofs.Common.{◌≡◌, drop, map}
use Rattle.part_readers.specs.Sentences.{joined}
use Rattle.psdl_syntax.specs.Grammar as grammar
use Rattle.psdl_tree.specs.Views as views
use Rattle.psdl_syntax.specs.Printing.{printed}
use Rattle.psdl_syntax.proofs.Levels as levels
use Rattle.psdl_syntax.proofs.printing.expressions.+print_expression.Given as goal

abbrev pub invariant-print_product-loop-part : goal.invariant-print_product-loop-part
invariant-print_product-loop-part l = printed l.printer (joined levels.product_part (map views.product_part_view (drop l.part-index l.part-items))) ≡ printed l.fn.printer (grammar.product (views.product_view l.product))

abbrev pub invariant-print_sum-loop-part : goal.invariant-print_sum-loop-part
invariant-print_sum-loop-part l = printed l.printer (joined levels.sum_part (map views.sum_part_view (drop l.part-index l.part-items))) ≡ printed l.fn.printer (grammar.sum (views.sum_view l.sum))

abbrev pub invariant-print_shift-loop-part : goal.invariant-print_shift-loop-part
invariant-print_shift-loop-part l = printed l.printer (joined levels.shift_part (map views.shift_part_view (drop l.part-index l.part-items))) ≡ printed l.fn.printer (grammar.shift (views.shift_view l.shift))

abbrev pub invariant-print_and-loop-part : goal.invariant-print_and-loop-part
invariant-print_and-loop-part l = printed l.printer (joined levels.and_part (map views.and_part_view (drop l.part-index l.part-items))) ≡ printed l.fn.printer (grammar.and (views.and_view l.and))

abbrev pub invariant-print_xor-loop-part : goal.invariant-print_xor-loop-part
invariant-print_xor-loop-part l = printed l.printer (joined levels.xor_part (map views.xor_part_view (drop l.part-index l.part-items))) ≡ printed l.fn.printer (grammar.xor (views.xor_view l.xor))

abbrev pub invariant-print_expression-loop-part : goal.invariant-print_expression-loop-part
invariant-print_expression-loop-part l = printed l.printer (joined levels.or_part (map views.or_part_view (drop l.part-index l.part-items))) ≡ printed l.fn.printer (grammar.expression (views.expression_view l.expression))
