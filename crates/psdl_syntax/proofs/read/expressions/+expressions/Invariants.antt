use Rattle.std.proofs.Common.{◌≡◌, ◌+◌, ◌-◌, ◌*◌, length, map}
use Rattle.part_readers.specs.Reading.{many_at, many}
use Rattle.part_readers.proofs.Loops.{with_front}
use Rattle.psdl_tokens.specs.declared.token.Mark.TheVariants as marks
use Rattle.psdl_syntax.specs.Seen.{seen}
use Rattle.psdl_tree.specs.Views.{product_part_view, sum_part_view, shift_part_view, and_part_view, xor_part_view, or_part_view}
use Rattle.psdl_syntax.specs.Productions.{is_mark, is_operator, shift_operator, sum_operator, product_operator, operand_at, operator_operand_at, unary_with, product_with, sum_with, shift_with, and_with, xor_with, expression_inside}
use Rattle.psdl_syntax.proofs.read.expressions.+expressions.Given as goal

abbrev pub decreases-group_of : goal.decreases-group_of
decreases-group_of l = 15 * l.depth

abbrev pub decreases-expression_of : goal.decreases-expression_of
decreases-expression_of l = 15 * l.depth + 14

abbrev pub decreases-or_parts_of : goal.decreases-or_parts_of
decreases-or_parts_of l = 15 * l.depth + 13

abbrev pub decreases-xor_of : goal.decreases-xor_of
decreases-xor_of l = 15 * l.depth + 12

abbrev pub decreases-xor_parts_of : goal.decreases-xor_parts_of
decreases-xor_parts_of l = 15 * l.depth + 11

abbrev pub decreases-and_of : goal.decreases-and_of
decreases-and_of l = 15 * l.depth + 10

abbrev pub decreases-and_parts_of : goal.decreases-and_parts_of
decreases-and_parts_of l = 15 * l.depth + 9

abbrev pub decreases-shift_of : goal.decreases-shift_of
decreases-shift_of l = 15 * l.depth + 8

abbrev pub decreases-shift_parts_of : goal.decreases-shift_parts_of
decreases-shift_parts_of l = 15 * l.depth + 7

abbrev pub decreases-sum_of : goal.decreases-sum_of
decreases-sum_of l = 15 * l.depth + 6

abbrev pub decreases-sum_parts_of : goal.decreases-sum_parts_of
decreases-sum_parts_of l = 15 * l.depth + 5

abbrev pub decreases-product_of : goal.decreases-product_of
decreases-product_of l = 15 * l.depth + 4

abbrev pub decreases-product_parts_of : goal.decreases-product_parts_of
decreases-product_parts_of l = 15 * l.depth + 3

abbrev pub decreases-unary_of : goal.decreases-unary_of
decreases-unary_of l = 15 * l.depth + 2

abbrev pub decreases-primary_of : goal.decreases-primary_of
decreases-primary_of l = 15 * l.depth + 1

abbrev pub invariant-or_parts_of-loop : goal.invariant-or_parts_of-loop
invariant-or_parts_of-loop l = with_front (map or_part_view l.parts.items) (many_at (is_mark marks.Or) (operand_at marks.Or (xor_with (expression_inside l.depth) l.depth)) (length l.tokens - l.counter) (map seen l.rest)) ≡ many (is_mark marks.Or) (operand_at marks.Or (xor_with (expression_inside l.depth) l.depth)) (map seen l.tokens)

abbrev pub invariant-xor_parts_of-loop : goal.invariant-xor_parts_of-loop
invariant-xor_parts_of-loop l = with_front (map xor_part_view l.parts.items) (many_at (is_mark marks.Xor) (operand_at marks.Xor (and_with (expression_inside l.depth) l.depth)) (length l.tokens - l.counter) (map seen l.rest)) ≡ many (is_mark marks.Xor) (operand_at marks.Xor (and_with (expression_inside l.depth) l.depth)) (map seen l.tokens)

abbrev pub invariant-and_parts_of-loop : goal.invariant-and_parts_of-loop
invariant-and_parts_of-loop l = with_front (map and_part_view l.parts.items) (many_at (is_mark marks.And) (operand_at marks.And (shift_with (expression_inside l.depth) l.depth)) (length l.tokens - l.counter) (map seen l.rest)) ≡ many (is_mark marks.And) (operand_at marks.And (shift_with (expression_inside l.depth) l.depth)) (map seen l.tokens)

abbrev pub invariant-shift_parts_of-loop : goal.invariant-shift_parts_of-loop
invariant-shift_parts_of-loop l = with_front (map shift_part_view l.parts.items) (many_at (is_operator shift_operator) (operator_operand_at shift_operator (sum_with (expression_inside l.depth) l.depth)) (length l.tokens - l.counter) (map seen l.rest)) ≡ many (is_operator shift_operator) (operator_operand_at shift_operator (sum_with (expression_inside l.depth) l.depth)) (map seen l.tokens)

abbrev pub invariant-sum_parts_of-loop : goal.invariant-sum_parts_of-loop
invariant-sum_parts_of-loop l = with_front (map sum_part_view l.parts.items) (many_at (is_operator sum_operator) (operator_operand_at sum_operator (product_with (expression_inside l.depth) l.depth)) (length l.tokens - l.counter) (map seen l.rest)) ≡ many (is_operator sum_operator) (operator_operand_at sum_operator (product_with (expression_inside l.depth) l.depth)) (map seen l.tokens)

abbrev pub invariant-product_parts_of-loop : goal.invariant-product_parts_of-loop
invariant-product_parts_of-loop l = with_front (map product_part_view l.parts.items) (many_at (is_operator product_operator) (operator_operand_at product_operator (unary_with (expression_inside l.depth) l.depth)) (length l.tokens - l.counter) (map seen l.rest)) ≡ many (is_operator product_operator) (operator_operand_at product_operator (unary_with (expression_inside l.depth) l.depth)) (map seen l.tokens)
