use Rattle.std.proofs.Common.{rules, length, map}
use Rattle.std.proofs.lemmas.List.{length-map}
use Rattle.std.proofs.lemmas.Result.{err_from_is_err_and}
use Rattle.part_readers.specs.Reading.{many, both, optional}
use Rattle.part_readers.proofs.Loops.{sets_out, pushed_on, stops, no_more, is_done, first_fails, second_fails, both_gives, mapped_fails, mapped_gives}
use Rattle.psdl_tokens.specs.declared.token.Mark.TheVariants as marks
use Rattle.psdl_syntax.specs.Seen.{seen}
use Rattle.psdl_tree.specs.Views.{product_part_view, sum_part_view, shift_part_view, and_part_view, xor_part_view, or_part_view, name_view, primary_view, group_view, unary_view, product_view, sum_view, shift_view, and_view, xor_view, expression_view, product_of, sum_of, shift_of, and_of, xor_of, expression_of}
use Rattle.psdl_syntax.specs.Productions.{is_mark, is_operator, shift_operator, sum_operator, product_operator, unary_operator, unary_sign_at, operand_at, operator_operand_at, primary_with, unary_with, product_with, sum_with, shift_with, and_with, xor_with, expression_inside, expression_at, expression_with}
use Rattle.psdl_syntax.proofs.Rolled.{or_part_rolled, xor_part_rolled, and_part_rolled, shift_part_rolled, sum_part_rolled, product_part_rolled, group_rolled, expression_rolled, xor_rolled, and_rolled, shift_rolled, sum_rolled, product_rolled, unary_rolled}
use Rattle.psdl_syntax.proofs.Operands.{sign_fails, operand_fails, operand_gives, operator_fails, behind_operator_fails, operator_gives, group_gives, level_gives, level_fails, behind_first_fails}
use Rattle.psdl_tree.specs.Trees.{Signed}
use Rattle.psdl_syntax.proofs.Primaries as primaries
use Rattle.psdl_syntax.proofs.read.expressions.+expressions.Goals as goal

pub or_parts_of-returns-then-not-at_mark : goal.or_parts_of-returns-then-not-at_mark
or_parts_of-returns-then-not-at_mark t c = no_more (is_mark marks.Or) (operand_at marks.Or (xor_with (expression_inside c.args.depth) c.args.depth)) (map or_part_view c.loop.parts.items) (length c.args.tokens.now) c.loop.counter (map seen c.loop.rest.now) (many (is_mark marks.Or) (operand_at marks.Or (xor_with (expression_inside c.args.depth) c.args.depth)) (map seen c.args.tokens.now)) (search rules) c.loop.invariant

pub or_parts_of-returns : goal.or_parts_of-returns
or_parts_of-returns t c = is_done (is_mark marks.Or) (operand_at marks.Or (xor_with (expression_inside c.args.depth) c.args.depth)) (map or_part_view c.loop.parts.items) (length c.args.tokens.now) c.loop.counter (map seen c.loop.rest.now) (many (is_mark marks.Or) (operand_at marks.Or (xor_with (expression_inside c.args.depth) c.args.depth)) (map seen c.args.tokens.now)) c.loop-test.false c.loop.invariant

pub or_parts_of-returns-in_err-place : goal.or_parts_of-returns-in_err-place
or_parts_of-returns-in_err-place t c =
    let p = err_from_is_err_and c.from_residual.result c.from_residual.ensures.1 in
    rw (p.1, p.2) (stops c.in_err-place.field-0.0 (is_mark marks.Or) (operand_at marks.Or (xor_with (expression_inside c.args.depth) c.args.depth)) (map or_part_view c.loop.parts.items) (length c.args.tokens.now) c.loop.counter (map seen c.loop.rest.now) (many (is_mark marks.Or) (operand_at marks.Or (xor_with (expression_inside c.args.depth) c.args.depth)) (map seen c.args.tokens.now)) c.loop-test.true (search rules) (sign_fails c.in_err-place.field-0.0 marks.Or (xor_with (expression_inside c.args.depth) c.args.depth) (map seen c.loop.rest.now) c.in_err-place.ensures) c.loop.invariant)

pub or_parts_of-returns-in_err-operand : goal.or_parts_of-returns-in_err-operand
or_parts_of-returns-in_err-operand t c =
    let p = err_from_is_err_and c.from_residual-in_err-operand.result c.from_residual-in_err-operand.ensures.1 in
    rw (p.1, p.2) (stops c.in_err-operand.field-0.0 (is_mark marks.Or) (operand_at marks.Or (xor_with (expression_inside c.args.depth) c.args.depth)) (map or_part_view c.loop.parts.items) (length c.args.tokens.now) c.loop.counter (map seen c.loop.rest.now) (many (is_mark marks.Or) (operand_at marks.Or (xor_with (expression_inside c.args.depth) c.args.depth)) (map seen c.args.tokens.now)) c.loop-test.true (search rules) (operand_fails c.in_err-operand.field-0.0 marks.Or (xor_with (expression_inside c.args.depth) c.args.depth) (map seen c.loop.rest.now) (map seen c.in_ok-place.after.now) c.in_ok-place.place c.in_ok-place.ensures c.in_err-operand.ensures) c.loop.invariant)

pub or_parts_of-loop-preserved : goal.or_parts_of-loop-preserved
or_parts_of-loop-preserved t c =
    pushed_on or_part_view (is_mark marks.Or) (operand_at marks.Or (xor_with (expression_inside c.args.depth) c.args.depth)) _ _ _ (length c.args.tokens.now) c.loop.counter (map seen c.loop.rest.now) (c.in_ok-place.place, xor_view c.in_ok-operand.operand) (map seen c.in_ok-operand.after.now) (many (is_mark marks.Or) (operand_at marks.Or (xor_with (expression_inside c.args.depth) c.args.depth)) (map seen c.args.tokens.now)) c.in_ok-put_part.ensures (or_part_rolled c.in_ok-place.place c.in_ok-operand.operand) c.loop-test.true (search rules) (operand_gives marks.Or (xor_with (expression_inside c.args.depth) c.args.depth) (map seen c.loop.rest.now) (map seen c.in_ok-place.after.now) (map seen c.in_ok-operand.after.now) c.in_ok-place.place (xor_view c.in_ok-operand.operand) c.in_ok-place.ensures c.in_ok-operand.ensures) c.loop.invariant

pub xor_parts_of-returns-then-not-at_mark : goal.xor_parts_of-returns-then-not-at_mark
xor_parts_of-returns-then-not-at_mark t c = no_more (is_mark marks.Xor) (operand_at marks.Xor (and_with (expression_inside c.args.depth) c.args.depth)) (map xor_part_view c.loop.parts.items) (length c.args.tokens.now) c.loop.counter (map seen c.loop.rest.now) (many (is_mark marks.Xor) (operand_at marks.Xor (and_with (expression_inside c.args.depth) c.args.depth)) (map seen c.args.tokens.now)) (search rules) c.loop.invariant

pub xor_parts_of-returns : goal.xor_parts_of-returns
xor_parts_of-returns t c = is_done (is_mark marks.Xor) (operand_at marks.Xor (and_with (expression_inside c.args.depth) c.args.depth)) (map xor_part_view c.loop.parts.items) (length c.args.tokens.now) c.loop.counter (map seen c.loop.rest.now) (many (is_mark marks.Xor) (operand_at marks.Xor (and_with (expression_inside c.args.depth) c.args.depth)) (map seen c.args.tokens.now)) c.loop-test.false c.loop.invariant

pub xor_parts_of-returns-in_err-place : goal.xor_parts_of-returns-in_err-place
xor_parts_of-returns-in_err-place t c =
    let p = err_from_is_err_and c.from_residual.result c.from_residual.ensures.1 in
    rw (p.1, p.2) (stops c.in_err-place.field-0.0 (is_mark marks.Xor) (operand_at marks.Xor (and_with (expression_inside c.args.depth) c.args.depth)) (map xor_part_view c.loop.parts.items) (length c.args.tokens.now) c.loop.counter (map seen c.loop.rest.now) (many (is_mark marks.Xor) (operand_at marks.Xor (and_with (expression_inside c.args.depth) c.args.depth)) (map seen c.args.tokens.now)) c.loop-test.true (search rules) (sign_fails c.in_err-place.field-0.0 marks.Xor (and_with (expression_inside c.args.depth) c.args.depth) (map seen c.loop.rest.now) c.in_err-place.ensures) c.loop.invariant)

pub xor_parts_of-returns-in_err-operand : goal.xor_parts_of-returns-in_err-operand
xor_parts_of-returns-in_err-operand t c =
    let p = err_from_is_err_and c.from_residual-in_err-operand.result c.from_residual-in_err-operand.ensures.1 in
    rw (p.1, p.2) (stops c.in_err-operand.field-0.0 (is_mark marks.Xor) (operand_at marks.Xor (and_with (expression_inside c.args.depth) c.args.depth)) (map xor_part_view c.loop.parts.items) (length c.args.tokens.now) c.loop.counter (map seen c.loop.rest.now) (many (is_mark marks.Xor) (operand_at marks.Xor (and_with (expression_inside c.args.depth) c.args.depth)) (map seen c.args.tokens.now)) c.loop-test.true (search rules) (operand_fails c.in_err-operand.field-0.0 marks.Xor (and_with (expression_inside c.args.depth) c.args.depth) (map seen c.loop.rest.now) (map seen c.in_ok-place.after.now) c.in_ok-place.place c.in_ok-place.ensures c.in_err-operand.ensures) c.loop.invariant)

pub xor_parts_of-loop-preserved : goal.xor_parts_of-loop-preserved
xor_parts_of-loop-preserved t c =
    pushed_on xor_part_view (is_mark marks.Xor) (operand_at marks.Xor (and_with (expression_inside c.args.depth) c.args.depth)) _ _ _ (length c.args.tokens.now) c.loop.counter (map seen c.loop.rest.now) (c.in_ok-place.place, and_view c.in_ok-operand.operand) (map seen c.in_ok-operand.after.now) (many (is_mark marks.Xor) (operand_at marks.Xor (and_with (expression_inside c.args.depth) c.args.depth)) (map seen c.args.tokens.now)) c.in_ok-put_part.ensures (xor_part_rolled c.in_ok-place.place c.in_ok-operand.operand) c.loop-test.true (search rules) (operand_gives marks.Xor (and_with (expression_inside c.args.depth) c.args.depth) (map seen c.loop.rest.now) (map seen c.in_ok-place.after.now) (map seen c.in_ok-operand.after.now) c.in_ok-place.place (and_view c.in_ok-operand.operand) c.in_ok-place.ensures c.in_ok-operand.ensures) c.loop.invariant

pub and_parts_of-returns-then-not-at_mark : goal.and_parts_of-returns-then-not-at_mark
and_parts_of-returns-then-not-at_mark t c = no_more (is_mark marks.And) (operand_at marks.And (shift_with (expression_inside c.args.depth) c.args.depth)) (map and_part_view c.loop.parts.items) (length c.args.tokens.now) c.loop.counter (map seen c.loop.rest.now) (many (is_mark marks.And) (operand_at marks.And (shift_with (expression_inside c.args.depth) c.args.depth)) (map seen c.args.tokens.now)) (search rules) c.loop.invariant

pub and_parts_of-returns : goal.and_parts_of-returns
and_parts_of-returns t c = is_done (is_mark marks.And) (operand_at marks.And (shift_with (expression_inside c.args.depth) c.args.depth)) (map and_part_view c.loop.parts.items) (length c.args.tokens.now) c.loop.counter (map seen c.loop.rest.now) (many (is_mark marks.And) (operand_at marks.And (shift_with (expression_inside c.args.depth) c.args.depth)) (map seen c.args.tokens.now)) c.loop-test.false c.loop.invariant

pub and_parts_of-returns-in_err-place : goal.and_parts_of-returns-in_err-place
and_parts_of-returns-in_err-place t c =
    let p = err_from_is_err_and c.from_residual.result c.from_residual.ensures.1 in
    rw (p.1, p.2) (stops c.in_err-place.field-0.0 (is_mark marks.And) (operand_at marks.And (shift_with (expression_inside c.args.depth) c.args.depth)) (map and_part_view c.loop.parts.items) (length c.args.tokens.now) c.loop.counter (map seen c.loop.rest.now) (many (is_mark marks.And) (operand_at marks.And (shift_with (expression_inside c.args.depth) c.args.depth)) (map seen c.args.tokens.now)) c.loop-test.true (search rules) (sign_fails c.in_err-place.field-0.0 marks.And (shift_with (expression_inside c.args.depth) c.args.depth) (map seen c.loop.rest.now) c.in_err-place.ensures) c.loop.invariant)

pub and_parts_of-returns-in_err-operand : goal.and_parts_of-returns-in_err-operand
and_parts_of-returns-in_err-operand t c =
    let p = err_from_is_err_and c.from_residual-in_err-operand.result c.from_residual-in_err-operand.ensures.1 in
    rw (p.1, p.2) (stops c.in_err-operand.field-0.0 (is_mark marks.And) (operand_at marks.And (shift_with (expression_inside c.args.depth) c.args.depth)) (map and_part_view c.loop.parts.items) (length c.args.tokens.now) c.loop.counter (map seen c.loop.rest.now) (many (is_mark marks.And) (operand_at marks.And (shift_with (expression_inside c.args.depth) c.args.depth)) (map seen c.args.tokens.now)) c.loop-test.true (search rules) (operand_fails c.in_err-operand.field-0.0 marks.And (shift_with (expression_inside c.args.depth) c.args.depth) (map seen c.loop.rest.now) (map seen c.in_ok-place.after.now) c.in_ok-place.place c.in_ok-place.ensures c.in_err-operand.ensures) c.loop.invariant)

pub and_parts_of-loop-preserved : goal.and_parts_of-loop-preserved
and_parts_of-loop-preserved t c =
    pushed_on and_part_view (is_mark marks.And) (operand_at marks.And (shift_with (expression_inside c.args.depth) c.args.depth)) _ _ _ (length c.args.tokens.now) c.loop.counter (map seen c.loop.rest.now) (c.in_ok-place.place, shift_view c.in_ok-operand.operand) (map seen c.in_ok-operand.after.now) (many (is_mark marks.And) (operand_at marks.And (shift_with (expression_inside c.args.depth) c.args.depth)) (map seen c.args.tokens.now)) c.in_ok-put_part.ensures (and_part_rolled c.in_ok-place.place c.in_ok-operand.operand) c.loop-test.true (search rules) (operand_gives marks.And (shift_with (expression_inside c.args.depth) c.args.depth) (map seen c.loop.rest.now) (map seen c.in_ok-place.after.now) (map seen c.in_ok-operand.after.now) c.in_ok-place.place (shift_view c.in_ok-operand.operand) c.in_ok-place.ensures c.in_ok-operand.ensures) c.loop.invariant

pub shift_parts_of-returns-then-not-at_operator : goal.shift_parts_of-returns-then-not-at_operator
shift_parts_of-returns-then-not-at_operator t c = no_more (is_operator shift_operator) (operator_operand_at shift_operator (sum_with (expression_inside c.args.depth) c.args.depth)) (map shift_part_view c.loop.parts.items) (length c.args.tokens.now) c.loop.counter (map seen c.loop.rest.now) (many (is_operator shift_operator) (operator_operand_at shift_operator (sum_with (expression_inside c.args.depth) c.args.depth)) (map seen c.args.tokens.now)) (search rules) c.loop.invariant

pub shift_parts_of-returns : goal.shift_parts_of-returns
shift_parts_of-returns t c = is_done (is_operator shift_operator) (operator_operand_at shift_operator (sum_with (expression_inside c.args.depth) c.args.depth)) (map shift_part_view c.loop.parts.items) (length c.args.tokens.now) c.loop.counter (map seen c.loop.rest.now) (many (is_operator shift_operator) (operator_operand_at shift_operator (sum_with (expression_inside c.args.depth) c.args.depth)) (map seen c.args.tokens.now)) c.loop-test.false c.loop.invariant

pub shift_parts_of-returns-in_err-place : goal.shift_parts_of-returns-in_err-place
shift_parts_of-returns-in_err-place t c =
    let p = err_from_is_err_and c.from_residual.result c.from_residual.ensures.1 in
    rw (p.1, p.2) (stops c.in_err-place.field-0.0 (is_operator shift_operator) (operator_operand_at shift_operator (sum_with (expression_inside c.args.depth) c.args.depth)) (map shift_part_view c.loop.parts.items) (length c.args.tokens.now) c.loop.counter (map seen c.loop.rest.now) (many (is_operator shift_operator) (operator_operand_at shift_operator (sum_with (expression_inside c.args.depth) c.args.depth)) (map seen c.args.tokens.now)) c.loop-test.true (search rules) (operator_fails c.in_err-place.field-0.0 shift_operator (sum_with (expression_inside c.args.depth) c.args.depth) (map seen c.loop.rest.now) c.in_err-place.ensures) c.loop.invariant)

pub shift_parts_of-returns-in_err-operand : goal.shift_parts_of-returns-in_err-operand
shift_parts_of-returns-in_err-operand t c =
    let p = err_from_is_err_and c.from_residual-in_err-operand.result c.from_residual-in_err-operand.ensures.1 in
    rw (p.1, p.2) (stops c.in_err-operand.field-0.0 (is_operator shift_operator) (operator_operand_at shift_operator (sum_with (expression_inside c.args.depth) c.args.depth)) (map shift_part_view c.loop.parts.items) (length c.args.tokens.now) c.loop.counter (map seen c.loop.rest.now) (many (is_operator shift_operator) (operator_operand_at shift_operator (sum_with (expression_inside c.args.depth) c.args.depth)) (map seen c.args.tokens.now)) c.loop-test.true (search rules) (behind_operator_fails c.in_err-operand.field-0.0 shift_operator (sum_with (expression_inside c.args.depth) c.args.depth) (map seen c.loop.rest.now) (map seen c.in_ok-place.after.now) (c.in_ok-place.place, c.in_ok-place.operator) c.in_ok-place.ensures c.in_err-operand.ensures) c.loop.invariant)

pub shift_parts_of-loop-preserved : goal.shift_parts_of-loop-preserved
shift_parts_of-loop-preserved t c =
    pushed_on shift_part_view (is_operator shift_operator) (operator_operand_at shift_operator (sum_with (expression_inside c.args.depth) c.args.depth)) _ _ _ (length c.args.tokens.now) c.loop.counter (map seen c.loop.rest.now) (c.in_ok-place.place, c.in_ok-place.operator, sum_view c.in_ok-operand.operand) (map seen c.in_ok-operand.after.now) (many (is_operator shift_operator) (operator_operand_at shift_operator (sum_with (expression_inside c.args.depth) c.args.depth)) (map seen c.args.tokens.now)) c.in_ok-put_part.ensures (shift_part_rolled c.in_ok-place.place c.in_ok-place.operator c.in_ok-operand.operand) c.loop-test.true (search rules) (operator_gives shift_operator (sum_with (expression_inside c.args.depth) c.args.depth) (map seen c.loop.rest.now) (map seen c.in_ok-place.after.now) (map seen c.in_ok-operand.after.now) (c.in_ok-place.place, c.in_ok-place.operator) (sum_view c.in_ok-operand.operand) c.in_ok-place.ensures c.in_ok-operand.ensures) c.loop.invariant

pub sum_parts_of-returns-then-not-at_operator : goal.sum_parts_of-returns-then-not-at_operator
sum_parts_of-returns-then-not-at_operator t c = no_more (is_operator sum_operator) (operator_operand_at sum_operator (product_with (expression_inside c.args.depth) c.args.depth)) (map sum_part_view c.loop.parts.items) (length c.args.tokens.now) c.loop.counter (map seen c.loop.rest.now) (many (is_operator sum_operator) (operator_operand_at sum_operator (product_with (expression_inside c.args.depth) c.args.depth)) (map seen c.args.tokens.now)) (search rules) c.loop.invariant

pub sum_parts_of-returns : goal.sum_parts_of-returns
sum_parts_of-returns t c = is_done (is_operator sum_operator) (operator_operand_at sum_operator (product_with (expression_inside c.args.depth) c.args.depth)) (map sum_part_view c.loop.parts.items) (length c.args.tokens.now) c.loop.counter (map seen c.loop.rest.now) (many (is_operator sum_operator) (operator_operand_at sum_operator (product_with (expression_inside c.args.depth) c.args.depth)) (map seen c.args.tokens.now)) c.loop-test.false c.loop.invariant

pub sum_parts_of-returns-in_err-place : goal.sum_parts_of-returns-in_err-place
sum_parts_of-returns-in_err-place t c =
    let p = err_from_is_err_and c.from_residual.result c.from_residual.ensures.1 in
    rw (p.1, p.2) (stops c.in_err-place.field-0.0 (is_operator sum_operator) (operator_operand_at sum_operator (product_with (expression_inside c.args.depth) c.args.depth)) (map sum_part_view c.loop.parts.items) (length c.args.tokens.now) c.loop.counter (map seen c.loop.rest.now) (many (is_operator sum_operator) (operator_operand_at sum_operator (product_with (expression_inside c.args.depth) c.args.depth)) (map seen c.args.tokens.now)) c.loop-test.true (search rules) (operator_fails c.in_err-place.field-0.0 sum_operator (product_with (expression_inside c.args.depth) c.args.depth) (map seen c.loop.rest.now) c.in_err-place.ensures) c.loop.invariant)

pub sum_parts_of-returns-in_err-operand : goal.sum_parts_of-returns-in_err-operand
sum_parts_of-returns-in_err-operand t c =
    let p = err_from_is_err_and c.from_residual-in_err-operand.result c.from_residual-in_err-operand.ensures.1 in
    rw (p.1, p.2) (stops c.in_err-operand.field-0.0 (is_operator sum_operator) (operator_operand_at sum_operator (product_with (expression_inside c.args.depth) c.args.depth)) (map sum_part_view c.loop.parts.items) (length c.args.tokens.now) c.loop.counter (map seen c.loop.rest.now) (many (is_operator sum_operator) (operator_operand_at sum_operator (product_with (expression_inside c.args.depth) c.args.depth)) (map seen c.args.tokens.now)) c.loop-test.true (search rules) (behind_operator_fails c.in_err-operand.field-0.0 sum_operator (product_with (expression_inside c.args.depth) c.args.depth) (map seen c.loop.rest.now) (map seen c.in_ok-place.after.now) (c.in_ok-place.place, c.in_ok-place.operator) c.in_ok-place.ensures c.in_err-operand.ensures) c.loop.invariant)

pub sum_parts_of-loop-preserved : goal.sum_parts_of-loop-preserved
sum_parts_of-loop-preserved t c =
    pushed_on sum_part_view (is_operator sum_operator) (operator_operand_at sum_operator (product_with (expression_inside c.args.depth) c.args.depth)) _ _ _ (length c.args.tokens.now) c.loop.counter (map seen c.loop.rest.now) (c.in_ok-place.place, c.in_ok-place.operator, product_view c.in_ok-operand.operand) (map seen c.in_ok-operand.after.now) (many (is_operator sum_operator) (operator_operand_at sum_operator (product_with (expression_inside c.args.depth) c.args.depth)) (map seen c.args.tokens.now)) c.in_ok-put_part.ensures (sum_part_rolled c.in_ok-place.place c.in_ok-place.operator c.in_ok-operand.operand) c.loop-test.true (search rules) (operator_gives sum_operator (product_with (expression_inside c.args.depth) c.args.depth) (map seen c.loop.rest.now) (map seen c.in_ok-place.after.now) (map seen c.in_ok-operand.after.now) (c.in_ok-place.place, c.in_ok-place.operator) (product_view c.in_ok-operand.operand) c.in_ok-place.ensures c.in_ok-operand.ensures) c.loop.invariant

pub product_parts_of-returns-then-not-at_operator : goal.product_parts_of-returns-then-not-at_operator
product_parts_of-returns-then-not-at_operator t c = no_more (is_operator product_operator) (operator_operand_at product_operator (unary_with (expression_inside c.args.depth) c.args.depth)) (map product_part_view c.loop.parts.items) (length c.args.tokens.now) c.loop.counter (map seen c.loop.rest.now) (many (is_operator product_operator) (operator_operand_at product_operator (unary_with (expression_inside c.args.depth) c.args.depth)) (map seen c.args.tokens.now)) (search rules) c.loop.invariant

pub product_parts_of-returns : goal.product_parts_of-returns
product_parts_of-returns t c = is_done (is_operator product_operator) (operator_operand_at product_operator (unary_with (expression_inside c.args.depth) c.args.depth)) (map product_part_view c.loop.parts.items) (length c.args.tokens.now) c.loop.counter (map seen c.loop.rest.now) (many (is_operator product_operator) (operator_operand_at product_operator (unary_with (expression_inside c.args.depth) c.args.depth)) (map seen c.args.tokens.now)) c.loop-test.false c.loop.invariant

pub product_parts_of-returns-in_err-place : goal.product_parts_of-returns-in_err-place
product_parts_of-returns-in_err-place t c =
    let p = err_from_is_err_and c.from_residual.result c.from_residual.ensures.1 in
    rw (p.1, p.2) (stops c.in_err-place.field-0.0 (is_operator product_operator) (operator_operand_at product_operator (unary_with (expression_inside c.args.depth) c.args.depth)) (map product_part_view c.loop.parts.items) (length c.args.tokens.now) c.loop.counter (map seen c.loop.rest.now) (many (is_operator product_operator) (operator_operand_at product_operator (unary_with (expression_inside c.args.depth) c.args.depth)) (map seen c.args.tokens.now)) c.loop-test.true (search rules) (operator_fails c.in_err-place.field-0.0 product_operator (unary_with (expression_inside c.args.depth) c.args.depth) (map seen c.loop.rest.now) c.in_err-place.ensures) c.loop.invariant)

pub product_parts_of-returns-in_err-operand : goal.product_parts_of-returns-in_err-operand
product_parts_of-returns-in_err-operand t c =
    let p = err_from_is_err_and c.from_residual-in_err-operand.result c.from_residual-in_err-operand.ensures.1 in
    rw (p.1, p.2) (stops c.in_err-operand.field-0.0 (is_operator product_operator) (operator_operand_at product_operator (unary_with (expression_inside c.args.depth) c.args.depth)) (map product_part_view c.loop.parts.items) (length c.args.tokens.now) c.loop.counter (map seen c.loop.rest.now) (many (is_operator product_operator) (operator_operand_at product_operator (unary_with (expression_inside c.args.depth) c.args.depth)) (map seen c.args.tokens.now)) c.loop-test.true (search rules) (behind_operator_fails c.in_err-operand.field-0.0 product_operator (unary_with (expression_inside c.args.depth) c.args.depth) (map seen c.loop.rest.now) (map seen c.in_ok-place.after.now) (c.in_ok-place.place, c.in_ok-place.operator) c.in_ok-place.ensures c.in_err-operand.ensures) c.loop.invariant)

pub product_parts_of-loop-preserved : goal.product_parts_of-loop-preserved
product_parts_of-loop-preserved t c =
    pushed_on product_part_view (is_operator product_operator) (operator_operand_at product_operator (unary_with (expression_inside c.args.depth) c.args.depth)) _ _ _ (length c.args.tokens.now) c.loop.counter (map seen c.loop.rest.now) (c.in_ok-place.place, c.in_ok-place.operator, unary_view c.in_ok-operand.operand) (map seen c.in_ok-operand.after.now) (many (is_operator product_operator) (operator_operand_at product_operator (unary_with (expression_inside c.args.depth) c.args.depth)) (map seen c.args.tokens.now)) c.in_ok-put_part.ensures (product_part_rolled c.in_ok-place.place c.in_ok-place.operator c.in_ok-operand.operand) c.loop-test.true (search rules) (operator_gives product_operator (unary_with (expression_inside c.args.depth) c.args.depth) (map seen c.loop.rest.now) (map seen c.in_ok-place.after.now) (map seen c.in_ok-operand.after.now) (c.in_ok-place.place, c.in_ok-place.operator) (unary_view c.in_ok-operand.operand) c.in_ok-place.ensures c.in_ok-operand.ensures) c.loop.invariant

pub group_of-returns : goal.group_of-returns
group_of-returns t c =
    rw (group_rolled c.in_ok-place.place c.in_ok-new.field-0, c.in_ok-new.ensures.ok, c.in_ok-enclosed.ensures.kept)
    (group_gives c.args.depth (map seen c.args.tokens.now) (map seen c.in_ok-place.rest.now) (map seen c.in_ok-inner.rest.now) (map seen c.in_ok-enclosed.rest.now) c.in_ok-place.place (expression_view c.in_ok-inner.inner) c.in_ok-place.ensures.room c.in_ok-place.ensures.read c.in_ok-inner.ensures c.in_ok-enclosed.ensures.sign)

pub product_of-returns : goal.product_of-returns
unfolding product_with
product_of-returns t c =
    rw (product_rolled c.in_ok-first.first c.in_ok-others.others)
    (level_gives product_of (is_operator product_operator) (unary_with (expression_inside c.args.depth) c.args.depth) (operator_operand_at product_operator (unary_with (expression_inside c.args.depth) c.args.depth)) (map seen c.args.tokens.now) (map seen c.in_ok-first.rest.now) (map seen c.in_ok-others.rest.now) (unary_view c.in_ok-first.first) (map product_part_view c.in_ok-others.others.items) c.in_ok-first.ensures c.in_ok-others.ensures)

pub product_of-returns-in_err-first : goal.product_of-returns-in_err-first
unfolding product_with
product_of-returns-in_err-first t c =
    let p = err_from_is_err_and c.from_residual.result c.from_residual.ensures.1 in
    rw (p.1, p.2) (level_fails c.in_err-first.field-0.0 product_of (is_operator product_operator) (unary_with (expression_inside c.args.depth) c.args.depth) (operator_operand_at product_operator (unary_with (expression_inside c.args.depth) c.args.depth)) (map seen c.args.tokens.now) c.in_err-first.ensures)

pub product_of-returns-in_err-others : goal.product_of-returns-in_err-others
unfolding product_with
product_of-returns-in_err-others t c =
    let p = err_from_is_err_and c.from_residual-in_err-others.result c.from_residual-in_err-others.ensures.1 in
    rw (p.1, p.2) (behind_first_fails c.in_err-others.field-0.0 product_of (is_operator product_operator) (unary_with (expression_inside c.args.depth) c.args.depth) (operator_operand_at product_operator (unary_with (expression_inside c.args.depth) c.args.depth)) (map seen c.args.tokens.now) (map seen c.in_ok-first.rest.now) (unary_view c.in_ok-first.first) c.in_ok-first.ensures c.in_err-others.ensures)

pub sum_of-returns : goal.sum_of-returns
unfolding sum_with
sum_of-returns t c =
    rw (sum_rolled c.in_ok-first.first c.in_ok-others.others)
    (level_gives sum_of (is_operator sum_operator) (product_with (expression_inside c.args.depth) c.args.depth) (operator_operand_at sum_operator (product_with (expression_inside c.args.depth) c.args.depth)) (map seen c.args.tokens.now) (map seen c.in_ok-first.rest.now) (map seen c.in_ok-others.rest.now) (product_view c.in_ok-first.first) (map sum_part_view c.in_ok-others.others.items) c.in_ok-first.ensures c.in_ok-others.ensures)

pub sum_of-returns-in_err-first : goal.sum_of-returns-in_err-first
unfolding sum_with
sum_of-returns-in_err-first t c =
    let p = err_from_is_err_and c.from_residual.result c.from_residual.ensures.1 in
    rw (p.1, p.2) (level_fails c.in_err-first.field-0.0 sum_of (is_operator sum_operator) (product_with (expression_inside c.args.depth) c.args.depth) (operator_operand_at sum_operator (product_with (expression_inside c.args.depth) c.args.depth)) (map seen c.args.tokens.now) c.in_err-first.ensures)

pub sum_of-returns-in_err-others : goal.sum_of-returns-in_err-others
unfolding sum_with
sum_of-returns-in_err-others t c =
    let p = err_from_is_err_and c.from_residual-in_err-others.result c.from_residual-in_err-others.ensures.1 in
    rw (p.1, p.2) (behind_first_fails c.in_err-others.field-0.0 sum_of (is_operator sum_operator) (product_with (expression_inside c.args.depth) c.args.depth) (operator_operand_at sum_operator (product_with (expression_inside c.args.depth) c.args.depth)) (map seen c.args.tokens.now) (map seen c.in_ok-first.rest.now) (product_view c.in_ok-first.first) c.in_ok-first.ensures c.in_err-others.ensures)

pub shift_of-returns : goal.shift_of-returns
unfolding shift_with
shift_of-returns t c =
    rw (shift_rolled c.in_ok-first.first c.in_ok-others.others)
    (level_gives shift_of (is_operator shift_operator) (sum_with (expression_inside c.args.depth) c.args.depth) (operator_operand_at shift_operator (sum_with (expression_inside c.args.depth) c.args.depth)) (map seen c.args.tokens.now) (map seen c.in_ok-first.rest.now) (map seen c.in_ok-others.rest.now) (sum_view c.in_ok-first.first) (map shift_part_view c.in_ok-others.others.items) c.in_ok-first.ensures c.in_ok-others.ensures)

pub shift_of-returns-in_err-first : goal.shift_of-returns-in_err-first
unfolding shift_with
shift_of-returns-in_err-first t c =
    let p = err_from_is_err_and c.from_residual.result c.from_residual.ensures.1 in
    rw (p.1, p.2) (level_fails c.in_err-first.field-0.0 shift_of (is_operator shift_operator) (sum_with (expression_inside c.args.depth) c.args.depth) (operator_operand_at shift_operator (sum_with (expression_inside c.args.depth) c.args.depth)) (map seen c.args.tokens.now) c.in_err-first.ensures)

pub shift_of-returns-in_err-others : goal.shift_of-returns-in_err-others
unfolding shift_with
shift_of-returns-in_err-others t c =
    let p = err_from_is_err_and c.from_residual-in_err-others.result c.from_residual-in_err-others.ensures.1 in
    rw (p.1, p.2) (behind_first_fails c.in_err-others.field-0.0 shift_of (is_operator shift_operator) (sum_with (expression_inside c.args.depth) c.args.depth) (operator_operand_at shift_operator (sum_with (expression_inside c.args.depth) c.args.depth)) (map seen c.args.tokens.now) (map seen c.in_ok-first.rest.now) (sum_view c.in_ok-first.first) c.in_ok-first.ensures c.in_err-others.ensures)

pub and_of-returns : goal.and_of-returns
unfolding and_with
and_of-returns t c =
    rw (and_rolled c.in_ok-first.first c.in_ok-others.others)
    (level_gives and_of (is_mark marks.And) (shift_with (expression_inside c.args.depth) c.args.depth) (operand_at marks.And (shift_with (expression_inside c.args.depth) c.args.depth)) (map seen c.args.tokens.now) (map seen c.in_ok-first.rest.now) (map seen c.in_ok-others.rest.now) (shift_view c.in_ok-first.first) (map and_part_view c.in_ok-others.others.items) c.in_ok-first.ensures c.in_ok-others.ensures)

pub and_of-returns-in_err-first : goal.and_of-returns-in_err-first
unfolding and_with
and_of-returns-in_err-first t c =
    let p = err_from_is_err_and c.from_residual.result c.from_residual.ensures.1 in
    rw (p.1, p.2) (level_fails c.in_err-first.field-0.0 and_of (is_mark marks.And) (shift_with (expression_inside c.args.depth) c.args.depth) (operand_at marks.And (shift_with (expression_inside c.args.depth) c.args.depth)) (map seen c.args.tokens.now) c.in_err-first.ensures)

pub and_of-returns-in_err-others : goal.and_of-returns-in_err-others
unfolding and_with
and_of-returns-in_err-others t c =
    let p = err_from_is_err_and c.from_residual-in_err-others.result c.from_residual-in_err-others.ensures.1 in
    rw (p.1, p.2) (behind_first_fails c.in_err-others.field-0.0 and_of (is_mark marks.And) (shift_with (expression_inside c.args.depth) c.args.depth) (operand_at marks.And (shift_with (expression_inside c.args.depth) c.args.depth)) (map seen c.args.tokens.now) (map seen c.in_ok-first.rest.now) (shift_view c.in_ok-first.first) c.in_ok-first.ensures c.in_err-others.ensures)

pub xor_of-returns : goal.xor_of-returns
unfolding xor_with
xor_of-returns t c =
    rw (xor_rolled c.in_ok-first.first c.in_ok-others.others)
    (level_gives xor_of (is_mark marks.Xor) (and_with (expression_inside c.args.depth) c.args.depth) (operand_at marks.Xor (and_with (expression_inside c.args.depth) c.args.depth)) (map seen c.args.tokens.now) (map seen c.in_ok-first.rest.now) (map seen c.in_ok-others.rest.now) (and_view c.in_ok-first.first) (map xor_part_view c.in_ok-others.others.items) c.in_ok-first.ensures c.in_ok-others.ensures)

pub xor_of-returns-in_err-first : goal.xor_of-returns-in_err-first
unfolding xor_with
xor_of-returns-in_err-first t c =
    let p = err_from_is_err_and c.from_residual.result c.from_residual.ensures.1 in
    rw (p.1, p.2) (level_fails c.in_err-first.field-0.0 xor_of (is_mark marks.Xor) (and_with (expression_inside c.args.depth) c.args.depth) (operand_at marks.Xor (and_with (expression_inside c.args.depth) c.args.depth)) (map seen c.args.tokens.now) c.in_err-first.ensures)

pub xor_of-returns-in_err-others : goal.xor_of-returns-in_err-others
unfolding xor_with
xor_of-returns-in_err-others t c =
    let p = err_from_is_err_and c.from_residual-in_err-others.result c.from_residual-in_err-others.ensures.1 in
    rw (p.1, p.2) (behind_first_fails c.in_err-others.field-0.0 xor_of (is_mark marks.Xor) (and_with (expression_inside c.args.depth) c.args.depth) (operand_at marks.Xor (and_with (expression_inside c.args.depth) c.args.depth)) (map seen c.args.tokens.now) (map seen c.in_ok-first.rest.now) (and_view c.in_ok-first.first) c.in_ok-first.ensures c.in_err-others.ensures)

pub expression_of-returns : goal.expression_of-returns
unfolding expression_at expression_with
expression_of-returns t c =
    rw (expression_rolled c.in_ok-first.first c.in_ok-others.others)
    (level_gives expression_of (is_mark marks.Or) (xor_with (expression_inside c.args.depth) c.args.depth) (operand_at marks.Or (xor_with (expression_inside c.args.depth) c.args.depth)) (map seen c.args.tokens.now) (map seen c.in_ok-first.rest.now) (map seen c.in_ok-others.rest.now) (xor_view c.in_ok-first.first) (map or_part_view c.in_ok-others.others.items) c.in_ok-first.ensures c.in_ok-others.ensures)

pub expression_of-returns-in_err-first : goal.expression_of-returns-in_err-first
unfolding expression_at expression_with
expression_of-returns-in_err-first t c =
    let p = err_from_is_err_and c.from_residual.result c.from_residual.ensures.1 in
    rw (p.1, p.2) (level_fails c.in_err-first.field-0.0 expression_of (is_mark marks.Or) (xor_with (expression_inside c.args.depth) c.args.depth) (operand_at marks.Or (xor_with (expression_inside c.args.depth) c.args.depth)) (map seen c.args.tokens.now) c.in_err-first.ensures)

pub expression_of-returns-in_err-others : goal.expression_of-returns-in_err-others
unfolding expression_at expression_with
expression_of-returns-in_err-others t c =
    let p = err_from_is_err_and c.from_residual-in_err-others.result c.from_residual-in_err-others.ensures.1 in
    rw (p.1, p.2) (behind_first_fails c.in_err-others.field-0.0 expression_of (is_mark marks.Or) (xor_with (expression_inside c.args.depth) c.args.depth) (operand_at marks.Or (xor_with (expression_inside c.args.depth) c.args.depth)) (map seen c.args.tokens.now) (map seen c.in_ok-first.rest.now) (xor_view c.in_ok-first.first) c.in_ok-first.ensures c.in_err-others.ensures)

pub primary_of-returns-then-at_name : goal.primary_of-returns-then-at_name
primary_of-returns-then-at_name t c = rw (primaries.name_is c.in_ok-name.name) (primaries.name_gives (expression_inside c.args.depth) c.args.depth (map seen c.args.tokens.now) (map seen c.in_ok-name.rest.now) (name_view c.in_ok-name.name) (search rules) c.in_ok-name.ensures)

pub primary_of-returns-in_err-name : goal.primary_of-returns-in_err-name
primary_of-returns-in_err-name t c =
    let p = err_from_is_err_and c.from_residual.result c.from_residual.ensures.1 in
    rw (p.1, p.2) (primaries.name_fails c.in_err-name.field-0.0 (expression_inside c.args.depth) c.args.depth (map seen c.args.tokens.now) (search rules) c.in_err-name.ensures)

pub primary_of-returns-then-at_integer : goal.primary_of-returns-then-at_integer
primary_of-returns-then-at_integer t c = rw (primaries.number_is c.in_ok-literal.literal) (primaries.number_gives (expression_inside c.args.depth) c.args.depth (map seen c.args.tokens.now) (map seen c.in_ok-literal.rest.now) c.in_ok-literal.literal (search rules) (search rules) c.in_ok-literal.ensures)

pub primary_of-returns-in_err-literal : goal.primary_of-returns-in_err-literal
primary_of-returns-in_err-literal t c =
    let p = err_from_is_err_and c.from_residual-in_err-literal.result c.from_residual-in_err-literal.ensures.1 in
    rw (p.1, p.2) (primaries.number_fails c.in_err-literal.field-0.0 (expression_inside c.args.depth) c.args.depth (map seen c.args.tokens.now) (search rules) (search rules) c.in_err-literal.ensures)

pub primary_of-returns-then-at_text : goal.primary_of-returns-then-at_text
primary_of-returns-then-at_text t c = rw (primaries.quoted_is c.in_ok-literal-2.literal) (primaries.quoted_gives (expression_inside c.args.depth) c.args.depth (map seen c.args.tokens.now) (map seen c.in_ok-literal-2.rest.now) c.in_ok-literal-2.literal (search rules) (search rules) (search rules) c.in_ok-literal-2.ensures)

pub primary_of-returns-in_err-literal-2 : goal.primary_of-returns-in_err-literal-2
primary_of-returns-in_err-literal-2 t c =
    let p = err_from_is_err_and c.from_residual-in_err-literal-2.result c.from_residual-in_err-literal-2.ensures.1 in
    rw (p.1, p.2) (primaries.quoted_fails c.in_err-literal-2.field-0.0 (expression_inside c.args.depth) c.args.depth (map seen c.args.tokens.now) (search rules) (search rules) (search rules) c.in_err-literal-2.ensures)

pub primary_of-returns : goal.primary_of-returns
primary_of-returns t c = rw (primaries.group_is c.in_ok-group.group) (primaries.group_gives (expression_inside c.args.depth) c.args.depth (map seen c.args.tokens.now) (map seen c.in_ok-group.rest.now) (group_view c.in_ok-group.group) (search rules) (search rules) (search rules) c.in_ok-group.ensures)

pub primary_of-returns-in_err-group : goal.primary_of-returns-in_err-group
primary_of-returns-in_err-group t c =
    let p = err_from_is_err_and c.from_residual-in_err-group.result c.from_residual-in_err-group.ensures.1 in
    rw (p.1, p.2) (primaries.group_fails c.in_err-group.field-0.0 (expression_inside c.args.depth) c.args.depth (map seen c.args.tokens.now) (search rules) (search rules) (search rules) c.in_err-group.ensures)

pub unary_of-returns : goal.unary_of-returns
unfolding unary_with
unary_of-returns t c =
    rw (unary_rolled c.in_ok-sign.sign c.in_ok-operand.operand)
    (mapped_gives (λ p. Signed p.0 p.1) (both (optional (is_operator unary_operator) unary_sign_at) (primary_with (expression_inside c.args.depth) c.args.depth)) (map seen c.args.tokens.now) (c.in_ok-sign.sign, primary_view c.in_ok-operand.operand) (map seen c.in_ok-operand.rest.now) (both_gives (optional (is_operator unary_operator) unary_sign_at) (primary_with (expression_inside c.args.depth) c.args.depth) (map seen c.args.tokens.now) c.in_ok-sign.sign (map seen c.in_ok-sign.rest.now) (primary_view c.in_ok-operand.operand) (map seen c.in_ok-operand.rest.now) c.in_ok-sign.ensures c.in_ok-operand.ensures))

pub unary_of-returns-in_err-sign : goal.unary_of-returns-in_err-sign
unfolding unary_with
unary_of-returns-in_err-sign t c =
    let p = err_from_is_err_and c.from_residual.result c.from_residual.ensures.1 in
    rw (p.1, p.2) (mapped_fails c.in_err-sign.field-0.0 (λ p. Signed p.0 p.1) (both (optional (is_operator unary_operator) unary_sign_at) (primary_with (expression_inside c.args.depth) c.args.depth)) (map seen c.args.tokens.now) (first_fails c.in_err-sign.field-0.0 (optional (is_operator unary_operator) unary_sign_at) (primary_with (expression_inside c.args.depth) c.args.depth) (map seen c.args.tokens.now) c.in_err-sign.ensures))

pub unary_of-returns-in_err-operand : goal.unary_of-returns-in_err-operand
unfolding unary_with
unary_of-returns-in_err-operand t c =
    let p = err_from_is_err_and c.from_residual-in_err-operand.result c.from_residual-in_err-operand.ensures.1 in
    rw (p.1, p.2) (mapped_fails c.in_err-operand.field-0.0 (λ p. Signed p.0 p.1) (both (optional (is_operator unary_operator) unary_sign_at) (primary_with (expression_inside c.args.depth) c.args.depth)) (map seen c.args.tokens.now) (second_fails c.in_err-operand.field-0.0 (optional (is_operator unary_operator) unary_sign_at) (primary_with (expression_inside c.args.depth) c.args.depth) (map seen c.args.tokens.now) c.in_ok-sign.sign (map seen c.in_ok-sign.rest.now) c.in_ok-sign.ensures c.in_err-operand.ensures))

pub group_of-returns-in_err-place : goal.group_of-returns-in_err-place
group_of-returns-in_err-place t c =
    let p = err_from_is_err_and c.from_residual.result c.from_residual.ensures.1 in
    rw (p.1, p.2) (primaries.open_fails c.in_err-place.field-0.0 c.args.depth (map seen c.args.tokens.now) c.in_err-place.ensures.read)

pub group_of-returns-in_err-inner : goal.group_of-returns-in_err-inner
group_of-returns-in_err-inner t c =
    let p = err_from_is_err_and c.from_residual-in_err-inner.result c.from_residual-in_err-inner.ensures.1 in
    rw (p.1, p.2) (primaries.inner_fails c.in_err-inner.field-0.0 c.args.depth (map seen c.args.tokens.now) (map seen c.in_ok-place.rest.now) c.in_ok-place.place c.in_ok-place.ensures.room c.in_ok-place.ensures.read c.in_err-inner.ensures)

pub group_of-returns-in_err-enclosed : goal.group_of-returns-in_err-enclosed
group_of-returns-in_err-enclosed t c =
    let p = err_from_is_err_and c.from_residual-in_err-enclosed.result c.from_residual-in_err-enclosed.ensures.1 in
    rw (p.1, p.2) (primaries.close_fails c.in_err-enclosed.field-0.0 c.args.depth (map seen c.args.tokens.now) (map seen c.in_ok-place.rest.now) (map seen c.in_ok-inner.rest.now) c.in_ok-place.place (expression_view c.in_ok-inner.inner) c.in_ok-place.ensures.room c.in_ok-place.ensures.read c.in_ok-inner.ensures c.in_err-enclosed.ensures.sign)

pub or_parts_of-loop-init : goal.or_parts_of-loop-init
or_parts_of-loop-init t c = rw c.new-parts.ensures.items (sets_out (is_mark marks.Or) (operand_at marks.Or (xor_with (expression_inside c.args.depth) c.args.depth)) (length c.args.tokens.now) (map seen c.args.tokens.now) (length-map c.args.tokens.now seen))

pub xor_parts_of-loop-init : goal.xor_parts_of-loop-init
xor_parts_of-loop-init t c = rw c.new-parts.ensures.items (sets_out (is_mark marks.Xor) (operand_at marks.Xor (and_with (expression_inside c.args.depth) c.args.depth)) (length c.args.tokens.now) (map seen c.args.tokens.now) (length-map c.args.tokens.now seen))

pub and_parts_of-loop-init : goal.and_parts_of-loop-init
and_parts_of-loop-init t c = rw c.new-parts.ensures.items (sets_out (is_mark marks.And) (operand_at marks.And (shift_with (expression_inside c.args.depth) c.args.depth)) (length c.args.tokens.now) (map seen c.args.tokens.now) (length-map c.args.tokens.now seen))

pub shift_parts_of-loop-init : goal.shift_parts_of-loop-init
shift_parts_of-loop-init t c = rw c.new-parts.ensures.items (sets_out (is_operator shift_operator) (operator_operand_at shift_operator (sum_with (expression_inside c.args.depth) c.args.depth)) (length c.args.tokens.now) (map seen c.args.tokens.now) (length-map c.args.tokens.now seen))

pub sum_parts_of-loop-init : goal.sum_parts_of-loop-init
sum_parts_of-loop-init t c = rw c.new-parts.ensures.items (sets_out (is_operator sum_operator) (operator_operand_at sum_operator (product_with (expression_inside c.args.depth) c.args.depth)) (length c.args.tokens.now) (map seen c.args.tokens.now) (length-map c.args.tokens.now seen))

pub product_parts_of-loop-init : goal.product_parts_of-loop-init
product_parts_of-loop-init t c = rw c.new-parts.ensures.items (sets_out (is_operator product_operator) (operator_operand_at product_operator (unary_with (expression_inside c.args.depth) c.args.depth)) (length c.args.tokens.now) (map seen c.args.tokens.now) (length-map c.args.tokens.now seen))
