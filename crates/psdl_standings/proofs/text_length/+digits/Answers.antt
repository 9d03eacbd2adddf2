use Rattle.std.proofs.Common.{◌≡◌, ◌<◌, ◌≤◌, ◌+◌, ◌/◌, ◌%◌, ◌^◌, ◌++◌, ◌∷◌, [], length, sym, ap, arith, length-append}
use Rattle.std.specs.Fmt.{decimal}
use Rattle.std.proofs.lemmas.Fmt.{decimal_digit, decimal_step_wide, length-decimal-le_wide}
use Rattle.psdl_standings.proofs.text_length.+digits.Goals as goal

pub overflow_add-result : goal.overflow_add-result
overflow_add-result t c =
    let fits : c.args.number / 10 < 10 ^ 39 = omega (arith, c.ranges.number) in
    let few : length (decimal (c.args.number / 10)) ≤ 39 = length-decimal-le_wide 39 (c.args.number / 10) (omega arith) fits (omega (arith, c.ranges.number)) in
    omega (arith, c.digits.ensures, few)

pub returns-then-number-lt10 : goal.returns-then-number-lt10
returns-then-number-lt10 t c = ap length (sym (decimal_digit c.args.number c.if-number-lt10.true))

pub returns-else-number-lt10 : goal.returns-else-number-lt10
returns-else-number-lt10 t c =
    let n = c.args.number in
    let step : decimal n ≡ decimal (n / 10) ++ (48 + n % 10) ∷ [] = decimal_step_wide n c.if-number-lt10.false (omega (arith, c.ranges.number)) in
    omega (arith, c.digits.ensures, ap length step, length-append (decimal (n / 10)) ((48 + n % 10) ∷ []))
