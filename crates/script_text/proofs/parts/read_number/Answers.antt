use Rattle.std.proofs.Common.{◌≡◌, ◌≤◌, true, refl, sym, ◌∙◌, get_or, arith}
use Rattle.std.specs.Char.{is_ascii_digit}
use Rattle.std.proofs.lemmas.List.Folds.{list_all_more}
use Rattle.script_text.proofs.NumberLaws.{room, digit_fits, digit_range, value_more}
use Rattle.script_text.proofs.parts.read_number.Goals as goal

pub overflow_mul-number : goal.overflow_mul-number
overflow_mul-number c =
    omega (arith, room c.loop-digit.number 0 c.loop-digit.digit-index _ c.loop-digit.invariant.small c.loop-digit-test.true c.requires (omega arith))

pub overflow_add-number : goal.overflow_add-number
overflow_add-number c =
    let b = get_or c.args.digits.now c.loop-digit.digit-index 0 in
    let one : is_ascii_digit b ≡ true = sym c.is_ascii_digit.ensures.value ∙ c.if-not-is_ascii_digit.false in
    let range = digit_range b one in
    let low : c.from.result ≤ 9 = omega (arith, c.from.ensures, range.0, range.1) in
    omega (arith, room c.loop-digit.number c.from.result c.loop-digit.digit-index _ c.loop-digit.invariant.small c.loop-digit-test.true c.requires low)

pub loop-digit-preserved : goal.loop-digit-preserved
loop-digit-preserved c =
    let ds = c.args.digits.now in
    let i = c.loop-digit.digit-index in
    let kept = c.loop-digit.invariant in
    let one : is_ascii_digit (get_or ds i 0) ≡ true = sym c.is_ascii_digit.ensures.value ∙ c.if-not-is_ascii_digit.false in
    let range = digit_range (get_or ds i 0) one in
    let low : c.from.result ≤ 9 = omega (arith, c.from.ensures, range.0, range.1) in
    record {
      all = list_all_more is_ascii_digit ds i 0 c.loop-digit-test.true ∙ (rw (kept.all, one) refl);
      value = omega (arith, c.from.ensures, value_more ds i c.loop-digit.number c.loop-digit-test.true kept.value range.0 range.1);
      small = omega (arith, digit_fits c.loop-digit.number c.from.result i kept.small low);
    }
