use Rattle.std.proofs.Common.{get_or, refl, ◌∙◌, arith}
use Rattle.std.proofs.lemmas.List.Folds.{list_all_more}
use Rattle.std.proofs.lemmas.Int.Digits.{digits_value_more}
use Rattle.pss_base.specs.Hexadecimal.{is_hex_digit}
use Rattle.pss_base.proofs.Digits.{digit_read, room, digit_fits}
use Rattle.pss_base.proofs.hexadecimal.hex_number.Goals as goal

pub overflow_mul-number : goal.overflow_mul-number
overflow_mul-number c =
    omega (arith, room c.loop-digit.number 0 c.loop-digit.digit-index _ c.loop-digit.invariant.small c.loop-digit-test.true c.requires (omega arith))

pub overflow_add-number : goal.overflow_add-number
overflow_add-number c =
    omega (arith, c.from.ensures, room c.loop-digit.number c.in_ok-hex_value.field-0 c.loop-digit.digit-index _ c.loop-digit.invariant.small c.loop-digit-test.true c.requires c.in_ok-hex_value.ensures.small)

pub loop-digit-preserved : goal.loop-digit-preserved
loop-digit-preserved c =
    let ds = c.args.digits.now in
    let i = c.loop-digit.digit-index in
    let kept = c.loop-digit.invariant in
    let read = digit_read (get_or ds i 0) c.in_ok-hex_value.field-0 c.in_ok-hex_value.ensures.value in
    record {
      all = list_all_more is_hex_digit ds i 0 c.loop-digit-test.true ∙ (rw (kept.all, read.0) refl);
      value = omega (arith, c.from.ensures, kept.value, read.1, digits_value_more 16 ds i c.loop-digit-test.true);
      small = omega (arith, c.from.ensures, digit_fits c.loop-digit.number c.in_ok-hex_value.field-0 i kept.small c.in_ok-hex_value.ensures.small);
    }
