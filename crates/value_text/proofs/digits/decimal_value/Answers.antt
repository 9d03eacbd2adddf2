use Rattle.std.proofs.Common.{◌^◌, arith}
use Rattle.std.specs.Str.Parse.{digits_value}
use Rattle.value_text.proofs.Valuing.{too_much}
use Rattle.value_text.proofs.digits.decimal_value.Goals as goal

pub returns-in_err-number : goal.returns-in_err-number
returns-in_err-number c =
    rw c.from_residual.ensures
    (too_much 10 c.loop-byte.number c.loop-byte.byte-index (2 ^ 64) c.args.digits.now (digits_value 10 c.args.digits.now)
    (omega arith) c.loop-byte-test.true c.loop-byte.invariant.1 (λ less. c.in_err-number.ensures (rw c.digit_value.ensures less)))
