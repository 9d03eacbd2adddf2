use Rattle.std.proofs.Common.{◌^◌}
use Rattle.std.specs.Str.Parse.{digits_value}
use Rattle.psdl_tokens.proofs.Valuing.{too_much}
use Rattle.psdl_tokens.proofs.numeral.digits_value.Goals as goal

pub returns-in_err-value : goal.returns-in_err-value
returns-in_err-value c =
    rw c.from_residual.ensures
    (too_much c.args.radix c.loop-byte.value c.loop-byte.byte-index (2 ^ 127) c.args.digits.now (digits_value c.args.radix c.args.digits.now)
    c.requires c.loop-byte-test.true c.loop-byte.invariant.1 (λ less. c.in_err-value.ensures (rw c.digit_value.ensures less)))
