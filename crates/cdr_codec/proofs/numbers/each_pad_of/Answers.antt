use Rattle.std.proofs.Common.{◌≡◌, ◌-◌, ◌+◌, ◌<◌, ℕ, suc, arith, Ok, Err, sym, ◌∙◌, List, refl, true, false, eqb}
use Rattle.cdr_codec.specs.declared.fault.RecordFault.TheVariants.{BadPad}
use Rattle.cdr_codec.specs.Reading.{plain_at, one_at, pads_at}
use Rattle.cdr_codec.proofs.numbers.each_pad_of.Goals as goal

next : (n i : ℕ) (bytes : List ℕ) (place after b : ℕ) → i < n → plain_at 1 bytes place ≡ Ok (b, after) → eqb b 0 ≡ true → pads_at (n - i) bytes place ≡ pads_at (n - (i + 1)) bytes after
unfolding pads_at one_at
next n i bytes place after b lt h zero_is =
    let k : n - i ≡ suc (n - (i + 1)) = omega arith in
    rw (k, h, zero_is) refl

stop : (n i : ℕ) (bytes : List ℕ) (place after b : ℕ) → i < n → plain_at 1 bytes place ≡ Ok (b, after) → eqb b 0 ≡ false → pads_at (n - i) bytes place ≡ Err (BadPad place)
unfolding pads_at one_at
stop n i bytes place after b lt h not_zero =
    let k : n - i ≡ suc (n - (i + 1)) = omega arith in
    rw (k, h, not_zero) refl

pub returns-then-not-is_padding-clause-given : goal.returns-then-not-is_padding-clause-given
returns-then-not-is_padding-clause-given c = sym c.loop.invariant.2 ∙ stop (c.args.count) c.loop.counter c.args.bytes.now c.loop.place c.in_ok-byte.after c.in_ok-byte.byte (omega arith) c.in_ok-byte.ensures.given (sym c.is_padding.ensures ∙ c.if-not-is_padding.true)

pub loop-preserved : goal.loop-preserved
loop-preserved c = (omega (arith, c.in_ok-byte.ensures.within), c.in_ok-byte.ensures.within.1, sym (next (c.args.count) c.loop.counter c.args.bytes.now c.loop.place c.in_ok-byte.after c.in_ok-byte.byte (omega arith) c.in_ok-byte.ensures.given (sym c.is_padding.ensures ∙ c.if-not-is_padding.false)) ∙ c.loop.invariant.2)
