use Rattle.std.proofs.Common.{◌≡◌, map, ap, arith, drop, ◌+◌, subst}
use Rattle.std.proofs.lemmas.Result.{err_from_is_err_and}
use Rattle.type_layout.specs.Types.{PlainFields, fields_of}
use Rattle.type_layout.specs.Views.{plain_type, plain_field, plain_value, plain_values}
use Rattle.cdr_codec.specs.Reading.{value_at, times_at, fields_at}
use Rattle.cdr_codec.specs.Taken.{value_takes, fields_take}
use Rattle.cdr_codec.proofs.Taking.{times_more, times_stop, times_end, fields_more, fields_stop_steps, fields_end}
use Rattle.cdr_codec.proofs.Loop.{goes_on, stops, is_done, with_front, fields_go_on, fields_stop, fields_done, fields_drop, fields_out}
use Rattle.cdr_codec.proofs.Sizes.{sizes}
use Rattle.cdr_codec.proofs.several.+value.Goals as goal

pub times_of-returns-in_err-value-clause-given : goal.times_of-returns-in_err-value-clause-given
times_of-returns-in_err-value-clause-given g t c =
    let p = err_from_is_err_and c.from_residual-in_err-value.result c.from_residual-in_err-value.ensures.1 in
    rw (p.1, p.2) (stops c.in_err-value.field-0.0 (value_at (plain_type c.args.item.now)) (plain_values c.loop.values) c.args.count c.loop.counter c.args.bytes.now c.loop.place (times_at (value_at (plain_type c.args.item.now)) c.args.count c.args.bytes.now c.args.at) c.loop-test.true c.in_err-value.ensures.given c.loop.invariant.3)

pub times_of-loop-preserved : goal.times_of-loop-preserved
times_of-loop-preserved g t c = (
  omega (arith, c.in_ok-value.ensures.within),
  c.in_ok-value.ensures.within.1,
  omega (arith, c.in_ok-value.ensures.steps),
  rw c.in_ok-push.ensures.ok (goes_on (value_at (plain_type c.args.item.now)) (plain_values c.loop.values) c.args.count c.loop.counter c.args.bytes.now c.loop.place (plain_value c.in_ok-value.value) c.in_ok-value.after (times_at (value_at (plain_type c.args.item.now)) c.args.count c.args.bytes.now c.args.at) c.loop-test.true c.in_ok-value.ensures.given c.loop.invariant.3),
  times_more (value_at (plain_type c.args.item.now)) (value_takes (plain_type c.args.item.now)) c.args.count c.loop.counter c.args.bytes.now c.loop.place (plain_value c.in_ok-value.value) c.in_ok-value.after _ _ _ c.loop-test.true c.in_ok-value.ensures.given c.in_ok-value.ensures.taken c.loop.invariant.4,
)

pub times_of-returns-in_err-value-clause-taken : goal.times_of-returns-in_err-value-clause-taken
times_of-returns-in_err-value-clause-taken g t c =
    let p = err_from_is_err_and c.from_residual-in_err-value.result c.from_residual-in_err-value.ensures.1 in
    rw (p.1, p.2) (times_stop c.in_err-value.field-0.0 (value_at (plain_type c.args.item.now)) (value_takes (plain_type c.args.item.now)) c.args.count c.loop.counter c.args.bytes.now c.loop.place _ _ _ c.loop-test.true c.in_err-value.ensures.given c.in_err-value.ensures.taken c.loop.invariant.4)

pub times_of-returns-clause-taken : goal.times_of-returns-clause-taken
times_of-returns-clause-taken g t c = times_end (value_at (plain_type c.args.item.now)) (value_takes (plain_type c.args.item.now)) c.args.count c.loop.counter c.args.bytes.now c.loop.place _ _ c.loop-test.false c.loop.invariant.4

pub times_of-returns-clause-given : goal.times_of-returns-clause-given
times_of-returns-clause-given g t c = is_done (value_at (plain_type c.args.item.now)) (plain_values c.loop.values) c.args.count c.loop.counter c.args.bytes.now c.loop.place (times_at (value_at (plain_type c.args.item.now)) c.args.count c.args.bytes.now c.args.at) c.loop-test.false c.loop.invariant.3

pub fields_of-returns-in_err-value-clause-given : goal.fields_of-returns-in_err-value-clause-given
fields_of-returns-in_err-value-clause-given g t c =
    let p = err_from_is_err_and c.from_residual-in_err-value.result c.from_residual-in_err-value.ensures.1 in
    let f = c.field-item.result in
    let total = fields_at (fields_of (map plain_field c.args.fields.now)) c.args.bytes.now c.args.at in
    let more = fields_drop c.args.fields.now c.loop-field.field-index f c.loop-field-test.true c.field-item.is in
    let so_far = subst (λ (fields : PlainFields). with_front (plain_values c.loop-field.values) (fields_at fields c.args.bytes.now c.loop-field.place) ≡ total) more c.loop-field.invariant.3 in
    rw (p.1, p.2) (fields_stop c.in_err-value.field-0.0 (plain_field f).name (plain_field f).type (fields_of (map plain_field (drop (c.loop-field.field-index + 1) c.args.fields.now))) (plain_values c.loop-field.values) c.args.bytes.now c.loop-field.place total c.in_err-value.ensures.given so_far)

pub fields_of-loop-field-preserved : goal.fields_of-loop-field-preserved
fields_of-loop-field-preserved g t c =
    let f = c.field-item.result in
    let total = fields_at (fields_of (map plain_field c.args.fields.now)) c.args.bytes.now c.args.at in
    let more = fields_drop c.args.fields.now c.loop-field.field-index f c.loop-field-test.true c.field-item.is in
    let so_far = subst (λ (fields : PlainFields). with_front (plain_values c.loop-field.values) (fields_at fields c.args.bytes.now c.loop-field.place) ≡ total) more c.loop-field.invariant.3 in (
      omega (arith, c.in_ok-value.ensures.within),
      c.in_ok-value.ensures.within.1,
      omega (arith, c.in_ok-value.ensures.steps),
      rw c.in_ok-push.ensures.ok (fields_go_on (plain_field f).name (plain_field f).type (fields_of (map plain_field (drop (c.loop-field.field-index + 1) c.args.fields.now))) (plain_values c.loop-field.values) c.args.bytes.now c.loop-field.place (plain_value c.in_ok-value.value) c.in_ok-value.after total c.in_ok-value.ensures.given so_far),
      omega (arith, c.loop-field.invariant.4, ap sizes more),
      fields_more (plain_field f).name (plain_field f).type (fields_of (map plain_field (drop (c.loop-field.field-index + 1) c.args.fields.now))) c.args.bytes.now c.loop-field.place (plain_value c.in_ok-value.value) c.in_ok-value.after _ _ _ c.in_ok-value.ensures.given c.in_ok-value.ensures.taken
          (omega (arith, c.loop-field.invariant.5, ap (λ (fields : PlainFields). fields_take fields c.args.bytes.now c.loop-field.place) more)),
    )

pub fields_of-returns-in_err-value-clause-taken : goal.fields_of-returns-in_err-value-clause-taken
fields_of-returns-in_err-value-clause-taken g t c =
    let p = err_from_is_err_and c.from_residual-in_err-value.result c.from_residual-in_err-value.ensures.1 in
    let f = c.field-item.result in
    let more = fields_drop c.args.fields.now c.loop-field.field-index f c.loop-field-test.true c.field-item.is in
    rw (p.1, p.2) (fields_stop_steps c.in_err-value.field-0.0 (plain_field f).name (plain_field f).type (fields_of (map plain_field (drop (c.loop-field.field-index + 1) c.args.fields.now))) c.args.bytes.now c.loop-field.place _ _ _ c.in_err-value.ensures.given c.in_err-value.ensures.taken
    (omega (arith, c.loop-field.invariant.5, ap (λ (fields : PlainFields). fields_take fields c.args.bytes.now c.loop-field.place) more)))

pub fields_of-returns-clause-taken : goal.fields_of-returns-clause-taken
fields_of-returns-clause-taken g t c =
    let none = fields_out c.args.fields.now c.loop-field.field-index c.loop-field-test.false in
    fields_end c.args.bytes.now c.loop-field.place _ _ (omega (arith, c.loop-field.invariant.5, ap (λ (fields : PlainFields). fields_take fields c.args.bytes.now c.loop-field.place) none))

pub fields_of-returns-clause-given : goal.fields_of-returns-clause-given
fields_of-returns-clause-given g t c =
    let total = fields_at (fields_of (map plain_field c.args.fields.now)) c.args.bytes.now c.args.at in
    let none = fields_out c.args.fields.now c.loop-field.field-index c.loop-field-test.false in
    fields_done (plain_values c.loop-field.values) c.args.bytes.now c.loop-field.place total (subst (λ (fields : PlainFields). with_front (plain_values c.loop-field.values) (fields_at fields c.args.bytes.now c.loop-field.place) ≡ total) none c.loop-field.invariant.3)
