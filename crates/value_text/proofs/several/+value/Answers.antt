use Rattle.std.proofs.Common.{◌≡◌, ◌-◌, ◌+◌, length, map, drop, take, ap, arith, subst}
use Rattle.std.proofs.lemmas.Result.{err_from_is_err_and}
use Rattle.type_layout.specs.Types.{PlainFields, fields_of}
use Rattle.type_layout.specs.Views.{plain_type, plain_field, plain_value, plain_values}
use Rattle.value_text.specs.Reading.{more_at, value_at, fields_at, more_fields_at}
use Rattle.value_text.proofs.Sizes.{sizes}
use Rattle.value_text.proofs.Looping.{with_front, items_go_on, items_end, items_stop, items_out, fields_go_on, fields_drop}
use Rattle.value_text.proofs.several.+value.Goals as goal

pub more_of-returns-in_err-value : goal.more_of-returns-in_err-value
more_of-returns-in_err-value t c =
    let one = value_at (plain_type c.args.item.now) in
    let p = err_from_is_err_and c.from_residual.result c.from_residual.ensures.1 in
    rw (p.1, p.2) (items_stop c.in_err-value.field-0.0 one (plain_values c.loop.values) (length c.args.text.now) c.loop.counter c.loop.rest.now (more_at one (length c.args.text.now) c.args.text.now) c.loop-test.true c.in_err-value.ensures c.loop.invariant)

pub more_of-returns-then-not-goes_on : goal.more_of-returns-then-not-goes_on
more_of-returns-then-not-goes_on t c =
    let one = value_at (plain_type c.args.item.now) in
    rw c.in_ok-push.ensures.ok (items_end one (plain_values c.loop.values) (length c.args.text.now) c.loop.counter c.loop.rest.now (plain_value c.in_ok-value.value) c.in_ok-value.goes_on c.in_ok-value.after.now (more_at one (length c.args.text.now) c.args.text.now) c.loop-test.true c.in_ok-value.ensures c.if-not-goes_on.true c.loop.invariant)

pub more_of-loop-preserved : goal.more_of-loop-preserved
more_of-loop-preserved t c =
    let one = value_at (plain_type c.args.item.now) in
    rw c.in_ok-push.ensures.ok (items_go_on one (plain_values c.loop.values) (length c.args.text.now) c.loop.counter c.loop.rest.now (plain_value c.in_ok-value.value) c.in_ok-value.goes_on c.in_ok-value.after.now (more_at one (length c.args.text.now) c.args.text.now) c.loop-test.true c.in_ok-value.ensures c.if-not-goes_on.false c.loop.invariant)

pub more_of-returns : goal.more_of-returns
more_of-returns t c =
    let one = value_at (plain_type c.args.item.now) in
    items_out one (plain_values c.loop.values) (length c.args.text.now) c.loop.counter c.loop.rest.now (more_at one (length c.args.text.now) c.args.text.now) c.loop-test.false c.loop.invariant

pub fields_of-loop-field-preserved : goal.fields_of-loop-field-preserved
fields_of-loop-field-preserved t c =
    let all = c.args.fields.now in
    let others = take (length all - 1) (drop 1 all) in
    let f = c.field-item.result in
    let i = c.loop-field.field-index in
    let total = fields_at (fields_of (map plain_field all)) c.args.text.now in
    let more = fields_drop others i f c.loop-field-test.true c.field-item.is in
    let so_far = subst (λ (fields : PlainFields). with_front (plain_values c.loop-field.values) (more_fields_at fields c.loop-field.rest.now) ≡ total) more c.loop-field.invariant.0 in (
      rw c.in_ok-push-2.ensures.ok (fields_go_on (plain_field f).name (plain_field f).type (fields_of (map plain_field (drop (i + 1) others))) (plain_values c.loop-field.values) c.loop-field.rest.now (plain_value c.in_ok-value-2.value) c.in_ok-value-2.after.now total c.in_ok-value-2.ensures so_far),
      omega (arith, c.loop-field.invariant.1, ap sizes more),
    )
