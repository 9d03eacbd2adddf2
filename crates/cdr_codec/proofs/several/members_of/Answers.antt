use Rattle.std.proofs.Common.{◌≡◌, map, ap, arith, drop, ◌+◌, subst}
use Rattle.std.proofs.lemmas.Result.{err_from_is_err_and}
use Rattle.type_layout.specs.Types.{PlainFields}
use Rattle.type_layout.specs.Values.{layout_fields}
use Rattle.type_layout.specs.Views.{plain_type, plain_value, plain_values}
use Rattle.type_layout.specs.Members.{plain_member}
use Rattle.cdr_codec.specs.Reading.{fields_at}
use Rattle.cdr_codec.specs.Taken.{fields_take}
use Rattle.cdr_codec.proofs.Taking.{fields_more, fields_stop_steps, fields_end}
use Rattle.cdr_codec.proofs.Loop.{with_front, fields_go_on, fields_stop, fields_done, members_drop, members_out}
use Rattle.cdr_codec.proofs.several.members_of.Goals as goal

pub returns-in_err-value-clause-given : goal.returns-in_err-value-clause-given
returns-in_err-value-clause-given g c =
    let p = err_from_is_err_and c.from_residual-in_err-value.result c.from_residual-in_err-value.ensures.1 in
    let m = c.member-item.result in
    let total = fields_at (layout_fields (map plain_member c.args.members.now)) c.args.bytes.now c.args.at in
    let more = members_drop c.args.members.now c.loop-member.member-index m c.loop-member-test.true c.member-item.is in
    let so_far = subst (λ (fields : PlainFields). with_front (plain_values c.loop-member.values) (fields_at fields c.args.bytes.now c.loop-member.place) ≡ total) more c.loop-member.invariant.3 in
    rw (p.1, p.2) (fields_stop c.in_err-value.field-0.0 (plain_member m).name (plain_type m.ty) (layout_fields (map plain_member (drop (c.loop-member.member-index + 1) c.args.members.now))) (plain_values c.loop-member.values) c.args.bytes.now c.loop-member.place total c.in_err-value.ensures.given so_far)

pub loop-member-preserved : goal.loop-member-preserved
loop-member-preserved g c =
    let m = c.member-item.result in
    let total = fields_at (layout_fields (map plain_member c.args.members.now)) c.args.bytes.now c.args.at in
    let more = members_drop c.args.members.now c.loop-member.member-index m c.loop-member-test.true c.member-item.is in
    let so_far = subst (λ (fields : PlainFields). with_front (plain_values c.loop-member.values) (fields_at fields c.args.bytes.now c.loop-member.place) ≡ total) more c.loop-member.invariant.3 in (
      omega (arith, c.in_ok-value.ensures.within),
      c.in_ok-value.ensures.within.1,
      omega (arith, c.in_ok-value.ensures.steps),
      rw c.in_ok-push.ensures.ok (fields_go_on (plain_member m).name (plain_type m.ty) (layout_fields (map plain_member (drop (c.loop-member.member-index + 1) c.args.members.now))) (plain_values c.loop-member.values) c.args.bytes.now c.loop-member.place (plain_value c.in_ok-value.value) c.in_ok-value.after total c.in_ok-value.ensures.given so_far),
      fields_more (plain_member m).name (plain_type m.ty) (layout_fields (map plain_member (drop (c.loop-member.member-index + 1) c.args.members.now))) c.args.bytes.now c.loop-member.place (plain_value c.in_ok-value.value) c.in_ok-value.after _ _ _ c.in_ok-value.ensures.given c.in_ok-value.ensures.taken
          (omega (arith, c.loop-member.invariant.4, ap (λ (fields : PlainFields). fields_take fields c.args.bytes.now c.loop-member.place) more)),
    )

pub returns-in_err-value-clause-taken : goal.returns-in_err-value-clause-taken
returns-in_err-value-clause-taken g c =
    let p = err_from_is_err_and c.from_residual-in_err-value.result c.from_residual-in_err-value.ensures.1 in
    let m = c.member-item.result in
    let more = members_drop c.args.members.now c.loop-member.member-index m c.loop-member-test.true c.member-item.is in
    rw (p.1, p.2) (fields_stop_steps c.in_err-value.field-0.0 (plain_member m).name (plain_type m.ty) (layout_fields (map plain_member (drop (c.loop-member.member-index + 1) c.args.members.now))) c.args.bytes.now c.loop-member.place _ _ _ c.in_err-value.ensures.given c.in_err-value.ensures.taken
    (omega (arith, c.loop-member.invariant.4, ap (λ (fields : PlainFields). fields_take fields c.args.bytes.now c.loop-member.place) more)))

pub returns-clause-taken : goal.returns-clause-taken
returns-clause-taken g c =
    let none = members_out c.args.members.now c.loop-member.member-index c.loop-member-test.false in
    fields_end c.args.bytes.now c.loop-member.place _ _ (omega (arith, c.loop-member.invariant.4, ap (λ (fields : PlainFields). fields_take fields c.args.bytes.now c.loop-member.place) none))

pub returns-clause-given : goal.returns-clause-given
returns-clause-given g c =
    let total = fields_at (layout_fields (map plain_member c.args.members.now)) c.args.bytes.now c.args.at in
    let none = members_out c.args.members.now c.loop-member.member-index c.loop-member-test.false in
    fields_done (plain_values c.loop-member.values) c.args.bytes.now c.loop-member.place total (subst (λ (fields : PlainFields). with_front (plain_values c.loop-member.values) (fields_at fields c.args.bytes.now c.loop-member.place) ≡ total) none c.loop-member.invariant.3)
