use Rattle.std.proofs.Common.{◌≡◌, ◌∙◌, ◌+◌, ◌-◌, List, length, map, drop, get_or, subst, ap, sym, arith}
use Rattle.std.proofs.lemmas.Result.{err_from_is_err_and}
use Rattle.type_layout.specs.Types.{PlainMember}
use Rattle.type_layout.specs.Members.{plain_member}
use Rattle.type_layout.specs.Views.{plain_values}
use Rattle.type_layout.specs.Keys.{chosen}
use Rattle.type_layout.proofs.Lookups.{got_mapped, nothing_mapped, past_end}
use Rattle.value_text.specs.Line.{values_from}
use Rattle.value_text.proofs.LineReading.{with_read}
use Rattle.value_text.proofs.ChosenReading.{chosen_more, chosen_skips, line_goes_on, line_stops}
use Rattle.value_text.proofs.line.read_chosen.Goals as goal

pub loop-number-preserved-in_default : goal.loop-number-preserved-in_default
loop-number-preserved-in_default c =
    let ms = map plain_member c.args.members.now in
    let end = c.args.column + length c.args.text.now in
    let skips = chosen_skips ms c.args.numbers.now c.loop-number.number-index c.loop-number-test.true (nothing_mapped plain_member c.args.members.now (get_or c.args.numbers.now c.loop-number.number-index 0) (past_end _ _ c.in_default.ensures.lookup.0)) in
    (c.loop-number.invariant.0, ap (λ (l : List PlainMember). with_read (plain_values c.loop-number.values) (values_from (map (λ m. m.type) l) (end - length c.loop-number.rest.now) c.loop-number.rest.now)) (sym skips) ∙ c.loop-number.invariant.1)

pub returns-in_err-rest : goal.returns-in_err-rest
returns-in_err-rest c =
    let p = err_from_is_err_and c.from_residual-in_err-rest.result c.from_residual-in_err-rest.ensures.1 in
    let ms = map plain_member c.args.members.now in
    let end = c.args.column + length c.args.text.now in
    let total = values_from (map (λ m. m.type) (chosen ms c.args.numbers.now)) c.args.column c.args.text.now in
    let m = c.in-Some.ensures.lookup in
    let more = chosen_more ms c.args.numbers.now c.loop-number.number-index (plain_member c.in-Some.member.now) c.loop-number-test.true (got_mapped plain_member c.args.members.now (get_or c.args.numbers.now c.loop-number.number-index 0) c.in-Some.member.now m.3.0 m.1) in
    let so_far = subst (λ (l : List PlainMember). with_read (plain_values c.loop-number.values) (values_from (map (λ m. m.type) l) (end - length c.loop-number.rest.now) c.loop-number.rest.now) ≡ total) more c.loop-number.invariant.1 in
    rw (p.1, p.2) (line_stops c.in_err-rest.field-0.0 (plain_values c.loop-number.values) (plain_member c.in-Some.member.now).type (map (λ m. m.type) (chosen ms (drop (c.loop-number.number-index + 1) c.args.numbers.now))) end c.loop-number.rest.now total c.loop-number.invariant.0 c.in_err-rest.ensures.read so_far)

pub loop-number-preserved : goal.loop-number-preserved
loop-number-preserved c =
    let ms = map plain_member c.args.members.now in
    let end = c.args.column + length c.args.text.now in
    let total = values_from (map (λ m. m.type) (chosen ms c.args.numbers.now)) c.args.column c.args.text.now in
    let m = c.in-Some.ensures.lookup in
    let more = chosen_more ms c.args.numbers.now c.loop-number.number-index (plain_member c.in-Some.member.now) c.loop-number-test.true (got_mapped plain_member c.args.members.now (get_or c.args.numbers.now c.loop-number.number-index 0) c.in-Some.member.now m.3.0 m.1) in
    let so_far = subst (λ (l : List PlainMember). with_read (plain_values c.loop-number.values) (values_from (map (λ m. m.type) l) (end - length c.loop-number.rest.now) c.loop-number.rest.now) ≡ total) more c.loop-number.invariant.1 in (
      omega (arith, c.in_ok-rest.ensures.within, c.loop-number.invariant.0),
      line_goes_on (plain_values c.loop-number.values) (plain_values c.push_next.new.values) (plain_member c.in-Some.member.now).type (map (λ m. m.type) (chosen ms (drop (c.loop-number.number-index + 1) c.args.numbers.now))) end c.loop-number.rest.now c.in_ok-rest.rest.now total c.loop-number.invariant.0 c.in_ok-rest.ensures.read so_far,
    )
