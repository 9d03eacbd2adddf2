use Rattle.std.proofs.Common.{ℕ, suc, ◌≡◌, ◌==◌, ◌+◌, ◌-◌, ◌∙◌, cond, Some, ap, arith, sym}
use Rattle.std.specs.declared.option.Option.{Option}
use Rattle.page_store.specs.Placed.{slot_under}
use Rattle.page_store.specs.inner.Rows.{is_in_row}
use Rattle.page_store.proofs.InRows.{row_put}
use Rattle.page_store.proofs.placing.place_row.Goals as goal

pub loop-serial-init : goal.loop-serial-init
loop-serial-init c = record {
  begun = omega arith;
  within = omega arith;
  places = λ q. ap (λ (n : ℕ). cond (is_in_row c.args.first n q) (Some c.args.slot) (slot_under q c.args.places.now.entries)) (let h : 0 ≡ c.args.first - c.args.first = omega arith in h);
}

pub loop-serial-preserved : goal.loop-serial-preserved
loop-serial-preserved c =
    let first = c.args.first in
    let at = c.loop-serial in
    let k = at.serial - first in
    let some = Some c.args.slot in
    let is : at.serial ≡ first + k = omega (arith, at.invariant.begun) in
    let more : suc k ≡ at.serial + 1 - first = omega (arith, at.invariant.begun) in
    record {
      begun = omega (arith, at.invariant.begun);
      within = omega (arith, at.invariant.begun, c.loop-serial-test.true);
      places = λ q.
          let old = slot_under q c.args.places.now.entries in
          c.in_ok-put.ensures q ∙ ap (λ (o : Option ℕ). cond (at.serial == q) some o) (at.invariant.places q) ∙ ap (λ (n : ℕ). cond (n == q) some (cond (is_in_row first k q) some old)) is ∙ row_put first k q some old
          ∙ ap (λ (n : ℕ). cond (is_in_row first n q) some old) more;
    }

pub returns : goal.returns
returns c q = c.loop-serial.invariant.places q ∙
    ap (λ (n : ℕ). cond (is_in_row c.args.first n q) (Some c.args.slot) (slot_under q c.args.places.now.entries)) (let h : c.args.end - c.args.first ≡ c.loop-serial.serial - c.args.first = omega (arith, c.loop-serial.invariant.within, c.loop-serial-test.false) in sym h)
