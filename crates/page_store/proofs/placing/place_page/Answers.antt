use Rattle.std.proofs.Common.{ℕ, ◌≡◌, ◌-◌, ◌∙◌, cond, length, Some, ap, arith, sym}
use Rattle.std.proofs.lemmas.Result.{on_ok_weaker}
use Rattle.page_format.proofs.Spelled.{length-left}
use Rattle.page_store.specs.Placed.{slot_under}
use Rattle.page_store.specs.inner.Rows.{is_in_row}
use Rattle.page_store.proofs.InRows.{row_objects}
use Rattle.page_store.proofs.placing.place_page.Goals as goal

pub returns : goal.returns
returns c =
    let some = Some c.args.slot in
    let first = c.in-Some.first in
    let long : length c.args.entries.now ≡ c.in-Some-checked_add.end - first = omega (arith, ap length c.as_slice-puts.ensures, length-left c.as_slice-puts.result.now, c.in-Some-checked_add.ensures) in
    on_ok_weaker c.place_row.result (λ are q.
    let old = slot_under q c.args.places.now.entries in
    are q ∙ ap (λ (n : ℕ). cond (is_in_row first n q) some old) (sym long) ∙ ap (λ b. cond b some old) (sym (row_objects first q c.args.entries.now c.in-Some.ensures))) c.place_row.ensures
