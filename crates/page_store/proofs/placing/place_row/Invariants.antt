use Rattle.std.proofs.Common.{ℕ, ◌≡◌, ◌-◌, ◌≤◌, cond, Some}
use Rattle.page_store.specs.Placed.{slot_under}
use Rattle.page_store.specs.inner.Rows.{is_in_row}
use Rattle.page_store.proofs.placing.place_row.Given as goal

abbrev pub invariant-loop-serial : goal.invariant-loop-serial
invariant-loop-serial l = record {
  begun : l.first ≤ l.serial;
  within : l.serial - l.first ≤ l.end - l.first;
  places : (q : ℕ) → slot_under q l.places.entries ≡ cond (is_in_row l.first (l.serial - l.first) q) (Some l.slot) (slot_under q l.fn.places.entries);
}
