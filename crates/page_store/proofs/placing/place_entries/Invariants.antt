use Rattle.std.proofs.Common.{ℕ, ◌≡◌, cond, Some, take}
use Rattle.page_format.specs.Objects.{entries_left}
use Rattle.page_store.specs.Placed.{is_object, slot_under}
use Rattle.page_store.proofs.placing.place_entries.Given as goal

abbrev pub invariant-loop-put : goal.invariant-loop-put
invariant-loop-put l = (q : ℕ) → slot_under q l.places.entries ≡ cond (is_object q (entries_left (take l.put-index l.puts))) (Some l.slot) (slot_under q l.fn.places.entries)
