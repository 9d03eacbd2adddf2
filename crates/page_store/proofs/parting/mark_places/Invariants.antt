use Rattle.std.proofs.Common.{ℕ, ◌≡◌, ◌<◌, ◌||◌, None, cond, false, length, get_or, take}
use Rattle.page_store.specs.Placed.{is_noted, slot_under}
use Rattle.page_store.specs.Touched.{is_touched, under_serials}
use Rattle.page_store.proofs.parting.mark_places.Given as goal

abbrev pub invariant-loop-put : goal.invariant-loop-put
invariant-loop-put l = record {
  len : length l.marks ≡ 16384;
  marked : (s : ℕ) → s < 16384 → get_or l.marks s false ≡ (is_touched (under_serials l.fn.places.entries) (take l.put-index l.noted) s || get_or l.fn.marks s false);
  places : (q : ℕ) → slot_under q l.places.entries ≡ cond (is_noted q (take l.put-index l.noted)) None (slot_under q l.fn.places.entries);
}
