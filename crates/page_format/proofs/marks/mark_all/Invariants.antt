use Rattle.std.proofs.Common.{ℕ, ◌≡◌, ◌+◌, ◌<◌, ◌≤◌, ◌||◌, false, length, get_or, take}
use Rattle.page_format.specs.Packing.{is_among}
use Rattle.page_format.specs.inner.Marks.{count_marked}
use Rattle.page_format.proofs.marks.mark_all.Given as goal

abbrev pub invariant-loop-slot : goal.invariant-loop-slot
invariant-loop-slot l = record {
  len : length l.marks ≡ 16384;
  marked : (s : ℕ) → s < 16384 → get_or l.marks s false ≡ (is_among s (take l.slot-index l.slots) || get_or l.fn.marks s false);
  few : count_marked l.marks ≤ count_marked l.fn.marks + l.slot-index;
}
