use Rattle.std.proofs.Common.{◌≡◌, not, false, get_or, take}
use Rattle.std.specs.List.{filter}
use Rattle.page_store.proofs.parting.part_marked.Given as goal

abbrev pub invariant-loop-slot : goal.invariant-loop-slot
invariant-loop-slot l = record {
  repacked : l.parted.repacked ≡ filter (λ s. get_or l.marks s false) (take l.slot-index l.slots);
  kept : l.parted.kept ≡ filter (λ s. not (get_or l.marks s false)) (take l.slot-index l.slots);
}
