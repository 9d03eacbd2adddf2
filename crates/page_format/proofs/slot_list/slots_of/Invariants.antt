use Rattle.std.proofs.Common.{ℕ, ◌≡◌, ◌*◌, ◌<◌, length, get_or}
use Rattle.pss_disk.specs.Parts.{number4}
use Rattle.page_format.proofs.slot_list.slots_of.Given as goal

abbrev pub invariant-loop-k : goal.invariant-loop-k
invariant-loop-k l = record {
  len : length l.slots ≡ l.k;
  slots : (j : ℕ) → j < l.k → number4 l.octets (j * 4) ≡ get_or l.slots j 0;
}
