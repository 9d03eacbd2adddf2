use Rattle.std.proofs.Common.{◌≡◌, Some}
use Rattle.pss_disk.specs.Moments.{IsSettled}
use Rattle.pss_disk.specs.Tape.{now_of, state_of}
use Rattle.recovery_cases.proofs.runs.make_all.Given as goal

abbrev pub invariant-loop-index : goal.invariant-loop-index
invariant-loop-index l = record {
  settled : IsSettled (Some (state_of l.station).content) (now_of l.station);
  next : l.store.next ≡ l.next;
}
