use Rattle.std.proofs.Common.{◌≡◌, take}
use Rattle.incarnations.specs.Meaning.{Leaves, loosened}
use Rattle.pss_copies.specs.Settling.{on_bodies}
use Rattle.pss_copies.proofs.settling.detach_bodies.Given as goal

abbrev pub invariant-loop-pid : goal.invariant-loop-pid
invariant-loop-pid g l = record {
  lasts : l.copies.lasts ≡ l.fn.copies.lasts;
  left : Leaves (loosened (on_bodies l.view (take l.pid-index l.pids))) l.fn.copies l.copies;
}
