use Rattle.std.proofs.Common.{◌-◌, ◌≡◌, ◌<◌, ◌≤◌, IfSome}
use Rattle.pss_disk.specs.Reading.{OnlyReads}
use Rattle.redo_journal.specs.Journal.{Chain, journal_end, journal_start}
use Rattle.redo_journal.specs.inner.Window.{IsPiece}
use Rattle.redo_journal.proofs.records.read_records.Given as goal

abbrev pub invariant-records : goal.invariant-records
invariant-records g l = record {
  behind : journal_start ≤ l.gate;
  within : l.gate < journal_end;
  chain : IfSome (g.W.Station.content l.w) (λ c. Chain l.epoch c journal_start l.bodies l.gate);
  piece : IsPiece (g.W.Station.content l.w) l.window;
  reads : OnlyReads g.W.Station.now g.W.Station.content g.W.Station.history g.W.Station.speak_faults l.fn.w l.w;
  cause : g.W.Station.disk_faults l.w ≡ g.W.Station.disk_faults l.fn.w;
}

abbrev pub decreases-records : goal.decreases-records
decreases-records g l = journal_end - l.gate
