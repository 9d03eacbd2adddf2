use Rattle.std.proofs.Common.{◌-◌, ◌≡◌, ◌≤◌, length, IfSome}
use Rattle.pss_disk.specs.Octets.{octets_in}
use Rattle.pss_disk.specs.Reading.{OnlyReads}
use Rattle.redo_journal.specs.inner.Window.{IsPiece}
use Rattle.redo_journal.proofs.records.fill_body.Given as goal

abbrev pub invariant-loop-done : goal.invariant-loop-done
invariant-loop-done g l = record {
  most : l.done ≤ l.len;
  len : length l.body ≡ l.done;
  filled : IfSome (g.W.Station.content l.fn.w) (λ c. l.body ≡ octets_in (record { at = l.at; count = l.done }) c);
  piece : IsPiece (g.W.Station.content l.w) l.window;
  reads : OnlyReads g.W.Station.now g.W.Station.content g.W.Station.history g.W.Station.speak_faults l.fn.w l.w;
  cause : g.W.Station.disk_faults l.w ≡ g.W.Station.disk_faults l.fn.w;
}

abbrev pub decreases-loop-done : goal.decreases-loop-done
decreases-loop-done g l = l.len - l.done
