use Rattle.std.proofs.Common.{◌≡◌, ℕ, List, IsTrue}
use Rattle.std.specs.declared.option.Option.{Option}
use Rattle.std.specs.Io.KnownBytes.{prepend_known}
use Rattle.pss_disk.specs.Moments.{Through}
use Rattle.line_service.proofs.Progress.{Progress}
use Rattle.line_service.proofs.Passing.{Whole}
use Rattle.line_service.proofs.serving.serve.Given as goal

abbrev pub invariant-lines : goal.invariant-lines
invariant-lines g l = record {
  so_far : Progress g.M.LineMachine.turn (λ s. g.M.LineMachine.is_in l.fn.machine s (g.W.Station.content l.fn.station) (g.W.Station.now l.fn.station).disk)
      (λ s. g.M.LineMachine.is_in l.machine s (g.W.Station.content l.station) (g.W.Station.now l.station).disk)
      (record { lines = l.max_lines; bytes = l.max_bytes }) (g.C.Source.left l.fn.script) l.reader (prepend_known l.reader.ahead (g.C.Source.left l.script))
      (g.W.Station.now l.fn.station).spoken (g.W.Station.now l.station).spoken (g.M.LineMachine.served l.fn.machine) (g.M.LineMachine.served l.machine);
  moments : (s : g.M.LineMachine.State) → g.M.LineMachine.is_in l.fn.machine s (g.W.Station.content l.fn.station) (g.W.Station.now l.fn.station).disk
      → Through (g.W.Station.history l.fn.station) (g.W.Station.history l.station)
      (Whole g.M.LineMachine.turn g.M.LineMachine.passes (λ t disk. (machine : g.row.M.Denot) × (content : Option (List ℕ)) × g.M.LineMachine.is_in machine t content disk) s
      (record { lines = l.max_lines; bytes = l.max_bytes }) (g.C.Source.left l.fn.script) (g.W.Station.now l.fn.station).spoken);
  live : IsTrue l.reader.live;
  read : g.C.Source.faults l.script ≡ g.C.Source.faults l.fn.script;
  speak : g.W.Station.speak_faults l.station ≡ g.W.Station.speak_faults l.fn.station;
  disk : g.W.Station.disk_faults l.station ≡ g.W.Station.disk_faults l.fn.station;
}

abbrev pub decreases-lines : goal.decreases-lines
decreases-lines g l = l.reader.lines_left
