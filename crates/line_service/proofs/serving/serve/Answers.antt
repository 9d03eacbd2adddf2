use Rattle.std.proofs.Common.{ℕ, List, map, refl, sym, ap, subst, arith, None, ◌≡◌, ◌∙◌}
use Rattle.std.specs.declared.option.Option.{Option}
use Rattle.std.specs.Io.KnownBytes.{prepend_known}
use Rattle.pss_base.specs.Lines.{line_of}
use Rattle.pss_base.specs.Reading.{Reading}
use Rattle.pss_disk.specs.Moments.{Disk}
use Rattle.pss_disk.proofs.Passing.{none_came}
use Rattle.line_service.specs.Runs.{Limits}
use Rattle.line_service.specs.Turns.{IsLine, after}
use Rattle.line_service.specs.declared.machine.Turn.TheVariants as turns
use Rattle.line_service.specs.declared.serving.Ending.TheVariants as ending
use Rattle.line_service.proofs.Progress.{begun, goes_on, few, takes_of, not_fault, still_live, line_is_served}
use Rattle.line_service.proofs.Exits.{done, long, read_fault, some_lines, reply_fault, long_fault}
use Rattle.line_service.proofs.Passing.{all_whole, whole_line, cut_line, limit_whole, limit_cut, by_limit, moved, still_cause, risen_cause}
use Rattle.line_service.proofs.serving.serve.Goals as goal

pub lines-init : goal.lines-init
lines-init g c = record {
  so_far = rw c.new-reader.ensures (begun _ _ _ _ _ _);
  moments = λ s is. none_came _ _;
  live = rw c.new-reader.ensures refl;
  read = refl;
  speak = refl;
  disk = refl;
}

pub next-line-requires : goal.next-line-requires
next-line-requires g c = c.lines.invariant.live

-- ---- the reader stopped

pub returns-in-End : goal.returns-in-End
returns-in-End g c =
    let limits : Limits = record { lines = c.args.max_lines; bytes = c.args.max_bytes } in
    let WasIn = (λ (t : g.M.LineMachine.State). g.M.LineMachine.is_in c.args.machine.now t (g.W.Station.content c.args.station.now) (g.W.Station.now c.args.station.now).disk) in
    let IsIn = (λ (t : g.M.LineMachine.State). g.M.LineMachine.is_in c.lines.machine t (g.W.Station.content c.lines.station) (g.W.Station.now c.lines.station).disk) in
    let Rests = (λ (t : g.M.LineMachine.State) (disk : Option Disk). (machine : g.row.M.Denot) × (content : Option (List ℕ)) × g.M.LineMachine.is_in machine t content disk) in
    let old = (g.W.Station.now c.args.station.now).spoken in
    let mid = (g.W.Station.now c.lines.station).spoken in
    let before = g.C.Source.left c.args.script.now in
    let rest = prepend_known c.lines.reader.ahead (g.C.Source.left c.lines.script) in
    let left = g.C.Source.left c.next-line.new.src in
    let so_far = c.lines.invariant.so_far in
    record {
      says = λ s is. done limits c.lines.reader g.M.LineMachine.turn WasIn IsIn old mid s is before rest left c.next-line.new.self.ahead so_far.taken so_far.served c.in-End.ensures.step;
      moments = λ s is. all_whole g.M.LineMachine.turn g.M.LineMachine.passes Rests s limits before old ending.End mid (g.W.Station.history c.args.station.now) (g.W.Station.history c.lines.station) (c.lines.invariant.moments s is);
      read = still_cause (g.C.Source.faults c.args.script.now) (g.C.Source.faults c.next-line.new.src) (c.in-End.ensures.cause.kept refl ∙ c.lines.invariant.read);
      speech = still_cause (g.W.Station.speak_faults c.args.station.now) (g.W.Station.speak_faults c.lines.station) c.lines.invariant.speak;
      disk = still_cause (g.W.Station.disk_faults c.args.station.now) (g.W.Station.disk_faults c.lines.station) c.lines.invariant.disk;
    }

pub returns-in-ReadFault : goal.returns-in-ReadFault
returns-in-ReadFault g c =
    let limits : Limits = record { lines = c.args.max_lines; bytes = c.args.max_bytes } in
    let WasIn = (λ (t : g.M.LineMachine.State). g.M.LineMachine.is_in c.args.machine.now t (g.W.Station.content c.args.station.now) (g.W.Station.now c.args.station.now).disk) in
    let IsIn = (λ (t : g.M.LineMachine.State). g.M.LineMachine.is_in c.lines.machine t (g.W.Station.content c.lines.station) (g.W.Station.now c.lines.station).disk) in
    let Rests = (λ (t : g.M.LineMachine.State) (disk : Option Disk). (machine : g.row.M.Denot) × (content : Option (List ℕ)) × g.M.LineMachine.is_in machine t content disk) in
    let old = (g.W.Station.now c.args.station.now).spoken in
    let mid = (g.W.Station.now c.lines.station).spoken in
    let before = g.C.Source.left c.args.script.now in
    let rest = prepend_known c.lines.reader.ahead (g.C.Source.left c.lines.script) in
    let rest' = prepend_known c.next-line.new.self.ahead (g.C.Source.left c.next-line.new.src) in
    let left = g.C.Source.left c.next-line.new.src in
    let so_far = c.lines.invariant.so_far in
    record {
      says = λ s is. read_fault limits c.lines.reader g.M.LineMachine.turn WasIn IsIn old mid s is before rest rest' left c.next-line.new.self.ahead so_far.taken so_far.served refl c.in-ReadFault.ensures.step;
      moments = λ s is. all_whole g.M.LineMachine.turn g.M.LineMachine.passes Rests s limits before old ending.ReadFault mid (g.W.Station.history c.args.station.now) (g.W.Station.history c.lines.station) (c.lines.invariant.moments s is);
      read = risen_cause (g.C.Source.faults c.args.script.now) (g.C.Source.faults c.lines.script) (g.C.Source.faults c.next-line.new.src) c.lines.invariant.read c.in-ReadFault.ensures.cause.later (c.in-ReadFault.ensures.cause.rose refl);
      speech = still_cause (g.W.Station.speak_faults c.args.station.now) (g.W.Station.speak_faults c.lines.station) c.lines.invariant.speak;
      disk = still_cause (g.W.Station.disk_faults c.args.station.now) (g.W.Station.disk_faults c.lines.station) c.lines.invariant.disk;
    }

pub returns-in-NoMemory : goal.returns-in-NoMemory
returns-in-NoMemory g c =
    let limits : Limits = record { lines = c.args.max_lines; bytes = c.args.max_bytes } in
    let WasIn = (λ (t : g.M.LineMachine.State). g.M.LineMachine.is_in c.args.machine.now t (g.W.Station.content c.args.station.now) (g.W.Station.now c.args.station.now).disk) in
    let IsIn = (λ (t : g.M.LineMachine.State). g.M.LineMachine.is_in c.lines.machine t (g.W.Station.content c.lines.station) (g.W.Station.now c.lines.station).disk) in
    let Rests = (λ (t : g.M.LineMachine.State) (disk : Option Disk). (machine : g.row.M.Denot) × (content : Option (List ℕ)) × g.M.LineMachine.is_in machine t content disk) in
    let old = (g.W.Station.now c.args.station.now).spoken in
    let mid = (g.W.Station.now c.lines.station).spoken in
    let before = g.C.Source.left c.args.script.now in
    let rest = prepend_known c.lines.reader.ahead (g.C.Source.left c.lines.script) in
    let so_far = c.lines.invariant.so_far in
    record {
      says = λ s is. some_lines limits c.lines.reader g.M.LineMachine.turn WasIn IsIn old mid s is before rest mid so_far.taken so_far.served refl;
      moments = λ s is. all_whole g.M.LineMachine.turn g.M.LineMachine.passes Rests s limits before old ending.NoMemory mid (g.W.Station.history c.args.station.now) (g.W.Station.history c.lines.station) (c.lines.invariant.moments s is);
      read = still_cause (g.C.Source.faults c.args.script.now) (g.C.Source.faults c.next-line.new.src) (c.in-NoMemory.ensures.cause.kept refl ∙ c.lines.invariant.read);
      speech = still_cause (g.W.Station.speak_faults c.args.station.now) (g.W.Station.speak_faults c.lines.station) c.lines.invariant.speak;
      disk = still_cause (g.W.Station.disk_faults c.args.station.now) (g.W.Station.disk_faults c.lines.station) c.lines.invariant.disk;
    }

-- ---- the limit

pub returns-in-Ok : goal.returns-in-Ok
returns-in-Ok g c =
    let limits : Limits = record { lines = c.args.max_lines; bytes = c.args.max_bytes } in
    let WasIn = (λ (t : g.M.LineMachine.State). g.M.LineMachine.is_in c.args.machine.now t (g.W.Station.content c.args.station.now) (g.W.Station.now c.args.station.now).disk) in
    let IsIn = (λ (t : g.M.LineMachine.State). g.M.LineMachine.is_in c.lines.machine t (g.W.Station.content c.lines.station) (g.W.Station.now c.lines.station).disk) in
    let Rests = (λ (t : g.M.LineMachine.State) (disk : Option Disk). (machine : g.row.M.Denot) × (content : Option (List ℕ)) × g.M.LineMachine.is_in machine t content disk) in
    let old = (g.W.Station.now c.args.station.now).spoken in
    let mid = (g.W.Station.now c.lines.station).spoken in
    let before = g.C.Source.left c.args.script.now in
    let rest = prepend_known c.lines.reader.ahead (g.C.Source.left c.lines.script) in
    let rest' = prepend_known c.next-line.new.self.ahead (g.C.Source.left c.next-line.new.src) in
    let so_far = c.lines.invariant.so_far in
    record {
      says = λ s is. long limits c.lines.reader g.M.LineMachine.turn WasIn IsIn old mid s is (λ t. g.M.LineMachine.is_in c.lines.machine t (g.W.Station.content c.speak.new.station) (g.W.Station.now c.speak.new.station).disk) before rest rest' None (g.W.Station.now c.speak.new.station).spoken so_far.taken so_far.served c.in-Limit.ensures.step c.in-Ok.ensures.said
          (λ t here. moved (g.M.LineMachine.is_in c.lines.machine t) (g.W.Station.content c.lines.station) (g.W.Station.content c.speak.new.station) (g.W.Station.now c.lines.station).disk (g.W.Station.now c.speak.new.station).disk c.speak.ensures.content c.speak.ensures.disk here);
      moments = λ s is. limit_whole g.M.LineMachine.turn g.M.LineMachine.passes Rests limits c.lines.reader old s before rest rest' so_far.taken c.in-Limit.ensures.step (g.W.Station.now c.speak.new.station).spoken (g.W.Station.now c.lines.station).disk (c.lines.machine, g.W.Station.content c.lines.station, so_far.served.state s is) (g.W.Station.history c.args.station.now) (g.W.Station.history c.lines.station) (g.W.Station.history c.speak.new.station) ending.TooLong
          (by_limit g.M.LineMachine.turn s limits before None old (g.W.Station.now c.speak.new.station).spoken (λ t. g.M.LineMachine.is_in c.lines.machine t (g.W.Station.content c.speak.new.station) (g.W.Station.now c.speak.new.station).disk)
          (long limits c.lines.reader g.M.LineMachine.turn WasIn IsIn old mid s is (λ t. g.M.LineMachine.is_in c.lines.machine t (g.W.Station.content c.speak.new.station) (g.W.Station.now c.speak.new.station).disk) before rest rest' None (g.W.Station.now c.speak.new.station).spoken so_far.taken so_far.served c.in-Limit.ensures.step c.in-Ok.ensures.said
          (λ t here. moved (g.M.LineMachine.is_in c.lines.machine t) (g.W.Station.content c.lines.station) (g.W.Station.content c.speak.new.station) (g.W.Station.now c.lines.station).disk (g.W.Station.now c.speak.new.station).disk c.speak.ensures.content c.speak.ensures.disk here)))
          (c.lines.invariant.moments s is) c.speak.ensures.moments;
      read = still_cause (g.C.Source.faults c.args.script.now) (g.C.Source.faults c.next-line.new.src) (c.in-Limit.ensures.cause.kept refl ∙ c.lines.invariant.read);
      speech = still_cause (g.W.Station.speak_faults c.args.station.now) (g.W.Station.speak_faults c.speak.new.station) (c.in-Ok.ensures.cause.kept ∙ c.lines.invariant.speak);
      disk = still_cause (g.W.Station.disk_faults c.args.station.now) (g.W.Station.disk_faults c.speak.new.station) (c.speak.ensures.other ∙ c.lines.invariant.disk);
    }

pub returns-in-Err : goal.returns-in-Err
returns-in-Err g c =
    let limits : Limits = record { lines = c.args.max_lines; bytes = c.args.max_bytes } in
    let WasIn = (λ (t : g.M.LineMachine.State). g.M.LineMachine.is_in c.args.machine.now t (g.W.Station.content c.args.station.now) (g.W.Station.now c.args.station.now).disk) in
    let IsIn = (λ (t : g.M.LineMachine.State). g.M.LineMachine.is_in c.lines.machine t (g.W.Station.content c.lines.station) (g.W.Station.now c.lines.station).disk) in
    let Rests = (λ (t : g.M.LineMachine.State) (disk : Option Disk). (machine : g.row.M.Denot) × (content : Option (List ℕ)) × g.M.LineMachine.is_in machine t content disk) in
    let old = (g.W.Station.now c.args.station.now).spoken in
    let mid = (g.W.Station.now c.lines.station).spoken in
    let before = g.C.Source.left c.args.script.now in
    let rest = prepend_known c.lines.reader.ahead (g.C.Source.left c.lines.script) in
    let rest' = prepend_known c.next-line.new.self.ahead (g.C.Source.left c.next-line.new.src) in
    let so_far = c.lines.invariant.so_far in
    record {
      says = λ s is. long_fault limits c.lines.reader g.M.LineMachine.turn WasIn IsIn old mid s is before rest rest' (g.W.Station.now c.speak.new.station).spoken c.in-Err.ensures.part.0 so_far.taken so_far.served c.in-Limit.ensures.step c.in-Err.ensures.part.1;
      moments = λ s is. limit_cut g.M.LineMachine.turn g.M.LineMachine.passes Rests limits c.lines.reader old s before rest rest' so_far.taken c.in-Limit.ensures.step (g.W.Station.now c.speak.new.station).spoken (g.W.Station.now c.lines.station).disk (c.lines.machine, g.W.Station.content c.lines.station, so_far.served.state s is) (g.W.Station.history c.args.station.now) (g.W.Station.history c.lines.station) (g.W.Station.history c.speak.new.station) (c.lines.invariant.moments s is) c.speak.ensures.moments;
      read = still_cause (g.C.Source.faults c.args.script.now) (g.C.Source.faults c.next-line.new.src) (c.in-Limit.ensures.cause.kept refl ∙ c.lines.invariant.read);
      speech = risen_cause (g.W.Station.speak_faults c.args.station.now) (g.W.Station.speak_faults c.lines.station) (g.W.Station.speak_faults c.speak.new.station) c.lines.invariant.speak c.in-Err.ensures.cause.later c.in-Err.ensures.cause.failed;
      disk = still_cause (g.W.Station.disk_faults c.args.station.now) (g.W.Station.disk_faults c.speak.new.station) (c.speak.ensures.other ∙ c.lines.invariant.disk);
    }

-- ---- a line

pub serve_line-requires : goal.serve_line-requires
serve_line-requires g c =
    let limits : Limits = record { lines = c.args.max_lines; bytes = c.args.max_bytes } in
    let WasIn = (λ (t : g.M.LineMachine.State). g.M.LineMachine.is_in c.args.machine.now t (g.W.Station.content c.args.station.now) (g.W.Station.now c.args.station.now).disk) in
    let IsIn = (λ (t : g.M.LineMachine.State). g.M.LineMachine.is_in c.lines.machine t (g.W.Station.content c.lines.station) (g.W.Station.now c.lines.station).disk) in
    let old = (g.W.Station.now c.args.station.now).spoken in
    let mid = (g.W.Station.now c.lines.station).spoken in
    let before = g.C.Source.left c.args.script.now in
    let rest = prepend_known c.lines.reader.ahead (g.C.Source.left c.lines.script) in
    let rest' = prepend_known c.next-line.new.self.ahead (g.C.Source.left c.next-line.new.src) in
    let so_far = c.lines.invariant.so_far in
    let takes = takes_of c.lines.reader c.next-line.new.self rest rest' c.next-line.result c.next-line.ensures.step c.in-Line.is in
    record {
      line = subst IsLine (sym takes.told) (line_is_served takes.raw);
      few = few g.M.LineMachine.turn WasIn limits before old (g.M.LineMachine.served c.args.machine.now) IsIn c.lines.reader c.next-line.new.self rest rest' mid (g.M.LineMachine.served c.lines.machine) 4294967295 c.next-line.result so_far takes c.requires.few;
      stands = (after g.M.LineMachine.turn c.requires.stands.0 (map line_of so_far.taken.raws), so_far.served.state c.requires.stands.0 c.requires.stands.1);
    }

pub returns-in-DiskFault : goal.returns-in-DiskFault
returns-in-DiskFault g c =
    let limits : Limits = record { lines = c.args.max_lines; bytes = c.args.max_bytes } in
    let WasIn = (λ (t : g.M.LineMachine.State). g.M.LineMachine.is_in c.args.machine.now t (g.W.Station.content c.args.station.now) (g.W.Station.now c.args.station.now).disk) in
    let IsIn = (λ (t : g.M.LineMachine.State). g.M.LineMachine.is_in c.lines.machine t (g.W.Station.content c.lines.station) (g.W.Station.now c.lines.station).disk) in
    let Rests = (λ (t : g.M.LineMachine.State) (disk : Option Disk). (machine : g.row.M.Denot) × (content : Option (List ℕ)) × g.M.LineMachine.is_in machine t content disk) in
    let old = (g.W.Station.now c.args.station.now).spoken in
    let mid = (g.W.Station.now c.lines.station).spoken in
    let before = g.C.Source.left c.args.script.now in
    let rest = prepend_known c.lines.reader.ahead (g.C.Source.left c.lines.script) in
    let rest' = prepend_known c.next-line.new.self.ahead (g.C.Source.left c.next-line.new.src) in
    let so_far = c.lines.invariant.so_far in
    let takes = takes_of c.lines.reader c.next-line.new.self rest rest' c.next-line.result c.next-line.ensures.step c.in-Line.is in
    record {
      says = λ s is. some_lines limits c.lines.reader g.M.LineMachine.turn WasIn IsIn old mid s is before rest (g.W.Station.now c.serve_line.new.station).spoken so_far.taken so_far.served (c.in-DiskFault.ensures.speaks (after g.M.LineMachine.turn s (map line_of so_far.taken.raws)) (so_far.served.state s is));
      moments = λ s is. all_whole g.M.LineMachine.turn g.M.LineMachine.passes Rests s limits before old ending.DiskFault (g.W.Station.now c.serve_line.new.station).spoken (g.W.Station.history c.args.station.now) (g.W.Station.history c.serve_line.new.station) (
          whole_line g.M.LineMachine.turn g.M.LineMachine.passes Rests WasIn IsIn limits c.lines.reader old mid s is before rest rest' c.next-line.new.self c.next-line.result so_far.taken so_far.served takes (g.W.Station.now c.serve_line.new.station).spoken (g.W.Station.history c.args.station.now) (g.W.Station.history c.lines.station) (g.W.Station.history c.serve_line.new.station) turns.DiskFault (λ e. cc) (c.lines.invariant.moments s is) (c.in-DiskFault.ensures.moments (after g.M.LineMachine.turn s (map line_of so_far.taken.raws)) (so_far.served.state s is)));
      read = still_cause (g.C.Source.faults c.args.script.now) (g.C.Source.faults c.next-line.new.src) (c.next-line.ensures.cause.kept (not_fault c.next-line.result c.in-Line.is) ∙ c.lines.invariant.read);
      speech = still_cause (g.W.Station.speak_faults c.args.station.now) (g.W.Station.speak_faults c.serve_line.new.station) (c.in-DiskFault.ensures.speech.kept refl ∙ c.lines.invariant.speak);
      disk = risen_cause (g.W.Station.disk_faults c.args.station.now) (g.W.Station.disk_faults c.lines.station) (g.W.Station.disk_faults c.serve_line.new.station) c.lines.invariant.disk c.in-DiskFault.ensures.disk.later (c.in-DiskFault.ensures.disk.rose refl);
    }

pub returns-in-SpeakFault : goal.returns-in-SpeakFault
returns-in-SpeakFault g c =
    let limits : Limits = record { lines = c.args.max_lines; bytes = c.args.max_bytes } in
    let WasIn = (λ (t : g.M.LineMachine.State). g.M.LineMachine.is_in c.args.machine.now t (g.W.Station.content c.args.station.now) (g.W.Station.now c.args.station.now).disk) in
    let IsIn = (λ (t : g.M.LineMachine.State). g.M.LineMachine.is_in c.lines.machine t (g.W.Station.content c.lines.station) (g.W.Station.now c.lines.station).disk) in
    let Rests = (λ (t : g.M.LineMachine.State) (disk : Option Disk). (machine : g.row.M.Denot) × (content : Option (List ℕ)) × g.M.LineMachine.is_in machine t content disk) in
    let old = (g.W.Station.now c.args.station.now).spoken in
    let mid = (g.W.Station.now c.lines.station).spoken in
    let before = g.C.Source.left c.args.script.now in
    let rest = prepend_known c.lines.reader.ahead (g.C.Source.left c.lines.script) in
    let rest' = prepend_known c.next-line.new.self.ahead (g.C.Source.left c.next-line.new.src) in
    let so_far = c.lines.invariant.so_far in
    let takes = takes_of c.lines.reader c.next-line.new.self rest rest' c.next-line.result c.next-line.ensures.step c.in-Line.is in
    record {
      says = λ s is. reply_fault limits c.lines.reader g.M.LineMachine.turn WasIn IsIn old mid s is c.next-line.new.self before rest rest' (g.W.Station.now c.serve_line.new.station).spoken c.next-line.result (c.in-SpeakFault.ensures.speaks (after g.M.LineMachine.turn s (map line_of so_far.taken.raws)) (so_far.served.state s is)).0 so_far.taken so_far.served takes (c.in-SpeakFault.ensures.speaks (after g.M.LineMachine.turn s (map line_of so_far.taken.raws)) (so_far.served.state s is)).1;
      moments = λ s is. cut_line g.M.LineMachine.turn g.M.LineMachine.passes Rests WasIn IsIn limits c.lines.reader old mid s is before rest rest' c.next-line.new.self c.next-line.result so_far.taken so_far.served takes (g.W.Station.now c.serve_line.new.station).spoken (g.W.Station.history c.args.station.now) (g.W.Station.history c.lines.station) (g.W.Station.history c.serve_line.new.station) (c.lines.invariant.moments s is) (c.in-SpeakFault.ensures.moments (after g.M.LineMachine.turn s (map line_of so_far.taken.raws)) (so_far.served.state s is));
      read = still_cause (g.C.Source.faults c.args.script.now) (g.C.Source.faults c.next-line.new.src) (c.next-line.ensures.cause.kept (not_fault c.next-line.result c.in-Line.is) ∙ c.lines.invariant.read);
      speech = risen_cause (g.W.Station.speak_faults c.args.station.now) (g.W.Station.speak_faults c.lines.station) (g.W.Station.speak_faults c.serve_line.new.station) c.lines.invariant.speak c.in-SpeakFault.ensures.speech.later (c.in-SpeakFault.ensures.speech.rose refl);
      disk = still_cause (g.W.Station.disk_faults c.args.station.now) (g.W.Station.disk_faults c.serve_line.new.station) (c.in-SpeakFault.ensures.disk.kept refl ∙ c.lines.invariant.disk);
    }

pub returns-in-NoMemory-serve_line : goal.returns-in-NoMemory-serve_line
returns-in-NoMemory-serve_line g c =
    let limits : Limits = record { lines = c.args.max_lines; bytes = c.args.max_bytes } in
    let WasIn = (λ (t : g.M.LineMachine.State). g.M.LineMachine.is_in c.args.machine.now t (g.W.Station.content c.args.station.now) (g.W.Station.now c.args.station.now).disk) in
    let IsIn = (λ (t : g.M.LineMachine.State). g.M.LineMachine.is_in c.lines.machine t (g.W.Station.content c.lines.station) (g.W.Station.now c.lines.station).disk) in
    let Rests = (λ (t : g.M.LineMachine.State) (disk : Option Disk). (machine : g.row.M.Denot) × (content : Option (List ℕ)) × g.M.LineMachine.is_in machine t content disk) in
    let old = (g.W.Station.now c.args.station.now).spoken in
    let mid = (g.W.Station.now c.lines.station).spoken in
    let before = g.C.Source.left c.args.script.now in
    let rest = prepend_known c.lines.reader.ahead (g.C.Source.left c.lines.script) in
    let rest' = prepend_known c.next-line.new.self.ahead (g.C.Source.left c.next-line.new.src) in
    let so_far = c.lines.invariant.so_far in
    let takes = takes_of c.lines.reader c.next-line.new.self rest rest' c.next-line.result c.next-line.ensures.step c.in-Line.is in
    record {
      says = λ s is. some_lines limits c.lines.reader g.M.LineMachine.turn WasIn IsIn old mid s is before rest (g.W.Station.now c.serve_line.new.station).spoken so_far.taken so_far.served (c.in-NoMemory-serve_line.ensures.speaks (after g.M.LineMachine.turn s (map line_of so_far.taken.raws)) (so_far.served.state s is));
      moments = λ s is. all_whole g.M.LineMachine.turn g.M.LineMachine.passes Rests s limits before old ending.NoMemory (g.W.Station.now c.serve_line.new.station).spoken (g.W.Station.history c.args.station.now) (g.W.Station.history c.serve_line.new.station) (
          whole_line g.M.LineMachine.turn g.M.LineMachine.passes Rests WasIn IsIn limits c.lines.reader old mid s is before rest rest' c.next-line.new.self c.next-line.result so_far.taken so_far.served takes (g.W.Station.now c.serve_line.new.station).spoken (g.W.Station.history c.args.station.now) (g.W.Station.history c.lines.station) (g.W.Station.history c.serve_line.new.station) turns.NoMemory (λ e. cc) (c.lines.invariant.moments s is) (c.in-NoMemory-serve_line.ensures.moments (after g.M.LineMachine.turn s (map line_of so_far.taken.raws)) (so_far.served.state s is)));
      read = still_cause (g.C.Source.faults c.args.script.now) (g.C.Source.faults c.next-line.new.src) (c.next-line.ensures.cause.kept (not_fault c.next-line.result c.in-Line.is) ∙ c.lines.invariant.read);
      speech = still_cause (g.W.Station.speak_faults c.args.station.now) (g.W.Station.speak_faults c.serve_line.new.station) (c.in-NoMemory-serve_line.ensures.speech.kept refl ∙ c.lines.invariant.speak);
      disk = still_cause (g.W.Station.disk_faults c.args.station.now) (g.W.Station.disk_faults c.serve_line.new.station) (c.in-NoMemory-serve_line.ensures.disk.kept refl ∙ c.lines.invariant.disk);
    }

-- ---- the next line

pub lines-preserved : goal.lines-preserved
lines-preserved g c =
    let limits : Limits = record { lines = c.args.max_lines; bytes = c.args.max_bytes } in
    let WasIn = (λ (t : g.M.LineMachine.State). g.M.LineMachine.is_in c.args.machine.now t (g.W.Station.content c.args.station.now) (g.W.Station.now c.args.station.now).disk) in
    let IsIn = (λ (t : g.M.LineMachine.State). g.M.LineMachine.is_in c.lines.machine t (g.W.Station.content c.lines.station) (g.W.Station.now c.lines.station).disk) in
    let Rests = (λ (t : g.M.LineMachine.State) (disk : Option Disk). (machine : g.row.M.Denot) × (content : Option (List ℕ)) × g.M.LineMachine.is_in machine t content disk) in
    let old = (g.W.Station.now c.args.station.now).spoken in
    let mid = (g.W.Station.now c.lines.station).spoken in
    let before = g.C.Source.left c.args.script.now in
    let rest = prepend_known c.lines.reader.ahead (g.C.Source.left c.lines.script) in
    let rest' = prepend_known c.next-line.new.self.ahead (g.C.Source.left c.next-line.new.src) in
    let so_far = c.lines.invariant.so_far in
    let takes = takes_of c.lines.reader c.next-line.new.self rest rest' c.next-line.result c.next-line.ensures.step c.in-Line.is in
    rw c.give_back.ensures (record {
      so_far = goes_on g.M.LineMachine.turn WasIn limits before old (g.M.LineMachine.served c.args.machine.now) IsIn (λ t. g.M.LineMachine.is_in c.serve_line.new.self t (g.W.Station.content c.serve_line.new.station) (g.W.Station.now c.serve_line.new.station).disk) c.lines.reader c.next-line.new.self rest rest' mid (g.W.Station.now c.serve_line.new.station).spoken (g.M.LineMachine.served c.lines.machine) (g.M.LineMachine.served c.serve_line.new.self) c.next-line.result so_far takes (c.in-Went.ensures.went refl) c.in-Went.ensures.speaks (c.in-Went.ensures.served refl);
      moments = λ s is. whole_line g.M.LineMachine.turn g.M.LineMachine.passes Rests WasIn IsIn limits c.lines.reader old mid s is before rest rest' c.next-line.new.self c.next-line.result so_far.taken so_far.served takes (g.W.Station.now c.serve_line.new.station).spoken (g.W.Station.history c.args.station.now) (g.W.Station.history c.lines.station) (g.W.Station.history c.serve_line.new.station) turns.Went (λ e. cc) (c.lines.invariant.moments s is) (c.in-Went.ensures.moments (after g.M.LineMachine.turn s (map line_of so_far.taken.raws)) (so_far.served.state s is));
      live = still_live c.next-line.result c.next-line.new.self.live c.next-line.ensures.live c.in-Line.is;
      read = c.next-line.ensures.cause.kept (not_fault c.next-line.result c.in-Line.is) ∙ c.lines.invariant.read;
      speak = c.in-Went.ensures.speech.kept refl ∙ c.lines.invariant.speak;
      disk = c.in-Went.ensures.disk.kept refl ∙ c.lines.invariant.disk;
    })

pub lines-smaller : goal.lines-smaller
lines-smaller g c =
    let rest = prepend_known c.lines.reader.ahead (g.C.Source.left c.lines.script) in
    let rest' = prepend_known c.next-line.new.self.ahead (g.C.Source.left c.next-line.new.src) in
    let takes = takes_of c.lines.reader c.next-line.new.self rest rest' c.next-line.result c.next-line.ensures.step c.in-Line.is in
    let kept : c.give_back.new.self.lines_left ≡ c.next-line.new.self.lines_left = ap (λ (r : Reading). r.lines_left) c.give_back.ensures in
    omega (arith, takes.lines, kept)
