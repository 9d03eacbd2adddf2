-- What the lines of a demonstration do, over a station whose functions are given.
use Rattle.std.specs.Prelude.{ℕ, List, Result, OnOk}
use Rattle.std.specs.declared.option.Option.{Option}
use Rattle.pss_base.specs.Causes.{HasCauseIf}
use Rattle.pss_base.specs.declared.lines.LineStep.{LineStep}
use Rattle.pss_base.specs.declared.stop.StoreStop.{StoreStop}
use Rattle.pss_disk.specs.Moments.{IsSettled, Moment}
use Rattle.page_format.specs.Faults.{is_disk_stop}
use Rattle.pss_recovery.specs.Silence.{IsSilent}
use Rattle.people_demo.specs.inner.Showing.{Showing, IsShowing, served_all}
use Rattle.people_demo.specs.declared.showing.Show.{Show}

-- these lines were served by then, if no store and no memory was wanting; nothing was spoken
pub record Serves {W : Type 0} (now : W → Moment) (history : W → List Moment) (content : W → Option (List ℕ)) (disk_faults speak_faults : W → ℕ)
    (lines : List LineStep) (result : Result (Unit {0}) StoreStop) (old new : W) (before after : Show) : Type 0 where
  pub shows : OnOk result ((s : Showing) → IsShowing before s (content old) → IsShowing after (served_all s lines) (content new))
  pub settled : OnOk result (IsSettled (content new) (now new))
  pub silent : IsSilent now history speak_faults old new
  pub cause : HasCauseIf (disk_faults old) (disk_faults new) (is_disk_stop result)
