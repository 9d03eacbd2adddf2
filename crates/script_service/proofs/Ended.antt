-- What is so at the end of a script, and at its moments, of the state that the machine is in then.
use Rattle.std.proofs.Common.{ℕ, inl, inr, List, Option, None, Some}
use Rattle.pss_base.specs.declared.lines.LineStep.{LineStep}
use Rattle.pss_disk.specs.Moments.{Disk, Moment}
use Rattle.line_service.specs.Turns.{TurnOf}
use Rattle.line_service.specs.Runs.{Comes, Limits, Says, Streams}
use Rattle.line_service.specs.declared.serving.Ending.{Ending}
use Rattle.line_service.specs.declared.serving.Ending.TheVariants as ending

module _ {State : Type 0} (turn : TurnOf State) (first : State) (limits : Limits) where
  -- what follows from the machine's state follows at the end
  pub says_weaker : (IsIn IsSo : State → Type 0) → ((state : State) → IsIn state → IsSo state) → (result : Ending) (streams : Streams) → Says turn first limits result streams IsIn → Says turn first limits result streams IsSo
  says_weaker IsIn IsSo f ending.End streams says = by streams.script says
    where
      by : (script : Option (List ℕ)) → Says turn first limits ending.End (record streams { script = script }) IsIn → Says turn first limits ending.End (record streams { script = script }) IsSo
      by None says = tt
      by (Some bytes) says = (says.0, says.1, says.2, f _ says.3)
  says_weaker IsIn IsSo f ending.TooLong streams says = by streams.script says
    where
      by : (script : Option (List ℕ)) → Says turn first limits ending.TooLong (record streams { script = script }) IsIn → Says turn first limits ending.TooLong (record streams { script = script }) IsSo
      by None says = tt
      by (Some bytes) says = (says.0, says.1, f _ says.2)
  says_weaker IsIn IsSo f ending.ReadFault streams says = (says.0, says.1, says.2, f _ says.3)
  says_weaker IsIn IsSo f ending.DiskFault streams says = says
  says_weaker IsIn IsSo f ending.SpeakFault streams says = says
  says_weaker IsIn IsSo f ending.NoMemory streams says = says

  -- and behind all lines
  pub comes_weaker : (passes : State → LineStep → Option (List ℕ) → Moment → Type 0) (Rests IsSo : State → Option Disk → Type 0) → ((state : State) (disk : Option Disk) → Rests state disk → IsSo state disk)
      → (script before : Option (List ℕ)) (m : Moment) → Comes turn passes Rests first limits script before m → Comes turn passes IsSo first limits script before m
  comes_weaker passes Rests IsSo f None before m comes = tt
  comes_weaker passes Rests IsSo f (Some bytes) before m (inl at_line) = inl at_line
  comes_weaker passes Rests IsSo f (Some bytes) before m (inr behind) = inr (behind.0, f _ _ behind.1)
