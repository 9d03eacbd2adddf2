-- What is spoken for the lines of a script, how it ends, and which moments pass.
use Rattle.std.specs.Prelude.{ℕ, ◌≡◌, ◌⊎◌, List, [], ◌∷◌, ◌++◌, take, slice_get, Bool, true, false, Some, if◌then◌else◌, IfSome, codes}
use Rattle.std.specs.declared.option.Option.{Option}
use Rattle.std.specs.Io.KnownBytes.{append_known, Consumes}
use Rattle.pss_base.specs.Lines.{raw_lines, lines, is_over, ended_lines}
use Rattle.pss_base.specs.declared.lines.LineStep.{LineStep}
use Rattle.pss_disk.specs.Moments.{Moment, Disk}
use Rattle.line_service.specs.Turns.{TurnOf, after, said}
use Rattle.line_service.specs.declared.serving.Ending.{Ending}
use Rattle.line_service.specs.declared.serving.Ending.TheVariants as ending

-- at most so many lines of a script are served, of at most so many bytes in all
pub record Limits : Type 0 where
  pub lines : ℕ
  pub bytes : ℕ

-- what was to come of the script and what had been spoken, before its lines were served and after it
pub record Streams : Type 0 where
  pub script : Option (List ℕ)
  pub left : Option (List ℕ)
  pub before : Option (List ℕ)
  pub after : Option (List ℕ)

-- what is spoken behind the replies where the script is over its limit
abbrev pub too_long_text : List ℕ
too_long_text = codes "script too long" ++ 10 ∷ []

-- the lines that are served of a script
abbrev pub lines_of : Limits → List ℕ → List LineStep
lines_of limits bytes = lines limits.lines limits.bytes bytes

-- more comes behind them
abbrev pub goes_past : Limits → List ℕ → Bool
goes_past limits bytes = is_over limits.lines limits.bytes (raw_lines bytes)

-- all that is spoken for a script where nothing fails
abbrev pub all_said : {State : Type 0} → TurnOf State → State → Limits → List ℕ → List ℕ
all_said turn first limits bytes = said turn first (lines_of limits bytes) ++ (if goes_past limits bytes then too_long_text else [])

-- some first bytes of it
abbrev pub SaidInPart : {State : Type 0} → TurnOf State → State → Limits → (script before after : Option (List ℕ)) → Type 0
SaidInPart turn first limits script before after = IfSome script (λ bytes. (k : ℕ) × (after ≡ append_known before (take k (all_said turn first limits bytes))))

-- the replies to some first lines
abbrev pub SaidSome : {State : Type 0} → TurnOf State → State → Limits → (script before after : Option (List ℕ)) → Type 0
SaidSome turn first limits script before after = IfSome script (λ bytes. (k : ℕ) × (after ≡ append_known before (said turn first (take k (lines_of limits bytes)))))

-- what is spoken by the end of some line: the replies to some first lines; or all there is to say of a script over its limit
abbrev pub SaidByLines : {State : Type 0} → TurnOf State → State → Limits → (script before after : Option (List ℕ)) → Type 0
SaidByLines turn first limits script before after = IfSome script (λ bytes.
    ((k : ℕ) × (after ≡ append_known before (said turn first (take k (lines_of limits bytes)))))
    ⊎ ((goes_past limits bytes ≡ true) × (after ≡ append_known before (said turn first (lines_of limits bytes) ++ too_long_text))))

-- What was spoken by the end, what is left of the script, and the state that the machine is in, for each way in which
-- serving a script ends.
abbrev pub Says : {State : Type 0} → TurnOf State → State → Limits → Ending → Streams → (State → Type 0) → Type 0
Says turn first limits ending.End streams IsIn = IfSome streams.script (λ bytes.
    (goes_past limits bytes ≡ false)
    × (streams.after ≡ append_known streams.before (said turn first (lines_of limits bytes)))
    × (streams.left ≡ Some [])
    × IsIn (after turn first (lines_of limits bytes)))
Says turn first limits ending.TooLong streams IsIn = IfSome streams.script (λ bytes.
    (goes_past limits bytes ≡ true)
    × (streams.after ≡ append_known streams.before (said turn first (lines_of limits bytes) ++ too_long_text))
    × IsIn (after turn first (lines_of limits bytes)))
Says turn first limits ending.ReadFault streams IsIn =
    (taken : List ℕ) × Consumes streams.script streams.left taken
    × (streams.after ≡ append_known streams.before (said turn first (ended_lines taken)))
    × IsIn (after turn first (ended_lines taken))
Says turn first limits ending.DiskFault streams IsIn = SaidSome turn first limits streams.script streams.before streams.after
Says turn first limits ending.SpeakFault streams IsIn = SaidInPart turn first limits streams.script streams.before streams.after
Says turn first limits ending.NoMemory streams IsIn = SaidSome turn first limits streams.script streams.before streams.after

-- a moment at which the line behind so many is served
abbrev pub AtLine : {State : Type 0} → TurnOf State → (State → LineStep → Option (List ℕ) → Moment → Type 0) → State → List LineStep → Option (List ℕ) → Moment → Type 0
AtLine turn passes first lines before m =
    (k : ℕ) × (line : LineStep) × (slice_get lines k ≡ Some line)
    × passes (after turn first (take k lines)) line (append_known before (said turn first (take k lines))) m

-- A moment that comes while a script is served: one at which a line is, or one behind all lines, at which the limit is told.
abbrev pub Comes : {State : Type 0} → TurnOf State → (State → LineStep → Option (List ℕ) → Moment → Type 0) → (State → Option Disk → Type 0) → State → Limits → (script before : Option (List ℕ)) → Moment → Type 0
Comes turn passes rests first limits script before m = IfSome script (λ bytes.
    AtLine turn passes first (lines_of limits bytes) before m
    ⊎ ((goes_past limits bytes ≡ true) × rests (after turn first (lines_of limits bytes)) m.disk))

-- speech failed, and it is what was spoken at last: only then a reply may be cut
abbrev pub IsCut : Ending → Option (List ℕ) → Option (List ℕ) → Type 0
IsCut result after spoken = (result ≡ ending.SpeakFault) × (spoken ≡ after)

-- the source failed
abbrev pub is_read_fault : Ending → Bool
is_read_fault ending.End = false
is_read_fault ending.TooLong = false
is_read_fault ending.ReadFault = true
is_read_fault ending.DiskFault = false
is_read_fault ending.SpeakFault = false
is_read_fault ending.NoMemory = false

-- speech failed
abbrev pub is_speak_fault : Ending → Bool
is_speak_fault ending.End = false
is_speak_fault ending.TooLong = false
is_speak_fault ending.ReadFault = false
is_speak_fault ending.DiskFault = false
is_speak_fault ending.SpeakFault = true
is_speak_fault ending.NoMemory = false

-- the disk failed
abbrev pub is_disk_fault : Ending → Bool
is_disk_fault ending.End = false
is_disk_fault ending.TooLong = false
is_disk_fault ending.ReadFault = false
is_disk_fault ending.DiskFault = true
is_disk_fault ending.SpeakFault = false
is_disk_fault ending.NoMemory = false
