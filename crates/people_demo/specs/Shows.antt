-- How a demonstration ends.
use Rattle.std.specs.Prelude.{ℕ, ◌≡◌, List, map, Bool, true, false, None, IfSome, Result, Ok, Err}
use Rattle.std.specs.declared.option.Option.{Option}
use Rattle.std.specs.FinMap.{empty}
use Rattle.std.specs.Io.KnownBytes.{append_known}
use Rattle.pss_machine.specs.Limits.{standard}
use Rattle.pss_machine.specs.Run.{first, replies}
use Rattle.commit_saving.specs.Saving.{IfTold}
use Rattle.store_refusals.specs.Lines.{IsFilled, IsFilledKept, WasEmpty}
use Rattle.line_service.specs.Spoken.{SaidOf}
use Rattle.line_service.specs.Turns.{after}
use Rattle.script_service.specs.Turns.{Running, start, told_by, turn_from}
use Rattle.script_service.specs.Keeping.{StandsFor}
use Rattle.people_demo.specs.People.{people}
use Rattle.people_demo.specs.Lines.{demo_lines}
use Rattle.people_demo.specs.Tally.{demo_line, tally_of}
use Rattle.people_demo.specs.declared.demo.DemoStop.{DemoStop}
use Rattle.people_demo.specs.declared.demo.DemoStop.TheVariants as stop

-- what is kept and stored after so many rounds over a new store
abbrev pub shown : ℕ → Running
shown rounds = after turn_from (start people standard empty 1 true) (demo_lines rounds)

-- what is spoken of them: their replies, counted
abbrev pub shown_line : ℕ → List ℕ
shown_line rounds = demo_line rounds (tally_of (replies people standard (first empty 1) (map told_by (demo_lines rounds))))

-- a text is that line, where the content of the station was told
abbrev pub IsShownLine : ℕ → Option (List ℕ) → List ℕ → Type 0
IsShownLine rounds held line = IfSome held (λ octets. line ≡ shown_line rounds)

-- where the content of the station was told, it is told and stands for what is kept and stored after so many rounds
abbrev pub HoldsShown : ℕ → (held holds : Option (List ℕ)) → Type 0
HoldsShown rounds held holds = IfSome held (λ octets. IfTold holds (StandsFor (shown rounds)))

-- What was spoken by then, and what the store stands for, where its content was told before. A store is made in an empty file alone, and a
-- file that has octets is as it was, whatever the answer; a store that was made is mounted.
abbrev pub Shows : ℕ → Result (Unit {0}) DemoStop → (before after held holds : Option (List ℕ)) → Type 0
Shows rounds (Ok done) before after held holds =
    ((line : List ℕ) × IsShownLine rounds held line × (after ≡ append_known before line)) × HoldsShown rounds held holds × WasEmpty held
Shows rounds (Err stop.NotEmpty) before after held holds = IsFilled held × (after ≡ before) × (holds ≡ held)
Shows rounds (Err (stop.Refused why)) before after held holds = (held ≡ None) × (after ≡ before)
Shows rounds (Err stop.DiskFault) before after held holds = (after ≡ before) × IsFilledKept held holds
Shows rounds (Err stop.SpeakFault) before after held holds = ((line : List ℕ) × IsShownLine rounds held line × SaidOf line before after) × WasEmpty held
Shows rounds (Err stop.NoMemory) before after held holds = (after ≡ before) × IsFilledKept held holds

-- the disk failed
abbrev pub is_disk_fault : {T : Type 0} → Result T DemoStop → Bool
is_disk_fault (Ok t) = false
is_disk_fault (Err stop.NotEmpty) = false
is_disk_fault (Err (stop.Refused why)) = false
is_disk_fault (Err stop.DiskFault) = true
is_disk_fault (Err stop.SpeakFault) = false
is_disk_fault (Err stop.NoMemory) = false

-- speech failed
abbrev pub is_speak_fault : {T : Type 0} → Result T DemoStop → Bool
is_speak_fault (Ok t) = false
is_speak_fault (Err stop.NotEmpty) = false
is_speak_fault (Err (stop.Refused why)) = false
is_speak_fault (Err stop.DiskFault) = false
is_speak_fault (Err stop.SpeakFault) = true
is_speak_fault (Err stop.NoMemory) = false
