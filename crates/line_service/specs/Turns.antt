-- Lines served one after another, each by one turn.
use Rattle.std.specs.Prelude.{ℕ, ◌≡◌, ◌≤◌, ◌⊎◌, List, [], ◌∷◌, ◌++◌, length, take, Bool, true, false, ⊤}
use Rattle.std.specs.declared.option.Option.{Option}
use Rattle.std.specs.Io.KnownBytes.{append_known}
use Rattle.pss_base.specs.declared.lines.LineStep.{LineStep}
use Rattle.pss_base.specs.declared.lines.LineStep.TheVariants.{Line, TooLong, End, Limit, ReadFault, NoMemory as OutOfMemory}
use Rattle.line_service.specs.declared.machine.Turn.{Turn}
use Rattle.line_service.specs.declared.machine.Turn.TheVariants.{Went, DiskFault, SpeakFault, NoMemory}

-- what a line makes of a state, and what is spoken for it
abbrev pub TurnOf : Type 0 → Type 0
TurnOf State = State → LineStep → State × List ℕ

-- the state after lines
abbrev pub after : {State : Type 0} → TurnOf State → State → List LineStep → State
after turn state [] = state
after turn state (line ∷ lines) = after turn (turn state line).0 lines

-- all that is spoken for lines
abbrev pub said : {State : Type 0} → TurnOf State → State → List LineStep → List ℕ
said turn state [] = []
said turn state (line ∷ lines) = (turn state line).1 ++ said turn (turn state line).0 lines

-- a line that is served: of at most 65,536 bytes, or one that was too long
abbrev pub IsLine : LineStep → Type 0
IsLine (Line text) = length text ≤ 65536
IsLine TooLong = ⊤
IsLine End = ⊥
IsLine Limit = ⊥
IsLine ReadFault = ⊥
IsLine OutOfMemory = ⊥

-- what is spoken for a line, by what became of it: all of it, some first bytes, or nothing
abbrev pub Speaks : Turn → List ℕ → Option (List ℕ) → Option (List ℕ) → Type 0
Speaks Went bytes old new = new ≡ append_known old bytes
Speaks DiskFault bytes old new = new ≡ old
Speaks SpeakFault bytes old new = (k : ℕ) × (new ≡ append_known old (take k bytes))
Speaks NoMemory bytes old new = new ≡ old

-- nothing of a text was spoken, or all of it
abbrev pub IsWhole : List ℕ → Option (List ℕ) → Option (List ℕ) → Type 0
IsWhole told before after = (after ≡ before) ⊎ (after ≡ append_known before told)

-- the same at a moment of a turn; where speech failed, it may be cut as it is at the end
abbrev pub SaidWhole : Turn → List ℕ → (before end here : Option (List ℕ)) → Type 0
SaidWhole result told before end here = IsWhole told before here ⊎ ((result ≡ SpeakFault) × (here ≡ end))

-- speech failed
abbrev pub is_speak_fault : Turn → Bool
is_speak_fault Went = false
is_speak_fault DiskFault = false
is_speak_fault SpeakFault = true
is_speak_fault NoMemory = false

-- the disk failed
abbrev pub is_disk_fault : Turn → Bool
is_disk_fault Went = false
is_disk_fault DiskFault = true
is_disk_fault SpeakFault = false
is_disk_fault NoMemory = false
