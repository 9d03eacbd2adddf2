-- What one call of a reader of lines does.
use Rattle.std.specs.Prelude.{ℕ, ◌≡◌, ◌⊎◌, ◌+◌, ◌<◌, ◌++◌, List, [], ◌∷◌, length, Bool, true, false, not, ◌||◌, ◌==◌, nat_lt, if◌then◌else◌, IsTrue}
use Rattle.std.specs.declared.option.Option.{Option}
use Rattle.std.specs.Io.KnownBytes.{prepend_known, Consumes, IsAtEnd}
use Rattle.pss_base.specs.declared.lines.LineStep.{LineStep}
use Rattle.pss_base.specs.declared.lines.LineStep.TheVariants.{Line, TooLong, End, Limit, ReadFault, NoMemory}
use Rattle.pss_base.specs.Lines.{has_lf, bytes_of, line_of}

-- a reader of lines between its calls
pub record Reading : Type 0 where
  -- the bytes that were read and belong to no line yet
  pub ahead : List ℕ
  pub lines_left : ℕ
  pub bytes_left : ℕ
  -- the end was seen
  pub at_end : Bool
  pub live : Bool

-- a reader of so many lines and bytes that has read nothing
abbrev pub new_reading : ℕ → ℕ → Reading
new_reading n b = record { ahead = []; lines_left = n; bytes_left = b; at_end = false; live = true }

-- all that is to come: what the reader has, and then what its source has
abbrev pub to_come : Reading → Option (List ℕ) → Option (List ℕ)
to_come reader left = prepend_known reader.ahead left

-- how many bytes the next line may have
abbrev pub most_bytes : ℕ → ℕ → ℕ
most_bytes lines_left bytes_left = if lines_left == 0 then 0 else bytes_left

-- what is ahead has the end of a line, or a byte more than a line may have
abbrev pub holds_line : ℕ → List ℕ → Bool
holds_line most ahead = has_lf ahead || nat_lt most (length ahead)

-- the reader's next step shows in what it has: it saw the end, or it holds a line
abbrev pub has_next : Reading → Bool
has_next r = r.at_end || holds_line (most_bytes r.lines_left r.bytes_left) r.ahead

-- one line was taken, and is told by this step
pub record TakesLine (old new : Reading) (before after : Option (List ℕ)) (step : LineStep) : Type 0 where
  pub raw : List ℕ × Bool
  pub one : has_lf raw.0 ≡ false
  pub taken : Consumes before after (bytes_of raw)
  pub told : step ≡ line_of raw
  pub lines : old.lines_left ≡ new.lines_left + 1
  pub bytes : old.bytes_left ≡ new.bytes_left + length (bytes_of raw)
  pub last : raw.1 ≡ false → (0 < length raw.0) × IsAtEnd after
  -- the end was not seen before, and was now where the line has no line feed
  pub more : old.at_end ≡ false
  pub end : new.at_end ≡ not raw.1

-- no line was taken, but maybe the first bytes of one
abbrev pub TakesNoLine : Option (List ℕ) → Option (List ℕ) → Type 0
TakesNoLine before after = (part : List ℕ) × Consumes before after part × (has_lf part ≡ false)

-- one byte more than may be read of a line, or after so many lines
pub record IsOver (old : Reading) (before after : Option (List ℕ)) : Type 0 where
  pub part : List ℕ
  pub next : ℕ
  pub taken : Consumes before after (part ++ next ∷ [])
  pub one : has_lf part ≡ false
  pub more : old.at_end ≡ false
  pub over : (old.lines_left ≡ 0) ⊎ (length part ≡ old.bytes_left)

-- what a call of the reader brings, by what is to come before it and after it
abbrev pub NextLine : Reading → Reading → Option (List ℕ) → Option (List ℕ) → LineStep → Type 0
NextLine old new before after (Line text) = TakesLine old new before after (Line text)
NextLine old new before after TooLong = TakesLine old new before after TooLong
NextLine old new before after End = Consumes before after [] × (IsTrue old.at_end ⊎ IsAtEnd after)
NextLine old new before after Limit = IsOver old before after
NextLine old new before after ReadFault = TakesNoLine before after × (new.ahead ≡ []) × (old.at_end ≡ false)
NextLine old new before after NoMemory = TakesNoLine before after × (old.at_end ≡ false)

-- the reader may be called again
abbrev pub goes_on : LineStep → Bool
goes_on (Line text) = true
goes_on TooLong = true
goes_on End = true
goes_on Limit = false
goes_on ReadFault = false
goes_on NoMemory = false

-- the source failed
abbrev pub is_read_fault : LineStep → Bool
is_read_fault (Line text) = false
is_read_fault TooLong = false
is_read_fault End = false
is_read_fault Limit = false
is_read_fault ReadFault = true
is_read_fault NoMemory = false
