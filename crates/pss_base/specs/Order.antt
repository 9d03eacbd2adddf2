-- What the calls of a reader of lines come to.
use Rattle.std.specs.Prelude.{ℕ, ◌≡◌, List, [], ◌∷◌, Bool, true, IsTrue, Some}
use Rattle.pss_base.specs.declared.lines.LineStep.{LineStep}
use Rattle.pss_base.specs.declared.lines.LineStep.TheVariants.{Line, TooLong, End, Limit, ReadFault, NoMemory}
use Rattle.pss_base.specs.Lines.{raw_lines, lines, is_over}
use Rattle.pss_base.specs.Reading.{Reading, NextLine}

-- the reader's lines of these bytes, by its limits
abbrev pub lines_to : Reading → List ℕ → List LineStep
lines_to r bytes = lines r.lines_left r.bytes_left bytes

-- a byte comes after the reader's limits
abbrev pub is_over_to : Reading → List ℕ → Bool
is_over_to r bytes = is_over r.lines_left r.bytes_left (raw_lines bytes)

-- where the reader has seen the end, nothing is to come
abbrev pub SeesEnd : Reading → List ℕ → Type 0
SeesEnd r bytes = IsTrue r.at_end → bytes ≡ []

-- the step is the first line of those to come, and the others stay to come
pub record IsFirstLine (old new : Reading) (before after : List ℕ) (step : LineStep) : Type 0 where
  pub first : lines_to old before ≡ step ∷ lines_to new after
  pub over : is_over_to old before ≡ is_over_to new after
  pub seen : SeesEnd new after

-- a call brings the first line; the end where no line is left, the limit where a byte is left behind the last
abbrev pub InOrder : Reading → Reading → List ℕ → List ℕ → LineStep → Type 0
InOrder old new before after (Line text) = IsFirstLine old new before after (Line text)
InOrder old new before after TooLong = IsFirstLine old new before after TooLong
InOrder old new before after End = (before ≡ []) × (after ≡ [])
InOrder old new before after Limit = (lines_to old before ≡ []) × (is_over_to old before ≡ true)
InOrder old new before after ReadFault = Unit {0}
InOrder old new before after NoMemory = Unit {0}

-- the law of all calls
abbrev pub ComeInOrder : Type 0
ComeInOrder = (old new : Reading) (before after : List ℕ) (step : LineStep) → SeesEnd old before → NextLine old new (Some before) (Some after) step → InOrder old new before after step
