-- What reading one line gives.
use Rattle.std.specs.Prelude.{ℕ, ◌≡◌, ◌≤◌, ◌<◌, ◌+◌, ◌++◌, List, [], ◌∷◌, length, take, drop, Bool, true, false, not, nat_lt, ◌==◌, if◌then◌else◌, ◌-◌, Result, Ok, Err}
use Rattle.std.specs.declared.option.Option.{Option}
use Rattle.std.specs.Io.KnownBytes.{Consumes, IsAtEnd}
use Rattle.pss_base.specs.declared.part.Part.{Part}
use Rattle.pss_base.specs.declared.part.Piece.{Piece}
use Rattle.pss_base.specs.declared.part.Stop.{Stop}
use Rattle.pss_base.specs.declared.part.Stop.TheVariants.{Limit, ReadFault, NoMemory}
use Rattle.std.specs.Str.Lines.{strip_carriage_return}
use Rattle.pss_base.specs.declared.lines.LineStep.{LineStep}
use Rattle.pss_base.specs.declared.lines.LineStep.TheVariants.{Line, TooLong}
use Rattle.pss_base.specs.declared.lines.LineStep.TheVariants as step
use Rattle.pss_base.specs.Lines.{has_lf, bytes_of}
use Rattle.pss_base.specs.Reading.{Reading}

-- these bytes were taken, without a line feed, and this is kept of them
pub record SoFar (taken kept : List ℕ) (n most : ℕ) : Type 0 where
  pub one : has_lf taken ≡ false
  pub text : kept ≡ take 65536 taken
  pub count : n ≡ length taken
  pub within : n ≤ most

-- what was read of a line, up to its line feed, the end, or so many bytes
pub record PartOf (part : Part) (most : ℕ) (before after : Option (List ℕ)) : Type 0 where
  pub body : List ℕ
  pub so_far : SoFar body part.text part.count most
  pub taken : Consumes before after (bytes_of (body, part.ended))
  pub size : part.size ≡ length (bytes_of (body, part.ended))
  pub fits : part.size ≤ most
  pub last : part.ended ≡ false → IsAtEnd after

-- what some bytes have of their first line
pub record IsPiece (piece : Piece) (bytes : List ℕ) : Type 0 where
  pub one : has_lf (take piece.len bytes) ≡ false
  pub front : bytes ≡ bytes_of (take piece.len bytes, piece.ended) ++ drop piece.size bytes
  pub size : piece.size ≡ length (bytes_of (take piece.len bytes, piece.ended))
  pub len : piece.len ≤ length bytes
  pub whole : piece.ended ≡ false → drop piece.size bytes ≡ []

-- a line of which so many bytes came before takes its piece of the bytes ahead
pub record TakesPiece (piece : Piece) (count most : ℕ) (before after text_before text_after : List ℕ) : Type 0 where
  pub cut : IsPiece piece before
  pub rest : after ≡ drop piece.size before
  pub text : text_after ≡ text_before ++ take (65536 - count) (take piece.len before)
  pub fits : count + piece.size ≤ most

-- no piece was taken: the bytes ahead have more of the line than there is room for, or there was no memory
abbrev pub StopsIn : Stop → ℕ → List ℕ → List ℕ → Type 0
StopsIn Limit room before after = (room < length before) × (has_lf (take room before) ≡ false) × (after ≡ drop (room + 1) before)
StopsIn ReadFault room before after = ⊥
StopsIn NoMemory room before after = after ≡ before

-- why no line was read, and what was taken of it
abbrev pub StopsAt : Stop → ℕ → Option (List ℕ) → Option (List ℕ) → Type 0
StopsAt Limit most before after = (part : List ℕ) × (b : ℕ) × Consumes before after (part ++ b ∷ []) × (has_lf part ≡ false) × (length part ≡ most)
StopsAt ReadFault most before after = (part : List ℕ) × Consumes before after part × (has_lf part ≡ false)
StopsAt NoMemory most before after = (part : List ℕ) × Consumes before after part × (has_lf part ≡ false)

-- the source failed
abbrev pub is_stopped_by_fault : Result Part Stop → Bool
is_stopped_by_fault (Ok part) = false
is_stopped_by_fault (Err Limit) = false
is_stopped_by_fault (Err ReadFault) = true
is_stopped_by_fault (Err NoMemory) = false

-- what is told of a line by what was read of it
abbrev pub told_of : Part → LineStep
told_of part = if nat_lt 65536 part.count then TooLong else Line (if part.ended then strip_carriage_return part.text else part.text)

-- what is told where no line was read
abbrev pub stopped_by : Stop → LineStep
stopped_by Limit = step.Limit
stopped_by ReadFault = step.ReadFault
stopped_by NoMemory = step.NoMemory

-- the reader behind a line
abbrev pub reading_after : Reading → Part → Reading
reading_after r part = record {
  ahead = r.ahead;
  lines_left = if part.size == 0 then r.lines_left else r.lines_left - 1;
  bytes_left = r.bytes_left - part.size;
  at_end = not part.ended;
  live = r.live;
}
