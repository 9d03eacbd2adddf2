-- The lines of bytes, as the bytes of each without its line feed, and whether it has one.
use Rattle.std.specs.Prelude.{ℕ, ◌-◌, List, [], ◌∷◌, ◌++◌, length, Bool, true, false, if◌then◌else◌, ◌==◌, nat_lt, nat_le, map, filter, ◌&&◌}
use Rattle.std.specs.Str.Lines.{strip_carriage_return}
use Rattle.pss_base.specs.declared.lines.LineStep.{LineStep}
use Rattle.pss_base.specs.declared.lines.LineStep.TheVariants.{Line, TooLong}

-- a line feed is among the bytes
abbrev pub has_lf : List ℕ → Bool
has_lf [] = false
has_lf (b ∷ bs) = if b == 10 then true else has_lf bs

-- a byte in front of the first line
abbrev pub onto : ℕ → List (List ℕ × Bool) → List (List ℕ × Bool)
onto b [] = (b ∷ [], false) ∷ []
onto b (raw ∷ raws) = (b ∷ raw.0, raw.1) ∷ raws

-- each byte goes onto the first line of those that follow
abbrev pub raw_lines : List ℕ → List (List ℕ × Bool)
raw_lines [] = []
raw_lines (b ∷ bs) = if b == 10 then ([], true) ∷ raw_lines bs else onto b (raw_lines bs)

-- the bytes of a line, with its line feed where it has one
abbrev pub bytes_of : List ℕ × Bool → List ℕ
bytes_of raw = if raw.1 then raw.0 ++ 10 ∷ [] else raw.0

-- what is told of a line
abbrev pub line_of : List ℕ × Bool → LineStep
line_of raw = if nat_lt 65536 (length raw.0) then TooLong else Line (if raw.1 then strip_carriage_return raw.0 else raw.0)

-- the lines before the limit, of lines and of bytes
abbrev pub within : ℕ → ℕ → List (List ℕ × Bool) → List (List ℕ × Bool)
within n b [] = []
within n b (raw ∷ raws) = if nat_lt 0 n && nat_le (length (bytes_of raw)) b then raw ∷ within (n - 1) (b - length (bytes_of raw)) raws else []

-- bytes come after the limit
abbrev pub is_over : ℕ → ℕ → List (List ℕ × Bool) → Bool
is_over n b [] = false
is_over n b (raw ∷ raws) = if nat_lt 0 n && nat_le (length (bytes_of raw)) b then is_over (n - 1) (b - length (bytes_of raw)) raws else true

-- what a reader of so many lines and bytes tells of the bytes, line by line
abbrev pub lines : ℕ → ℕ → List ℕ → List LineStep
lines n b bytes = map line_of (within n b (raw_lines bytes))

-- the lines whose line feed is among the bytes
abbrev pub ended_lines : List ℕ → List LineStep
ended_lines bytes = map line_of (filter (λ raw. raw.1) (raw_lines bytes))
