-- The values in the rest of a line.
use Rattle.std.specs.Prelude.{◌≡◌, ℕ, ◌+◌, ◌-◌, ◌&&◌, ◌==◌, List, [], ◌∷◌, ◌++◌, length, Result, Ok, Err, Some, None, if◌then◌else◌}
use Rattle.std.specs.List.{prefix_len}
use Rattle.pss_base.specs.Blanks.{is_blank, behind_blanks}
use Rattle.type_layout.specs.Types.{PlainType, PlainValue}
use Rattle.type_layout.specs.Testing.{is_of}
use Rattle.value_text.specs.declared.line.LineFault.{LineFault}
use Rattle.value_text.specs.declared.line.LineFault.TheVariants.{BadValue, NoMemory}
use Rattle.value_text.specs.Texts.{is_at_end}
use Rattle.value_text.specs.Reading.{◌>>=◌, Reader, given, value_at}

-- the value that stands at the front of a text, up to a blank or the end, and what is behind it
abbrev pub one_value : PlainType → Reader PlainValue
one_value type text = value_at type text >>= λ x. if is_at_end x.1 && is_of type x.0 then Some x else None

-- The value behind the blanks in front of a text that begins at a column, and what is behind it; else the column of what
-- does not read, or one past the end.
abbrev pub first_value : PlainType → ℕ → List ℕ → Result (PlainValue × List ℕ) ℕ
first_value type column text = given (one_value type (behind_blanks text)) (Err (column + prefix_len is_blank text)) (λ x. Ok x)

-- what goes on where a value was read
abbrev pub and_then : {A B : Type 0} → Result A ℕ → (A → Result B ℕ) → Result B ℕ
and_then (Ok x) next = next x
and_then (Err column) next = Err column

-- One value of each type, with blanks between them, in a text that begins at a column. Else the column of the first
-- that does not read, of the first that is too much, or one past the end where one is missing.
abbrev pub values_from : List PlainType → ℕ → List ℕ → Result (List PlainValue) ℕ
values_from [] column text = if length (behind_blanks text) == 0 then Ok [] else Err (column + prefix_len is_blank text)
values_from (t ∷ ts) column text =
    and_then (first_value t column text) (λ x. and_then (values_from ts (column + length text - length x.1) x.1) (λ vs. Ok (x.0 ∷ vs)))

-- a call that failed tells the column, unless memory ran out
abbrev pub Refuses : {B : Type 0} → LineFault → Result B ℕ → Type 0
Refuses (BadValue column) read = read ≡ Err column
Refuses NoMemory read = Unit {0}

-- what a call returned, seen by view, is what a line has, unless memory ran out
abbrev pub Tells : {A B : Type 0} → (A → B) → Result A LineFault → Result B ℕ → Type 0
Tells view (Ok x) read = read ≡ Ok (view x)
Tells view (Err fault) read = Refuses fault read

-- values that were read before, and one more
abbrev pub pushed : List PlainValue → Result (PlainValue × List ℕ) ℕ → Result (List PlainValue × List ℕ) ℕ
pushed front read = and_then read (λ x. Ok (front ++ x.0 ∷ [], x.1))
