-- The bytes that blanks and words are made of.
use Rattle.std.specs.Prelude.{ℕ, List, Bool, ◌||◌, ◌==◌, take, slice_index}
use Rattle.std.specs.Char.{is_ascii_alphanumeric, is_ascii_whitespace}
use Rattle.std.specs.List.{prefix_len}
use Rattle.std.specs.Str.{byte}

-- a space, tab, line feed, vertical tab, form feed or carriage return
abbrev pub is_blank : ℕ → Bool
is_blank byte = is_ascii_whitespace byte || byte == 11

-- a letter, a digit or `_`
abbrev pub is_word_byte : ℕ → Bool
is_word_byte c = is_ascii_alphanumeric c || c == byte "_"

-- as many letters, digits and `_` as stand at the front
abbrev pub run_at : List ℕ → List ℕ
run_at rest = take (prefix_len is_word_byte rest) rest

-- the first byte, or 0 where none is left
abbrev pub first : List ℕ → ℕ
first rest = slice_index rest 0

-- the second byte, or 0 where none is left
abbrev pub second : List ℕ → ℕ
second rest = slice_index rest 1
