-- The words of a line: what stands between its blanks, each with its column, and with the rest of the line behind it.
use Rattle.std.specs.Prelude.{ℕ, ◌+◌, List, [], ◌∷◌, length, Bool, false, not, if◌then◌else◌}
use Rattle.pss_base.specs.Blanks.{is_blank}
use Rattle.pss_machine.specs.declared.command.Rest.{Rest}

pub record Word : Type 0 where
  pub text : List ℕ
  -- that of its first byte, from 1
  pub column : ℕ
  -- what stands directly behind it
  pub rest : Rest

-- the first byte is one of a word
abbrev pub begins_word : List ℕ → Bool
begins_word [] = false
begins_word (b ∷ bs) = not (is_blank b)

-- the first word with a byte in front of it
abbrev pub onto_first : ℕ → ℕ → List Word → List Word
onto_first column b [] = []
onto_first column b (w ∷ ws) = record { text = b ∷ w.text; column = column; rest = w.rest } ∷ ws

-- a word of one byte, and what stands behind it
abbrev pub one_byte : ℕ → ℕ → List ℕ → Word
one_byte column b behind = record { text = b ∷ []; column = column; rest = record { column = column + 1; text = behind } }

-- the words of a text that begins at a column: each byte that is no blank goes onto the word that follows it directly, or is a word of its own
abbrev pub words_from : ℕ → List ℕ → List Word
words_from column [] = []
words_from column (b ∷ bs) =
    if is_blank b then words_from (column + 1) bs
    else if begins_word bs then onto_first column b (words_from (column + 1) bs)
    else one_byte column b bs ∷ words_from (column + 1) bs

abbrev pub words_in : Rest → List Word
words_in rest = words_from rest.column rest.text

-- a line from its first byte on
abbrev pub whole : List ℕ → Rest
whole line = record { column = 1; text = line }

abbrev pub words : List ℕ → List Word
words line = words_in (whole line)

-- one past the last byte
abbrev pub end_of : Rest → ℕ
end_of rest = rest.column + length rest.text

-- the column of the first of these words, or one past the line's end where there is none
abbrev pub column_of : Rest → List Word → ℕ
column_of rest [] = end_of rest
column_of rest (w ∷ ws) = w.column
