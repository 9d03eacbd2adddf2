-- Where a byte stands in a text, by the bytes in front of it.
use Rattle.std.specs.Prelude.{ℕ, ◌+◌, List, [], ◌∷◌, length, count_by, ◌==◌, Bool, if◌then◌else◌}
use Rattle.std.specs.List.{list_any, list_all}
use Rattle.std.specs.Str.{byte}
use Rattle.pss_base.specs.declared.place.Place.{Place}
use Rattle.psdl_tokens.specs.Alphabet.{is_blank}

-- a line ends with it
abbrev pub is_line_feed : ℕ → Bool
is_line_feed c = c == byte "\n"

-- the bytes behind the last line feed
abbrev pub last_line : List ℕ → List ℕ
last_line [] = []
last_line (b ∷ bs) = if list_any is_line_feed (b ∷ bs) then last_line bs else b ∷ bs

-- the place of the byte that follows these
abbrev pub place_of : List ℕ → Place
place_of front = record {
  line = count_by is_line_feed front + 1;
  column = length (last_line front) + 1;
  offset = length front;
}

-- only blanks stand in front on the line
abbrev pub begins_line : List ℕ → Bool
begins_line front = list_all is_blank (last_line front)
