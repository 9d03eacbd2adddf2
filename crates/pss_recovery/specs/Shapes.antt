-- The shape of a store, cut into the lines of its homes, and where two shapes differ first.
use Rattle.std.specs.Prelude.{ℕ, ◌≡◌, ◌≢◌, ◌<◌, ◌≤◌, ◌==◌, ◌&&◌, Bool, true, false, List, [], ◌∷◌, ◌++◌, take, drop, codes}
use Rattle.std.specs.List.{list_any}
use Rattle.std.specs.Str.{bytes_eq}
use Rattle.type_layout.specs.Schemas.{given, nth}

-- these octets begin with the line of a home: the word and a space, and somewhere behind them the end of the line
abbrev pub begins_home : List ℕ → Bool
begins_home octets = bytes_eq (take 5 octets) (codes "home ") && list_any (λ b. b == 10) (drop 5 octets)

-- what stands in front of the first line of a home, and then what stands from each such line up to the next
pub record Cut : Type 0 where
  pub front : List ℕ
  pub homes : List (List ℕ)

-- one more octet in front, with which a home begins or not
abbrev pub behind : Bool → ℕ → Cut → Cut
behind true b cut = record { front = []; homes = (b ∷ cut.front) ∷ cut.homes }
behind false b cut = record { front = b ∷ cut.front; homes = cut.homes }

-- a shape cut in front of each line of a home; a line begins at its start, if so, and behind each LF
abbrev pub cut_from : Bool → List ℕ → Cut
cut_from starts [] = record { front = []; homes = [] }
cut_from starts (b ∷ octets) = behind (starts && begins_home (b ∷ octets)) b (cut_from (b == 10) octets)

-- what stands in front of the first line of a home belongs to home 1
abbrev pub joined : List ℕ → List (List ℕ) → List (List ℕ)
joined front [] = front ∷ []
joined front (lines ∷ homes) = (front ++ lines) ∷ homes

-- the lines of each home, from number 1
abbrev pub homes_of : List ℕ → List (List ℕ)
homes_of shape = joined (cut_from true shape).front (cut_from true shape).homes

-- the lines of the home with this number, none where it is not there
abbrev pub lines_of : List ℕ → ℕ → List ℕ
lines_of shape home = given (nth (homes_of shape) home) [] (λ lines. lines)

-- of two shapes this is the first home whose lines differ, or are in one alone
pub record DifferAt (shape other : List ℕ) (home : ℕ) : Type 0 where
  pub some : 1 ≤ home
  pub differ : lines_of shape home ≢ lines_of other home
  pub first : (h : ℕ) → h < home → lines_of shape h ≡ lines_of other h
