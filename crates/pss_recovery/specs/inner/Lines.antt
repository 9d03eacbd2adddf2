-- Places of a shape where the line of a home begins.
use Rattle.std.specs.Prelude.{ℕ, zero, suc, ◌≡◌, ◌+◌, ◌<◌, ◌≤◌, ◌==◌, ◌&&◌, if◌then◌else◌, Bool, true, false, List, [], ◌∷◌, length, take, drop}
use Rattle.pss_recovery.specs.Shapes.{begins_home, homes_of, lines_of}

-- the line of a home begins at this place, if a line begins at the start or not
abbrev pub starts_at : Bool → List ℕ → ℕ → Bool
starts_at starts octets zero = starts && begins_home octets
starts_at starts [] (suc i) = false
starts_at starts (b ∷ octets) (suc i) = starts_at (b == 10) octets i

-- a line begins at this place
abbrev pub line_at : Bool → List ℕ → ℕ → Bool
line_at starts octets zero = starts
line_at starts [] (suc i) = false
line_at starts (b ∷ octets) (suc i) = line_at (b == 10) octets i

-- from a place on the line of a home begins here first, or nowhere
pub record IsNext (octets : List ℕ) (from place : ℕ) : Type 0 where
  pub after : from ≤ place
  pub within : place ≤ length octets
  pub before : (i : ℕ) → from ≤ i → i < place → starts_at true octets i ≡ false
  pub here : place < length octets → starts_at true octets place ≡ true

-- the lines of the first home end here, and those of the next one begin, if octets are left
pub record EndsAt (octets : List ℕ) (end : ℕ) : Type 0 where
  pub within : end ≤ length octets
  pub some : 0 < length octets → 0 < end
  pub cut : homes_of octets ≡ take end octets ∷ (if end == length octets then [] else homes_of (drop end octets))

-- in front of a place two shapes are the same, and so are the lines of the homes with lower numbers; those of the home
-- with this number begin there
pub record AgreeUpTo (shape other : List ℕ) (at home : ℕ) : Type 0 where
  pub within : at ≤ length shape
  pub within_other : at ≤ length other
  pub some : 1 ≤ home
  pub few : home ≤ at + 1
  pub front : take at shape ≡ take at other
  pub before : (h : ℕ) → h < home → lines_of shape h ≡ lines_of other h
  pub lines : (h : ℕ) → lines_of shape (home + h) ≡ lines_of (drop at shape) (suc h)
  pub lines_other : (h : ℕ) → lines_of other (home + h) ≡ lines_of (drop at other) (suc h)
