-- The octets of a content: what a read gives, and what a write does.
use Rattle.std.specs.Prelude.{ℕ, ◌≡◌, ◌+◌, ◌<◌, ◌≤◌, List, [], ◌∷◌, ◌++◌, length, take, drop, replicate, max, false, None, Some, ⊤, slice_get}
use Rattle.std.specs.declared.option.Option.{Option}
use Rattle.pss_disk.specs.Moments.{Range, is_within, reach}

-- no read and no write passes this place
abbrev pub disk_end : ℕ
disk_end = 272891904

-- the octets of a range; past the end they are zero
abbrev pub octets_in : Range → List ℕ → List ℕ
octets_in range content = take range.count (drop range.at content ++ replicate range.count 0)

-- what these bytes take from a place on
abbrev pub range_of : ℕ → List ℕ → Range
range_of at bytes = record { at = at; count = length bytes }

-- The content with these bytes written at a place. A gap in front of them is filled with zero octets.
abbrev pub write : ℕ → List ℕ → List ℕ → List ℕ
write at [] content = content
write at (b ∷ bytes) content = octets_in (record { at = 0; count = at }) content ++ (b ∷ bytes) ++ drop (at + length (b ∷ bytes)) content

-- the same, but for the octets of a range and those past the old end
pub record SameOutside (range : Range) (old new : List ℕ) : Type 0 where
  pub no_shorter : length old ≤ length new
  pub no_longer : length new ≤ max (length old) (reach range)
  pub others : (i : ℕ) → i < length old → is_within range i ≡ false → slice_get new i ≡ slice_get old i

-- where the content is told, it stays the same outside of a range
abbrev pub StaysOutside : Range → Option (List ℕ) → Option (List ℕ) → Type 0
StaysOutside range None new = ⊤
StaysOutside range (Some old) None = ⊥
StaysOutside range (Some old) (Some new) = SameOutside range old new
