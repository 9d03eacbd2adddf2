-- What a station tells of its moments, and what its calls do to a moment.
use Rattle.std.specs.Prelude.{ℕ, zero, suc, ◌≡◌, ◌+◌, ◌<◌, ◌≤◌, ◌⊎◌, List, [], ◌∷◌, ◌++◌, length, take, max, Bool, false, ◌||◌, ◌&&◌, nat_lt, nat_le, None, Some, IfSome, IsSome, ⊤, slice_get}
use Rattle.std.specs.declared.option.Option.{Option}
use Rattle.std.specs.Option.{option_map}
use Rattle.std.specs.Io.KnownBytes.{append_known}

-- octets of a disk, from a place on
pub record Range : Type 0 where
  pub at : ℕ
  pub count : ℕ

-- what the last sync made sure of, the ranges written since then, and the greatest length since then
pub record Disk : Type 0 where
  pub kept : List ℕ
  pub pending : List Range
  pub longest : ℕ

-- all that was spoken by then, and what a crash then may leave, each where it is told
pub record Moment : Type 0 where
  pub spoken : Option (List ℕ)
  pub disk : Option Disk

-- a place is in a range
abbrev pub is_within : Range → ℕ → Bool
is_within range i = nat_le range.at i && nat_lt i (range.at + range.count)

-- a place is in one of the ranges
abbrev pub is_covered : List Range → ℕ → Bool
is_covered [] i = false
is_covered (range ∷ ranges) i = is_within range i || is_covered ranges i

-- a crash may leave this: octets that no write touched since the last sync are as they were
pub record IsImage (disk : Disk) (image : List ℕ) : Type 0 where
  pub no_shorter : length disk.kept ≤ length image
  pub no_longer : length image ≤ disk.longest
  pub others : (i : ℕ) → i < length disk.kept → is_covered disk.pending i ≡ false → slice_get image i ≡ slice_get disk.kept i

-- a crash leaves the content and nothing else
pub record IsOnlyImage (disk : Disk) (content : List ℕ) : Type 0 where
  pub is_image : IsImage disk content
  pub only : (image : List ℕ) → IsImage disk image → image ≡ content

-- where a moment tells its images, the content is told and is one of them
abbrev pub TellsContent : Option (List ℕ) → Moment → Type 0
TellsContent content m = IfSome m.disk (λ disk. (c : List ℕ) × (content ≡ Some c) × IsImage disk c)

-- where a moment tells its images, the content is told and is the only one
abbrev pub IsSettled : Option (List ℕ) → Moment → Type 0
IsSettled content m = IfSome m.disk (λ disk. (c : List ℕ) × (content ≡ Some c) × IsOnlyImage disk c)

-- a disk on which nothing is pending
abbrev pub settled : List ℕ → Disk
settled content = record { kept = content; pending = []; longest = length content }

-- where a write of so many octets ends; a write of none ends nowhere
abbrev pub end_of : ℕ → ℕ → ℕ
end_of at zero = 0
end_of at (suc n) = at + suc n

-- where a write of a range ends
abbrev pub reach : Range → ℕ
reach range = end_of range.at range.count

-- the disk on which this range is pending too
abbrev pub pend : Range → Disk → Disk
pend range disk = record { kept = disk.kept; pending = range ∷ disk.pending; longest = max disk.longest (reach range) }

-- the disk after a sync of this content, where it is told
abbrev pub settle : Option (List ℕ) → Option Disk → Option Disk
settle content None = None
settle content (Some disk) = option_map settled content

-- the moment after these bytes were spoken
abbrev pub spoke : List ℕ → Moment → Moment
spoke bytes m = record { spoken = append_known m.spoken bytes; disk = m.disk }

-- the moment after this range was written
abbrev pub wrote : Range → Moment → Moment
wrote range m = record { spoken = m.spoken; disk = option_map (pend range) m.disk }

-- the moment after a sync of this content
abbrev pub synced : Option (List ℕ) → Moment → Moment
synced content m = record { spoken = m.spoken; disk = settle content m.disk }

-- nothing changed
abbrev pub IsStill : Moment → Moment → Type 0
IsStill now m = m ≡ now

-- some first bytes were spoken
abbrev pub DuringSpeak : List ℕ → Moment → Moment → Type 0
DuringSpeak bytes now m = (n : ℕ) × (m ≡ spoke (take n bytes) now)

-- the range was written or not
abbrev pub DuringWrite : Range → Moment → Moment → Type 0
DuringWrite range now m = (m ≡ now) ⊎ (m ≡ wrote range now)

-- the content was made sure of or not
abbrev pub DuringSync : Option (List ℕ) → Moment → Moment → Type 0
DuringSync content now m = (m ≡ now) ⊎ (m ≡ synced content now)

-- each moment has P
abbrev pub Each : (Moment → Type 0) → List Moment → Type 0
Each P [] = ⊤
Each P (m ∷ ms) = P m × Each P ms

-- the moments that came have P
pub record Through (before after : List Moment) (P : Moment → Type 0) : Type 0 where
  pub came : List Moment
  pub grown : after ≡ before ++ came
  pub each : Each P came

-- the last moment of a history
abbrev pub last_moment : List Moment → Option Moment
last_moment [] = None
last_moment (m ∷ []) = Some m
last_moment (m ∷ n ∷ ms) = last_moment (n ∷ ms)

-- where a moment tells anything, it is the last of the history
abbrev pub IsLast : List Moment → Moment → Type 0
IsLast history now = (IsSome now.spoken ⊎ IsSome now.disk) → last_moment history ≡ Some now
