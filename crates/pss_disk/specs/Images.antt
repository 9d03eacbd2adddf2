-- What images share with a content, and what calls of the disk leave of that.
use Rattle.std.specs.Prelude.{ℕ, false, ◌≡◌, ◌<◌, List, length, Some, None, IfSome, slice_get}
use Rattle.std.specs.declared.option.Option.{Option}
use Rattle.pss_disk.specs.Moments.{Disk, IsImage, Moment, Range, Through, is_covered, is_within}

-- at the places in S the image has what the content has
abbrev pub Agrees : (ℕ → Type 0) → List ℕ → List ℕ → Type 0
Agrees S content image = (i : ℕ) → S i → i < length content → slice_get image i ≡ slice_get content i

-- each image of the disk agrees with the content at the places in S
abbrev pub AllAgree : (ℕ → Type 0) → Option (List ℕ) → Option Disk → Type 0
AllAgree S None disk = disk ≡ None
AllAgree S (Some content) disk = IfSome disk (λ disk. (image : List ℕ) → IsImage disk image → Agrees S content image)

-- at this moment each image agrees with the content at the places in S
abbrev pub Keeps : (ℕ → Type 0) → Option (List ℕ) → Moment → Type 0
Keeps S content m = AllAgree S content m.disk

-- the disk kept the content, and nothing is pending at the places in S
pub record IsApart (S : ℕ → Type 0) (content : List ℕ) (disk : Disk) : Type 0 where
  pub kept : disk.kept ≡ content
  pub clear : (i : ℕ) → S i → i < length content → is_covered disk.pending i ≡ false

-- the same, where both are told
abbrev pub AreApart : (ℕ → Type 0) → Option (List ℕ) → Option Disk → Type 0
AreApart S None disk = disk ≡ None
AreApart S (Some content) disk = IfSome disk (IsApart S content)

-- at this moment nothing is pending at the places in S
abbrev pub Untouched : (ℕ → Type 0) → Option (List ℕ) → Moment → Type 0
Untouched S content m = AreApart S content m.disk

-- a range has none of the places in S
abbrev pub Misses : (ℕ → Type 0) → Range → Type 0
Misses S range = (i : ℕ) → S i → is_within range i ≡ false

-- a place that is not in the range
abbrev pub IsOutside : Range → ℕ → Type 0
IsOutside range i = is_within range i ≡ false

-- nothing was spoken since
abbrev pub IsQuiet : Moment → Moment → Type 0
IsQuiet before m = m.spoken ≡ before.spoken

-- Since a first moment, on a disk that was settled on this content, only ranges were written that have none of the
-- places in S, and nothing was spoken.
pub record Stretch (S : ℕ → Type 0) (content : Option (List ℕ)) (first : Moment) (before history : List Moment) (now : Moment) : Type 0 where
  pub untouched : Untouched S content now
  pub images : Through before history (Keeps S content)
  pub quiet : Through before history (IsQuiet first)
  pub said : IsQuiet first now
