-- What stays of a content while a record is written.
use Rattle.std.proofs.Common.{ℕ, ◌≡◌, ◌≤◌, ◌+◌, List, length, None, Some, subst}
use Rattle.std.specs.declared.option.Option.{Option}
use Rattle.std.specs.Option.{option_map}
use Rattle.pss_disk.specs.Images.{Agrees, AllAgree, IsOutside, Keeps, Stretch}
use Rattle.pss_disk.specs.Moments.{Disk, DuringWrite, Moment, Range, Through}
use Rattle.pss_disk.specs.Octets.{StaysOutside, range_of}
use Rattle.pss_disk.proofs.Images.{agrees_then, misses_part, stays_then, stays_wider}
use Rattle.pss_disk.proofs.Stretches.{stretch_write}

-- fewer places are kept too
fewer_agree : (S T : ℕ → Type 0) (content : Option (List ℕ)) (disk : Option Disk) → ((i : ℕ) → T i → S i) → AllAgree S content disk → AllAgree T content disk
fewer_agree S T None disk f h = h
fewer_agree S T (Some c) None f h = h
fewer_agree S T (Some c) (Some d) f h = λ image is i t lt. h image is i (f i t) lt

pub keeps_fewer : (S T : ℕ → Type 0) (content : Option (List ℕ)) (m : Moment) → ((i : ℕ) → T i → S i) → Keeps S content m → Keeps T content m
keeps_fewer S T content m f h = fewer_agree S T content m.disk f h

-- what is kept of a content that was changed elsewhere is kept of the content before
changed_agree : (S T : ℕ → Type 0) (content : Option (List ℕ)) (f : List ℕ → List ℕ) (disk : Option Disk) → ((i : ℕ) → T i → S i) → ((c : List ℕ) → Agrees T c (f c)) → AllAgree S (option_map f content) disk → AllAgree T content disk
changed_agree S T None f disk sub same h = h
changed_agree S T (Some c) f None sub same h = tt
changed_agree S T (Some c) f (Some d) sub same h = λ image is. agrees_then T c (f c) image (same c) (λ i t lt. h image is i (sub i t) lt)

pub keeps_changed : (S T : ℕ → Type 0) (old content : Option (List ℕ)) (f : List ℕ → List ℕ) (m : Moment) → ((i : ℕ) → T i → S i) → ((c : List ℕ) → Agrees T c (f c)) → content ≡ option_map f old → Keeps S content m → Keeps T old m
keeps_changed S T old content f m sub same is h = changed_agree S T old f m.disk sub same (subst (λ (x : Option (List ℕ)). AllAgree S x m.disk) is h)

-- one more write within a range
pub write_within_range : (range : Range) (content : Option (List ℕ)) (first : Moment) (before history later : List Moment) (now new : Moment) (at : ℕ) (bytes : List ℕ) → range.at ≤ at → at + length bytes ≤ range.at + range.count
    → Stretch (IsOutside range) content first before history now → Through history later (DuringWrite (range_of at bytes) now) → DuringWrite (range_of at bytes) now new → Stretch (IsOutside range) content first before later new
write_within_range range content first before history later now new at bytes le end s time d =
    stretch_write (IsOutside range) content first before history later now s (range_of at bytes) new (misses_part range (range_of at bytes) le end) time d

pub stays_within_range : (range : Range) (at : ℕ) (bytes : List ℕ) (a b c : Option (List ℕ)) → range.at ≤ at → at + length bytes ≤ range.at + range.count → StaysOutside range a b → StaysOutside (range_of at bytes) b c → StaysOutside range a c
stays_within_range range at bytes a b c le end first second = stays_then range a b c first (stays_wider range (range_of at bytes) b c le end second)
