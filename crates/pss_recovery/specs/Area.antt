-- The part of a store that its journal takes.
use Rattle.std.specs.Prelude.{ℕ}
use Rattle.pss_disk.specs.Images.{IsOutside}
use Rattle.pss_disk.specs.Moments.{Range}

-- the octets of the journal
abbrev pub journal_area : Range
journal_area = record { at = 262144; count = 4194304 }

-- a place that is not in the journal
abbrev pub IsOutsideJournal : ℕ → Type 0
IsOutsideJournal = IsOutside journal_area
