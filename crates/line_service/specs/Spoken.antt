-- How much was spoken of what there is to say.
use Rattle.std.specs.Prelude.{ℕ, ◌≡◌, List, take}
use Rattle.std.specs.declared.option.Option.{Option}
use Rattle.std.specs.Io.KnownBytes.{append_known}
use Rattle.pss_disk.specs.Moments.{Moment, Disk}

-- some first bytes of a text
abbrev pub SaidOf : List ℕ → Option (List ℕ) → Option (List ℕ) → Type 0
SaidOf told before after = (k : ℕ) × (after ≡ append_known before (take k told))

-- a moment at which so much was spoken, over a disk that stays
pub record HasSpoken (spoken : Option (List ℕ)) (disk : Option Disk) (m : Moment) : Type 0 where
  pub spoken_is : m.spoken ≡ spoken
  pub disk_is : m.disk ≡ disk
