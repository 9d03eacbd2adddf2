-- Calls that do not speak.
use Rattle.std.specs.Prelude.{ℕ, ◌≡◌, List}
use Rattle.pss_disk.specs.Images.{IsQuiet}
use Rattle.pss_disk.specs.Moments.{Moment, Through}

-- A station after calls that did not speak: at each moment that came it tells the same of speech as before, as
-- functions of a station say.
pub record IsSilent {S : Type 0} (now : S → Moment) (history : S → List Moment) (speak_faults : S → ℕ) (old new : S) : Type 0 where
  pub moments : Through (history old) (history new) (IsQuiet (now old))
  pub said : IsQuiet (now old) (now new)
  pub speech : speak_faults new ≡ speak_faults old
