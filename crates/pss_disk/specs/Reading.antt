-- Calls that only read.
use Rattle.std.specs.Prelude.{ℕ, ◌≡◌, List}
use Rattle.std.specs.declared.option.Option.{Option}
use Rattle.pss_disk.specs.Moments.{IsStill, Moment, Through}

-- A station after calls that read of it: it tells the same of now, of its content and of speech, as functions of a
-- station say, and each moment that came is as the one before.
pub record OnlyReads {S : Type 0} (now : S → Moment) (content : S → Option (List ℕ)) (history : S → List Moment) (speak_faults : S → ℕ) (old new : S) : Type 0 where
  pub still : now new ≡ now old
  pub same : content new ≡ content old
  pub time : Through (history old) (history new) (IsStill (now old))
  pub speech : speak_faults new ≡ speak_faults old
