-- Where a reply may be cut.
use Rattle.std.specs.Prelude.{ℕ, ◌≡◌, List}
use Rattle.std.specs.declared.option.Option.{Option}
use Rattle.pss_serving.specs.declared.status.Status.{Status}
use Rattle.pss_serving.specs.declared.status.Status.TheVariants as status

-- speech failed, and it is what was spoken at last: only then a reply may be cut
abbrev pub IsCut : Status → Option (List ℕ) → Option (List ℕ) → Type 0
IsCut ending after spoken = (ending ≡ status.SpeakFault) × (spoken ≡ after)
