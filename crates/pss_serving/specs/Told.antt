-- What became of what there was to say.
use Rattle.std.specs.Prelude.{ℕ, ◌≡◌, List, Bool, true, false}
use Rattle.std.specs.declared.option.Option.{Option}
use Rattle.std.specs.Io.KnownBytes.{append_known}
use Rattle.line_service.specs.Spoken.{SaidOf}
use Rattle.pss_serving.specs.declared.checking.Told.{Told}
use Rattle.pss_serving.specs.declared.checking.Told.TheVariants.{Whole, SpeakFault, NoMemory}

-- these bytes were spoken whole, in part, or not at all
abbrev pub IsTold : Told → List ℕ → Option (List ℕ) → Option (List ℕ) → Type 0
IsTold Whole bytes old new = new ≡ append_known old bytes
IsTold SpeakFault bytes old new = SaidOf bytes old new
IsTold NoMemory bytes old new = new ≡ old

-- speech failed
abbrev pub is_fault : Told → Bool
is_fault Whole = false
is_fault SpeakFault = true
is_fault NoMemory = false
