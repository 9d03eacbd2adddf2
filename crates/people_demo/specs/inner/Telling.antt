-- How a line is told.
use Rattle.std.specs.Prelude.{ℕ, ◌≡◌, ◌⊎◌, List, Result, Ok, Err}
use Rattle.std.specs.declared.option.Option.{Option}
use Rattle.std.specs.Io.KnownBytes.{append_known}
use Rattle.line_service.specs.Spoken.{SaidOf}
use Rattle.line_service.specs.Turns.{IsWhole}
use Rattle.people_demo.specs.declared.demo.DemoStop.{DemoStop}
use Rattle.people_demo.specs.declared.demo.DemoStop.TheVariants as stop

-- what was spoken of a line by then
abbrev pub Tells : Result (Unit {0}) DemoStop → List ℕ → (before after : Option (List ℕ)) → Type 0
Tells (Ok done) line before after = after ≡ append_known before line
Tells (Err stop.SpeakFault) line before after = SaidOf line before after
Tells (Err stop.NoMemory) line before after = after ≡ before
Tells (Err stop.DiskFault) line before after = ⊥
Tells (Err stop.NotEmpty) line before after = ⊥
Tells (Err (stop.Refused why)) line before after = ⊥

-- the same at a moment that came: none of it or all, but where speech failed
abbrev pub IsToldAt : Result (Unit {0}) DemoStop → List ℕ → (before after here : Option (List ℕ)) → Type 0
IsToldAt result line before after here = IsWhole line before here ⊎ ((result ≡ Err stop.SpeakFault) × (here ≡ after))
