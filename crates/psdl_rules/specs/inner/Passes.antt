-- A condition that is noted declaration by declaration.
use Rattle.std.specs.Prelude.{◌≡◌, ℕ, List, take, Option}
use Rattle.psdl_directory.specs.declared.fault.CheckFault.{CheckFault}
use Rattle.psdl_directory.specs.Declarations.{Declaration}
use Rattle.psdl_directory.specs.Fault.{each}
use Rattle.psdl_directory.specs.Noting.{noting}

-- of the first so many declarations
abbrev pub IsPassed : (ℕ → Declaration → List CheckFault) → List Declaration → ℕ → Option CheckFault → Option CheckFault → Type 0
IsPassed condition all i first least = least ≡ noting first (each condition (take i all))
