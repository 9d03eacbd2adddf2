-- What comes of a text.
use Rattle.std.specs.Prelude.{◌≡◌, List, Some, None}
use Rattle.psdl_check.specs.declared.checks.Verdict.{Verdict}
use Rattle.psdl_check.specs.declared.checks.Verdict.TheVariants as verdicts
use Rattle.psdl_directory.specs.Declarations.{Declaration}
use Rattle.psdl_check.specs.Faults.{first_fault}
use Rattle.psdl_check.specs.Schemas.{schema}

-- the schema where there is no fault, else the first fault
abbrev pub IsVerdict : List Declaration → Verdict → Type 0
IsVerdict all (verdicts.Sound s) = (first_fault all ≡ None) × (s ≡ schema all)
IsVerdict all (verdicts.Refused f) = first_fault all ≡ Some f
