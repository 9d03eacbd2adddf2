-- What a reader of a whole answers.
use Rattle.std.specs.Prelude.{◌≡◌, ℕ, Result, Ok, Err}
use Rattle.part_readers.specs.declared.refusal.Refusal.{Refusal}
use Rattle.part_readers.specs.declared.refusal.Refusal.TheVariants as refusals
use Rattle.psdl_syntax.specs.declared.fault.Fault.{Fault}
use Rattle.psdl_syntax.specs.declared.fault.Fault.TheVariants.{Unexpected, TooDeep}

-- this tree is given, or a bracket opens too deep, or memory ran out
abbrev pub IsGiven : {X Y : Type 0} → (X → Y) → Result X (Refusal Fault) → Y → Type 0
IsGiven view (Ok x) y = view x ≡ y
IsGiven view (Err refusals.Memory) y = Unit {0}
IsGiven view (Err (refusals.Fault (TooDeep left))) y = Unit {0}
IsGiven view (Err (refusals.Fault (Unexpected left))) y = ⊥

-- a fact where a bracket opens too deep
abbrev pub IfTooDeep : {X : Type 0} → Result X (Refusal Fault) → (ℕ → Type 0) → Type 0
IfTooDeep (Ok x) P = Unit {0}
IfTooDeep (Err refusals.Memory) P = Unit {0}
IfTooDeep (Err (refusals.Fault (TooDeep left))) P = P left
IfTooDeep (Err (refusals.Fault (Unexpected left))) P = Unit {0}

-- a fact where a token was not expected
abbrev pub IfUnexpected : {X : Type 0} → Result X (Refusal Fault) → (ℕ → Type 0) → Type 0
IfUnexpected (Ok x) P = Unit {0}
IfUnexpected (Err refusals.Memory) P = Unit {0}
IfUnexpected (Err (refusals.Fault (TooDeep left))) P = Unit {0}
IfUnexpected (Err (refusals.Fault (Unexpected left))) P = P left
