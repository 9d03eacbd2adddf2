-- When a call ends well, unless memory is wanting.
use Rattle.std.specs.Prelude.{ℕ, ◌≡◌, ◌⊎◌, List, length, false}
use Rattle.std.specs.declared.option.Option.{Option}
use Rattle.pss_base.specs.Causes.{Rose}
use Rattle.type_layout.specs.declared.schema.Schema.{Schema}
use Rattle.pss_catalog.specs.Catalog.{Catalog}
use Rattle.psdl_tree.specs.Trees.{Definitions}
use Rattle.psdl_directory.specs.Declarations.{all_declarations}
use Rattle.psdl_check.specs.Schemas.{schema}
use Rattle.pss_recovery.specs.Stands.{Stands}
use Rattle.commit_saving.specs.Saving.{IfTold}
use Rattle.line_service.specs.Runs.{goes_past}
use Rattle.script_service.specs.Turns.{script_limits}
use Rattle.pss_daemon.specs.Ends.{IsCheck, IsDemo, IsInit, IsRun}
use Rattle.pss_serving.specs.Checked.{IsSound}
use Rattle.pss_serving.specs.Counts.{Counts}
use Rattle.pss_serving.specs.Outcomes.{Call}
use Rattle.pss_serving.specs.declared.status.Status.{Status}
use Rattle.pss_serving.specs.declared.status.Status.TheVariants as status

-- nothing is wrong in the text, and this is so of its schema
abbrev pub HasSchema : Option (List ℕ) → (Schema → Type 0) → Type 0
HasSchema text P = IfTold text (λ bytes. (tree : Definitions) × IsSound bytes tree × P (schema (all_declarations tree)))

-- the file has no octets
abbrev pub IsEmpty : Option (List ℕ) → Type 0
IsEmpty held = IfTold held (λ octets. length octets ≡ 0)

-- the file is a store of this schema
abbrev pub IsStoreOf : Option (List ℕ) → Schema → Type 0
IsStoreOf held S = IfTold held (λ octets. (M : Catalog) × (next : ℕ) × Stands S M next octets)

-- the script has no more lines and bytes than are served
abbrev pub IsServed : Option (List ℕ) → Type 0
IsServed script = IfTold script (λ bytes. goes_past script_limits bytes ≡ false)

-- what the words ask for may be done: the text has no fault, the store is one of its shape, or empty where it is to be made, and the script
-- is no longer than is served
abbrev pub MayBeDone : List (List ℕ) → Call → Type 0
MayBeDone words call =
    (IsCheck words × HasSchema call.schema (λ S. Unit {0}))
    ⊎ ((IsInit words × HasSchema call.schema (λ S. IsEmpty call.held))
    ⊎ ((IsRun words × HasSchema call.schema (IsStoreOf call.held) × IsServed call.script)
    ⊎ (IsDemo words × IsEmpty call.held)))

-- something outside failed: its count rose
abbrev pub HasFailed : Counts → Counts → Type 0
HasFailed old new = Rose old.schema new.schema ⊎ Rose old.script new.script ⊎ Rose old.speech new.speech ⊎ Rose old.disk new.disk

-- all was done, or memory was wanting
abbrev pub IsDone : Status → Type 0
IsDone ending = (ending ≡ status.Ok) ⊎ (ending ≡ status.NoMemory)

-- what may be done is done, or memory is wanting, where nothing outside failed
abbrev pub IsComplete : Status → List (List ℕ) → Call → Counts → Counts → Type 0
IsComplete ending words call old new = (HasFailed old new → ⊥) → MayBeDone words call → IsDone ending
