-- Which of the outside failed.
use Rattle.std.specs.Prelude.{ℕ, ◌≡◌, ◌⊎◌, Bool, true, false}
use Rattle.pss_base.specs.Causes.{Rose}
use Rattle.pss_serving.specs.declared.status.Status.{Status}
use Rattle.pss_serving.specs.declared.status.Status.TheVariants as status

-- how often the schema's source, the script's source, speech and the disk have failed
pub record Counts : Type 0 where
  pub schema : ℕ
  pub script : ℕ
  pub speech : ℕ
  pub disk : ℕ

-- these counts, by how a source and a station tell how often they have failed
abbrev pub counts_of : {P C W : Type 0} → (P → ℕ) → (C → ℕ) → (speech disk : W → ℕ) → P → C → W → Counts
counts_of schema_faults script_faults speech_faults disk_faults schema script station =
    record { schema = schema_faults schema; script = script_faults script; speech = speech_faults station; disk = disk_faults station }

-- no count rose
abbrev pub AreSame : Counts → Counts → Type 0
AreSame old new = (new.schema ≡ old.schema) × (new.script ≡ old.script) × (new.speech ≡ old.speech) × (new.disk ≡ old.disk)

-- A count rose where the call ended in a fault of that kind, and no other one did.
abbrev pub HasCauses : Status → Counts → Counts → Type 0
HasCauses status.ReadFault old new =
    (Rose old.schema new.schema × (new.script ≡ old.script) × (new.speech ≡ old.speech) × (new.disk ≡ old.disk))
    ⊎ ((new.schema ≡ old.schema) × Rose old.script new.script × (new.speech ≡ old.speech) × (new.disk ≡ old.disk))
HasCauses status.SpeakFault old new = (new.schema ≡ old.schema) × (new.script ≡ old.script) × Rose old.speech new.speech × (new.disk ≡ old.disk)
HasCauses status.DiskFault old new = (new.schema ≡ old.schema) × (new.script ≡ old.script) × (new.speech ≡ old.speech) × Rose old.disk new.disk
HasCauses status.Ok old new = AreSame old new
HasCauses status.Usage old new = AreSame old new
HasCauses status.SchemaRefused old new = AreSame old new
HasCauses status.StoreRefused old new = AreSame old new
HasCauses status.NoMemory old new = AreSame old new
HasCauses status.ScriptTooLong old new = AreSame old new

-- ---- what failed, by how the call ended

abbrev pub has_read_failed : Status → Bool
has_read_failed status.ReadFault = true
has_read_failed _ = false

abbrev pub has_speech_failed : Status → Bool
has_speech_failed status.SpeakFault = true
has_speech_failed _ = false

abbrev pub has_disk_failed : Status → Bool
has_disk_failed status.DiskFault = true
has_disk_failed _ = false
