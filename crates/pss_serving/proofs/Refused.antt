-- A store is refused, or not mounted.
use Rattle.std.proofs.Common.{◌≡◌, ◌⊎◌, ◌∙◌, inl, inr, ℕ, List, true, false, Some, None, Err, IfSome, sym, ap, refl, arith}
use Rattle.std.proofs.lemmas.Bool.{false≢true}
use Rattle.std.specs.declared.option.Option.{Option}
use Rattle.pss_base.specs.Causes.{HasCauseIf}
use Rattle.pss_disk.specs.Images.{IsQuiet}
use Rattle.pss_disk.specs.Moments.{Disk, Moment, Through}
use Rattle.pss_disk.proofs.Passing.{then_come}
use Rattle.page_store.specs.Stores.{AllHave}
use Rattle.type_layout.specs.declared.schema.Schema.{Schema}
use Rattle.pss_catalog.specs.Catalog.{Catalog}
use Rattle.pss_recovery.specs.Faults.{is_mount_disk_fault}
use Rattle.pss_recovery.specs.Laws.{IsImageOneThing}
use Rattle.pss_recovery.specs.Mounts.{FromSync}
use Rattle.pss_recovery.specs.Stands.{IsRefusal, Stands}
use Rattle.pss_recovery.specs.declared.mounting.Mounted.{Mounted}
use Rattle.pss_recovery.specs.declared.fault.MountFault.{MountFault}
use Rattle.pss_recovery.specs.declared.fault.MountFault.TheVariants as mount
use Rattle.line_service.specs.Spoken.{HasSpoken}
use Rattle.store_refusals.specs.Refusals.{fault_of}
use Rattle.store_refusals.specs.declared.refusals.StoreRefusal.{StoreRefusal}
use Rattle.store_refusals.specs.declared.refusals.StoreRefusal.TheVariants.{NotAStore, ShapeDiffers, Damaged}
use Rattle.pss_serving.specs.Counts.{has_disk_failed, has_read_failed}
use Rattle.pss_serving.specs.Outcomes.{Call, EndsOverStore, IsKeptAt, IsKeptOver, IsOrWhole, TellsRefusal}
use Rattle.pss_serving.specs.Spoken.{IsCut}
use Rattle.pss_serving.specs.declared.status.Status.{Status}
use Rattle.pss_serving.specs.declared.status.Status.TheVariants as status
use Rattle.pss_serving.proofs.AtMoments.{cut_call, quiet_call, whole_call}
use Rattle.pss_serving.proofs.Since.{since_by}

pub refused_ends : (ending : Status) (why : StoreRefusal) (S : Schema) (call : Call) → IfSome call.held (IsRefusal S (fault_of why)) → call.holds ≡ call.held
    → TellsRefusal ending why call.before call.after → EndsOverStore ending call S
refused_ends status.StoreRefused why S call refusal same told = ((why, refusal, told), same)
refused_ends status.SpeakFault why S call refusal same told = inl ((why, refusal, told), same)
refused_ends status.NoMemory why S call refusal same told = inl (told, same)
refused_ends status.Ok why S call refusal same told = absurd told
refused_ends status.Usage why S call refusal same told = absurd told
refused_ends status.SchemaRefused why S call refusal same told = absurd told
refused_ends status.ReadFault why S call refusal same told = absurd told
refused_ends status.DiskFault why S call refusal same told = absurd told
refused_ends status.ScriptTooLong why S call refusal same told = absurd told

module _ (why : StoreRefusal) (S : Schema) (held script before after : Option (List ℕ)) (refusal : IfSome held (IsRefusal S (fault_of why))) (disk : Option Disk) (b c : List Moment) where
  abbrev Whole : Option (List ℕ) → Type 0
  Whole spoken = IsOrWhole S held script before spoken

  pub telling_moments : (ending : Status) → TellsRefusal ending why before after → Through b c (HasSpoken after disk) → Through b c (λ m. Whole m.spoken ⊎ IsCut ending after m.spoken)
  telling_moments status.StoreRefused told call = whole_call b c after Whole disk status.StoreRefused (inr (inl (why, refusal, inr told))) call
  telling_moments status.SpeakFault told call = cut_call b c after Whole disk call
  telling_moments status.NoMemory told call = whole_call b c after Whole disk status.NoMemory (inl told) call
  telling_moments status.Ok told call = absurd told
  telling_moments status.Usage told call = absurd told
  telling_moments status.SchemaRefused told call = absurd told
  telling_moments status.ReadFault told call = absurd told
  telling_moments status.DiskFault told call = absurd told
  telling_moments status.ScriptTooLong told call = absurd told

  pub refused_moments : (a : List Moment) (first : Moment) (ending : Status) → before ≡ first.spoken → TellsRefusal ending why before after → Through a b (IsQuiet first)
      → Through b c (HasSpoken after disk) → Through a c (λ m. Whole m.spoken ⊎ IsCut ending after m.spoken)
  refused_moments a first ending is told still call =
      then_come a b c (λ m. Whole m.spoken ⊎ IsCut ending after m.spoken) (quiet_call a b after Whole first ending (inl (sym is)) still) (telling_moments ending told call)

kept_count : (old new : ℕ) → new ≡ old → HasCauseIf old new false
kept_count old new same = record { later = omega (arith, same); rose = λ failed. absurd (false≢true failed); kept = λ not. same }

-- neither the script's source nor the disk failed
pub refused_counts : (ending : Status) (why : StoreRefusal) (before after : Option (List ℕ)) (old new : ℕ) → new ≡ old → TellsRefusal ending why before after
    → HasCauseIf old new (has_read_failed ending) × HasCauseIf old new (has_disk_failed ending)
refused_counts status.StoreRefused why before after old new same told = (kept_count old new same, kept_count old new same)
refused_counts status.SpeakFault why before after old new same told = (kept_count old new same, kept_count old new same)
refused_counts status.NoMemory why before after old new same told = (kept_count old new same, kept_count old new same)
refused_counts status.Ok why before after old new same told = absurd told
refused_counts status.Usage why before after old new same told = absurd told
refused_counts status.SchemaRefused why before after old new same told = absurd told
refused_counts status.ReadFault why before after old new same told = absurd told
refused_counts status.DiskFault why before after old new same told = absurd told
refused_counts status.ScriptTooLong why before after old new same told = absurd told

-- ---- what a crash may leave

-- a store that stands for something is not refused
never_refused : IsImageOneThing → (why : StoreRefusal) (S : Schema) (M : Catalog) (next : ℕ) (octets : List ℕ) → Stands S M next octets → IsRefusal S (fault_of why) octets → ⊥
never_refused law NotAStore S M next octets stands refusal = law.never_both S M next mount.NotAStore octets tt stands refusal
never_refused law (ShapeDiffers home) S M next octets stands refusal = law.never_both S M next (mount.ShapeDiffers home) octets tt stands refusal
never_refused law (Damaged at k) S M next octets stands refusal = law.never_both S M next (mount.Damaged at k) octets tt stands refusal

-- nothing is told behind mounting
still_kept : (S : Schema) (M : Catalog) (next : ℕ) (script : Option (List ℕ)) (first : Moment) (a b : List Moment) → FromSync a b first (AllHave (Stands S M next)) → Through a b (IsQuiet first)
    → FromSync a b first (IsKeptAt S M next true script first.spoken)
still_kept S M next script first a b synced still =
    since_by a b first (AllHave (Stands S M next)) (IsQuiet first) (IsKeptAt S M next true script first.spoken) (λ m images said. inl (said, images)) synced still

module _ (S : Schema) (script : Option (List ℕ)) (first : Moment) (a b : List Moment) where
  abbrev Synced : Option (List ℕ) → Type 0
  Synced held = (M : Catalog) (next : ℕ) → IfSome held (λ octets. Stands S M next octets → FromSync a b first (AllHave (Stands S M next)))

  pub still_over : (held : Option (List ℕ)) → Synced held → Through a b (IsQuiet first) → IsKeptOver S held script first.spoken a b first
  still_over None synced still = λ M next. tt
  still_over (Some octets) synced still = λ M next stands. still_kept S M next script first a b (synced M next stands) still

pub refused_over : IsImageOneThing → (why : StoreRefusal) (S : Schema) (held script before : Option (List ℕ)) (a c : List Moment) (first : Moment) → IfSome held (IsRefusal S (fault_of why))
    → IsKeptOver S held script before a c first
refused_over law why S None script before a c first refusal = λ M next. tt
refused_over law why S (Some octets) script before a c first refusal = λ M next stands. absurd (never_refused law why S M next octets stands refusal)

-- the disk did not fail
pub no_disk_fault : (why : StoreRefusal) → fault_of why ≡ mount.DiskFault → ⊥
no_disk_fault NotAStore is = cc
no_disk_fault (ShapeDiffers home) is = cc
no_disk_fault (Damaged at k) is = cc

no_failure : (why : StoreRefusal) → is_mount_disk_fault {T = Mounted} (Err (fault_of why)) ≡ false
no_failure NotAStore = refl
no_failure (ShapeDiffers home) = refl
no_failure (Damaged at k) = refl

pub disk_kept : (fault : MountFault) (why : StoreRefusal) (old new : ℕ) → fault ≡ fault_of why → HasCauseIf old new (is_mount_disk_fault {T = Mounted} (Err fault)) → new ≡ old
disk_kept fault why old new is cause = cause.kept (ap (λ (f : MountFault). is_mount_disk_fault {T = Mounted} (Err f)) is ∙ no_failure why)
