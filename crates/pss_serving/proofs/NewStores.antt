-- How making a store ends.
use Rattle.std.proofs.Common.{◌≡◌, ◌⊎◌, ⊎_elim, inl, inr, ℕ, List, IfSome, refl, subst}
use Rattle.std.specs.declared.option.Option.{Option}
use Rattle.pss_base.specs.Causes.{HasCauseIf}
use Rattle.pss_disk.specs.Images.{IsQuiet}
use Rattle.pss_disk.specs.Moments.{Moment, Disk, Through}
use Rattle.pss_disk.proofs.Passing.{then_come, weaker}
use Rattle.type_layout.specs.declared.schema.Schema.{Schema}
use Rattle.psdl_tree.specs.Trees.{Definitions}
use Rattle.psdl_directory.specs.Declarations.{all_declarations}
use Rattle.psdl_check.specs.Schemas.{schema}
use Rattle.line_service.specs.Spoken.{HasSpoken}
use Rattle.line_service.specs.Turns.{IsWhole}
use Rattle.store_refusals.specs.Lines.{IsFilled, not_empty_line}
use Rattle.pss_serving.specs.Checked.{IsSound}
use Rattle.pss_serving.specs.Counts.{Counts, HasCauses, has_disk_failed, has_speech_failed}
use Rattle.pss_serving.specs.Making.{EndsMaking, Made, MakesStore, TellsFilled, WholeMaking}
use Rattle.pss_serving.specs.Spoken.{IsCut}
use Rattle.pss_serving.specs.declared.status.Status.{Status}
use Rattle.pss_serving.specs.declared.status.Status.TheVariants as status
use Rattle.pss_serving.proofs.AtMoments.{cut_call, quiet_call, whole_call}

-- ---- a file that has octets

pub filled_makes : (ending : Status) (S : Schema) (made : Made) → IsFilled made.held → made.holds ≡ made.held → TellsFilled ending made.before made.after → MakesStore ending S made
filled_makes status.StoreRefused S made filled same told = (filled, told, same)
filled_makes status.SpeakFault S made filled same told = (filled, told, same)
filled_makes status.Ok S made filled same told = absurd told
filled_makes status.Usage S made filled same told = absurd told
filled_makes status.SchemaRefused S made filled same told = absurd told
filled_makes status.NoMemory S made filled same told = absurd told
filled_makes status.ReadFault S made filled same told = absurd told
filled_makes status.DiskFault S made filled same told = absurd told
filled_makes status.ScriptTooLong S made filled same told = absurd told

module _ (a b : List Moment) (before after : Option (List ℕ)) (disk : Option Disk) where
  abbrev Whole : Option (List ℕ) → Type 0
  Whole spoken = IsWhole not_empty_line before spoken

  pub filled_moments : (ending : Status) → TellsFilled ending before after → Through a b (HasSpoken after disk) → Through a b (λ m. Whole m.spoken ⊎ IsCut ending after m.spoken)
  filled_moments status.StoreRefused told call = whole_call a b after Whole disk status.StoreRefused (inr told) call
  filled_moments status.SpeakFault told call = cut_call a b after Whole disk call
  filled_moments status.Ok told call = absurd told
  filled_moments status.Usage told call = absurd told
  filled_moments status.SchemaRefused told call = absurd told
  filled_moments status.NoMemory told call = absurd told
  filled_moments status.ReadFault told call = absurd told
  filled_moments status.DiskFault told call = absurd told
  filled_moments status.ScriptTooLong told call = absurd told

-- a call that did not speak comes in front
pub refused_file_moments : (a b c : List Moment) (first now : Moment) (after : Option (List ℕ)) (ending : Status) → IsQuiet first now → TellsFilled ending now.spoken after → Through a b (IsQuiet first)
    → Through b c (HasSpoken after now.disk) → Through a c (λ m. IsWhole not_empty_line first.spoken m.spoken ⊎ IsCut ending after m.spoken)
refused_file_moments a b c first now after ending quiet told still call =
    then_come a b c (λ m. IsWhole not_empty_line first.spoken m.spoken ⊎ IsCut ending after m.spoken)
    (quiet_call a b after (IsWhole not_empty_line first.spoken) first ending (inl refl) still)
    (subst (λ (before : Option (List ℕ)). Through b c (λ m. IsWhole not_empty_line before m.spoken ⊎ IsCut ending after m.spoken)) quiet (filled_moments b c now.spoken after now.disk ending told call))

-- ---- over the text

pub making_ends : (ending : Status) (tree : Definitions) (made : Made) (old new : ℕ) → IfSome made.text (λ bytes. IsSound bytes tree)
    → MakesStore ending (schema (all_declarations tree)) made → EndsMaking ending made old new
making_ends status.Ok tree made old new sound is = (tree, sound, is)
making_ends status.StoreRefused tree made old new sound is = (tree, sound, is)
making_ends status.SpeakFault tree made old new sound is = inr (tree, sound, is)
making_ends status.DiskFault tree made old new sound is = is
making_ends status.NoMemory tree made old new sound is = is
making_ends status.Usage tree made old new sound is = absurd is
making_ends status.SchemaRefused tree made old new sound is = absurd is
making_ends status.ReadFault tree made old new sound is = absurd is
making_ends status.ScriptTooLong tree made old new sound is = absurd is

pub making_causes : (ending : Status) (S : Schema) (made : Made) (old new : Counts) → MakesStore ending S made → new.schema ≡ old.schema → new.script ≡ old.script
    → HasCauseIf old.speech new.speech (has_speech_failed ending) → HasCauseIf old.disk new.disk (has_disk_failed ending) → HasCauses ending old new
making_causes status.Ok S made old new is same still speech disk = (same, still, speech.kept refl, disk.kept refl)
making_causes status.StoreRefused S made old new is same still speech disk = (same, still, speech.kept refl, disk.kept refl)
making_causes status.SpeakFault S made old new is same still speech disk = (same, still, speech.rose refl, disk.kept refl)
making_causes status.DiskFault S made old new is same still speech disk = (same, still, speech.kept refl, disk.rose refl)
making_causes status.NoMemory S made old new is same still speech disk = (same, still, speech.kept refl, disk.kept refl)
making_causes status.Usage S made old new is same still speech disk = absurd is
making_causes status.SchemaRefused S made old new is same still speech disk = absurd is
making_causes status.ReadFault S made old new is same still speech disk = absurd is
making_causes status.ScriptTooLong S made old new is same still speech disk = absurd is

pub making_moments : (ending : Status) (text before after : Option (List ℕ)) (a b : List Moment) → Through a b (λ m. IsWhole not_empty_line before m.spoken ⊎ IsCut ending after m.spoken)
    → Through a b (λ m. WholeMaking text before m.spoken ⊎ IsCut ending after m.spoken)
making_moments ending text before after a b came =
    weaker a b (λ m. IsWhole not_empty_line before m.spoken ⊎ IsCut ending after m.spoken) (λ m. WholeMaking text before m.spoken ⊎ IsCut ending after m.spoken)
    (λ m is. ⊎_elim (λ whole. inl (inr whole)) (λ cut. inr cut) is) came
