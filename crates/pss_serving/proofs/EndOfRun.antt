-- How a call of the service ends, where its text is sound.
use Rattle.std.proofs.Common.{◌≡◌, ◌∙◌, ◌⊎◌, ⊎_elim, inl, inr, ℕ, List, true, None, Some, IfSome, Ok, take, refl, ap, subst, arith}
use Rattle.std.specs.declared.option.Option.{Option}
use Rattle.pss_base.specs.Causes.{HasCauseIf}
use Rattle.pss_base.specs.declared.lines.LineStep.{LineStep}
use Rattle.pss_disk.specs.Moments.{Moment, Through}
use Rattle.pss_disk.proofs.Passing.{weaker}
use Rattle.type_layout.specs.declared.schema.Schema.{Schema}
use Rattle.type_layout.specs.Sound.{IsSoundSchema}
use Rattle.psdl_tree.specs.Trees.{Definitions}
use Rattle.psdl_tree.specs.Views.{tree_view}
use Rattle.psdl_directory.specs.Declarations.{all_declarations}
use Rattle.psdl_check.specs.Schemas.{schema}
use Rattle.psdl_sound.specs.TextLaws.{TextsAreSound}
use Rattle.psdl_syntax.specs.Syntax.{IsTextOf}
use Rattle.pss_machine.specs.Limits.{standard}
use Rattle.line_service.specs.Runs.{lines_of}
use Rattle.script_service.specs.Turns.{script_limits}
use Rattle.script_service.specs.Bounds.{StoredIsBetween}
use Rattle.script_service.specs.Rightful.{RunsAreRight}
use Rattle.pss_serving.specs.Checked.{HasFault, IsOneThing, IsSound}
use Rattle.pss_serving.specs.Counts.{Counts, HasCauses, has_disk_failed, has_read_failed, has_speech_failed}
use Rattle.pss_serving.specs.Found.{IsFound, IsOne}
use Rattle.pss_serving.specs.Outcomes.{Call, EndsOverStore, EndsServing, IsAlwaysKept, IsKeptAt, IsKeptOver, IsOrWhole, ScriptsAreRight, WholeServing}
use Rattle.pss_serving.specs.Spoken.{IsCut}
use Rattle.pss_serving.specs.declared.reading.SoundText.{SoundText}
use Rattle.pss_serving.specs.declared.schema_fault.SchemaFault.{SchemaFault}
use Rattle.pss_serving.specs.declared.status.Status.{Status}
use Rattle.pss_serving.specs.declared.status.Status.TheVariants as status
use Rattle.pss_serving.proofs.Since.{none_since}

ends_under : (ending : Status) (call : Call) (tree : Definitions) (old new : ℕ) → new ≡ old → IfSome call.schema (λ bytes. IsSound bytes tree)
    → EndsOverStore ending call (schema (all_declarations tree)) → EndsServing ending call old new
ends_under status.Ok call tree old new same sound is = (tree, sound, is)
ends_under status.ScriptTooLong call tree old new same sound is = (tree, sound, is)
ends_under status.ReadFault call tree old new same sound is = inr (same, (tree, sound, is))
ends_under status.StoreRefused call tree old new same sound is = ((tree, sound, is.0), is.1)
ends_under status.SpeakFault call tree old new same sound is = inr (tree, sound, is)
ends_under status.DiskFault call tree old new same sound is = ⊎_elim (λ quiet. inl quiet) (λ says. inr (tree, sound, says)) is
ends_under status.NoMemory call tree old new same sound is = ⊎_elim (λ quiet. inl quiet) (λ says. inr (tree, sound, says)) is
ends_under status.Usage call tree old new same sound is = absurd is
ends_under status.SchemaRefused call tree old new same sound is = absurd is

pub ends_of : (ending : Status) (call : Call) (tree : Definitions) (S : Schema) (old new : ℕ) → new ≡ old → IfSome call.schema (λ bytes. IsSound bytes tree) → S ≡ schema (all_declarations tree)
    → EndsOverStore ending call S → EndsServing ending call old new
ends_of ending call tree S old new same sound of is = ends_under ending call tree old new same sound (subst (λ (shape : Schema). EndsOverStore ending call shape) of is)

pub causes_of : (ending : Status) (old new : Counts) → new.schema ≡ old.schema → HasCauseIf old.script new.script (has_read_failed ending)
    → HasCauseIf old.speech new.speech (has_speech_failed ending) → HasCauseIf old.disk new.disk (has_disk_failed ending) → HasCauses ending old new
causes_of status.Ok old new same read speech disk = (same, read.kept refl, speech.kept refl, disk.kept refl)
causes_of status.Usage old new same read speech disk = (same, read.kept refl, speech.kept refl, disk.kept refl)
causes_of status.SchemaRefused old new same read speech disk = (same, read.kept refl, speech.kept refl, disk.kept refl)
causes_of status.StoreRefused old new same read speech disk = (same, read.kept refl, speech.kept refl, disk.kept refl)
causes_of status.NoMemory old new same read speech disk = (same, read.kept refl, speech.kept refl, disk.kept refl)
causes_of status.ReadFault old new same read speech disk = inr (same, read.rose refl, speech.kept refl, disk.kept refl)
causes_of status.DiskFault old new same read speech disk = (same, read.kept refl, speech.kept refl, disk.rose refl)
causes_of status.SpeakFault old new same read speech disk = (same, read.kept refl, speech.rose refl, disk.kept refl)
causes_of status.ScriptTooLong old new same read speech disk = (same, read.kept refl, speech.kept refl, disk.kept refl)

pub moments_of : (ending : Status) (tree : Definitions) (S : Schema) (text held script before after : Option (List ℕ)) (a b : List Moment) → IfSome text (λ bytes. IsSound bytes tree)
    → S ≡ schema (all_declarations tree) → Through a b (λ m. IsOrWhole S held script before m.spoken ⊎ IsCut ending after m.spoken)
    → Through a b (λ m. WholeServing text held script before m.spoken ⊎ IsCut ending after m.spoken)
moments_of ending tree S text held script before after a b sound of came =
    weaker a b (λ m. IsOrWhole S held script before m.spoken ⊎ IsCut ending after m.spoken) (λ m. WholeServing text held script before m.spoken ⊎ IsCut ending after m.spoken)
    (λ m is. ⊎_elim (λ said. inl (⊎_elim (λ quiet. inl quiet) (λ whole. inr (inr (tree, sound, whole))) (subst (λ (shape : Schema). IsOrWhole shape held script before m.spoken) of said))) (λ cut. inr cut) is) came

-- ---- what a crash may leave

module _ (held script before : Option (List ℕ)) (a b : List Moment) (now : Moment) where
  -- each sound tree of the text is the one that was read
  pub kept_of : (text : Option (List ℕ)) (sound : SoundText) (S : Schema) → IsFound (Ok sound) text → IsOne (Ok sound) text → S ≡ sound.schema
      → IsKeptOver S held script before a b now → IsAlwaysKept text held script before a b now
  kept_of None sound S found one of kept = tt
  kept_of (Some bytes) sound S found one of kept = λ tree is.
      let text : IsTextOf (tree_view sound.tree) bytes = subst (IsTextOf (tree_view sound.tree)) found.0.2 found.0.1.0 in
      let same : tree_view sound.tree ≡ tree = one.one_tree (tree_view sound.tree) tree text is.0 in
      subst (λ (shape : Schema). IsKeptOver shape held script before a b now) (of ∙ found.1 ∙ ap (λ (t : Definitions). schema (all_declarations t)) same) kept

  -- the text has no sound tree
  pub kept_none : (text : Option (List ℕ)) (fault : SchemaFault) → IfSome text (λ bytes. HasFault bytes fault) → IfSome text IsOneThing → IsAlwaysKept text held script before a b now
  kept_none None fault is one = tt
  kept_none (Some bytes) fault is one = λ tree sound. absurd (one.never_both fault tree is sound)

-- nothing came
pub kept_still : (text held script before : Option (List ℕ)) (a : List Moment) (now : Moment) → IsAlwaysKept text held script before a a now
kept_still None held script before a now = tt
kept_still (Some bytes) None script before a now = λ tree is M next. tt
kept_still (Some bytes) (Some octets) script before a now = λ tree is M next stands. none_since a now (IsKeptAt (schema (all_declarations tree)) M next true script before)

-- ---- a law of runs, whatever this one came to

pub always : TextsAreSound → RunsAreRight → StoredIsBetween → ScriptsAreRight
always sound right stored None script = tt
always sound right stored (Some bytes) None = tt
always sound right stored (Some bytes) (Some lines) = λ tree is M next good n.
    let S : Schema = schema (all_declarations tree) in
    let first : List LineStep = take n (lines_of script_limits lines) in
    let shape : IsSoundSchema S = sound tree bytes is.0 is.1 in
    record { machine = right S standard M next first shape good; stored = stored S standard M next first shape (omega arith) good }
