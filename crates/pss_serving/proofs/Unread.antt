-- How a call ends that finds no sound text.
use Rattle.std.proofs.Common.{◌≡◌, ◌⊎◌, inl, inr, ℕ, List, IfSome, IsTrue, Err, refl, sym, subst}
use Rattle.std.proofs.lemmas.Bool.{false≢true}
use Rattle.std.specs.declared.option.Option.{Option}
use Rattle.std.specs.Io.KnownBytes.{append_known}
use Rattle.pss_base.specs.Causes.{HasCauseIf}
use Rattle.pss_disk.specs.Moments.{Disk, Moment, Through}
use Rattle.pss_disk.proofs.Passing.{none_came}
use Rattle.line_service.specs.Spoken.{HasSpoken, SaidOf}
use Rattle.line_service.specs.Turns.{IsWhole}
use Rattle.pss_serving.specs.Checked.{IsOneThing}
use Rattle.pss_serving.specs.Counts.{Counts, HasCauses, has_read_failed, has_speech_failed}
use Rattle.pss_serving.specs.Found.{IsFound, IsOne}
use Rattle.pss_serving.specs.Making.{EndsMaking, Made}
use Rattle.pss_serving.specs.Outcomes.{Call, EndsChecking, EndsServing, IsAlwaysKept, OfFault, ends_before_script}
use Rattle.pss_serving.specs.Refusals.{refusal_line}
use Rattle.pss_serving.specs.Spoken.{IsCut}
use Rattle.pss_serving.specs.Unread.{IsUnknown, OfRefused, TellsUnread}
use Rattle.pss_serving.specs.declared.reading.Unread.{Unread}
use Rattle.pss_serving.specs.declared.reading.Unread.TheVariants.{Refused, ReadFault, NoMemory}
use Rattle.pss_serving.specs.declared.schema_fault.SchemaFault.{SchemaFault}
use Rattle.pss_serving.specs.declared.status.Status.{Status}
use Rattle.pss_serving.specs.declared.status.Status.TheVariants as status
use Rattle.pss_serving.proofs.AtMoments.{cut_call, whole_call}
use Rattle.pss_serving.proofs.EndOfRun.{kept_none, kept_still}

-- the fault that is told is the text's
of_fault : (why : Unread) (text : Option (List ℕ)) (P : List ℕ → Type 0) → IsFound (Err why) text → OfRefused why P → OfFault P text
of_fault (Refused fault) text P found of = (fault, found, of)
of_fault ReadFault text P found of = absurd of
of_fault NoMemory text P found of = absurd of

-- ---- how it ends

pub unread_checks : (ending : Status) (why : Unread) (text before after : Option (List ℕ)) (old new : ℕ) → IsFound (Err why) text → HasCauseIf old new (has_read_failed ending)
    → TellsUnread ending why before after → EndsChecking ending text before after old new
unread_checks status.SchemaRefused why text before after old new found cause told = of_fault why text (λ line. after ≡ append_known before line) found told
unread_checks status.SpeakFault why text before after old new found cause told = inl (of_fault why text (λ line. SaidOf line before after) found told)
unread_checks status.ReadFault why text before after old new found cause told = (cause.rose refl, told)
unread_checks status.NoMemory why text before after old new found cause told = told
unread_checks status.Ok why text before after old new found cause told = absurd told
unread_checks status.Usage why text before after old new found cause told = absurd told
unread_checks status.StoreRefused why text before after old new found cause told = absurd told
unread_checks status.DiskFault why text before after old new found cause told = absurd told
unread_checks status.ScriptTooLong why text before after old new found cause told = absurd told

pub unread_makes : (ending : Status) (why : Unread) (made : Made) (old new : ℕ) → IsFound (Err why) made.text → HasCauseIf old new (has_read_failed ending)
    → TellsUnread ending why made.before made.after → made.holds ≡ made.held → EndsMaking ending made old new
unread_makes status.SchemaRefused why made old new found cause told same = (of_fault why made.text (λ line. made.after ≡ append_known made.before line) found told, same)
unread_makes status.SpeakFault why made old new found cause told same = inl (of_fault why made.text (λ line. SaidOf line made.before made.after) found told, same)
unread_makes status.ReadFault why made old new found cause told same = (cause.rose refl, told, same)
unread_makes status.NoMemory why made old new found cause told same = (told, same)
unread_makes status.Ok why made old new found cause told same = absurd told
unread_makes status.Usage why made old new found cause told same = absurd told
unread_makes status.StoreRefused why made old new found cause told same = absurd told
unread_makes status.DiskFault why made old new found cause told same = absurd told
unread_makes status.ScriptTooLong why made old new found cause told same = absurd told

pub unread_serves : (ending : Status) (why : Unread) (call : Call) (old new : ℕ) → IsFound (Err why) call.schema → HasCauseIf old new (has_read_failed ending)
    → TellsUnread ending why call.before call.after → call.holds ≡ call.held → EndsServing ending call old new
unread_serves status.SchemaRefused why call old new found cause told same = (of_fault why call.schema (λ line. call.after ≡ append_known call.before line) found told, same)
unread_serves status.SpeakFault why call old new found cause told same = inl (of_fault why call.schema (λ line. SaidOf line call.before call.after) found told, same)
unread_serves status.ReadFault why call old new found cause told same = inl (cause.rose refl, told, same)
unread_serves status.NoMemory why call old new found cause told same = inl (told, same)
unread_serves status.Ok why call old new found cause told same = absurd told
unread_serves status.Usage why call old new found cause told same = absurd told
unread_serves status.StoreRefused why call old new found cause told same = absurd told
unread_serves status.DiskFault why call old new found cause told same = absurd told
unread_serves status.ScriptTooLong why call old new found cause told same = absurd told

pub unread_causes : (ending : Status) (why : Unread) (before after : Option (List ℕ)) (old new : Counts) → HasCauseIf old.schema new.schema (has_read_failed ending) → new.script ≡ old.script
    → HasCauseIf old.speech new.speech (has_speech_failed ending) → new.disk ≡ old.disk → TellsUnread ending why before after → HasCauses ending old new
unread_causes status.SchemaRefused why before after old new read script speech disk told = (read.kept refl, script, speech.kept refl, disk)
unread_causes status.SpeakFault why before after old new read script speech disk told = (read.kept refl, script, speech.rose refl, disk)
unread_causes status.ReadFault why before after old new read script speech disk told = inl (read.rose refl, script, speech.kept refl, disk)
unread_causes status.NoMemory why before after old new read script speech disk told = (read.kept refl, script, speech.kept refl, disk)
unread_causes status.Ok why before after old new read script speech disk told = absurd told
unread_causes status.Usage why before after old new read script speech disk told = absurd told
unread_causes status.StoreRefused why before after old new read script speech disk told = absurd told
unread_causes status.DiskFault why before after old new read script speech disk told = absurd told
unread_causes status.ScriptTooLong why before after old new read script speech disk told = absurd told

-- ---- the text is one thing where the call ends before the script

untold_before : (ending : Status) (why : Unread) (before after : Option (List ℕ)) → ((P : List ℕ → Type 0) → OfRefused why P → ⊥) → TellsUnread ending why before after → IsTrue (ends_before_script ending) → ⊥
untold_before status.SchemaRefused why before after none told is = none (λ line. after ≡ append_known before line) told
untold_before status.SpeakFault why before after none told is = absurd (false≢true is)
untold_before status.ReadFault why before after none told is = absurd (false≢true is)
untold_before status.NoMemory why before after none told is = absurd (false≢true is)
untold_before status.Ok why before after none told is = absurd told
untold_before status.Usage why before after none told is = absurd told
untold_before status.StoreRefused why before after none told is = absurd told
untold_before status.DiskFault why before after none told is = absurd told
untold_before status.ScriptTooLong why before after none told is = absurd told

pub unread_one : (ending : Status) (why : Unread) (text before after : Option (List ℕ)) → IsOne (Err why) text → TellsUnread ending why before after → IsTrue (ends_before_script ending) → IfSome text IsOneThing
unread_one ending (Refused fault) text before after one told is = one
unread_one ending ReadFault text before after one told is = absurd (untold_before ending ReadFault before after (λ P of. of) told is)
unread_one ending NoMemory text before after one told is = absurd (untold_before ending NoMemory before after (λ P of. of) told is)

-- ---- at its moments

module _ (a b : List Moment) (before after : Option (List ℕ)) (disk : Option Disk) (P : Option (List ℕ) → Type 0) where
  abbrev OrCut : Status → Moment → Type 0
  OrCut ending m = P m.spoken ⊎ IsCut ending after m.spoken

  fault_moments : (ending : Status) (fault : SchemaFault) → (IsWhole (refusal_line fault) before after → P after) → TellsUnread ending (Refused fault) before after
      → Through a b (HasSpoken after disk) → Through a b (OrCut ending)
  fault_moments status.SchemaRefused fault whole told call = whole_call a b after P disk status.SchemaRefused (whole (inr told)) call
  fault_moments status.SpeakFault fault whole told call = cut_call a b after P disk call
  fault_moments status.ReadFault fault whole told call = whole_call a b after P disk status.ReadFault (whole (inl told)) call
  fault_moments status.NoMemory fault whole told call = whole_call a b after P disk status.NoMemory (whole (inl told)) call
  fault_moments status.Ok fault whole told call = absurd told
  fault_moments status.Usage fault whole told call = absurd told
  fault_moments status.StoreRefused fault whole told call = absurd told
  fault_moments status.DiskFault fault whole told call = absurd told
  fault_moments status.ScriptTooLong fault whole told call = absurd told

  none_moments : (ending : Status) → b ≡ a → Through a b (OrCut ending)
  none_moments ending same = subst (λ (l : List Moment). Through a l (OrCut ending)) (sym same) (none_came a (OrCut ending))

  -- nothing was spoken, or the whole line of the text's fault, but where speech failed
  pub unread_moments : (ending : Status) (why : Unread) (text : Option (List ℕ)) → IsFound (Err why) text → (OfFault (λ line. IsWhole line before after) text → P after) → (IsUnknown why → b ≡ a)
      → TellsUnread ending why before after → Through a b (HasSpoken after disk) → Through a b (OrCut ending)
  unread_moments ending (Refused fault) text found of still told call = fault_moments ending fault (λ whole. of (fault, found, whole)) told call
  unread_moments ending ReadFault text found of still told call = none_moments ending (still tt)
  unread_moments ending NoMemory text found of still told call = none_moments ending (still tt)

-- what a crash may leave: the text has no sound tree, or nothing came
module _ (held script before : Option (List ℕ)) (a b : List Moment) (now : Moment) where
  still_kept : (text : Option (List ℕ)) → b ≡ a → IsAlwaysKept text held script before a b now
  still_kept text same = subst (λ (l : List Moment). IsAlwaysKept text held script before a l now) (sym same) (kept_still text held script before a now)

  pub unread_kept : (why : Unread) (text : Option (List ℕ)) → IsFound (Err why) text → IsOne (Err why) text → (IsUnknown why → b ≡ a) → IsAlwaysKept text held script before a b now
  unread_kept (Refused fault) text found one still = kept_none held script before a b now text fault found one
  unread_kept ReadFault text found one still = still_kept text (still tt)
  unread_kept NoMemory text found one still = still_kept text (still tt)
