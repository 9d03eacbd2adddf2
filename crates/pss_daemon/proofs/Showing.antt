-- How a demonstration ends, by what it came to.
use Rattle.std.proofs.Common.{◌≡◌, ◌⊎◌, ⊎_elim, inl, inr, ℕ, List, None, Err, Result, subst, sym}
use Rattle.std.specs.declared.option.Option.{Option}
use Rattle.pss_disk.specs.Moments.{Disk, Moment, Through}
use Rattle.pss_disk.proofs.Passing.{then_come, weaker}
use Rattle.line_service.specs.Spoken.{HasSpoken}
use Rattle.line_service.specs.Turns.{IsWhole}
use Rattle.store_refusals.specs.Lines.{IsFilled, IsFilledKept, not_empty_line}
use Rattle.store_refusals.specs.declared.refusals.StoreRefusal.{StoreRefusal}
use Rattle.people_demo.specs.Shows.{IsShownLine}
use Rattle.people_demo.specs.declared.demo.DemoStop.{DemoStop}
use Rattle.people_demo.specs.declared.demo.DemoStop.TheVariants as stop
use Rattle.pss_serving.specs.Making.{TellsFilled}
use Rattle.pss_serving.specs.Outcomes.{Call, IsSpared, TellsRefusal}
use Rattle.pss_serving.specs.Spoken.{IsCut}
use Rattle.pss_serving.specs.declared.status.Status.{Status}
use Rattle.pss_serving.specs.declared.status.Status.TheVariants as status
use Rattle.pss_serving.proofs.AtMoments.{whole_call, cut_call}
use Rattle.pss_serving.proofs.NewStores.{filled_moments}
use Rattle.pss_daemon.specs.Shows.{EndsShowing, WholeShowing}

-- ---- the file has octets

pub filled_shows : (rounds : ℕ) (ending : Status) (call : Call) → IsFilled call.held → call.holds ≡ call.held → TellsFilled ending call.before call.after → EndsShowing rounds ending call
filled_shows rounds status.StoreRefused call filled same told = inl (filled, told, same)
filled_shows rounds status.SpeakFault call filled same told = inr (inl (filled, told, same))
filled_shows rounds status.Ok call filled same told = absurd told
filled_shows rounds status.Usage call filled same told = absurd told
filled_shows rounds status.SchemaRefused call filled same told = absurd told
filled_shows rounds status.NoMemory call filled same told = absurd told
filled_shows rounds status.ReadFault call filled same told = absurd told
filled_shows rounds status.DiskFault call filled same told = absurd told
filled_shows rounds status.ScriptTooLong call filled same told = absurd told

-- ---- what was made is not mounted

pub unmounted_shows : (rounds : ℕ) (ending : Status) (why : StoreRefusal) (call : Call) → call.held ≡ None → TellsRefusal ending why call.before call.after → EndsShowing rounds ending call
unmounted_shows rounds status.StoreRefused why call untold told = inr (untold, why, told)
unmounted_shows rounds status.SpeakFault why call untold told = inr (inr (untold, why, told))
unmounted_shows rounds status.NoMemory why call untold told = (told, subst (λ (held : Option (List ℕ)). IsFilledKept held call.holds) (sym untold) tt)
unmounted_shows rounds status.Ok why call untold told = absurd told
unmounted_shows rounds status.Usage why call untold told = absurd told
unmounted_shows rounds status.SchemaRefused why call untold told = absurd told
unmounted_shows rounds status.ReadFault why call untold told = absurd told
unmounted_shows rounds status.DiskFault why call untold told = absurd told
unmounted_shows rounds status.ScriptTooLong why call untold told = absurd told

pub unmounted_spared : (held : Option (List ℕ)) (a b : List Moment) (first : Moment) → held ≡ None → IsSpared held a b first
unmounted_spared held a b first untold = subst (λ (o : Option (List ℕ)). IsSpared o a b first) (sym untold) tt

-- ---- moments

module _ (rounds : ℕ) (held before : Option (List ℕ)) where
  abbrev Whole : Option (List ℕ) → Type 0
  Whole spoken = WholeShowing rounds held before spoken

  -- the demonstration tells this of its moments
  abbrev Shown : List ℕ → Option (List ℕ) → Result (Unit {0}) DemoStop → Moment → Type 0
  Shown line after result m = IsWhole line before m.spoken ⊎ ((result ≡ Err stop.SpeakFault) × (m.spoken ≡ after))

  -- the call ends as it does
  pub shown_moments : (a b : List Moment) (after : Option (List ℕ)) (result : Result (Unit {0}) DemoStop) (ending : Status) → (result ≡ Err stop.SpeakFault → ending ≡ status.SpeakFault)
      → (line : List ℕ) × IsShownLine rounds held line × Through a b (Shown line after result)
      → Through a b (λ m. Whole m.spoken ⊎ IsCut ending after m.spoken)
  shown_moments a b after result ending cut came =
      weaker a b (Shown came.0 after result) (λ m. Whole m.spoken ⊎ IsCut ending after m.spoken)
      (λ m is. ⊎_elim (λ whole. inl (inl (came.0, came.1, whole))) (λ failed. inr (cut failed.0, failed.1)) is) came.2

  -- it ended before its line was spoken, and a line that tells why is
  told_moments : (a b c : List Moment) (between after : Option (List ℕ)) (result : Result (Unit {0}) DemoStop) (ending : Status) → (result ≡ Err stop.SpeakFault → ⊥)
      → (line : List ℕ) × IsShownLine rounds held line × Through a b (Shown line between result)
      → Through b c (λ m. Whole m.spoken ⊎ IsCut ending after m.spoken) → Through a c (λ m. Whole m.spoken ⊎ IsCut ending after m.spoken)
  told_moments a b c between after result ending not came call =
      then_come a b c (λ m. Whole m.spoken ⊎ IsCut ending after m.spoken)
      (weaker a b (Shown came.0 between result) (λ m. Whole m.spoken ⊎ IsCut ending after m.spoken)
      (λ m is. ⊎_elim (λ whole. inl (inl (came.0, came.1, whole))) (λ failed. absurd (not failed.0)) is) came.2) call

  pub filled_shown : (a b c : List Moment) (between after : Option (List ℕ)) (disk : Option Disk) (result : Result (Unit {0}) DemoStop) (ending : Status) → (result ≡ Err stop.SpeakFault → ⊥)
      → between ≡ before → TellsFilled ending between after → (line : List ℕ) × IsShownLine rounds held line × Through a b (Shown line between result)
      → Through b c (HasSpoken after disk) → Through a c (λ m. Whole m.spoken ⊎ IsCut ending after m.spoken)
  filled_shown a b c between after disk result ending not same told came call =
      told_moments a b c between after result ending not came
      (weaker b c (λ m. IsWhole not_empty_line before m.spoken ⊎ IsCut ending after m.spoken) (λ m. Whole m.spoken ⊎ IsCut ending after m.spoken)
      (λ m is. ⊎_elim (λ whole. inl (inr (inl whole))) (λ cut. inr cut) is)
      (filled_moments b c before after disk ending (subst (λ (spoken : Option (List ℕ)). TellsFilled ending spoken after) same told) call))

  unmounted_whole : (b c : List Moment) (why : StoreRefusal) (after : Option (List ℕ)) (disk : Option Disk) (ending : Status) → held ≡ None → TellsRefusal ending why before after
      → (line : List ℕ) × IsShownLine rounds held line → Through b c (HasSpoken after disk) → Through b c (λ m. Whole m.spoken ⊎ IsCut ending after m.spoken)
  unmounted_whole b c why after disk status.StoreRefused untold told line call = whole_call b c after Whole disk status.StoreRefused (inr (inr (untold, why, inr told))) call
  unmounted_whole b c why after disk status.SpeakFault untold told line call = cut_call b c after Whole disk call
  unmounted_whole b c why after disk status.NoMemory untold told line call = whole_call b c after Whole disk status.NoMemory (inl (line.0, line.1, inl told)) call
  unmounted_whole b c why after disk status.Ok untold told line call = absurd told
  unmounted_whole b c why after disk status.Usage untold told line call = absurd told
  unmounted_whole b c why after disk status.SchemaRefused untold told line call = absurd told
  unmounted_whole b c why after disk status.ReadFault untold told line call = absurd told
  unmounted_whole b c why after disk status.DiskFault untold told line call = absurd told
  unmounted_whole b c why after disk status.ScriptTooLong untold told line call = absurd told

  pub unmounted_shown : (a b c : List Moment) (why : StoreRefusal) (between after : Option (List ℕ)) (disk : Option Disk) (result : Result (Unit {0}) DemoStop) (ending : Status) → (result ≡ Err stop.SpeakFault → ⊥)
      → held ≡ None → between ≡ before → TellsRefusal ending why between after → (line : List ℕ) × IsShownLine rounds held line × Through a b (Shown line between result)
      → Through b c (HasSpoken after disk) → Through a c (λ m. Whole m.spoken ⊎ IsCut ending after m.spoken)
  unmounted_shown a b c why between after disk result ending not untold same told came call =
      told_moments a b c between after result ending not came
      (unmounted_whole b c why after disk ending untold (subst (λ (spoken : Option (List ℕ)). TellsRefusal ending why spoken after) same told) (came.0, came.1) call)
