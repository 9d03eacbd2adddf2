-- The moments at which replies are spoken.
use Rattle.std.proofs.Common.{◌⊎◌, inl, inr, ℕ, List, refl, sym, subst}
use Rattle.std.specs.declared.option.Option.{Option}
use Rattle.pss_disk.specs.Images.{IsQuiet}
use Rattle.pss_disk.specs.Moments.{Moment, Disk, Through}
use Rattle.pss_disk.proofs.Passing.{weaker}
use Rattle.line_service.specs.Spoken.{HasSpoken}
use Rattle.pss_serving.specs.Spoken.{IsCut}
use Rattle.pss_serving.specs.declared.status.Status.{Status}
use Rattle.pss_serving.specs.declared.status.Status.TheVariants as status

module _ (a b : List Moment) (after : Option (List ℕ)) (P : Option (List ℕ) → Type 0) where
  abbrev OrCut : Status → Moment → Type 0
  OrCut ending m = P m.spoken ⊎ IsCut ending after m.spoken

  -- what is so of what was spoken behind a call is so at its moments
  pub whole_call : (disk : Option Disk) (ending : Status) → P after → Through a b (HasSpoken after disk) → Through a b (OrCut ending)
  whole_call disk ending p call = weaker a b (HasSpoken after disk) (OrCut ending) (λ m is. inl (subst P (sym is.spoken_is) p)) call

  -- speech failed in the call
  pub cut_call : (disk : Option Disk) → Through a b (HasSpoken after disk) → Through a b (OrCut status.SpeakFault)
  cut_call disk call = weaker a b (HasSpoken after disk) (OrCut status.SpeakFault) (λ m is. inr (refl, is.spoken_is)) call

  -- a call did not speak
  pub quiet_call : (now : Moment) (ending : Status) → P now.spoken → Through a b (IsQuiet now) → Through a b (OrCut ending)
  quiet_call now ending p call = weaker a b (IsQuiet now) (OrCut ending) (λ m is. inl (subst P (sym is) p)) call
