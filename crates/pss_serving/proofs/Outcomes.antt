-- What was spoken at the moments of checking a text.
use Rattle.std.proofs.Common.{◌⊎◌, ℕ, List}
use Rattle.std.specs.declared.option.Option.{Option}
use Rattle.pss_disk.specs.Moments.{Moment, Disk, Through}
use Rattle.line_service.specs.Spoken.{HasSpoken}
use Rattle.line_service.specs.Turns.{IsWhole}
use Rattle.pss_serving.specs.Outcomes.{OfText}
use Rattle.pss_serving.specs.Spoken.{IsCut}
use Rattle.pss_serving.specs.declared.status.Status.{Status}
use Rattle.pss_serving.specs.declared.status.Status.TheVariants as status
use Rattle.pss_serving.proofs.AtMoments.{whole_call, cut_call}

module _ (schema before after : Option (List ℕ)) (disk : Option Disk) (hist hist' : List Moment) where
  abbrev WholeChecking : Option (List ℕ) → Type 0
  WholeChecking spoken = OfText (λ told. IsWhole told before spoken) schema

  pub checking_whole : (ending : Status) → WholeChecking after → Through hist hist' (HasSpoken after disk) → Through hist hist' (λ m. WholeChecking m.spoken ⊎ IsCut ending after m.spoken)
  checking_whole = whole_call hist hist' after WholeChecking disk

  pub checking_cut : Through hist hist' (HasSpoken after disk) → Through hist hist' (λ m. WholeChecking m.spoken ⊎ IsCut status.SpeakFault after m.spoken)
  checking_cut = cut_call hist hist' after WholeChecking disk
