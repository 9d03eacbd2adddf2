-- What is spoken by what the words ask for.
use Rattle.std.proofs.Common.{◌≡◌, ◌⊎◌, ⊎_elim, inl, inr, ℕ, List}
use Rattle.std.specs.declared.option.Option.{Option}
use Rattle.std.specs.Io.KnownBytes.{append_known}
use Rattle.pss_disk.specs.Moments.{Moment, Disk, Through}
use Rattle.pss_disk.proofs.Passing.{weaker}
use Rattle.line_service.specs.Spoken.{HasSpoken}
use Rattle.line_service.specs.Turns.{IsWhole}
use Rattle.pss_daemon.specs.Ends.{IsCheck, IsDemo, IsInit, IsNoPlan, IsRun, SaidWhole, usage_line}
use Rattle.pss_daemon.specs.Shows.{WholeShowing}
use Rattle.pss_serving.specs.Making.{WholeMaking}
use Rattle.pss_serving.specs.Outcomes.{OfText, WholeServing}
use Rattle.pss_serving.specs.Spoken.{IsCut}
use Rattle.pss_serving.specs.declared.status.Status.{Status}
use Rattle.pss_serving.specs.declared.status.Status.TheVariants as status
use Rattle.pss_serving.proofs.AtMoments.{whole_call, cut_call}

module _ (words : List (List ℕ)) (schema held script before after : Option (List ℕ)) (hist hist' : List Moment) where
  abbrev Whole : Option (List ℕ) → Type 0
  Whole spoken = SaidWhole words schema held script before spoken

  -- the moments of a call have P or are cut; from P follows what the words ask for
  by : (P : Option (List ℕ) → Type 0) (ending : Status) → ((spoken : Option (List ℕ)) → P spoken → Whole spoken)
      → Through hist hist' (λ m. P m.spoken ⊎ IsCut ending after m.spoken) → Through hist hist' (λ m. Whole m.spoken ⊎ IsCut ending after m.spoken)
  by P ending asked = weaker hist hist' (λ m. P m.spoken ⊎ IsCut ending after m.spoken) (λ m. Whole m.spoken ⊎ IsCut ending after m.spoken)
      (λ m said. ⊎_elim (λ is. inl (asked m.spoken is)) (λ cut. inr cut) said)

  pub usage_moments : (disk : Option Disk) → IsNoPlan words → after ≡ append_known before usage_line → Through hist hist' (HasSpoken after disk) → Through hist hist' (λ m. Whole m.spoken ⊎ IsCut status.Usage after m.spoken)
  usage_moments disk is told = whole_call hist hist' after Whole disk status.Usage (inl (is, inr told))

  pub cut_moments : (disk : Option Disk) → Through hist hist' (HasSpoken after disk) → Through hist hist' (λ m. Whole m.spoken ⊎ IsCut status.SpeakFault after m.spoken)
  cut_moments = cut_call hist hist' after Whole

  pub check_moments : (ending : Status) → IsCheck words → Through hist hist' (λ m. OfText (λ told. IsWhole told before m.spoken) schema ⊎ IsCut ending after m.spoken) → Through hist hist' (λ m. Whole m.spoken ⊎ IsCut ending after m.spoken)
  check_moments ending is = by (λ spoken. OfText (λ told. IsWhole told before spoken) schema) ending (λ spoken said. inr (inl (is, said)))

  pub init_moments : (ending : Status) → IsInit words → Through hist hist' (λ m. WholeMaking schema before m.spoken ⊎ IsCut ending after m.spoken) → Through hist hist' (λ m. Whole m.spoken ⊎ IsCut ending after m.spoken)
  init_moments ending is = by (λ spoken. WholeMaking schema before spoken) ending (λ spoken said. inr (inr (inl (is, said))))

  pub run_moments : (ending : Status) → IsRun words → Through hist hist' (λ m. WholeServing schema held script before m.spoken ⊎ IsCut ending after m.spoken) → Through hist hist' (λ m. Whole m.spoken ⊎ IsCut ending after m.spoken)
  run_moments ending is = by (λ spoken. WholeServing schema held script before spoken) ending (λ spoken said. inr (inr (inr (inl (is, said)))))

  pub demo_moments : (ending : Status) (is : IsDemo words) → Through hist hist' (λ m. WholeShowing is.0 held before m.spoken ⊎ IsCut ending after m.spoken) → Through hist hist' (λ m. Whole m.spoken ⊎ IsCut ending after m.spoken)
  demo_moments ending is = by (λ spoken. WholeShowing is.0 held before spoken) ending (λ spoken said. inr (inr (inr (inr (is, said)))))
