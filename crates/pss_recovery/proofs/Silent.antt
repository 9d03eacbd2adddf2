-- Calls of the disk do not speak.
use Rattle.std.proofs.Common.{ℕ, ◌≡◌, List, refl, ap, ◌∙◌}
use Rattle.std.specs.declared.option.Option.{Option}
use Rattle.pss_disk.specs.Images.{IsQuiet}
use Rattle.pss_disk.specs.Moments.{DuringSync, DuringWrite, IsStill, Moment, Range, Through}
use Rattle.pss_disk.specs.Reading.{OnlyReads}
use Rattle.pss_disk.proofs.Images.{quiet_sync, quiet_write}
use Rattle.pss_disk.proofs.Passing.{none_came, then_come, weaker}
use Rattle.pss_recovery.specs.Silence.{IsSilent}

module _ {S : Type 0} (now : S → Moment) (history : S → List Moment) (speak_faults : S → ℕ) where
  pub silent_start : (a : S) → IsSilent now history speak_faults a a
  silent_start a = record { moments = none_came (history a) (IsQuiet (now a)); said = refl; speech = refl }

  pub silent_then : (a b c : S) → IsSilent now history speak_faults a b → IsSilent now history speak_faults b c → IsSilent now history speak_faults a c
  silent_then a b c p q = record {
    moments = then_come (history a) (history b) (history c) (IsQuiet (now a)) p.moments (weaker (history b) (history c) (IsQuiet (now b)) (IsQuiet (now a)) (λ m e. e ∙ p.said) q.moments);
    said = q.said ∙ p.said;
    speech = q.speech ∙ p.speech;
  }

  pub silent_write : (a b : S) (range : Range) → Through (history a) (history b) (DuringWrite range (now a)) → DuringWrite range (now a) (now b) → speak_faults b ≡ speak_faults a → IsSilent now history speak_faults a b
  silent_write a b range time maybe other =
      record { moments = weaker (history a) (history b) (DuringWrite range (now a)) (IsQuiet (now a)) (quiet_write range (now a)) time; said = quiet_write range (now a) (now b) maybe; speech = other }

  pub silent_sync : (a b : S) (content : Option (List ℕ)) → Through (history a) (history b) (DuringSync content (now a)) → DuringSync content (now a) (now b) → speak_faults b ≡ speak_faults a → IsSilent now history speak_faults a b
  silent_sync a b content time maybe other =
      record { moments = weaker (history a) (history b) (DuringSync content (now a)) (IsQuiet (now a)) (quiet_sync content (now a)) time; said = quiet_sync content (now a) (now b) maybe; speech = other }

  pub silent_still : (a b : S) → Through (history a) (history b) (IsStill (now a)) → now b ≡ now a → speak_faults b ≡ speak_faults a → IsSilent now history speak_faults a b
  silent_still a b time same other =
      record { moments = weaker (history a) (history b) (IsStill (now a)) (IsQuiet (now a)) (λ m e. ap (λ (n : Moment). n.spoken) e) time; said = ap (λ (n : Moment). n.spoken) same; speech = other }

  -- a call that only read
  pub only_read : (content : S → Option (List ℕ)) (a b : S) → now b ≡ now a → content b ≡ content a → Through (history a) (history b) (IsStill (now a)) → speak_faults b ≡ speak_faults a → OnlyReads now content history speak_faults a b
  only_read content a b still same time speech = record { still = still; same = same; time = time; speech = speech }

  pub silent_reads : (content : S → Option (List ℕ)) (a b : S) → OnlyReads now content history speak_faults a b → IsSilent now history speak_faults a b
  silent_reads content a b reads = silent_still a b reads.time reads.still reads.speech
