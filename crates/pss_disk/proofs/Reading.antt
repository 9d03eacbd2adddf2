-- Calls that only read, one after another.
use Rattle.std.proofs.Common.{ℕ, List, ◌∙◌}
use Rattle.std.specs.declared.option.Option.{Option}
use Rattle.pss_disk.specs.Moments.{IsStill, Moment}
use Rattle.pss_disk.specs.Reading.{OnlyReads}
use Rattle.pss_disk.proofs.Passing.{then_come, weaker}

module _ {S : Type 0} (now : S → Moment) (content : S → Option (List ℕ)) (history : S → List Moment) (speak_faults : S → ℕ) where
  pub reads_then : (a b c : S) → OnlyReads now content history speak_faults a b → OnlyReads now content history speak_faults b c → OnlyReads now content history speak_faults a c
  reads_then a b c r s = record {
    still = s.still ∙ r.still;
    same = s.same ∙ r.same;
    time = then_come (history a) (history b) (history c) (IsStill (now a)) r.time (weaker (history b) (history c) (IsStill (now b)) (IsStill (now a)) (λ m e. e ∙ r.still) s.time);
    speech = s.speech ∙ r.speech;
  }
