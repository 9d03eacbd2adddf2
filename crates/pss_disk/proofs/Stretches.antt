-- Calls of the disk, one after another.
use Rattle.std.proofs.Common.{ℕ, ◌≡◌, List, refl, ◌∙◌}
use Rattle.std.specs.declared.option.Option.{Option}
use Rattle.std.specs.Option.{option_map}
use Rattle.pss_disk.specs.Images.{Agrees, IsQuiet, Keeps, Misses, Stretch}
use Rattle.pss_disk.specs.Moments.{DuringSync, DuringWrite, IsSettled, Moment, Range, Through}
use Rattle.pss_disk.proofs.Images.{keeps_sync, quiet_sync, quiet_write, untouched_keeps, untouched_start, untouched_write}
use Rattle.pss_disk.proofs.Passing.{none_came, then_come, weaker}

pub stretch_start : (S : ℕ → Type 0) (content : Option (List ℕ)) (now : Moment) (history : List Moment) → IsSettled content now → Stretch S content now history history now
stretch_start S content now history settled = record {
  untouched = untouched_start S content now settled;
  images = none_came history (Keeps S content);
  quiet = none_came history (IsQuiet now);
  said = refl;
}

module _ (S : ℕ → Type 0) (content : Option (List ℕ)) (first : Moment) (before history later : List Moment) (now : Moment) (s : Stretch S content first before history now) where
  -- a write, whether it failed or not
  pub stretch_write : (range : Range) (new : Moment) → Misses S range → Through history later (DuringWrite range now) → DuringWrite range now new → Stretch S content first before later new
  stretch_write range new misses time d = record {
    untouched = untouched_write S content now new range misses s.untouched d;
    images = then_come before history later (Keeps S content) s.images
        (weaker history later (DuringWrite range now) (Keeps S content) (λ m e. untouched_keeps S content m (untouched_write S content now m range misses s.untouched e)) time);
    quiet = then_come before history later (IsQuiet first) s.quiet (weaker history later (DuringWrite range now) (IsQuiet first) (λ m e. quiet_write range now m e ∙ s.said) time);
    said = quiet_write range now new d ∙ s.said;
  }

  -- the images, up to a sync of what the writes made of the content
  pub synced_images : (written : Option (List ℕ)) (f : List ℕ → List ℕ) → written ≡ option_map f content → ((c : List ℕ) → Agrees S c (f c)) → Through history later (DuringSync written now) → Through before later (Keeps S content)
  synced_images written f is same time =
      then_come before history later (Keeps S content) s.images
      (weaker history later (DuringSync written now) (Keeps S content) (λ m d. keeps_sync S content written f now m (untouched_keeps S content now s.untouched) is same d) time)

  pub synced_quiet : (written : Option (List ℕ)) → Through history later (DuringSync written now) → Through before later (IsQuiet first)
  synced_quiet written time = then_come before history later (IsQuiet first) s.quiet (weaker history later (DuringSync written now) (IsQuiet first) (λ m d. quiet_sync written now m d ∙ s.said) time)

  pub synced_said : (written : Option (List ℕ)) (new : Moment) → DuringSync written now new → IsQuiet first new
  synced_said written new d = quiet_sync written now new d ∙ s.said
