-- Lines are served behind others.
use Rattle.std.proofs.Common.{ℕ, ◌≡◌, ◌≤◌, ◌<◌, ◌+◌, ◌∙◌, ap, refl, sym, subst, Bool, false, List, [], ◌∷◌, ◌++◌, length, take, get_or, Option, Result, Ok, Err, OnOk, arith}
use Rattle.std.proofs.lemmas.List.{take_more}
use Rattle.pss_base.specs.Causes.{HasCauseIf, Rose}
use Rattle.pss_base.specs.declared.lines.LineStep.{LineStep}
use Rattle.pss_base.specs.declared.stop.StoreStop.{StoreStop}
use Rattle.pss_disk.specs.Images.{IsQuiet}
use Rattle.pss_disk.specs.Moments.{Moment}
use Rattle.pss_disk.proofs.Passing.{then_come, weaker}
use Rattle.page_format.specs.Faults.{is_disk_stop}
use Rattle.pss_recovery.specs.Silence.{IsSilent}
use Rattle.people_demo.specs.declared.showing.Show.{Show}
use Rattle.people_demo.specs.inner.Showing.{IsShowing, MayServe, Showing, served, served_all}
use Rattle.people_demo.specs.inner.Serving.{Serves}

-- ---- lines

served_both : (s : Showing) (xs ys : List LineStep) → served_all s (xs ++ ys) ≡ served_all (served_all s xs) ys
served_both s [] ys = refl
served_both s (x ∷ xs) ys = served_both (served s x) xs ys

served_lines : (s : Showing) (xs : List LineStep) → (served_all s xs).lines ≡ s.lines + length xs
served_lines s [] = omega arith
served_lines s (x ∷ xs) = served_lines (served s x) xs ∙ omega arith

-- ---- counts of failures

pub cause_then : (a b c : ℕ) (t : Bool) → HasCauseIf a b false → HasCauseIf b c t → HasCauseIf a c t
cause_then a b c t p q = record {
  later = omega (arith, p.later, q.later);
  rose = λ is. subst (λ (n : ℕ). Rose n c) (p.kept refl) (q.rose is);
  kept = λ is. q.kept is ∙ p.kept refl;
}

-- ---- silence

module _ {W : Type 0} (now : W → Moment) (history : W → List Moment) (speak_faults : W → ℕ) where
  pub silent_then : (a b c : W) → IsSilent now history speak_faults a b → IsSilent now history speak_faults b c → IsSilent now history speak_faults a c
  silent_then a b c p q = record {
    moments = then_come (history a) (history b) (history c) (IsQuiet (now a)) p.moments (weaker (history b) (history c) (IsQuiet (now b)) (IsQuiet (now a)) (λ m e. e ∙ p.said) q.moments);
    said = q.said ∙ p.said;
    speech = q.speech ∙ p.speech;
  }

-- ---- lines behind lines

then_ok : {T E : Type 0} (result : Result T E) (P Q : Type 0) → (P → Q) → OnOk result P → OnOk result Q
then_ok (Ok t) P Q f p = f p
then_ok (Err e) P Q f p = tt

module _ {W : Type 0} (now : W → Moment) (history : W → List Moment) (content : W → Option (List ℕ)) (disk_faults speak_faults : W → ℕ) where
  module _ (xs ys : List LineStep) (a b c : W) (x y z : Show) (p : Serves now history content disk_faults speak_faults xs (Ok tt) a b x y) where
    pub serves_then : (result : Result (Unit {0}) StoreStop) → Serves now history content disk_faults speak_faults ys result b c y z → Serves now history content disk_faults speak_faults (xs ++ ys) result a c x z
    serves_then result q = record {
      shows = then_ok result _ _ (λ shows s is. subst (λ (t : Showing). IsShowing z t (content c)) (sym (served_both s xs ys)) (shows (served_all s xs) (p.shows s is))) q.shows;
      settled = q.settled;
      silent = silent_then now history speak_faults a b c p.silent q.silent;
      cause = cause_then (disk_faults a) (disk_faults b) (disk_faults c) (is_disk_stop result) p.cause q.cause;
    }

    pub serves_stop : (zs : List LineStep) (result : Result (Unit {0}) StoreStop) (why : StoreStop) → Serves now history content disk_faults speak_faults ys (Err why) b c y z → result ≡ Err why
        → Serves now history content disk_faults speak_faults zs result a c x z
    serves_stop zs result why q is =
        (let both = serves_then (Err why) q in
        subst (λ (r : Result (Unit {0}) StoreStop). Serves now history content disk_faults speak_faults zs r a c x z) (sym is) (record { shows = tt; settled = tt; silent = both.silent; cause = both.cause }))

  pub may_then : (xs : List LineStep) (a b : W) (x y : Show) (n more : ℕ) → Serves now history content disk_faults speak_faults xs (Ok tt) a b x y → MayServe x (content a) n → length xs + more ≤ n → MayServe y (content b) more
  may_then xs a b x y n more p may few = record { shown = served_all may.shown xs; is = p.shows may.shown may.is; few = omega (arith, served_lines may.shown xs, may.few) }

  -- one line more of a list
  pub serves_more : (lines : List LineStep) (i : ℕ) (line : LineStep) (a b c : W) (x y z : Show) → i < length lines → line ≡ get_or lines i line
      → Serves now history content disk_faults speak_faults (take i lines) (Ok tt) a b x y → Serves now history content disk_faults speak_faults (line ∷ []) (Ok tt) b c y z
      → Serves now history content disk_faults speak_faults (take (i + 1) lines) (Ok tt) a c x z
  serves_more lines i line a b c x y z below is p q =
      subst (λ (ls : List LineStep). Serves now history content disk_faults speak_faults ls (Ok tt) a c x z)
      (ap (λ (l : LineStep). take i lines ++ l ∷ []) is ∙ sym (take_more lines i line below)) (serves_then (take i lines) (line ∷ []) a b c x y z p (Ok tt) q)

-- it may serve fewer
pub may_fewer : (show : Show) (content : Option (List ℕ)) (n m : ℕ) → MayServe show content n → m ≤ n → MayServe show content m
may_fewer show content n m may fewer = record { shown = may.shown; is = may.is; few = omega (arith, may.few) }
