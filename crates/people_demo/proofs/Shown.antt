-- How a demonstration ends.
use Rattle.std.proofs.Common.{ℕ, ◌≡◌, ◌∙◌, ◌⊎◌, inl, ap, refl, subst, take, Bool, true, List, Option, Some, None, IfSome, Result, Ok, Err, map}
use Rattle.std.proofs.lemmas.Bool.{false≢true}
use Rattle.std.specs.Option.{is_some}
use Rattle.std.specs.FinMap.{empty}
use Rattle.std.specs.Io.KnownBytes.{append_known}
use Rattle.pss_base.specs.declared.lines.LineStep.{LineStep}
use Rattle.pss_disk.specs.Images.{IsQuiet}
use Rattle.pss_disk.specs.Moments.{Moment, Through}
use Rattle.pss_disk.proofs.Passing.{then_come, weaker}
use Rattle.pss_catalog.specs.Catalog.{Catalog}
use Rattle.pss_machine.specs.Limits.{standard}
use Rattle.pss_machine.specs.Run.{first, replies}
use Rattle.pss_recovery.specs.Laws.{MountedStands}
use Rattle.pss_recovery.specs.Mounted.{IsMounted}
use Rattle.pss_recovery.specs.Stands.{Stands}
use Rattle.pss_recovery.specs.declared.parts.Parts.{Parts as Store}
use Rattle.commit_saving.specs.Saving.{IfTold}
use Rattle.connector.specs.Keeping.{store_of}
use Rattle.line_service.specs.Turns.{IsWhole, after}
use Rattle.script_service.specs.Turns.{Running, start, told_by, turn_from}
use Rattle.script_service.specs.Keeping.{StandsFor}
use Rattle.store_refusals.specs.Lines.{WasEmpty}
use Rattle.people_demo.specs.People.{people}
use Rattle.people_demo.specs.Lines.{demo_lines}
use Rattle.people_demo.specs.Shows.{IsShownLine, Shows, shown, shown_line}
use Rattle.people_demo.specs.Tally.{demo_line, tally_of}
use Rattle.people_demo.specs.declared.demo.DemoStop.{DemoStop}
use Rattle.people_demo.specs.declared.demo.DemoStop.TheVariants as stop
use Rattle.people_demo.specs.declared.showing.Show.{Show}
use Rattle.people_demo.specs.declared.tally.Tally.{Tally}
use Rattle.people_demo.specs.inner.Begun.{Begins}
use Rattle.people_demo.specs.inner.Showing.{IsShowing, Showing, begun, served_all}
use Rattle.people_demo.specs.inner.Telling.{IsToldAt, Tells}
use Rattle.people_demo.proofs.Beginning.{empty_kept}
use Rattle.people_demo.proofs.Replied.{running_after, saved_told, tally_is}

-- ---- after all rounds

stands_of : (law : MountedStands) (r : Running) (s : Store) (content : Option (List ℕ)) (saved : Option ℕ) → is_some saved ≡ true → IfSome saved (λ next. IfTold content (IsMounted r.schema r.kept.catalog next s)) → IfTold content (λ image. IfSome saved (λ next. Stands r.schema r.kept.catalog next image))
stands_of law r s content None some mounted = absurd (false≢true some)
stands_of law r s content (Some next) some mounted = (mounted.0, mounted.1, law r.schema r.kept.catalog next s mounted.0 mounted.2)

module _ (rounds : ℕ) (held mid end : Option (List ℕ)) (x y : Show) (b : Begins held mid x) (shows : (s : Showing) → IsShowing x s mid → IsShowing y (served_all s (demo_lines rounds)) end) where
  abbrev lines : List LineStep
  lines = demo_lines rounds

  line_by : (o : Option (List ℕ)) → held ≡ o → IfSome o (λ octets. (b.catalog ≡ empty) × (b.next ≡ 1)) → IsShownLine rounds o (demo_line rounds y.tally)
  line_by None is none = tt
  line_by (Some c) is none =
      ap (λ (t : Tally). demo_line rounds t)
      ((shows (begun b.catalog b.next (is_some held)) b.is).tally ∙ tally_is b.catalog b.next (is_some held) lines
      ∙ ap (λ (M : Catalog). tally_of (replies people standard (first M b.next) (map told_by lines))) none.0
      ∙ ap (λ (n : ℕ). tally_of (replies people standard (first empty n) (map told_by lines))) none.1)

  -- what is spoken of them
  pub line_shown : IsShownLine rounds held (demo_line rounds y.tally)
  line_shown = line_by held refl b.none

  stands_by : (law : MountedStands) (o : Option (List ℕ)) → held ≡ o → IfSome o (λ octets. (b.catalog ≡ empty) × (b.next ≡ 1)) → IfSome o (λ octets. IfTold end (StandsFor (shown rounds)))
  stands_by law None is none = tt
  stands_by law (Some c) is none =
      let told : is_some held ≡ true = ap is_some is in
      let s = begun b.catalog b.next (is_some held) in
      let z = served_all s lines in
      let some : is_some z.running.saved ≡ true = saved_told s lines ∙ ap (λ (t : Bool). is_some (start people standard b.catalog b.next t).saved) told in
      let same : z.running ≡ shown rounds = running_after s lines
      ∙ ap (λ (t : Bool). after turn_from (start people standard b.catalog b.next t) lines) told
      ∙ ap (λ (M : Catalog). after turn_from (start people standard M b.next true) lines) none.0
      ∙ ap (λ (n : ℕ). after turn_from (start people standard empty n true) lines) none.1 in
      subst (λ (r : Running). IfTold end (StandsFor r)) same (stands_of law z.running (store_of y.connector) end z.running.saved some (shows s b.is).mounted)

  -- what the store holds of them
  pub stands_shown : MountedStands → IfSome held (λ octets. IfTold end (StandsFor (shown rounds)))
  stands_shown law = stands_by law held refl b.none

-- ---- how it ends

pub shows_told : (rounds : ℕ) (result : Result (Unit {0}) DemoStop) (line : List ℕ) (before middle after held holds : Option (List ℕ)) → middle ≡ before → Tells result line middle after → IsShownLine rounds held line
    → IfSome held (λ octets. IfTold holds (StandsFor (shown rounds))) → WasEmpty held → Shows rounds result before after held holds
shows_told rounds (Ok done) line before middle after held holds is told shown_ stands blank = ((line, shown_, told ∙ ap (λ (o : Option (List ℕ)). append_known o line) is), stands, blank)
shows_told rounds (Err stop.SpeakFault) line before middle after held holds is told shown_ stands blank =
    ((line, shown_, subst (λ (o : Option (List ℕ)). (k : ℕ) × (after ≡ append_known o (take k line))) is told), blank)
shows_told rounds (Err stop.NoMemory) line before middle after held holds is told shown_ stands blank = (told ∙ is, empty_kept held holds blank)
shows_told rounds (Err stop.DiskFault) line before middle after held holds is told shown_ stands blank = absurd told
shows_told rounds (Err stop.NotEmpty) line before middle after held holds is told shown_ stands blank = absurd told
shows_told rounds (Err (stop.Refused why)) line before middle after held holds is told shown_ stands blank = absurd told

-- ---- at each moment

-- there is such a line
pub any_line : (rounds : ℕ) (held : Option (List ℕ)) → IsShownLine rounds held (shown_line rounds)
any_line rounds None = tt
any_line rounds (Some c) = refl

abbrev pub AtMoment : Result (Unit {0}) DemoStop → List ℕ → (before after : Option (List ℕ)) → Moment → Type 0
AtMoment result line before after m = IsWhole line before m.spoken ⊎ ((result ≡ Err stop.SpeakFault) × (m.spoken ≡ after))

pub quiet_moments : (result : Result (Unit {0}) DemoStop) (line : List ℕ) (after : Option (List ℕ)) (a b : List Moment) (now : Moment) → Through a b (IsQuiet now) → Through a b (AtMoment result line now.spoken after)
quiet_moments result line after a b now quiet = weaker a b (IsQuiet now) (AtMoment result line now.spoken after) (λ m e. inl (inl e)) quiet

pub told_moments : (result : Result (Unit {0}) DemoStop) (line : List ℕ) (middle after : Option (List ℕ)) (a b c : List Moment) (now : Moment) → middle ≡ now.spoken → Through a b (IsQuiet now)
    → Through b c (λ m. IsToldAt result line middle after m.spoken) → Through a c (AtMoment result line now.spoken after)
told_moments result line middle after a b c now is quiet told =
    then_come a b c (AtMoment result line now.spoken after) (quiet_moments result line after a b now quiet)
    (subst (λ (o : Option (List ℕ)). Through b c (λ m. IsToldAt result line o after m.spoken)) is told)
