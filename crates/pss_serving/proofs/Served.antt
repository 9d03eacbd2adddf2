-- A script is served over what was mounted.
use Rattle.std.proofs.Common.{◌≡◌, ◌⊎◌, ⊎_elim, inl, inr, ℕ, List, Bool, true, is_some, Some, None, IfSome, ap, subst, refl}
use Rattle.std.specs.declared.option.Option.{Option}
use Rattle.pss_disk.specs.Images.{IsQuiet}
use Rattle.pss_disk.specs.Moments.{Disk, Moment, Through}
use Rattle.pss_disk.proofs.Passing.{then_come, weaker}
use Rattle.page_store.specs.Stores.{AllHave}
use Rattle.type_layout.specs.declared.schema.Schema.{Schema}
use Rattle.pss_catalog.specs.Catalog.{Catalog}
use Rattle.pss_machine.specs.Limits.{standard}
use Rattle.pss_recovery.specs.Laws.{IsImageOneThing}
use Rattle.pss_recovery.specs.Mounts.{FromSync, HasMounted, IsSameButGate}
use Rattle.pss_recovery.specs.Stands.{Stands}
use Rattle.pss_recovery.specs.declared.mounting.Mounted.{Mounted}
use Rattle.line_service.specs.Runs.{Comes, SaidByLines, Says, IsCut as IsCutThere}
use Rattle.line_service.specs.declared.serving.Ending.{Ending}
use Rattle.line_service.specs.declared.serving.Ending.TheVariants as ending
use Rattle.script_service.specs.Turns.{Running, turn_from, start, script_limits}
use Rattle.script_service.specs.Keeping.{IsFirst, IsLeft, OnlyStandsFor, Passes}
use Rattle.pss_serving.specs.Endings.{status_of_ending}
use Rattle.pss_serving.specs.Outcomes.{Call, EndsOverStore, IsKeptAt, IsKeptOver, IsOrWhole, OfStore, SaysIn}
use Rattle.pss_serving.specs.Spoken.{IsCut}
use Rattle.pss_serving.proofs.AtMoments.{quiet_call}
use Rattle.pss_serving.proofs.Since.{since_by, then_more}

-- ---- by how serving ends

pub over_ends : (end : Ending) (call : Call) (S : Schema) → SaysIn end call S → EndsOverStore (status_of_ending end) call S
over_ends ending.End call S says = says
over_ends ending.TooLong call S says = says
over_ends ending.ReadFault call S says = says
over_ends ending.DiskFault call S says = inr says
over_ends ending.SpeakFault call S says = inr says
over_ends ending.NoMemory call S says = inr says

-- ---- over what was mounted

both_told : (held : Option (List ℕ)) (P Q : List ℕ → Type 0) → IfSome held P → IfSome held Q → IfSome held (λ octets. P octets × Q octets)
both_told None P Q p q = tt
both_told (Some octets) P Q p q = (p, q)

stays_told : (held mounted : Option (List ℕ)) → IsSameButGate held mounted → IfSome held (λ octets. is_some mounted ≡ true)
stays_told None mounted same = tt
stays_told (Some octets) (Some others) same = refl
stays_told (Some octets) None (inl same) = cc
stays_told (Some octets) None (inr same) = absurd same.1

module _ (S : Schema) (mounted : Mounted) (held content : Option (List ℕ)) (has : HasMounted S mounted held content) where
  pub is_first : IsFirst S has.catalog mounted content
  is_first = record { objects = record { good = has.good; kept = has.kept; next_ = has.next_ }; stands = has.mounted_ }

  abbrev begun : Running
  begun = start S standard has.catalog mounted.next (is_some content)

  of_store : (P : Running → Type 0) → IsSameButGate held content → P begun → OfStore S P held
  of_store P same is = record {
    objects = has.catalog;
    next = mounted.next;
    is_told = is_some content;
    good = has.good;
    stands = both_told held (Stands S has.catalog mounted.next) (λ octets. is_some content ≡ true) has.stands (stays_told held content same);
    begun = is;
  }

  module _ (same : IsSameButGate held content) (end : Ending) (script left after holds : Option (List ℕ)) (first now : Moment) (disk : Option Disk) (quiet : IsQuiet first now) where
    -- how the call ends
    pub mounted_ends : (text : Option (List ℕ))
        → Says turn_from begun script_limits end (record { script = script; left = left; before = now.spoken; after = after }) (IsLeft holds disk)
        → EndsOverStore (status_of_ending end) (record { schema = text; script = script; left = left; before = first.spoken; after = after; held = held; holds = holds; disk = disk }) S
    mounted_ends text says =
        over_ends end (record { schema = text; script = script; left = left; before = first.spoken; after = after; held = held; holds = holds; disk = disk }) S
        (of_store (λ run. Says turn_from run script_limits end (record { script = script; left = left; before = first.spoken; after = after }) (IsLeft holds disk)) same
        (subst (λ (before : Option (List ℕ)). Says turn_from begun script_limits end (record { script = script; left = left; before = before; after = after }) (IsLeft holds disk)) quiet says))

    abbrev At : Moment → Type 0
    At m = Comes turn_from Passes OnlyStandsFor begun script_limits script now.spoken m
        × (SaidByLines turn_from begun script_limits script now.spoken m.spoken ⊎ IsCutThere end after m.spoken)

    abbrev Tells : Moment → Type 0
    Tells m = IsOrWhole S held script first.spoken m.spoken ⊎ IsCut (status_of_ending end) after m.spoken

    tells : (m : Moment) → At m → Tells m
    tells m is = ⊎_elim
        (λ said. inl (inr (inr (of_store (λ run. SaidByLines turn_from run script_limits script first.spoken m.spoken) same
        (subst (λ (before : Option (List ℕ)). SaidByLines turn_from begun script_limits script before m.spoken) quiet said)))))
        (λ cut. inr (ap status_of_ending cut.0, cut.1)) is.1

    -- what was spoken at its moments
    pub mounted_moments : (a b c : List Moment) → Through a b (IsQuiet first) → Through b c At → Through a c Tells
    mounted_moments a b c still came =
        then_come a b c Tells (quiet_call a b after (λ spoken. IsOrWhole S held script first.spoken spoken) first (status_of_ending end) (inl refl) still) (weaker b c At Tells tells came)

-- ---- what a crash may leave

module _ (law : IsImageOneThing) (S : Schema) (mounted : Mounted) (octets : List ℕ) (content : Option (List ℕ)) (has : HasMounted S mounted (Some octets) content) (same : IsSameButGate (Some octets) content) where
  comes_as : (M : Catalog) (next : ℕ) (script before now : Option (List ℕ)) (m : Moment) → Stands S M next octets → now ≡ before
      → Comes turn_from Passes OnlyStandsFor (start S standard has.catalog mounted.next (is_some content)) script_limits script now m
      → Comes turn_from Passes OnlyStandsFor (start S standard M next true) script_limits script before m
  comes_as M next script before now m stands quiet comes =
      let one = law.one_store S has.catalog M mounted.next next octets has.stands stands in
      let step : Catalog → ℕ → Bool → Option (List ℕ) → Type 0 = λ catalog serial told spoken. Comes turn_from Passes OnlyStandsFor (start S standard catalog serial told) script_limits script spoken m in
      subst (λ (catalog : Catalog). step catalog next true before) one.0
      (subst (λ (serial : ℕ). step has.catalog serial true before) one.1
      (subst (λ (told : Bool). step has.catalog mounted.next told before) (stays_told (Some octets) content same)
      (subst (λ (spoken : Option (List ℕ)). step has.catalog mounted.next (is_some content) spoken) quiet comes)))

  pub mounted_kept : (M : Catalog) (next : ℕ) (script after : Option (List ℕ)) (end : Ending) (first now : Moment) (a b c : List Moment) → Stands S M next octets → IsQuiet first now
      → FromSync a b first (AllHave (Stands S M next)) → Through a b (IsQuiet first)
      → Through b c (λ m. Comes turn_from Passes OnlyStandsFor (start S standard has.catalog mounted.next (is_some content)) script_limits script now.spoken m
      × (SaidByLines turn_from (start S standard has.catalog mounted.next (is_some content)) script_limits script now.spoken m.spoken ⊎ IsCutThere end after m.spoken))
      → FromSync a c first (IsKeptAt S M next true script first.spoken)
  mounted_kept M next script after end first now a b c stands quiet synced still came =
      then_more a b c first (IsKeptAt S M next true script first.spoken)
      (since_by a b first (AllHave (Stands S M next)) (IsQuiet first) (IsKeptAt S M next true script first.spoken) (λ m images said. inl (said, images)) synced still)
      (weaker b c (λ m. Comes turn_from Passes OnlyStandsFor (start S standard has.catalog mounted.next (is_some content)) script_limits script now.spoken m
      × (SaidByLines turn_from (start S standard has.catalog mounted.next (is_some content)) script_limits script now.spoken m.spoken ⊎ IsCutThere end after m.spoken))
      (IsKeptAt S M next true script first.spoken) (λ m is. inr (comes_as M next script first.spoken now.spoken m stands quiet is.0)) came)

-- whatever the file stands for
pub mounted_over : IsImageOneThing → (S : Schema) (mounted : Mounted) (held content : Option (List ℕ)) (has : HasMounted S mounted held content) → IsSameButGate held content
    → (script after : Option (List ℕ)) (end : Ending) (first now : Moment) (a b c : List Moment) → IsQuiet first now
    → ((M : Catalog) (next : ℕ) → IfSome held (λ octets. Stands S M next octets → FromSync a b first (AllHave (Stands S M next)))) → Through a b (IsQuiet first)
    → Through b c (λ m. Comes turn_from Passes OnlyStandsFor (start S standard has.catalog mounted.next (is_some content)) script_limits script now.spoken m
    × (SaidByLines turn_from (start S standard has.catalog mounted.next (is_some content)) script_limits script now.spoken m.spoken ⊎ IsCutThere end after m.spoken))
    → IsKeptOver S held script first.spoken a c first
mounted_over law S mounted None content has same script after end first now a b c quiet synced still came = λ M next. tt
mounted_over law S mounted (Some octets) content has same script after end first now a b c quiet synced still came = λ M next stands.
    mounted_kept law S mounted octets content has same M next script after end first now a b c stands quiet (synced M next stands) still came
