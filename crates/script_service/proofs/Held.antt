-- What the store holds before a line, while it is served, and after it.
use Rattle.std.proofs.Common.{ℕ, ◌≡◌, ◌⊎◌, inl, inr, take_all, le_refl, Bool, true, List, length, Option, Some, None, IfSome, refl, sym, ap, ◌∙◌, subst}
use Rattle.std.proofs.lemmas.Bool.{false≢true}
use Rattle.std.specs.Prelude.{is_some}
use Rattle.std.specs.Option.{option_map}
use Rattle.std.specs.Io.KnownBytes.{append_known}
use Rattle.pss_base.specs.declared.lines.LineStep.{LineStep}
use Rattle.pss_disk.specs.Images.{IsQuiet}
use Rattle.pss_disk.specs.Moments.{Disk, IsImage, IsOnlyImage, IsSettled, Moment, Through}
use Rattle.pss_disk.proofs.Passing.{both_have, weaker}
use Rattle.type_layout.specs.declared.schema.Schema.{Schema}
use Rattle.pss_catalog.specs.Catalog.{Catalog}
use Rattle.pss_machine.specs.declared.limits.Limits.{Limits}
use Rattle.pss_machine.specs.Effects.{Effect}
use Rattle.pss_machine.specs.Moving.{moved}
use Rattle.pss_machine.specs.declared.command.Command.TheVariants as command
use Rattle.pss_machine.specs.Run.{Said, Silent, Says, Wrong}
use Rattle.page_store.specs.Stores.{AllHave}
use Rattle.pss_recovery.specs.declared.mounting.Mounted.{Mounted}
use Rattle.pss_recovery.specs.declared.parts.Parts.{Parts as Store}
use Rattle.pss_recovery.specs.Laws.{MountedStands}
use Rattle.pss_recovery.specs.Mounted.{HasNoRecord, IsMounted, StandsEither}
use Rattle.pss_recovery.specs.Stands.{Stands}
use Rattle.commit_saving.specs.Saving.{IfTold, saved_by}
use Rattle.line_service.specs.Spoken.{HasSpoken, SaidOf}
use Rattle.line_service.specs.Turns.{Speaks}
use Rattle.line_service.specs.declared.machine.Turn.{Turn}
use Rattle.line_service.specs.declared.machine.Turn.TheVariants as turns
use Rattle.line_service.proofs.Saying.{append_known-nil}
use Rattle.script_service.specs.Turns.{Running, cleared_after, effect_of, start, told_by, turn_from}
use Rattle.script_service.specs.Keeping.{IsFirst, IsHeld, IsLeft, OnlyStandsFor, Passes, StandsFor}

-- ---- contents

told_then : (P Q : List ℕ → Type 0) (old new : Option (List ℕ)) → IfTold old P → IfSome old (λ octets. P octets → IfTold new Q) → IfTold new Q
told_then P Q None new held made = absurd cc
told_then P Q (Some c) new held made = (let same : held.0 ≡ c = cc in made (subst P same held.2))

told_some : {X : Type 0} (P : List ℕ → Type 0) (R : List ℕ → Type 0) (old : Option (List ℕ)) → IfTold old P → IfSome old (λ octets. P octets → X) → X
told_some P R None held f = absurd cc
told_some P R (Some c) held f = (let same : held.0 ≡ c = cc in f (subst P same held.2))

-- ---- one line

module _ (law : MountedStands) (r : Running) (line : LineStep) where
  abbrev pub told : Said
  told = told_by line

  abbrev pub effect : Effect
  effect = effect_of r.schema r.limits r.kept told

  abbrev pub next_r : Running
  next_r = (turn_from r line).0

  -- what is mounted before the line, and what the line makes of it
  abbrev pub Becomes : (before after : Store) → (old new : Option (List ℕ)) → Type 0
  Becomes before after old new = (saved : ℕ) → IfSome old (λ octets. IsMounted r.schema r.kept.catalog saved before octets → IfTold new (IsMounted r.schema (moved r.kept effect).catalog (saved_by r.kept saved effect) after))

  -- the moments that come while it is performed
  abbrev pub Comes : Store → (old : Option (List ℕ)) → (before after : List Moment) → Type 0
  Comes store old a b = (saved : ℕ) → IfSome old (λ octets. IsMounted r.schema r.kept.catalog saved store octets → Through a b (AllHave (StandsEither r.schema r.kept.catalog saved (moved r.kept effect).catalog (saved_by r.kept saved effect))))

  -- ---- after it

  mounted_after : (before after : Store) (old new : Option (List ℕ)) (saved : Option ℕ) → IfSome saved (λ next. IfTold old (IsMounted r.schema r.kept.catalog next before)) → Becomes before after old new
      → IfSome (option_map (λ next. saved_by r.kept next effect) saved) (λ next. IfTold new (IsMounted r.schema (moved r.kept effect).catalog next after))
  mounted_after before after old new None held becomes = tt
  mounted_after before after old new (Some next) held becomes =
      told_then (IsMounted r.schema r.kept.catalog next before) (IsMounted r.schema (moved r.kept effect).catalog (saved_by r.kept next effect) after) old new held (becomes next)

  empty_after : (t : Said) (cleared : Bool) (old new : Option (List ℕ)) → (cleared ≡ true → IfSome old HasNoRecord) → (t ≡ Silent → new ≡ old) → (t ≡ Says command.Checkpoint → IfSome new HasNoRecord) → cleared_after cleared t ≡ true → IfSome new HasNoRecord
  empty_after Silent cleared old new was still emptied is = subst (λ (o : Option (List ℕ)). IfSome o HasNoRecord) (sym (still refl)) (was is)
  empty_after (Wrong column) cleared old new was still emptied is = absurd (false≢true is)
  empty_after (Says command.Checkpoint) cleared old new was still emptied is = emptied refl
  empty_after (Says _) cleared old new was still emptied is = absurd (false≢true is)

  pub held_after : (before after : Store) (old new : Option (List ℕ)) (disk disk' : Option Disk) → IsHeld r before old disk → Becomes before after old new → IfSome disk' (λ d. (octets : List ℕ) × (new ≡ Some octets) × IsOnlyImage d octets)
      → (told ≡ Silent → new ≡ old) → (told ≡ Says command.Checkpoint → IfSome new HasNoRecord) → IsHeld next_r after new disk'
  held_after before after old new disk disk' held becomes settled still emptied = record {
    mounted = mounted_after before after old new r.saved held.mounted becomes;
    settled = settled;
    empty = empty_after told r.cleared old new held.empty still emptied;
  }

  -- ---- while it is performed

  either_for : (saved : Option ℕ) (m : Moment) → IfSome saved (λ next. AllHave (StandsEither r.schema r.kept.catalog next (moved r.kept effect).catalog (saved_by r.kept next effect)) m)
      → AllHave (λ image. IfSome saved (λ next. Stands r.schema r.kept.catalog next image) ⊎ IfSome (option_map (λ next. saved_by r.kept next effect) saved) (λ next. Stands r.schema (moved r.kept effect).catalog next image)) m
  either_for None m all = by m.disk
    where
      by : (o : Option Disk) → IfSome o (λ disk. (image : List ℕ) → IsImage disk image → (Unit {0} ⊎ Unit {0}))
      by None = tt
      by (Some disk) = λ image is. inl tt
  either_for (Some next) m all = all

  quiet_said : (before : Option (List ℕ)) (m : Moment) → m.spoken ≡ before → SaidOf (turn_from r line).1 before m.spoken
  quiet_said before m quiet = (0, quiet ∙ append_known-nil before)

  performed : (saved : Option ℕ) → r.saved ≡ saved → (store : Store) (old : Option (List ℕ)) (now : Moment) (a b : List Moment) → IfSome saved (λ next. IfTold old (IsMounted r.schema r.kept.catalog next store)) → Comes store old a b → Through a b (IsQuiet now)
      → Through a b (λ m. (IsQuiet now m) × IfSome saved (λ next. AllHave (StandsEither r.schema r.kept.catalog next (moved r.kept effect).catalog (saved_by r.kept next effect)) m))
  performed None is store old now a b held came quiet = weaker a b (IsQuiet now) _ (λ m q. (q, tt)) quiet
  performed (Some next) is store old now a b held came quiet =
      both_have a b (IsQuiet now) (AllHave (StandsEither r.schema r.kept.catalog next (moved r.kept effect).catalog (saved_by r.kept next effect))) quiet
      (told_some (IsMounted r.schema r.kept.catalog next store) (λ x. Unit {0}) old held (came next))

  pub passes_performing : (store : Store) (old : Option (List ℕ)) (disk : Option Disk) (now : Moment) (a b : List Moment) → IsHeld r store old disk → Comes store old a b → Through a b (IsQuiet now) → Through a b (Passes r line now.spoken)
  passes_performing store old disk now a b held came quiet =
      weaker a b _ (Passes r line now.spoken) (λ m is. record { spoken = quiet_said now.spoken m is.0; images = either_for r.saved m is.1; begun = inl is.0 }) (performed r.saved refl store old now a b held.mounted came quiet)

  -- ---- while its reply is spoken

  only_stands : (store : Store) (content : Option (List ℕ)) (disk : Option Disk) → IsHeld next_r store content disk → (m : Moment) → m.disk ≡ disk → AllHave (StandsFor next_r) m
  only_stands store content disk held m is = subst (λ (o : Option Disk). IfSome o (λ d. (image : List ℕ) → IsImage d image → StandsFor next_r image)) (sym is) (by disk held.settled)
    where
      stands_of : (saved : Option ℕ) → IfSome saved (λ next. IfTold content (IsMounted next_r.schema next_r.kept.catalog next store)) → (octets : List ℕ) → content ≡ Some octets → IfSome saved (λ next. Stands next_r.schema next_r.kept.catalog next octets)
      stands_of None mounted octets same = tt
      stands_of (Some next) mounted octets same =
          (let e : mounted.0 ≡ octets = cc in law next_r.schema next_r.kept.catalog next store octets (subst (IsMounted next_r.schema next_r.kept.catalog next store) e mounted.2))

      by : (o : Option Disk) → IfSome o (λ d. (octets : List ℕ) × (content ≡ Some octets) × IsOnlyImage d octets) → IfSome o (λ d. (image : List ℕ) → IsImage d image → StandsFor next_r image)
      by None settled = tt
      by (Some d) settled = λ image is. subst (StandsFor next_r) (sym (settled.2.only image is)) (stands_of next_r.saved held.mounted settled.0 settled.1)

  said_part : (result : Turn) (before after : Option (List ℕ)) → Speaks result (turn_from r line).1 before after → SaidOf (turn_from r line).1 before after
  said_part turns.Went before after speaks = (length (turn_from r line).1, speaks ∙ ap (append_known before) (sym (take_all (length (turn_from r line).1) (turn_from r line).1 (le_refl (length (turn_from r line).1)))))
  said_part turns.SpeakFault before after speaks = speaks
  said_part turns.DiskFault before after speaks = (0, speaks ∙ append_known-nil before)
  said_part turns.NoMemory before after speaks = (0, speaks ∙ append_known-nil before)

  pub passes_saying : (store : Store) (content : Option (List ℕ)) (disk : Option Disk) (result : Turn) (before after : Option (List ℕ)) (a b : List Moment) → IsHeld next_r store content disk → Speaks result (turn_from r line).1 before after → Through a b (HasSpoken after disk)
      → Through a b (Passes r line before)
  passes_saying store content disk result before after a b held speaks came =
      weaker a b (HasSpoken after disk) (Passes r line before)
      (λ m has.
      let stands = only_stands store content disk held m has.disk_is in
      record {
        spoken = subst (SaidOf (turn_from r line).1 before) (sym has.spoken_is) (said_part result before after speaks);
        images = all_right m stands;
        begun = inr stands;
      }) came
    where
      all_right : (m : Moment) → AllHave (StandsFor next_r) m → AllHave (λ image. StandsFor r image ⊎ StandsFor next_r image) m
      all_right m = by m.disk
        where
          by : (o : Option Disk) → IfSome o (λ d. (image : List ℕ) → IsImage d image → StandsFor next_r image) → IfSome o (λ d. (image : List ℕ) → IsImage d image → StandsFor r image ⊎ StandsFor next_r image)
          by None all = tt
          by (Some d) all = λ image is. inr (all image is)

-- ---- before a script, and behind all lines

-- what was mounted is held at first
pub first_held : (S : Schema) (limits : Limits) (M : Catalog) (mounted : Mounted) (content : Option (List ℕ)) (now : Moment) → IsFirst S M mounted content → IsSettled content now → IsHeld (start S limits M mounted.next (is_some content)) mounted.store content now.disk
first_held S limits M mounted content now first settled = record { mounted = by content first.stands; settled = settled; empty = λ is. absurd (false≢true is) }
  where
    by : (o : Option (List ℕ)) → IfSome o (IsMounted S M mounted.next mounted.store) → IfSome (start S limits M mounted.next (is_some o)).saved (λ next. IfTold o (IsMounted S M next mounted.store))
    by None stands = tt
    by (Some octets) stands = (octets, refl, stands)

module _ (law : MountedStands) (r : Running) (store : Store) (content : Option (List ℕ)) (disk : Option Disk) (held : IsHeld r store content disk) where
  -- the content stands for what is kept and stored
  told_for : (saved : Option ℕ) → IfSome saved (λ next. IfTold content (IsMounted r.schema r.kept.catalog next store)) → IfSome saved (λ next. IfTold content (Stands r.schema r.kept.catalog next))
  told_for None mounted = tt
  told_for (Some next) mounted = (mounted.0, mounted.1, law r.schema r.kept.catalog next store mounted.0 mounted.2)

  pub left_for : IsLeft content disk r
  left_for = record { stands = told_for r.saved held.mounted; settled = held.settled; empty = held.empty }

  image_for : (saved : Option ℕ) → IfSome saved (λ next. IfTold content (Stands r.schema r.kept.catalog next)) → (octets : List ℕ) → content ≡ Some octets → IfSome saved (λ next. Stands r.schema r.kept.catalog next octets)
  image_for None stands octets same = tt
  image_for (Some next) stands octets same = (let e : stands.0 ≡ octets = cc in subst (Stands r.schema r.kept.catalog next) e stands.2)

  -- and so does the only image
  pub only_for : OnlyStandsFor r disk
  only_for = by disk held.settled
    where
      by : (o : Option Disk) → IfSome o (λ d. (octets : List ℕ) × (content ≡ Some octets) × IsOnlyImage d octets) → IfSome o (λ d. (octets : List ℕ) × IsOnlyImage d octets × StandsFor r octets)
      by None settled = tt
      by (Some d) settled = (settled.0, settled.2, image_for r.saved left_for.stands settled.0 settled.1)
