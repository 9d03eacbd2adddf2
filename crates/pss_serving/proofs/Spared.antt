-- What calls leave that spare the file.
use Rattle.std.proofs.Common.{◌≡◌, ◌⊎◌, ◌<◌, ⊎_elim, inl, inr, ℕ, List, length, IfSome, IsTrue, None, Some, ap, refl, subst, sym, ◌∙◌}
use Rattle.std.proofs.lemmas.Bool.{false≢true}
use Rattle.std.specs.declared.option.Option.{Option}
use Rattle.pss_disk.specs.Moments.{Disk, IsOnlyImage, IsSettled, IsStill, Moment, Through}
use Rattle.pss_disk.specs.Reading.{OnlyReads}
use Rattle.pss_disk.proofs.Passing.{then_come, weaker}
use Rattle.line_service.specs.Spoken.{HasSpoken}
use Rattle.line_service.specs.declared.serving.Ending.{Ending}
use Rattle.line_service.specs.declared.serving.Ending.TheVariants as ending
use Rattle.store_refusals.specs.Lines.{IsFilled}
use Rattle.pss_serving.specs.Endings.{status_of_ending}
use Rattle.pss_serving.specs.Outcomes.{IsSpared, ends_before_script}

module _ (held : Option (List ℕ)) (first : Moment) where
  abbrev pub Spares : Moment → Type 0
  Spares m = (m.disk ≡ first.disk) ⊎ IsSettled held m

  -- a line was spoken over the disk as it was
  spoken_spares : (a b : List Moment) (after : Option (List ℕ)) (disk : Option Disk) → disk ≡ first.disk → Through a b (HasSpoken after disk) → Through a b Spares
  spoken_spares a b after disk same = weaker a b (HasSpoken after disk) Spares (λ m is. inl (is.disk_is ∙ same))

  still_spares : (a b : List Moment) → Through a b (IsStill first) → Through a b Spares
  still_spares a b = weaker a b (IsStill first) Spares (λ m is. inl (ap (λ (n : Moment). n.disk) is))

  -- the same over a disk that is settled on the content
  settled_spares : (a b : List Moment) (after : Option (List ℕ)) (now : Moment) → IsSettled held now → Through a b (HasSpoken after now.disk) → Through a b Spares
  settled_spares a b after now settled = weaker a b (HasSpoken after now.disk) Spares
      (λ m is. inr (subst (λ (d : Option Disk). IfSome d (λ disk. (octets : List ℕ) × (held ≡ Some octets) × IsOnlyImage disk octets)) (sym is.disk_is) settled))

  -- mounting refused the store, and the line that tells it was spoken
  pub refused_spares : (a b c : List Moment) (mid after : Option (List ℕ)) (now : Moment) → mid ≡ held → Through a b (λ m. (m ≡ first) ⊎ IsSettled held m) → IsSettled mid now
      → Through b c (HasSpoken after now.disk) → Through a c Spares
  refused_spares a b c mid after now same stays settled said =
      then_come a b c Spares
      (weaker a b (λ m. (m ≡ first) ⊎ IsSettled held m) Spares (λ m is. ⊎_elim (λ e. inl (ap (λ (n : Moment). n.disk) e)) (λ only. inr only) is) stays)
      (settled_spares b c after now (subst (λ (o : Option (List ℕ)). IsSettled o now) same settled) said)

-- whatever the content
pub spared_by : (held : Option (List ℕ)) (a b : List Moment) (first : Moment) → Through a b (Spares held first) → IsSpared held a b first
spared_by None a b first came = tt
spared_by (Some octets) a b first came = came

-- a line was spoken and nothing else done
pub spoken_spared : (held : Option (List ℕ)) (first : Moment) (a b : List Moment) (after : Option (List ℕ)) → Through a b (HasSpoken after first.disk) → IsSpared held a b first
spoken_spared held first a b after said = spared_by held a b first (spoken_spares held first a b after first.disk refl said)

-- a file that has octets was only read, and the line that tells it was spoken
module _ {S : Type 0} (now : S → Moment) (content : S → Option (List ℕ)) (history : S → List Moment) (speak_faults : S → ℕ) (old mid : S) (c : List Moment) (after : Option (List ℕ)) where
  filled_by : (held : Option (List ℕ)) → IfSome held (λ octets. 0 < length octets → OnlyReads now content history speak_faults old mid)
      → Through (history mid) c (HasSpoken after (now mid).disk) → IsFilled held → IsSpared held (history old) c (now old)
  filled_by None reads said filled = tt
  filled_by (Some octets) reads said filled =
      let read = reads filled in
      then_come (history old) (history mid) c (Spares (Some octets) (now old)) (still_spares (Some octets) (now old) (history old) (history mid) read.time)
      (spoken_spares (Some octets) (now old) (history mid) c after (now mid).disk (ap (λ (m : Moment). m.disk) read.still) said)

  pub filled_spared : IfSome (content old) (λ octets. 0 < length octets → OnlyReads now content history speak_faults old mid)
      → Through (history mid) c (HasSpoken after (now mid).disk) → IsFilled (content old) → IsSpared (content old) (history old) c (now old)
  filled_spared = filled_by (content old)

-- no way in which serving a script ends comes before it
pub no_ending : (end : Ending) (T : Type 0) → IsTrue (ends_before_script (status_of_ending end)) → T
no_ending ending.End T before = absurd (false≢true before)
no_ending ending.TooLong T before = absurd (false≢true before)
no_ending ending.ReadFault T before = absurd (false≢true before)
no_ending ending.DiskFault T before = absurd (false≢true before)
no_ending ending.SpeakFault T before = absurd (false≢true before)
no_ending ending.NoMemory T before = absurd (false≢true before)
