-- How a demonstration begins.
use Rattle.std.proofs.Common.{ℕ, ◌≡◌, ◌≤◌, ◌∙◌, ap, refl, sym, subst, inl, inr, true, List, length, Option, Some, None, IfSome, arith}
use Rattle.std.proofs.lemmas.Bool.{false≢true}
use Rattle.std.specs.Option.{IsSome, is_some}
use Rattle.std.specs.FinMap.{empty}
use Rattle.std.specs.Prelude.{if◌then◌else◌}
use Rattle.type_layout.specs.declared.schema.Schema.{Schema}
use Rattle.type_layout.specs.ShapeText.{shape_text}
use Rattle.type_layout.specs.Sound.{IsSoundSchema}
use Rattle.pss_catalog.specs.Catalog.{Catalog}
use Rattle.pss_machine.specs.Kept.{first_kept}
use Rattle.pss_machine.specs.Limits.{standard}
use Rattle.pss_recovery.specs.Laws.{IsImageOneThing, IsOfImage}
use Rattle.pss_recovery.specs.Mounted.{IsMounted}
use Rattle.pss_recovery.specs.Mounts.{HasMounted, IsSameButGate}
use Rattle.pss_recovery.specs.Stands.{IsRefusal, Stands}
use Rattle.pss_recovery.specs.declared.fault.MountFault.{MountFault}
use Rattle.pss_recovery.specs.declared.fault.MountFault.TheVariants as mount
use Rattle.pss_recovery.specs.declared.mounting.Mounted.{Mounted}
use Rattle.commit_saving.specs.Saving.{IfTold}
use Rattle.connector.specs.Keeping.{HasObjects, Keeps, is_live, limits_of, performed_by, schema_of, store_of}
use Rattle.store_refusals.specs.Lines.{IsFilledKept, WasEmpty}
use Rattle.people_demo.specs.People.{people}
use Rattle.people_demo.specs.Tally.{no_tally}
use Rattle.people_demo.specs.declared.showing.Show.{Show}
use Rattle.people_demo.specs.inner.Begun.{Begins, ShowsNothing, IsMade, IsNew, of_mount}
use Rattle.people_demo.proofs.Soundness.{people_sound}

-- ---- a store is made

pub sound_as : (S : Schema) → S ≡ people → IsSoundSchema S
sound_as S is = subst IsSoundSchema (sym is) people_sound

pub shape_short : (S : Schema) (shape : List ℕ) → S ≡ people → shape ≡ shape_text S → length shape ≤ 65536
shape_short S shape is shaped = subst (λ (text : List ℕ). length text ≤ 65536) (sym shaped) (sound_as S is).short_shape

pub new_is : (held holds : Option (List ℕ)) (S : Schema) (shape : List ℕ) → S ≡ people → shape ≡ shape_text S → WasEmpty held → (IsSome held → IsSome holds) → ((T : Schema) → shape_text T ≡ shape → IfSome holds (Stands T empty 1)) → IsNew held holds
new_is None holds S shape is shaped blank told made = tt
new_is (Some c) None S shape is shaped blank told made = absurd (false≢true (told refl))
new_is (Some c) (Some d) S shape is shaped blank told made = (blank, (d, refl, made people (sym (shaped ∙ ap shape_text is))))

-- a file that had no octets has none to keep
pub empty_kept : (held holds : Option (List ℕ)) → WasEmpty held → IsFilledKept held holds
empty_kept None holds blank = tt
empty_kept (Some c) holds blank = λ filled. absurd (omega (arith, blank, filled))

pub new_empty : (held holds : Option (List ℕ)) → IsNew held holds → WasEmpty held
new_empty None holds is = tt
new_empty (Some c) holds is = is.0

-- ---- it is mounted

-- a content that was told is told
pub told_mounted : (old new : Option (List ℕ)) → IsSameButGate old new → IsSome old → IsSome new
told_mounted old new (inl same) told = ap is_some same ∙ told
told_mounted None new (inr other) told = absurd (false≢true told)
told_mounted (Some c) None (inr other) told = absurd other.1
told_mounted (Some c) (Some d) (inr other) told = refl

module _ (law : IsImageOneThing) (mounted : Mounted) (old new : Option (List ℕ)) (has : HasMounted people mounted old new) (same : IsSameButGate old new) where
  none_in : (held : Option (List ℕ)) → IsNew held old → IfSome held (λ octets. (has.catalog ≡ empty) × (mounted.next ≡ 1))
  none_in None is = tt
  none_in (Some c) is =
      (let stands = subst (λ (o : Option (List ℕ)). IfSome o (Stands people has.catalog mounted.next)) is.1.1 has.stands in law.one_store people has.catalog empty mounted.next 1 is.1.0 stands is.1.2)

  stands_in : (after : Option (List ℕ)) → new ≡ after → IsSome after → IfTold new (IsMounted people has.catalog mounted.next mounted.store)
  stands_in None is told = absurd (false≢true told)
  stands_in (Some d) is told = (d, is, subst (λ (o : Option (List ℕ)). IfSome o (IsMounted people has.catalog mounted.next mounted.store)) is has.mounted_)

  mounted_in : (held : Option (List ℕ)) → IsNew held old → IfSome held (λ octets. IfTold new (IsMounted people has.catalog mounted.next mounted.store))
  mounted_in None is = tt
  mounted_in (Some c) is = stands_in new refl (told_mounted old new same (ap is_some is.1.1))

  pub made_is : (held : Option (List ℕ)) → IsNew held old → IsMade held new mounted
  made_is held is = record {
    catalog = has.catalog;
    objects = record { good = has.good; kept = has.kept; next_ = has.next_ };
    was_empty = new_empty held old is;
    none = none_in held is;
    stands = mounted_in held is;
  }

-- a store that was made is not refused
never_refused : (law : IsImageOneThing) (why : MountFault) (old : Option (List ℕ)) → IsOfImage why → IfSome old (IsRefusal people why) → (held : Option (List ℕ)) → IsNew held old → held ≡ None
never_refused law why old image refused None is = refl
never_refused law why old image refused (Some c) is =
    absurd (law.never_both people empty 1 why is.1.0 image is.1.2 (subst (λ (o : Option (List ℕ)). IfSome o (IsRefusal people why)) is.1.1 refused))

pub not_begun : (law : IsImageOneThing) (why : MountFault) (old new : Option (List ℕ)) → IfSome old (IsRefusal people why) → (held : Option (List ℕ)) → IsNew held old → ShowsNothing (of_mount why) held new
not_begun law mount.NotAStore old new refused held is = never_refused law mount.NotAStore old tt refused held is
not_begun law (mount.ShapeDiffers home) old new refused held is = never_refused law (mount.ShapeDiffers home) old tt refused held is
not_begun law (mount.Damaged at k) old new refused held is = never_refused law (mount.Damaged at k) old tt refused held is
not_begun law mount.DiskFault old new refused held is = empty_kept held new (new_empty held old is)
not_begun law mount.NoMemory old new refused held is = empty_kept held new (new_empty held old is)

-- ---- a show is opened over it

saved_in : (held holds : Option (List ℕ)) (P : ℕ → List ℕ → Type 0) (next : ℕ) → IfSome held (λ octets. IfTold holds (P next)) → IfSome (if is_some held then Some next else None) (λ n. IfTold holds (P n))
saved_in None holds P next stands = tt
saved_in (Some c) holds P next stands = stands

pub begins : (held holds : Option (List ℕ)) (mounted : Mounted) (show : Show) → IsMade held holds mounted → is_live show.connector ≡ true → schema_of show.connector ≡ people → limits_of show.connector ≡ standard → performed_by show.connector ≡ 0
    → ((M : Catalog) → HasObjects people M mounted → Keeps show.connector (first_kept M mounted.next)) → store_of show.connector ≡ mounted.store → show.tally ≡ no_tally → Begins held holds show
begins held holds mounted show made live schema limits performed kept store tally = record {
  catalog = made.catalog;
  next = mounted.next;
  was_empty = made.was_empty;
  none = made.none;
  is = record {
    live = live;
    schema = schema;
    limits = limits;
    kept = kept made.catalog made.objects;
    mounted = saved_in held holds (λ n. IsMounted people made.catalog n (store_of show.connector)) mounted.next (subst (λ s. IfSome held (λ octets. IfTold holds (IsMounted people made.catalog mounted.next s))) (sym store) made.stands);
    tally = tally;
    performed = omega (arith, performed);
    replies = omega arith;
    ok = omega arith;
  };
}
