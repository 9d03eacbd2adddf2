-- A page more.
use Rattle.std.proofs.Common.{ℕ, ◌≡◌, ⊎_elim, inl, inr, ◌+◌, ◌<◌, ◌≤◌, List, ◌++◌, map, None, Some, sym, ap, ◌∙◌, subst, arith}
use Rattle.std.proofs.lemmas.Bool.{cases_lt}
use Rattle.std.specs.Map.{keys_of}
use Rattle.std.specs.declared.option.Option.{Option}
use Rattle.pss_base.specs.declared.damage.DamageKind.{DamageKind}
use Rattle.pss_base.specs.declared.damage.DamageKind.TheVariants as kind
use Rattle.pss_base.specs.declared.put.Put.{Put}
use Rattle.page_format.specs.PageDamage.{AreWrongEntries}
use Rattle.page_format.specs.Pages.{AreGiven, IsPage, IsPageHead, entries_end, entries_of, octets_in_use, put_of, serials_of}
use Rattle.page_format.specs.Places.{slot_start}
use Rattle.page_format.specs.declared.fault.PageFault.TheVariants.{Damaged}
use Rattle.page_format.specs.declared.stop.PageStop.{PageStop}
use Rattle.page_format.specs.declared.stop.PageStop.TheVariants as stop
use Rattle.page_format.specs.inner.Copies.{IsCopy}
use Rattle.page_format.specs.inner.Gathering.{AreAdded, IsBadHere, IsSmallAfter}
use Rattle.page_format.specs.inner.Stops.{in_file}
use Rattle.page_format.proofs.Moved.{entries_moved, head_moved, page_moved, used_moved, wrong_moved}

module _ (slot : ℕ) (page image : List ℕ) (copy : IsCopy (slot_start slot) 16384 page image) (used : octets_in_use page 0 ≤ 16344) where
  short : entries_end page 0 ≤ 16384
  short = omega (arith, used)

  pub same_used : octets_in_use page 0 ≡ octets_in_use image (slot_start slot)
  same_used = used_moved (slot_start slot) page image copy

  pub whole_there : IsPage page 0 slot → IsPage image (slot_start slot) slot
  whole_there p = page_moved (slot_start slot) page image copy short slot p

  pub same_entries : IsPage page 0 slot → entries_of page 0 ≡ entries_of image (slot_start slot)
  same_entries p = sym (entries_moved (slot_start slot) page image copy short p.fit)

  -- what is wrong with the entries
  pub bad_entries : (next : ℕ) (seen : List ℕ) (other : Type 0) (s : PageStop) → IsPageHead page 0 slot → ((place : ℕ) (k : DamageKind) → s ≡ stop.Damaged place k → AreWrongEntries page 0 next seen place k)
      → (at : ℕ) (k : DamageKind) → in_file slot s ≡ Damaged at k → IsBadHere image next seen other slot at k
  bad_entries next seen other (stop.Damaged place what) head wrong at k e =
      let here : at ≡ slot_start slot + place = cc in
      let same : what ≡ k = cc in
      let moved : AreWrongEntries image (slot_start slot) next seen at k =
      subst (λ n. AreWrongEntries image (slot_start slot) next seen n k) (sym here) (wrong_moved (slot_start slot) page image copy short next seen place k (wrong place k (ap (stop.Damaged place) same))) in
      inr (inl ((head_moved (slot_start slot) page image copy slot).0 head, moved))
  bad_entries next seen other stop.NoMemory head wrong at k e = absurd (cc)

-- a page whose head is wrong
pub bad_head : (slot : ℕ) (page image : List ℕ) (next : ℕ) (seen : List ℕ) (other : Type 0) → IsCopy (slot_start slot) 16384 page image → (IsPageHead page 0 slot → ⊥) → (at : ℕ) (k : DamageKind) → at ≡ slot_start slot → k ≡ kind.Page → IsBadHere image next seen other slot at k
bad_head slot page image next seen other copy wrong at k here what = inl (record { kind_ = what; place = here; wrong = λ h. wrong ((head_moved (slot_start slot) page image copy slot).1 h) })

-- which page is small, by the octets in use
pub small_after : (image : List ℕ) (slot used : ℕ) (before after : Option ℕ) → octets_in_use image (slot_start slot) ≡ used → (used ≤ 8328 → (before ≡ None) × (after ≡ Some slot)) → (8328 < used → after ≡ before) → IsSmallAfter image slot before after
small_after image slot used before after is little more =
    ⊎_elim {A = 8328 < used} {B = used ≤ 8328} {C = IsSmallAfter image slot before after} (λ lt. inr ((λ s. omega (arith, s, is, lt)), more lt)) (λ le. let l = little le in inl (omega (arith, is, le), l.0, l.1)) (cases_lt 8328 used)

pub added_there : (slot : ℕ) (page image : List ℕ) → IsCopy (slot_start slot) 16384 page image → (next used : ℕ) (places after : List (ℕ × ℕ)) (rows rows_after : List Put) (small small_after_ : Option ℕ)
    → octets_in_use page 0 ≡ used → IsPage page 0 slot → AreGiven next (keys_of places) (serials_of (entries_of page 0)) → after ≡ places ++ map (λ e. (e.serial, slot)) (entries_of page 0) → rows_after ≡ rows ++ map put_of (entries_of page 0)
    → (used ≤ 8328 → (small ≡ None) × (small_after_ ≡ Some slot)) → (8328 < used → small_after_ ≡ small) → AreAdded image next slot places after rows rows_after small small_after_
added_there slot page image copy next used places after rows rows_after small small_after_ is p given placed put little more =
    let few : octets_in_use page 0 ≤ 16344 = p.head.used in
    let same : entries_of page 0 ≡ entries_of image (slot_start slot) = same_entries slot page image copy few p in
    record {
      whole = whole_there slot page image copy few p;
      given = subst (λ es. AreGiven next (keys_of places) (serials_of es)) same given;
      places_ = placed ∙ ap (λ es. places ++ map (λ e. (e.serial, slot)) es) same;
      rows_ = put ∙ ap (λ es. rows ++ map put_of es) same;
      small_ = small_after image slot used small small_after_ (sym (same_used slot page image copy few) ∙ is) little more;
    }

pub bad_packing : (slot : ℕ) (page image : List ℕ) → IsCopy (slot_start slot) 16384 page image → (next used : ℕ) (seen : List ℕ) (other : Type 0) → octets_in_use page 0 ≡ used → IsPage page 0 slot → AreGiven next seen (serials_of (entries_of page 0)) → used ≤ 8328 → other
    → (at : ℕ) (k : DamageKind) → at ≡ slot_start slot → k ≡ kind.Packing → IsBadHere image next seen other slot at k
bad_packing slot page image copy next used seen other is p given little also at k here what =
    let few : octets_in_use page 0 ≤ 16344 = p.head.used in
    inr (inr (record {
      kind_ = what;
      place = here;
      page = whole_there slot page image copy few p;
      given = subst (λ es. AreGiven next seen (serials_of es)) (same_entries slot page image copy few p) given;
      small = omega (arith, same_used slot page image copy few, is, little);
      other_ = also;
    }))
