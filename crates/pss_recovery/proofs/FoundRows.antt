-- The rows of pages are right, or one of them is the first that is wrong.
use Rattle.std.proofs.Common.{ℕ, zero, suc, ◌≡◌, ◌⊎◌, inl, inr, ⊎_elim, ◌+◌, ◌<◌, ◌≤◌, List, [], ◌∷◌, ◌++◌, length, map, take, slice_index, Option, None, Some, IsSome, refl, sym, ap, subst, arith}
use Rattle.std.proofs.lemmas.Bool.{cases_lt}
use Rattle.std.proofs.lemmas.List.{map-append}
use Rattle.std.proofs.Math.Seq.{take-length}
use Rattle.std.specs.FinMap.{empty, insert}
use Rattle.std.specs.List.{AllByRecursion, slice_get}
use Rattle.pss_base.specs.declared.damage.DamageKind.{DamageKind}
use Rattle.pss_base.specs.declared.damage.DamageKind.TheVariants as kind
use Rattle.pss_base.specs.declared.put.Put.{Put}
use Rattle.type_layout.specs.declared.schema.Home.{Home}
use Rattle.type_layout.specs.declared.schema.Schema.{Schema}
use Rattle.type_layout.specs.Schemas.{home_at}
use Rattle.type_layout.specs.Sound.{IsSoundSchema}
use Rattle.pss_catalog.specs.Catalog.{Catalog, Object, total}
use Rattle.redo_journal.specs.Journal.{journal_end}
use Rattle.redo_journal.specs.Laws.{AreOctets}
use Rattle.page_format.specs.Pages.{behind_entry, entries_from, entries_in, entries_of, entries_start, entry_at, entry_count, put_of, record_length}
use Rattle.page_format.specs.Places.{slot_start}
use Rattle.page_store.specs.Kept.{rows_in}
use Rattle.storage_home.specs.Applied.{IsState}
use Rattle.pss_recovery.specs.Loading.{AreLoaded, IsFree, IsRow, IsRowDamage, IsWrongRow, RefersBelow, most_octets}
use Rattle.page_format.proofs.Decisions.{IsDecided}
use Rattle.pss_recovery.proofs.FoundKeys.{free_decided}
use Rattle.pss_recovery.proofs.FoundRecords.{refers_decided, state_found}
use Rattle.pss_recovery.proofs.Onward.{loaded_push}
use Rattle.pss_recovery.proofs.RowsOnce.{AreWrong}
use Rattle.pss_recovery.proofs.SmallOctets.{small_part}

-- where one of some things stands, and what is up to it
pub record IsAt {A : Type 0} (xs : List A) (n : ℕ) : Type 0 where
  pub it : A
  pub there : slice_get xs n ≡ Some it
  pub up_to : take (suc n) xs ≡ take n xs ++ it ∷ []

pub at_place : {A : Type 0} (xs : List A) (n : ℕ) → n < length xs → IsAt xs n
at_place [] n lt = absurd (omega (arith, lt))
at_place (x ∷ xs) zero lt = record { it = x; there = refl; up_to = refl }
at_place (x ∷ xs) (suc n) lt = let rest = at_place xs n (omega (arith, lt)) in record { it = rest.it; there = rest.there; up_to = ap (λ l. x ∷ l) rest.up_to }

-- what holds of each holds of that one
pub all_at : {A : Type 0} (P : A → Type 0) (xs : List A) (n : ℕ) (x : A) → AllByRecursion P xs → slice_get xs n ≡ Some x → P x
all_at P [] n x all there = absurd (let none : None ≡ Some x = there in cc)
all_at P (y ∷ xs) zero x all there = subst P (let same : y ≡ x = cc in same) all.0
all_at P (y ∷ xs) (suc n) x all there = all_at P xs n x all.1 there

-- a row has octets
pub record HasOctets (row : Put) : Type 0 where
  pub octets : List ℕ
  pub is : row.bytes ≡ Some octets
  pub small : AreOctets octets

module _ (image : List ℕ) (small : AreOctets image) where
  entry_octets : (k at : ℕ) (es : List Put) → AllByRecursion HasOctets es → AllByRecursion HasOctets (map put_of (entries_from k image at) ++ es)
  entry_octets zero at es all = all
  entry_octets (suc k) at es all = (record { octets = (entry_at image at).octets; is = refl; small = small_part image (record { at = at + 16; count = record_length image at }) small }, entry_octets k (behind_entry image at) es all)

  pub rows_octets : (slots : List ℕ) → AllByRecursion HasOctets (rows_in image slots)
  rows_octets [] = tt
  rows_octets (slot ∷ slots) =
      subst (AllByRecursion HasOctets) (sym (map-append put_of (entries_of image (slot_start slot)) (entries_in image slots)))
      (entry_octets (entry_count image (slot_start slot)) (entries_start (slot_start slot)) (rows_in image slots) (rows_octets slots))

module _ (S : Schema) (sound : IsSoundSchema S) (next : ℕ) where
  -- ---- one row

  module _ (M : Catalog) (row : Put) (place : ℕ) (has : HasOctets row) where
    abbrev IsRowFound : Type 0
    IsRowFound = ((object : Object) × IsRow S next M row object) ⊎ ((at : ℕ) × (k : DamageKind) × IsWrongRow S next M row place at k)

    abbrev IsStoredHere : Object → Type 0
    IsStoredHere object = IsState S row.home row.bytes (Some object)

    object_found : (object : Object) → IsStoredHere object → IsDecided (RefersBelow next object) → IsDecided (IsFree S M object) → IsRowFound
    object_found object stored (inr above) free = inr (place, kind.Ref, inr (inr (inl (record { kind_ = refl; place_ = refl; object = object; stored = stored; above = above }))))
    object_found object stored (inl refers) (inr held) = inr (place, kind.Key, inr (inr (inr (record { kind_ = refl; place_ = refl; object = object; stored = stored; refers = refers; held = held }))))
    object_found object stored (inl refers) (inl free) = inl (object, record { stored = stored; refers = refers; free = free })

    of_home : IsSome (home_at S (record { 0 = row.home })) → IsRowFound
    of_home home =
        ⊎_elim (λ found. object_found found.0 (subst (λ (o : Option (List ℕ)). IsState S row.home o (Some found.0)) (sym has.is) found.1) (refers_decided next found.0) (free_decided S M found.0))
        (λ none. inr (place + 16, kind.Record, inr (inl (record { kind_ = refl; place_ = refl; home = home; none = λ object stored. none object (subst (λ (o : Option (List ℕ)). IsState S row.home o (Some object)) has.is stored) }))))
        (state_found S sound row.home has.octets has.small)

    row_found : IsRowFound
    row_found = by (home_at S (record { 0 = row.home })) refl
      where
        by : (o : Option Home) → home_at S (record { 0 = row.home }) ≡ o → IsRowFound
        by None none = inr (place, kind.Entry, inl (record { kind_ = refl; place_ = refl; none = none }))
        by (Some h) there = of_home (subst IsSome (sym there) refl)

  -- ---- all of them

  module _ (rows : List Put) (places : List ℕ) (all : AllByRecursion HasOctets rows) where
    abbrev IsDamagedSome : Type 0
    IsDamagedSome = (at : ℕ) × (k : DamageKind) × IsRowDamage S next rows places at k

    first_found : (n : ℕ) → n ≤ length rows → ((N : Catalog) × AreLoaded S next empty (take n rows) N) ⊎ IsDamagedSome
    first_found zero le = inl (empty, refl)
    first_found (suc n) le = ⊎_elim next_found (λ damaged. inr damaged) (first_found n (omega (arith, le)))
      where
        next_found : ((N : Catalog) × AreLoaded S next empty (take n rows) N) → ((N : Catalog) × AreLoaded S next empty (take (suc n) rows) N) ⊎ IsDamagedSome
        next_found so_far =
            let here = at_place rows n (omega (arith, le)) in
            ⊎_elim
            (λ right. inl (insert so_far.0 here.it.serial right.0, subst (λ (l : List Put). AreLoaded S next empty l (insert so_far.0 here.it.serial right.0)) (sym here.up_to) (loaded_push S next empty (take n rows) so_far.0 here.it right.0 so_far.1 right.1)))
            (λ wrong. inr (wrong.0, wrong.1, record { index = n; row = here.it; there = here.there; before = so_far.0; loaded = so_far.1; wrong = wrong.2 }))
            (row_found so_far.0 here.it (slice_index places n) (all_at HasOctets rows n here.it all here.there))

    abbrev IsLoadedSome : Type 0
    IsLoadedSome = (N : Catalog) × AreLoaded S next empty rows N × (total S N ≤ most_octets)

    pub rows_found : IsLoadedSome ⊎ ((at : ℕ) × (k : DamageKind) × AreWrong S next rows places at k)
    rows_found = ⊎_elim whole (λ damaged. inr (damaged.0, damaged.1, inl damaged.2)) (first_found (length rows) (omega arith))
      where
        whole : ((N : Catalog) × AreLoaded S next empty (take (length rows) rows) N) → IsLoadedSome ⊎ ((at : ℕ) × (k : DamageKind) × AreWrong S next rows places at k)
        whole found =
            let loaded = subst (λ (l : List Put). AreLoaded S next empty l found.0) (take-length rows) found.1 in
            ⊎_elim (λ over. inr (journal_end, kind.Total, inr (record { kind_ = refl; place_ = refl; all = found.0; loaded = loaded; over = over }))) (λ few. inl (found.0, loaded, few)) (cases_lt most_octets (total S found.0))
