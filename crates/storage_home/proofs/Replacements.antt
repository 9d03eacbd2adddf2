-- A record takes the place of another.
use Rattle.std.proofs.Common.{ℕ, ◌+◌, ◌-◌, ◌==◌, ◌≡◌, ◌<◌, ◌≤◌, ◌⊎◌, List, [], ◌∷◌, ◌++◌, length, Option, Some, None, inl, inr, cond, refl, sym, ap, subst, ◌∙◌, arith, IsSome, rules}
use Rattle.std.specs.Cmp.{nat_cmp_total}
use Rattle.std.proofs.lemmas.List.{length-append}
use Rattle.std.specs.FinMap.{get, insert, remove, entries, same_map, nat_cmp-IsAntisymmetric}
use Rattle.type_layout.specs.declared.home.HomeNo.{HomeNo}
use Rattle.type_layout.specs.declared.key.KeyNo.{KeyNo}
use Rattle.type_layout.specs.declared.schema.Schema.{Schema}
use Rattle.pss_catalog.specs.Catalog.{Object, Catalog, object_spelling, pids_where, total, IsUnique}
use Rattle.pss_catalog.specs.Changes.{Change as Step, over, with_state}
use Rattle.storage_home.specs.declared.change.Change.{Change}
use Rattle.storage_home.specs.declared.rows.Stored.{Stored}
use Rattle.storage_home.specs.declared.parts.Parts.{Parts}
use Rattle.storage_home.specs.Rows.{object_at, TurnsObject}
use Rattle.storage_home.specs.Extents.{is_held_in}
use Rattle.storage_home.specs.Counts.{number_at}
use Rattle.storage_home.specs.Indexes.{KeyIndexes, KeepsKeysReserved, TurnsFound, MayPut}
use Rattle.storage_home.specs.Kept.{most, IsSound, IsKept, stored, is_own, is_object_of}
use Rattle.storage_home.specs.Applied.{IsState, AreKeysOf, IsChange, AreChanges, MayApply}
use Rattle.storage_home.specs.inner.Replacements.{Replaces, ReplacesOne, MayReplace, alone}
use Rattle.storage_home.proofs.Keeping.{same_or_not, gone, stays, come, others, passing_without, passing_with, number_without, number_with, sum_without, sum_with}
use Rattle.storage_home.proofs.Following.{KeysAre, rows_with, keys_without, keys_with}
use Rattle.storage_home.proofs.Taking.{object_behind, weighs, may_put_keys}

-- taken out and put again, or put in its place
put_anew : (M : Catalog) (s : ℕ) (object : Object) → insert (remove M s) s object ≡ insert M s object
put_anew M s object = same_map nat_cmp_total nat_cmp-IsAntisymmetric (insert (remove M s) s object) (insert M s object) (λ t. by t (same_or_not t s))
  where
    by : (t : ℕ) → (t ≡ s) ⊎ (t ≡ s → ⊥) → get (insert (remove M s) s object) t ≡ get (insert M s object) t
    by t (inl same) = come (remove M s) s object t same ∙ sym (come M s object t same)
    by t (inr other) = others (remove M s) s object t other ∙ stays M s t other ∙ sym (others M s object t other)

module _ (homes : Parts) (s : ℕ) (row : Stored) (had has : List (KeyNo × List ℕ)) (may : MayReplace homes s row had has) where
  abbrev pub S : Schema
  S = may.schema

  abbrev pub M : Catalog
  M = may.catalog

  same_map_after : insert (remove M s) s may.object ≡ insert M s may.object
  same_map_after = put_anew M s may.object

  -- ---- the sum

  sum_replaced : total S (insert M s may.object) + length (object_spelling S may.before) ≡ total S M + length (object_spelling S may.object)
  sum_replaced =
      let less = sum_without S M s may.before may.there in
      let more = sum_with S (remove M s) s may.object (gone M s s refl) in
      let same = ap (total S) same_map_after in
      omega (arith, less, more, same)

  module _ (old : Stored) (is : object_at s homes.rows.chunks ≡ Some old) where
    pub old_is : old ≡ stored S may.before
    old_is =
        let behind = object_behind S M homes may.kept s old is in
        let one : Some behind.0 ≡ Some may.before = sym behind.1 ∙ may.there in
        let it : behind.0 ≡ may.before = cc in
        behind.2 ∙ ap (stored S) it

    pub old_weighs : length old.bytes ≤ homes.total
    old_weighs = let all = weighs S M homes may.kept s may.before may.there in let same = ap (λ (r : Stored). length r.bytes) old_is in omega (arith, all, same)

    pub new_fits : homes.total - length old.bytes + length row.bytes ≤ most
    new_fits =
        let sum = sum_replaced in
        let whole = may.kept.total_is in
        let before = ap (λ (r : Stored). length r.bytes) old_is in
        let after = ap (λ (r : Stored). length r.bytes) may.is in
        let bounded = may.bounded in
        let enough = old_weighs in
        omega (arith, sum, whole, before, after, bounded, enough)

  -- ---- keys

  pub may_put_new : (indexes : KeyIndexes) → TurnsFound homes.keys indexes had None → KeepsKeysReserved homes.keys indexes → MayPut indexes has
  may_put_new indexes found reserved =
      may_put_keys S (remove M s) indexes (keys_without S M s may.before may.there had may.old_keys.listed _ indexes may.kept.keys found) s may.object (gone M s s refl) (subst (IsUnique S) (sym same_map_after) may.unique) has may.new_keys
      (λ key bytes listed. reserved key bytes ∙ may.keys_reserved key bytes listed)

  keys_after : (between after : KeyIndexes) → TurnsFound homes.keys between had None → TurnsFound between after has (Some s) → KeysAre S (insert M s may.object) after
  keys_after between after taken put =
      subst (λ N. KeysAre S N after) same_map_after
      (keys_with S (remove M s) s may.object (gone M s s refl) (subst (IsUnique S) (sym same_map_after) may.unique) has may.new_keys.listed between after
      (keys_without S M s may.before may.there had may.old_keys.listed _ between may.kept.keys taken) put)

  -- ---- all

  same_count : (home : ℕ) → length (pids_where (is_own home) (insert M s may.object)) ≡ length (pids_where (is_own home) M)
  same_count home =
      let less = passing_without (is_own home) M s may.before may.there in
      let more = passing_with (is_own home) (remove M s) s may.object (gone M s s refl) in
      let same = ap (λ N. length (pids_where (is_own home) N)) same_map_after in
      let one = ap (λ (h : HomeNo). cond {A = ℕ} (h.0 == home) 1 0) may.of_home in
      omega (arith, less, more, same, one)

  pub kept_replaced :
      (new : Parts) (old : Stored) → object_at s homes.rows.chunks ≡ Some old → (between : KeyIndexes) → new.families ≡ homes.families → TurnsObject homes.rows.chunks new.rows.chunks s (Some row)
      → new.total ≡ homes.total - length old.bytes + length row.bytes → new.objects ≡ homes.objects → new.extents.items ≡ homes.extents.items → new.counts.items ≡ homes.counts.items
      → TurnsFound homes.keys between had None → TurnsFound between new.keys has (Some s) → IsKept S (insert M s may.object) new
  kept_replaced new old is between families rows sum number extents counts taken put = record {
    sound = may.kept.sound;
    each = λ t x found. sound_at t x found (same_or_not t s);
    families = families ∙ may.kept.families;
    objects = rows_with S M s may.object _ new.rows.chunks may.kept.objects (subst (λ (r : Stored). TurnsObject homes.rows.chunks new.rows.chunks s (Some r)) may.is rows);
    total_is = (
        let change = sum_replaced in
        let whole = may.kept.total_is in
        let before = ap (λ (r : Stored). length r.bytes) (old_is old is) in
        let after = ap (λ (r : Stored). length r.bytes) may.is in
        let enough = old_weighs old is in
        omega (arith, change, whole, before, after, sum, enough));
    bounded = may.bounded;
    count_is = (
        let less = number_without M s may.before may.there in
        let more = number_with (remove M s) s may.object (gone M s s refl) in
        let same = ap (λ N. length (entries N)) same_map_after in
        let whole = may.kept.count_is in
        omega (arith, number, less, more, same, whole));
    extents = λ h t. ap (λ l. is_held_in l h t) extents ∙ may.kept.extents h t ∙ held_at h t (same_or_not t s);
    extents_size = ap length extents ∙ may.kept.extents_size;
    counts = λ home. ap (λ l. number_at l home) counts ∙ may.kept.counts home ∙ sym (same_count home);
    counts_size = ap length counts ∙ may.kept.counts_size;
    keys = keys_after between new.keys taken put;
  }
    where
      sound_at : (t : ℕ) (x : Object) → get (insert M s may.object) t ≡ Some x → (t ≡ s) ⊎ (t ≡ s → ⊥) → IsSound S x
      sound_at t x found (inl same) = let one : Some may.object ≡ Some x = sym (come M s may.object t same) ∙ found in let it : may.object ≡ x = cc in subst (IsSound S) it may.is_sound
      sound_at t x found (inr other) = may.kept.each t x (sym (others M s may.object t other) ∙ found)

      held_at : (h t : ℕ) → (t ≡ s) ⊎ (t ≡ s → ⊥) → is_object_of h (get M t) ≡ is_object_of h (get (insert M s may.object) t)
      held_at h t (inl same) =
          ap (is_object_of h) (ap (λ (k : ℕ). get M k) same ∙ may.there) ∙ ap (λ (home : HomeNo). home.0 == h) may.of_home ∙ sym (ap (is_object_of h) (come M s may.object t same))
      held_at h t (inr other) = ap (is_object_of h) (sym (others M s may.object t other))

-- ---- the change that stands alone

pub popped : (homes : Parts) (changes rest : List Change) (change : Change) → ReplacesOne homes changes → changes ≡ rest ++ change ∷ [] → changes ≡ alone change
popped homes [] rest change one is = absurd one
popped homes (only ∷ []) [] change one is = is
popped homes (only ∷ []) (x ∷ xs) change one is = let long = ap length is in let sum = length-append xs (change ∷ []) in absurd (omega (arith, long, sum))
popped homes (_ ∷ _ ∷ _) rest change one is = absurd one

pub has_one : (homes : Parts) (changes : List Change) → ReplacesOne homes changes → 0 < length changes
has_one homes [] one = absurd one
has_one homes (only ∷ []) one = omega arith
has_one homes (_ ∷ _ ∷ _) one = absurd one

module _ (homes : Parts) (change : Change) (bytes : List ℕ) (is : change.put.bytes ≡ Some bytes) where
  -- the object of its record
  pub record Replacement (m : MayApply homes (alone change)) : Type 0 where
    pub object : Object
    pub comes : over m.catalog m.steps ≡ insert m.catalog change.put.serial object
    pub of_home : object.home.0 ≡ change.put.home
    pub is_sound : IsSound m.schema object
    pub spelled : bytes ≡ object_spelling m.schema object
    pub old_keys : AreKeysOf m.schema (get m.catalog change.put.serial) change.old_keys
    pub new_keys : AreKeysOf m.schema (Some object) change.new_keys

  pub replacement : (m : MayApply homes (alone change)) → Replacement m
  replacement m = by m.steps refl m.are
    where
      at : (step : Step) → m.steps ≡ step ∷ [] → IsChange m.schema m.catalog change step → (state : Option Object) → step.state ≡ state → IsState m.schema change.put.home (Some bytes) state → Replacement m
      at step steps are None state told = absurd told
      at step steps are (Some object) state told = record {
        object = object;
        comes = ap (over m.catalog) steps ∙ ap (with_state m.catalog step.serial) state ∙ ap (λ (t : ℕ). insert m.catalog t object) (sym are.step_is.0);
        of_home = told.0;
        is_sound = told.1;
        spelled = told.2;
        old_keys = subst (λ (t : ℕ). AreKeysOf m.schema (get m.catalog t) change.old_keys) (sym are.step_is.0) are.old_keys;
        new_keys = subst (λ o. AreKeysOf m.schema o change.new_keys) state are.new_keys;
      }

      by : (steps : List Step) → m.steps ≡ steps → AreChanges m.schema m.catalog (alone change) steps → Replacement m
      by [] same are = absurd are
      by (step ∷ []) same are = at step same are.0 step.state refl (subst (λ b. IsState m.schema change.put.home b step.state) is are.0.step_is.1)
      by (step ∷ _ ∷ _) same are = absurd are.1

  pub may_replace : MayApply homes (alone change) → Replaces homes change.put → MayReplace homes change.put.serial (record { home = record { 0 = change.put.home }; bytes = bytes }) change.old_keys change.new_keys
  may_replace m r =
      let new = replacement m in
      let behind = object_behind m.schema m.catalog homes m.kept change.put.serial r.row r.there in
      let home_is : record { 0 = change.put.home } ≡ new.object.home = λ i. record { 0 = sym new.of_home i } in
      record {
        schema = m.schema;
        catalog = m.catalog;
        before = behind.0;
        object = new.object;
        kept = m.kept;
        there = behind.1;
        of_home = (ap (λ (o : Stored). o.home) (sym behind.2) ∙ (λ i. record { 0 = r.of_home i })) ∙ home_is;
        is_sound = new.is_sound;
        is = λ i. record { home = home_is i; bytes = new.spelled i };
        old_keys = subst (λ o. AreKeysOf m.schema o change.old_keys) behind.1 new.old_keys;
        new_keys = new.new_keys;
        unique = subst (IsUnique m.schema) new.comes m.unique;
        bounded = subst (λ N. total m.schema N ≤ most) new.comes m.bounded;
        reserved = (m.reserved.0.0 (subst IsSome (sym is) (search rules))).0;
        keys_reserved = m.reserved.0.1;
      }

  pub replaced_all :
      (m : MayApply homes (alone change)) → Replaces homes change.put → (new : Parts)
      → ((p : MayReplace homes change.put.serial (record { home = record { 0 = change.put.home }; bytes = bytes }) change.old_keys change.new_keys) → IsKept p.schema (insert p.catalog change.put.serial p.object) new)
      → IsKept m.schema (over m.catalog m.steps) new
  unfolding may_replace
  replaced_all m r new after = subst (λ N. IsKept m.schema N new) (sym (replacement m).comes) (after (may_replace m r))
