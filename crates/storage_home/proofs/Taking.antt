-- An object is taken out of what is kept, or put.
use Rattle.std.proofs.Common.{ℕ, zero, suc, ◌+◌, ◌-◌, ◌/◌, ◌%◌, ◌≡◌, ◌<◌, ◌≤◌, ◌⊎◌, List, [], ◌∷◌, length, Option, Some, None, true, false, inl, inr, cond, refl, sym, ap, subst, ◌∙◌, arith, IsSome, eq-eqb}
use Rattle.std.specs.Prelude.{◌&&◌, ◌||◌}
use Rattle.std.specs.Option.{option_map}
use Rattle.std.specs.List.{slice_get}
use Rattle.std.specs.declared.vec.Vec.{Vec}
use Rattle.std.specs.Vec.{with_items}
use Rattle.std.proofs.lemmas.List.{with_items_is}
use Rattle.std.proofs.lemmas.Slice.Eq.{bytes_eq-Decides}
use Rattle.std.specs.Str.{bytes_eq}
use Rattle.std.specs.FinMap.{get, insert, remove}
use Rattle.std.specs.BTreeMap.{BTreeMap}
use Rattle.std.proofs.lemmas.Option.{slice_get_within}
use Rattle.type_layout.specs.declared.home.HomeNo.{HomeNo}
use Rattle.type_layout.specs.declared.key.KeyNo.{KeyNo}
use Rattle.type_layout.specs.declared.schema.Schema.{Schema}
use Rattle.type_layout.specs.Schemas.{given, nth, home_at}
use Rattle.pss_catalog.specs.Catalog.{Object, Catalog, holds, weight, total, IsUnique}
use Rattle.storage_home.specs.declared.rows.Stored.{Stored}
use Rattle.storage_home.specs.declared.parts.Parts.{Parts}
use Rattle.storage_home.specs.Rows.{object_at, TurnsObject, KeepsObjects}
use Rattle.storage_home.specs.declared.extents.Block.{Block}
use Rattle.storage_home.specs.Blocks.{block_at}
use Rattle.storage_home.specs.Extents.{is_held_at, is_entered_at, is_held_in, is_entered_in, TurnsHeldIn, KeepsHeldIn}
use Rattle.storage_home.specs.Counts.{number_at, IsRaised}
use Rattle.storage_home.specs.Indexes.{KeyIndexes, found_at, is_key_reserved, lists, is_pair, TurnsFound, MayPut, IsOnce, AreKeysReserved, KeepsFound}
use Rattle.storage_home.specs.Kept.{most, IsSound, IsKept, stored, is_own, is_object_of}
use Rattle.storage_home.specs.Applied.{AreKeysOf}
use Rattle.storage_home.specs.inner.Steps.{MayPutObject}
use Rattle.storage_home.proofs.Places.{by_test}
use Rattle.storage_home.proofs.Marking.{held_enters}
use Rattle.storage_home.proofs.Keeping.{was_there, come, others, same_or_not, passing_without, passing_with, number_without, number_with, sum_without, sum_with, fewer, fewer_pass}
use Rattle.storage_home.proofs.Following.{KeysAre, rows_without, rows_with, extents_without, extents_with, keys_without, keys_with}

pub some_there : {A : Type 0} (xs : List A) (h : ℕ) → IsSome (nth xs h) → (0 < h) × (h ≤ length xs)
some_there xs zero there = cc
some_there xs (suc h) there = by (slice_get xs h) refl there
  where
    by : (o : Option _) → slice_get xs h ≡ o → IsSome o → (0 < suc h) × (suc h ≤ length xs)
    by None is some = cc
    by (Some x) is some = let within = slice_get_within xs h x is in (omega arith, omega (arith, within))

pub held_entered : (extents : List (BTreeMap ℕ Block)) (h s : ℕ) → is_held_in extents h s ≡ true → is_entered_in extents h s ≡ true
held_entered extents h s held = by (nth extents h) held
  where
    by : (o : Option (BTreeMap ℕ Block)) → given o false (λ e. is_held_at s e.entries) ≡ true → given o false (λ e. is_entered_at s e.entries) ≡ true
    by None e = e
    by (Some e) is = held_enters (block_at (s / 64) e.entries) (s % 64) is

module _ (S : Schema) (M : Catalog) (homes : Parts) (kept : IsKept S M homes) where
  -- the object behind a row
  pub object_behind : (s : ℕ) (row : Stored) → object_at s homes.rows.chunks ≡ Some row → (object : Object) × (get M s ≡ Some object) × (row ≡ stored S object)
  object_behind s row is = by (get M s) refl (sym (kept.objects s) ∙ is)
    where
      by : (o : Option Object) → get M s ≡ o → option_map (stored S) o ≡ Some row → (object : Object) × (get M s ≡ Some object) × (row ≡ stored S object)
      by None there e = cc
      by (Some object) there e = (object, there, cc)

  pub nothing_behind : (s : ℕ) → object_at s homes.rows.chunks ≡ None → get M s ≡ None
  nothing_behind s is = by (get M s) refl (sym (kept.objects s) ∙ is)
    where
      by : (o : Option Object) → get M s ≡ o → option_map (stored S) o ≡ None → get M s ≡ None
      by None there e = there
      by (Some object) there e = cc

  pub home_within : (home : HomeNo) → IsSome (home_at S home) → home.0 ≤ length homes.counts.items
  home_within home there = subst (λ (n : ℕ). home.0 ≤ n) (sym kept.counts_size) (some_there S.homes home.0 there).1

  -- ---- taking

  module _ (s : ℕ) (object : Object) (is : get M s ≡ Some object) where
    pub weighs : weight S object ≤ homes.total
    weighs = let sum = sum_without S M s object is in let whole = kept.total_is in omega (arith, sum, whole)

    pub one_there : 1 ≤ homes.objects
    one_there = let sum = number_without M s object is in let whole = kept.count_is in omega (arith, sum, whole)

    pub own_counted : 0 < number_at homes.counts.items object.home.0
    own_counted =
        let number = kept.counts object.home.0 in
        let less = passing_without (is_own object.home.0) M s object is in
        let own = ap (λ b. cond {A = ℕ} b 1 0) (eq-eqb object.home.0 object.home.0 refl) in
        omega (arith, number, less, own)

    pub entered_there : is_entered_in homes.extents.items object.home.0 s ≡ true
    entered_there = held_entered homes.extents.items object.home.0 s (kept.extents object.home.0 s ∙ ap (is_object_of object.home.0) is ∙ grind arith)

    -- the object is gone, and all else is as it was
    pub kept_without :
        (new : Parts) (pairs : List (KeyNo × List ℕ)) → AreKeysOf S (Some object) pairs → new.families ≡ homes.families → TurnsObject homes.rows.chunks new.rows.chunks s None
        → new.total ≡ homes.total - weight S object → new.objects ≡ homes.objects - 1
        → TurnsHeldIn homes.extents.items new.extents.items object.home.0 s false → length new.extents.items ≡ length homes.extents.items
        → IsRaised new.counts.items homes.counts.items object.home.0 → length new.counts.items ≡ length homes.counts.items
        → TurnsFound homes.keys new.keys pairs None
        → IsKept S (remove M s) new
    kept_without new pairs keys families rows sum number held size counted long found = record {
      sound = kept.sound;
      each = λ t x found. kept.each t x (was_there M s t x found).0;
      families = families ∙ kept.families;
      objects = rows_without S M s _ new.rows.chunks kept.objects rows;
      total_is = (let whole = kept.total_is in let less = sum_without S M s object is in omega (arith, sum, whole, less));
      bounded = (let before = kept.bounded in let less = sum_without S M s object is in omega (arith, before, less));
      count_is = (let whole = kept.count_is in let less = number_without M s object is in omega (arith, number, whole, less));
      extents = extents_without S M s object is _ new.extents.items kept.extents held;
      extents_size = size ∙ kept.extents_size;
      counts = λ home. (
          let before = kept.counts home in
          let less = passing_without (is_own home) M s object is in
          let change = counted home in
          omega (arith, before, less, change));
      counts_size = long ∙ kept.counts_size;
      keys = keys_without S M s object is pairs keys.listed _ new.keys kept.keys found;
    }

  -- ---- putting

  module _ (s : ℕ) (object : Object) (none : get M s ≡ None) (is_sound : IsSound S object) (bounded : total S (insert M s object) ≤ most) where
    pub sum_fits : homes.total + weight S object ≤ most
    sum_fits = let more = sum_with S M s object none in let whole = kept.total_is in omega (arith, more, whole, bounded)

    pub number_fits : homes.objects + 1 ≤ most
    number_fits =
        let more = number_with M s object none in
        let whole = kept.count_is in
        let less = fewer S (insert M s object) in
        omega (arith, more, whole, less, bounded)

    pub counts_fit : number_at homes.counts.items object.home.0 < most
    counts_fit =
        let number = kept.counts object.home.0 in
        let pass = fewer_pass (is_own object.home.0) M in
        let more = number_with M s object none in
        let less = fewer S (insert M s object) in
        omega (arith, number, pass, more, less, bounded)

    -- the object is there, and all else is as it was
    pub kept_with :
        (new : Parts) (pairs : List (KeyNo × List ℕ)) → AreKeysOf S (Some object) pairs → IsUnique S (insert M s object) → new.families ≡ homes.families → TurnsObject homes.rows.chunks new.rows.chunks s (Some (stored S object))
        → new.total ≡ homes.total + weight S object → new.objects ≡ homes.objects + 1
        → TurnsHeldIn homes.extents.items new.extents.items object.home.0 s true → length new.extents.items ≡ length homes.extents.items
        → IsRaised homes.counts.items new.counts.items object.home.0 → length new.counts.items ≡ length homes.counts.items
        → TurnsFound homes.keys new.keys pairs (Some s)
        → IsKept S (insert M s object) new
    kept_with new pairs keys unique families rows sum number held size counted long found = record {
      sound = kept.sound;
      each = λ t x found. by t x found (same_or_not t s);
      families = families ∙ kept.families;
      objects = rows_with S M s object _ new.rows.chunks kept.objects rows;
      total_is = (let whole = kept.total_is in let more = sum_with S M s object none in omega (arith, sum, whole, more));
      bounded = bounded;
      count_is = (let whole = kept.count_is in let more = number_with M s object none in omega (arith, number, whole, more));
      extents = extents_with S M s object none _ new.extents.items kept.extents held;
      extents_size = size ∙ kept.extents_size;
      counts = λ home. (
          let before = kept.counts home in
          let more = passing_with (is_own home) M s object none in
          let change = counted home in
          omega (arith, before, more, change));
      counts_size = long ∙ kept.counts_size;
      keys = keys_with S M s object none unique pairs keys.listed _ new.keys kept.keys found;
    }
      where
        by : (t : ℕ) (x : Object) → get (insert M s object) t ≡ Some x → (t ≡ s) ⊎ (t ≡ s → ⊥) → IsSound S x
        by t x found (inl same) = let one : Some object ≡ Some x = sym (come M s object t same) ∙ found in let it : object ≡ x = cc in subst (IsSound S) it is_sound
        by t x found (inr other) = kept.each t x (sym (others M s object t other) ∙ found)

-- ---- the keys of an object

pair_same : (pair : KeyNo × List ℕ) → is_pair pair pair.0.0 pair.1 ≡ true
pair_same pair = ap (λ b. b && bytes_eq pair.1 pair.1) (eq-eqb pair.0.0 pair.0.0 refl) ∙ (bytes_eq-Decides pair.1 pair.1).1 refl

listed_first : (pair : KeyNo × List ℕ) (pairs : List (KeyNo × List ℕ)) → lists (pair ∷ pairs) pair.0.0 pair.1 ≡ true
listed_first pair pairs = ap (λ b. b || lists pairs pair.0.0 pair.1) (pair_same pair)

listed_more : (pair : KeyNo × List ℕ) (pairs : List (KeyNo × List ℕ)) (key : ℕ) (bytes : List ℕ) → lists pairs key bytes ≡ true → lists (pair ∷ pairs) key bytes ≡ true
listed_more pair pairs key bytes more = by_test (λ b. (b || lists pairs key bytes) ≡ true) (is_pair pair key bytes) (λ _. refl) (λ _. more)

module _ (S : Schema) (M : Catalog) (indexes : KeyIndexes) (are : KeysAre S M indexes) where
  module _ (s : ℕ) (object : Object) (none : get M s ≡ None) (unique : IsUnique S (insert M s object)) where
    free : (key : KeyNo) (bytes : List ℕ) → holds S key bytes object ≡ true → found_at indexes key.0 bytes ≡ None
    free key bytes held = by (found_at indexes key.0 bytes) refl
      where
        by : (o : Option ℕ) → found_at indexes key.0 bytes ≡ o → found_at indexes key.0 bytes ≡ None
        by None is = is
        by (Some t) is =
            let holder = (are key bytes t).0 is in
            let other : t ≡ s → ⊥ = λ same. (let one : Some holder.0 ≡ None = sym holder.1 ∙ ap (λ (k : ℕ). get M k) same ∙ none in cc) in
            absurd (other (unique key bytes t s holder.0 object (others M s object t other ∙ holder.1) (come M s object s refl) holder.2 held))

    may_each : (pairs : List (KeyNo × List ℕ)) → IsOnce pairs → ((key : KeyNo) (bytes : List ℕ) → lists pairs key.0 bytes ≡ true → (holds S key bytes object ≡ true) × (is_key_reserved indexes key.0 bytes ≡ true)) → MayPut indexes pairs
    may_each [] once each = tt
    may_each (pair ∷ pairs) once each =
        let here = each pair.0 pair.1 (listed_first pair pairs) in
        (here.1, free pair.0 pair.1 here.0, once.0, may_each pairs once.1 (λ key bytes more. each key bytes (listed_more pair pairs key.0 bytes more)))

    pub may_put_keys : (pairs : List (KeyNo × List ℕ)) → AreKeysOf S (Some object) pairs → AreKeysReserved indexes pairs → MayPut indexes pairs
    may_put_keys pairs keys reserved = may_each pairs keys.once (λ key bytes has. (sym (keys.listed key bytes) ∙ has, reserved key.0 bytes has))

-- ---- the object behind a row

module _ (S : Schema) (M : Catalog) (homes : Parts) (kept : IsKept S M homes) (s : ℕ) (row : Stored) (is : object_at s homes.rows.chunks ≡ Some row) where
  behind : (object : Object) × (get M s ≡ Some object) × (row ≡ stored S object)
  behind = object_behind S M homes kept s row is

  pub row_weighs : 16 + length row.bytes ≤ homes.total
  row_weighs = subst (λ (r : Stored). 16 + length r.bytes ≤ homes.total) (sym behind.2) (weighs S M homes kept s behind.0 behind.1)

  pub row_counts : 1 ≤ homes.objects
  row_counts = one_there S M homes kept s behind.0 behind.1

  pub row_home : row.home.0 ≤ length homes.counts.items
  row_home = subst (λ (r : Stored). r.home.0 ≤ length homes.counts.items) (sym behind.2) (home_within S M homes kept behind.0.home (kept.each s behind.0 behind.1).0)

  pub row_counted : 0 < number_at homes.counts.items row.home.0
  row_counted = subst (λ (r : Stored). 0 < number_at homes.counts.items r.home.0) (sym behind.2) (own_counted S M homes kept s behind.0 behind.1)

  pub row_entered : is_entered_in homes.extents.items row.home.0 s ≡ true
  row_entered = subst (λ (r : Stored). is_entered_in homes.extents.items r.home.0 s ≡ true) (sym behind.2) (entered_there S M homes kept s behind.0 behind.1)

  pub row_without :
      (new : Parts) (pairs : List (KeyNo × List ℕ)) → AreKeysOf S (get M s) pairs → new.families ≡ homes.families → TurnsObject homes.rows.chunks new.rows.chunks s None
      → new.total ≡ homes.total - (16 + length row.bytes) → new.objects ≡ homes.objects - 1
      → TurnsHeldIn homes.extents.items new.extents.items row.home.0 s false → length new.extents.items ≡ length homes.extents.items
      → IsRaised new.counts.items homes.counts.items row.home.0 → length new.counts.items ≡ length homes.counts.items
      → TurnsFound homes.keys new.keys pairs None
      → IsKept S (remove M s) new
  row_without new pairs keys families rows sum number held size counted long found =
      kept_without S M homes kept s behind.0 behind.1 new pairs (subst (λ o. AreKeysOf S o pairs) behind.1 keys) families rows
      (sum ∙ ap (λ (r : Stored). homes.total - (16 + length r.bytes)) behind.2) number
      (subst (λ (r : Stored). TurnsHeldIn homes.extents.items new.extents.items r.home.0 s false) behind.2 held) size
      (subst (λ (r : Stored). IsRaised new.counts.items homes.counts.items r.home.0) behind.2 counted) long found

-- ---- an object that is put

module _ (homes : Parts) (s : ℕ) (row : Stored) (pairs : List (KeyNo × List ℕ)) (may : MayPutObject homes s row pairs) where
  pub row_sum_fits : homes.total + (16 + length row.bytes) ≤ most
  row_sum_fits = subst (λ (r : Stored). homes.total + (16 + length r.bytes) ≤ most) (sym may.is) (sum_fits may.schema may.catalog homes may.kept s may.object may.none may.is_sound may.bounded)

  pub row_number_fits : homes.objects + 1 ≤ most
  row_number_fits = number_fits may.schema may.catalog homes may.kept s may.object may.none may.is_sound may.bounded

  pub row_home_some : 0 < row.home.0
  row_home_some = subst (λ (r : Stored). 0 < r.home.0) (sym may.is) (some_there may.schema.homes may.object.home.0 may.is_sound.0).0

  pub row_home_there : row.home.0 ≤ length homes.counts.items
  row_home_there = subst (λ (r : Stored). r.home.0 ≤ length homes.counts.items) (sym may.is) (home_within may.schema may.catalog homes may.kept may.object.home may.is_sound.0)

  pub row_counts_fit : number_at homes.counts.items row.home.0 < most
  row_counts_fit = subst (λ (r : Stored). number_at homes.counts.items r.home.0 < most) (sym may.is) (counts_fit may.schema may.catalog homes may.kept s may.object may.none may.is_sound may.bounded)

  pub may_put_row : MayPut homes.keys pairs
  may_put_row = may_put_keys may.schema may.catalog homes.keys may.kept.keys s may.object may.none may.unique pairs may.keys may.keys_reserved

  pub row_with :
      (new : Parts) → new.families ≡ homes.families → TurnsObject homes.rows.chunks new.rows.chunks s (Some row)
      → new.total ≡ homes.total + (16 + length row.bytes) → new.objects ≡ homes.objects + 1
      → TurnsHeldIn homes.extents.items new.extents.items row.home.0 s true → length new.extents.items ≡ length homes.extents.items
      → IsRaised homes.counts.items new.counts.items row.home.0 → length new.counts.items ≡ length homes.counts.items
      → TurnsFound homes.keys new.keys pairs (Some s)
      → IsKept may.schema (insert may.catalog s may.object) new
  row_with new families rows sum number held size counted long found =
      kept_with may.schema may.catalog homes may.kept s may.object may.none may.is_sound may.bounded new pairs may.keys may.unique families
      (subst (λ (r : Stored). TurnsObject homes.rows.chunks new.rows.chunks s (Some r)) may.is rows)
      (sum ∙ ap (λ (r : Stored). homes.total + (16 + length r.bytes)) may.is) number
      (subst (λ (r : Stored). TurnsHeldIn homes.extents.items new.extents.items r.home.0 s true) may.is held) size
      (subst (λ (r : Stored). IsRaised homes.counts.items new.counts.items r.home.0) may.is counted) long found

-- what was lent as a slice and came back as long
pub lent_items : {X Z : Type 0} (v : Vec X Z) (old new : List X) → old ≡ v.items → length new ≡ length old → (with_items v new).items ≡ new
lent_items v old new is same = with_items_is v new (same ∙ ap length is ∙ sym v.ok.0)

-- ---- room

-- what is kept is seen by what is there alone, and not by what is reserved
pub kept_same :
    (S : Schema) (M : Catalog) (old new : Parts) → new.families ≡ old.families → KeepsObjects old.rows.chunks new.rows.chunks → new.total ≡ old.total → new.objects ≡ old.objects
    → KeepsHeldIn old.extents.items new.extents.items → length new.extents.items ≡ length old.extents.items → new.counts.items ≡ old.counts.items
    → KeepsFound old.keys new.keys → IsKept S M old → IsKept S M new
kept_same S M old new families rows sum number held size counts found kept = record {
  sound = kept.sound;
  each = kept.each;
  families = families ∙ kept.families;
  objects = λ s. rows s ∙ kept.objects s;
  total_is = sum ∙ kept.total_is;
  bounded = kept.bounded;
  count_is = number ∙ kept.count_is;
  extents = λ h s. held h s ∙ kept.extents h s;
  extents_size = size ∙ kept.extents_size;
  counts = λ home. ap (λ l. number_at l home) counts ∙ kept.counts home;
  counts_size = ap length counts ∙ kept.counts_size;
  keys = λ key bytes s. (λ at. (kept.keys key bytes s).0 (sym (found key.0 bytes) ∙ at), λ holder. found key.0 bytes ∙ (kept.keys key bytes s).1 holder);
}
