-- Rows, one after the other.
use Rattle.std.proofs.Common.{ℕ, zero, suc, ◌≡◌, ◌≤◌, List, [], ◌∷◌, length, map, filter, replicate, sum, Option, Some, None, false, refl, sym, ap, subst, ◌∙◌, arith}
use Rattle.std.specs.Option.{option_map}
use Rattle.std.proofs.lemmas.List.{length-replicate}
use Rattle.std.specs.FinMap.{get, insert, empty, entries, get-empty, len-empty, len-entries}
use Rattle.std.specs.Ordering.{nat_cmp}
use Rattle.pss_base.specs.declared.put.Put.{Put}
use Rattle.type_layout.specs.declared.key.KeyNo.{KeyNo}
use Rattle.type_layout.specs.declared.schema.Schema.{Schema}
use Rattle.type_layout.specs.Schemas.{keys_at}
use Rattle.type_layout.specs.Sound.{IsSoundSchema}
use Rattle.pss_catalog.specs.Catalog.{Object, Catalog, object_spelling, pid_of, weight, total, IsUnique}
use Rattle.pss_catalog.specs.Changes.{Change as Step, over, with_state}
use Rattle.pss_catalog.specs.Families.{bases_of}
use Rattle.storage_home.specs.declared.parts.Parts.{Parts}
use Rattle.storage_home.specs.declared.rows.Stored.{Stored}
use Rattle.storage_home.specs.Rows.{object_at}
use Rattle.storage_home.specs.Extents.{is_held_in}
use Rattle.storage_home.specs.Counts.{number_at}
use Rattle.storage_home.specs.Indexes.{found_at, AreKeysReserved}
use Rattle.storage_home.specs.Kept.{most, IsSound, IsKept, IsReserved, stored, is_own, is_object_of}
use Rattle.storage_home.specs.Applied.{IsState, AreKeysOf, AreRows, MayLoad, SpellsObject}
use Rattle.storage_home.specs.inner.Steps.{AreApart, AreFresh, MayPutObject, MayLoadOne, MayLoadAll}
use Rattle.storage_home.proofs.Places.{no_items}
use Rattle.storage_home.proofs.Taking.{some_there}
use Rattle.storage_home.proofs.KeyLists.{pairs_of, keys_spelled}
use Rattle.storage_home.proofs.Stepping.{NoneAt, fresh_where_none, grows_heavier, unique_before}

-- ---- nothing

no_entries : entries (empty {X = Object} {R = nat_cmp}) ≡ []
no_entries = no_items _ (sym (len-entries (empty {X = Object} {R = nat_cmp})) ∙ len-empty nat_cmp Object)

starting_number : (n h : ℕ) → number_at (replicate n 0) h ≡ 0
starting_number n zero = refl
starting_number zero (suc h) = refl
starting_number (suc n) (suc zero) = refl
starting_number (suc n) (suc (suc h)) = starting_number n (suc h)

pub nothing_kept :
    (S : Schema) → IsSoundSchema S → (homes : Parts) → homes.families ≡ bases_of S → homes.rows.chunks ≡ [] → homes.total ≡ 0 → homes.objects ≡ 0
    → ((h s : ℕ) → is_held_in homes.extents.items h s ≡ false) → length homes.extents.items ≡ length S.homes
    → homes.counts.items ≡ replicate (length S.homes) 0
    → ((key : ℕ) (bytes : List ℕ) → found_at homes.keys key bytes ≡ None) → IsKept S empty homes
nothing_kept S sound homes families rows sum_is number held size counts found = record {
  sound = sound;
  each = λ s x at. absurd (let no : None ≡ Some x = sym (get-empty nat_cmp s) ∙ at in cc);
  families = families;
  objects = λ s. ap (object_at s) rows ∙ ap (option_map (stored S)) (sym (get-empty nat_cmp s));
  total_is = sum_is ∙ ap (λ es. sum (map (λ e. weight S e.1) es)) (sym no_entries);
  bounded = (let none = ap (λ es. sum (map (λ e. weight S e.1) es)) no_entries in omega (arith, none));
  count_is = number ∙ ap length (sym no_entries);
  extents = λ h s. held h s ∙ ap (is_object_of h) (sym (get-empty nat_cmp s));
  extents_size = size;
  counts = λ home. ap (λ l. number_at l home) counts ∙ starting_number (length S.homes) home ∙ ap (λ es. length (map pid_of (filter (λ e. is_own home e.1) es))) (sym no_entries);
  counts_size = ap length counts ∙ length-replicate (length S.homes) 0;
  keys = λ key bytes s. (λ at. absurd (let no : None ≡ Some s = sym (found key.0 bytes) ∙ at in cc), λ holder. absurd (let no : None ≡ Some holder.0 = sym (get-empty nat_cmp s) ∙ holder.1 in cc));
}

-- ---- one row

module _ (S : Schema) (F : Catalog) (homes : Parts) (row : Put) (rest : List Put) (m : MayLoadAll S F homes (row ∷ rest)) where
  abbrev row_of : List ℕ → Stored
  row_of bytes = record { home = record { 0 = row.home }; bytes = bytes }

  module _ (bytes : List ℕ) (step : Step) (steps : List Step) (object : Object) (serial_is : row.serial ≡ step.serial) (state : step.state ≡ Some object) (fresh : AreFresh m.catalog (step ∷ steps)) (ends : over m.catalog (step ∷ steps) ≡ F)
      (told : IsState S row.home (Some bytes) (Some object)) where
    pub comes_to : with_state m.catalog step.serial step.state ≡ insert m.catalog row.serial object
    comes_to = ap (with_state m.catalog step.serial) state ∙ ap (λ (t : ℕ). insert m.catalog t object) (sym serial_is)

    pub rest_fresh : AreFresh (insert m.catalog row.serial object) steps
    rest_fresh = subst (λ N. AreFresh N steps) comes_to fresh.1

    pub rest_ends : over (insert m.catalog row.serial object) steps ≡ F
    rest_ends = subst (λ N. over N steps ≡ F) comes_to ends

    pub same_row : row_of bytes ≡ stored S object
    same_row = λ i. record { home = record { 0 = sym told.0 i }; bytes = told.2 i }

    pub nothing_there : get m.catalog row.serial ≡ None
    nothing_there = ap (λ (t : ℕ). get m.catalog t) serial_is ∙ fresh.0

    pub stays_unique : IsUnique S (insert m.catalog row.serial object)
    stays_unique = unique_before S (insert m.catalog row.serial object) steps rest_fresh (subst (IsUnique S) (sym rest_ends) m.unique)

    pub stays_bounded : total S (insert m.catalog row.serial object) ≤ most
    stays_bounded = let less = grows_heavier S (insert m.catalog row.serial object) steps rest_fresh in let same = ap (total S) rest_ends in let most_is = m.bounded in omega (arith, less, same, most_is)

    abbrev pub may_load_one : MayLoadOne S homes row.serial (row_of bytes)
    may_load_one = record {
      catalog = m.catalog;
      object = object;
      kept = m.kept;
      is_sound = told.1;
      is = same_row;
      none = nothing_there;
      unique = stays_unique;
      bounded = stays_bounded;
    }

  pub may_load : (bytes : List ℕ) → row.bytes ≡ Some bytes → MayLoadOne S homes row.serial (row_of bytes)
  may_load bytes is = by m.steps m.are m.fresh m.ends
    where
      at : (step : Step) (steps : List Step) → row.serial ≡ step.serial → AreFresh m.catalog (step ∷ steps) → over m.catalog (step ∷ steps) ≡ F → (state : Option Object) → step.state ≡ state → IsState S row.home (Some bytes) state → MayLoadOne S homes row.serial (row_of bytes)
      at step steps serial_is fresh ends None state told = absurd told
      at step steps serial_is fresh ends (Some object) state told = may_load_one bytes step steps object serial_is state fresh ends told

      by : (steps : List Step) → AreRows S (row ∷ rest) steps → AreFresh m.catalog steps → over m.catalog steps ≡ F → MayLoadOne S homes row.serial (row_of bytes)
      by [] are fresh ends = absurd are
      by (step ∷ steps) are fresh ends = at step steps are.0.0 fresh ends step.state refl (subst (λ b. IsState S row.home b step.state) is are.0.1)

  pub loaded_on : (bytes : List ℕ) → row.bytes ≡ Some bytes → (new : Parts) → ((p : MayLoadOne S homes row.serial (row_of bytes)) → IsKept S (insert p.catalog row.serial p.object) new) → MayLoadAll S F new rest
  loaded_on bytes is new after = by m.steps m.are m.fresh m.ends
    where
      at :
          (step : Step) (steps : List Step) → row.serial ≡ step.serial → AreRows S rest steps → AreFresh m.catalog (step ∷ steps) → over m.catalog (step ∷ steps) ≡ F
          → (state : Option Object) → step.state ≡ state → IsState S row.home (Some bytes) state → MayLoadAll S F new rest
      at step steps serial_is are fresh ends None state told = absurd told
      at step steps serial_is are fresh ends (Some object) state told = record {
        catalog = insert m.catalog row.serial object;
        steps = steps;
        kept = after (may_load_one bytes step steps object serial_is state fresh ends told);
        are = are;
        fresh = rest_fresh bytes step steps object serial_is state fresh ends told;
        unique = m.unique;
        bounded = m.bounded;
        ends = rest_ends bytes step steps object serial_is state fresh ends told;
      }

      by : (steps : List Step) → AreRows S (row ∷ rest) steps → AreFresh m.catalog steps → over m.catalog steps ≡ F → MayLoadAll S F new rest
      by [] are fresh ends = absurd are
      by (step ∷ steps) are fresh ends = at step steps are.0.0 are.3 fresh ends step.state refl (subst (λ b. IsState S row.home b step.state) is are.0.1)

pub all_loaded : (S : Schema) (F : Catalog) (homes : Parts) → MayLoadAll S F homes [] → IsKept S F homes
all_loaded S F homes m = by m.steps m.are m.ends
  where
    by : (steps : List Step) → AreRows S [] steps → over m.catalog steps ≡ F → IsKept S F homes
    by [] are ends = subst (λ M. IsKept S M homes) ends m.kept
    by (step ∷ steps) are ends = absurd are

-- ---- all rows

rows_apart : (S : Schema) (rows : List Put) (steps : List Step) → AreRows S rows steps → AreApart steps
rows_apart S [] [] are = tt
rows_apart S [] (step ∷ steps) are = absurd are
rows_apart S (row ∷ rows) [] are = absurd are
rows_apart S (row ∷ rows) (step ∷ steps) are = (are.2, rows_apart S rows steps are.3)

none_in_empty : (steps : List Step) → NoneAt empty steps
none_in_empty [] = tt
none_in_empty (step ∷ steps) = (get-empty nat_cmp step.serial, none_in_empty steps)

pub may_load_all : (S : Schema) (rows : List Put) (m : MayLoad S rows) (homes : Parts) → IsKept S empty homes → MayLoadAll S (over empty m.steps) homes rows
may_load_all S rows m homes kept = record {
  catalog = empty;
  steps = m.steps;
  kept = kept;
  are = m.are;
  fresh = fresh_where_none empty m.steps (rows_apart S rows m.steps m.are) (none_in_empty m.steps);
  unique = m.unique;
  bounded = m.bounded;
  ends = refl;
}

-- ---- one row and its keys

module _ (S : Schema) (homes : Parts) (serial : ℕ) (row : Stored) (m : MayLoadOne S homes serial row) where
  home_is : row.home ≡ m.object.home
  home_is = ap (λ (r : Stored). r.home) m.is

  pub spells_at : (bytes : List ℕ) → bytes ≡ row.bytes → SpellsObject S row.home bytes
  spells_at bytes same = record {
    values = m.object.values;
    is_sound = subst (λ h. IsSound S (record { home = h; values = m.object.values })) (sym home_is) m.is_sound;
    spelled = same ∙ ap (λ (r : Stored). r.bytes) m.is ∙ ap (λ h. object_spelling S (record { home = h; values = m.object.values })) (sym home_is);
  }

  pub loaded_keys : (bytes : List ℕ) → bytes ≡ row.bytes → (pairs : List (KeyNo × List ℕ)) → ((s : SpellsObject S row.home bytes) → pairs ≡ pairs_of S s.values (keys_at S row.home)) → AreKeysOf S (Some m.object) pairs
  unfolding spells_at
  loaded_keys bytes same pairs keys = subst (λ h. AreKeysOf S (Some (record { home = h; values = m.object.values })) pairs) home_is (let s = spells_at bytes same in keys_spelled S row.home bytes s m.kept.sound pairs (keys s))

  pub loaded_home : row.home.0 ≤ length homes.extents.items
  loaded_home = subst (λ (r : Stored). r.home.0 ≤ length homes.extents.items) (sym m.is) (subst (λ (n : ℕ). m.object.home.0 ≤ n) (sym m.kept.extents_size) (some_there S.homes m.object.home.0 m.is_sound.0).1)

  abbrev pub may_put_loaded : (new : Parts) → IsKept S m.catalog new → (pairs : List (KeyNo × List ℕ)) → AreKeysOf S (Some m.object) pairs → IsReserved new m.object.home serial → AreKeysReserved new.keys pairs → MayPutObject new serial row pairs
  may_put_loaded new kept pairs keys reserved keys_reserved = record {
    schema = S;
    catalog = m.catalog;
    object = m.object;
    kept = kept;
    is_sound = m.is_sound;
    is = m.is;
    none = m.none;
    keys = keys;
    unique = m.unique;
    bounded = m.bounded;
    reserved = reserved;
    keys_reserved = keys_reserved;
  }

  pub loaded_reserved : (new : Parts) → IsReserved new row.home serial → IsReserved new m.object.home serial
  loaded_reserved new reserved = subst (λ h. IsReserved new h serial) home_is reserved
