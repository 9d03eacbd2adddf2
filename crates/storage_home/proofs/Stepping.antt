-- Changes, one after the other.
use Rattle.std.proofs.Common.{ℕ, ◌+◌, ◌≡◌, ◌<◌, ◌≤◌, ◌==◌, ◌⊎◌, List, [], ◌∷◌, Option, Some, None, Bool, true, false, inl, inr, cond, refl, sym, ap, subst, ◌∙◌, arith, IsSome, rules}
use Rattle.std.specs.Prelude.{unwrap_or}
use Rattle.std.specs.Cmp.{nat_cmp_total}
use Rattle.std.specs.FinMap.{get, insert, remove, same_map, nat_cmp-IsAntisymmetric}
use Rattle.type_layout.specs.declared.key.KeyNo.{KeyNo}
use Rattle.type_layout.specs.declared.schema.Schema.{Schema}
use Rattle.type_layout.specs.Schemas.{given}
use Rattle.pss_catalog.specs.Catalog.{Object, Catalog, holds, object_spelling, total, IsUnique}
use Rattle.pss_catalog.specs.Changes.{Change as Step, over, with_state, last_state}
use Rattle.pss_catalog.proofs.Uniqueness.{found_over}
use Rattle.storage_home.specs.declared.change.Change.{Change}
use Rattle.storage_home.specs.declared.rows.Stored.{Stored}
use Rattle.storage_home.specs.declared.parts.Parts.{Parts}
use Rattle.storage_home.specs.Changes.{Rises}
use Rattle.storage_home.specs.Indexes.{lists, is_key_reserved, KeepsKeysReserved, TurnsKeysReserved, AreKeysReserved}
use Rattle.storage_home.specs.Kept.{most, IsSound, IsKept, IsReserved, stored}
use Rattle.storage_home.specs.Applied.{IsState, IsNew, AreKeysOf, AreChanges, IsChange, AreReserved, MayApply, AllStay}
use Rattle.storage_home.specs.inner.Steps.{MayTake, MayPutObject, AreApart, bare, AgreeAt, AreFresh, MayTakeAll, MayPutAll, OthersStay}
use Rattle.storage_home.proofs.Keeping.{same_or_not, gone, stays, come, others, without_none, sum_with}

-- ---- taking out

module _ (S : Schema) (F : Catalog) (homes : Parts) (change : Change) (rest : List Change) where
  pub old_keys_of : (m : MayTakeAll S F homes (change ∷ rest)) → AreKeysOf S (get m.catalog change.put.serial) change.old_keys
  old_keys_of m = by m.steps m.are m.same
    where
      by : (steps : List Step) → AreChanges S m.original (change ∷ rest) steps → AgreeAt m.catalog m.original steps → AreKeysOf S (get m.catalog change.put.serial) change.old_keys
      by [] are same = absurd are
      by (step ∷ steps) are same = subst (λ o. AreKeysOf S o change.old_keys) (sym (ap (λ (t : ℕ). get m.catalog t) are.0.step_is.0 ∙ same.0)) are.0.old_keys

  abbrev pub may_take : MayTakeAll S F homes (change ∷ rest) → MayTake homes change.put.serial change.old_keys
  may_take m = record { schema = S; catalog = m.catalog; kept = m.kept; keys = old_keys_of m }

  agree_on : (N M : Catalog) (s : ℕ) (steps : List Step) → IsNew s steps → AgreeAt N M steps → AgreeAt (remove N s) M steps
  agree_on N M s [] new same = tt
  agree_on N M s (step ∷ steps) new same = (stays N s step.serial (λ e. new.0 (sym e)) ∙ same.0, agree_on N M s steps new.1 same.1)

  -- one is taken out
  pub taken_on : (new : Parts) → ((m : MayTake homes change.put.serial change.old_keys) → IsKept m.schema (remove m.catalog change.put.serial) new) → MayTakeAll S F homes (change ∷ rest) → MayTakeAll S F new rest
  taken_on new after m = by m.steps m.are m.apart m.same m.ends (after (may_take m))
    where
      by :
          (steps : List Step) → AreChanges S m.original (change ∷ rest) steps → AreApart steps → AgreeAt m.catalog m.original steps → bare m.catalog steps ≡ F
          → IsKept S (remove m.catalog change.put.serial) new → MayTakeAll S F new rest
      by [] are apart same ends kept = absurd are
      by (step ∷ steps) are apart same ends kept = record {
        original = m.original;
        catalog = remove m.catalog step.serial;
        steps = steps;
        kept = subst (λ (t : ℕ). IsKept S (remove m.catalog t) new) are.0.step_is.0 kept;
        are = are.1;
        apart = apart.1;
        same = agree_on m.catalog m.original step.serial steps apart.0 same.1;
        ends = ends;
      }

pub all_taken : (S : Schema) (F : Catalog) (homes : Parts) → MayTakeAll S F homes [] → IsKept S F homes
all_taken S F homes m = by m.steps m.are m.ends
  where
    by : (steps : List Step) → AreChanges S m.original [] steps → bare m.catalog steps ≡ F → IsKept S F homes
    by [] are ends = subst (λ M. IsKept S M homes) ends m.kept
    by (step ∷ steps) are ends = absurd are

-- ---- what comes to free serials

at_state : (N : Catalog) (step : Step) (t : ℕ) → (t ≡ step.serial → ⊥) → get (with_state N step.serial step.state) t ≡ get N t
at_state N step t other = by step.state
  where
    by : (state : Option Object) → get (with_state N step.serial state) t ≡ get N t
    by None = stays N step.serial t other
    by (Some object) = others N step.serial object t other

-- what is there stays
pub grows : (N : Catalog) (steps : List Step) → AreFresh N steps → (t : ℕ) (x : Object) → get N t ≡ Some x → get (over N steps) t ≡ Some x
grows N [] fresh t x found = found
grows N (step ∷ steps) fresh t x found =
    grows (with_state N step.serial step.state) steps fresh.1 t x (at_state N step t (λ e. (let one : None ≡ Some x = sym fresh.0 ∙ ap (λ (k : ℕ). get N k) (sym e) ∙ found in cc)) ∙ found)

pub grows_heavier : (S : Schema) (N : Catalog) (steps : List Step) → AreFresh N steps → total S N ≤ total S (over N steps)
grows_heavier S N [] fresh = omega arith
grows_heavier S N (step ∷ steps) fresh =
    let rest = grows_heavier S (with_state N step.serial step.state) steps fresh.1 in
    let here = by step.state in
    omega (arith, rest, here)
  where
    by : (state : Option Object) → total S N ≤ total S (with_state N step.serial state)
    by None = let same = ap (total S) (without_none N step.serial fresh.0) in omega (arith, same)
    by (Some object) = let more = sum_with S N step.serial object fresh.0 in omega (arith, more)

-- where all that comes leaves keys unique, so does what has come
pub unique_before : (S : Schema) (N : Catalog) (steps : List Step) → AreFresh N steps → IsUnique S (over N steps) → IsUnique S N
unique_before S N steps fresh unique key bytes s t x y at_s at_t hold_x hold_y = unique key bytes s t x y (grows N steps fresh s x at_s) (grows N steps fresh t y at_t) hold_x hold_y

-- ---- what stays reserved

pub all_stay : (old new : Parts) (changes : List Change) → AllStay old new → KeepsKeysReserved old.keys new.keys → AreReserved old changes → AreReserved new changes
all_stay old new [] stay keys reserved = tt
all_stay old new (c ∷ cs) stay keys reserved =
    ((λ some. stay (record { 0 = c.put.home }) c.put.serial (reserved.0.0 some), λ key bytes has. keys key bytes ∙ reserved.0.1 key bytes has), all_stay old new cs stay keys reserved.1)

module _ (S : Schema) (F : Catalog) (unique : IsUnique S F) (s : ℕ) (object : Object) (at : get F s ≡ Some object) (pairs : List (KeyNo × List ℕ)) (keys : AreKeysOf S (Some object) pairs) (original : Catalog) (old new : Parts)
    (stay : OthersStay old new s) (turn : TurnsKeysReserved old.keys new.keys pairs false) where
  -- another object holds none of these keys
  apart_keys : (t : ℕ) → (s ≡ t → ⊥) → (state : Option Object) → ((x : Object) → state ≡ Some x → get F t ≡ Some x) → (others : List (KeyNo × List ℕ)) → AreKeysOf S state others → AreKeysReserved old.keys others → AreKeysReserved new.keys others
  apart_keys t other state there others of reserved key bytes has =
      turn key bytes ∙ by (lists pairs key bytes) refl
    where
      no_key : KeyNo
      no_key = record { 0 = key }

      clash : lists pairs key bytes ≡ true → (o : Option Object) → state ≡ o → given o false (holds S (record { 0 = key }) bytes) ≡ true → ⊥
      clash listed None is held = cc
      clash listed (Some x) is held = other (unique (record { 0 = key }) bytes s t object x at (there x is) (sym (keys.listed (record { 0 = key }) bytes) ∙ listed) held)

      by : (b : Bool) → lists pairs key bytes ≡ b → cond b false (is_key_reserved old.keys key bytes) ≡ true
      by true listed = absurd (clash listed state refl (sym (of.listed (record { 0 = key }) bytes) ∙ has))
      by false listed = reserved key bytes has

  pub others_stay : (N : Catalog) (changes : List Change) (steps : List Step) → AreChanges S original changes steps → AreFresh N steps → over N steps ≡ F → IsNew s steps → AreReserved old changes → AreReserved new changes
  others_stay N [] steps are fresh ends apart reserved = tt
  others_stay N (c ∷ cs) [] are fresh ends apart reserved = absurd are
  others_stay N (c ∷ cs) (step ∷ steps) are fresh ends apart reserved = (
    (
      λ some. stay (record { 0 = c.put.home }) c.put.serial (λ e. apart.0 (sym e ∙ are.0.step_is.0)) (reserved.0.0 some),
      apart_keys step.serial apart.0 step.state (λ x is. subst (λ M. get M step.serial ≡ Some x) ends (grows (with_state N step.serial step.state) steps fresh.1 step.serial x (there x step.state is))) c.new_keys are.0.new_keys reserved.0.1,
    ),
    others_stay (with_state N step.serial step.state) cs steps are.1 fresh.1 ends apart.1 reserved.1,
  )
    where
      there : (x : Object) (state : Option Object) → state ≡ Some x → get (with_state N step.serial state) step.serial ≡ Some x
      there x None is = cc
      there x (Some y) is = come N step.serial y step.serial refl ∙ is

-- ---- from the changes to the two passes

apart_above : (least s : ℕ) (changes : List Change) → Rises least changes → s < least → (S : Schema) (M : Catalog) (steps : List Step) → AreChanges S M changes steps → IsNew s steps
apart_above least s [] rise less S M [] are = tt
apart_above least s [] rise less S M (step ∷ steps) are = absurd are
apart_above least s (c ∷ cs) rise less S M [] are = absurd are
apart_above least s (c ∷ cs) rise less S M (step ∷ steps) are =
    let low = rise.0 in
    let same = are.0.step_is.0 in
    (λ e. omega (arith, e, low, same, less), apart_above (c.put.serial + 1) s cs rise.1 (omega (arith, low, less)) S M steps are.1)

pub apart_rising : (least : ℕ) (changes : List Change) → Rises least changes → (S : Schema) (M : Catalog) (steps : List Step) → AreChanges S M changes steps → AreApart steps
apart_rising least [] rise S M [] are = tt
apart_rising least [] rise S M (step ∷ steps) are = absurd are
apart_rising least (c ∷ cs) rise S M [] are = absurd are
apart_rising least (c ∷ cs) rise S M (step ∷ steps) are =
    (subst (λ (t : ℕ). IsNew t steps) are.0.step_is.0 (apart_above (c.put.serial + 1) c.put.serial cs rise.1 (omega arith) S M steps are.1), apart_rising (c.put.serial + 1) cs rise.1 S M steps are.1)

pub agree_self : (M : Catalog) (steps : List Step) → AgreeAt M M steps
agree_self M [] = tt
agree_self M (step ∷ steps) = (refl, agree_self M steps)

bare_none : (M : Catalog) (steps : List Step) (t : ℕ) → get M t ≡ None → get (bare M steps) t ≡ None
bare_none M [] t none = none
bare_none M (step ∷ steps) t none = bare_none (remove M step.serial) steps t (by (same_or_not t step.serial))
  where
    by : (t ≡ step.serial) ⊎ (t ≡ step.serial → ⊥) → get (remove M step.serial) t ≡ None
    by (inl same) = gone M step.serial t same
    by (inr other) = stays M step.serial t other ∙ none

bare_stays : (M : Catalog) (steps : List Step) (t : ℕ) → IsNew t steps → get (bare M steps) t ≡ get M t
bare_stays M [] t new = refl
bare_stays M (step ∷ steps) t new = bare_stays (remove M step.serial) steps t new.1 ∙ stays M step.serial t new.0

-- nothing is at these serials
abbrev pub NoneAt : Catalog → List Step → Type 0
NoneAt N [] = Unit {0}
NoneAt N (step ∷ steps) = (get N step.serial ≡ None) × NoneAt N steps

bare_fresh : (M : Catalog) (steps : List Step) → NoneAt (bare M steps) steps
bare_fresh M [] = tt
bare_fresh M (step ∷ steps) = (bare_none (remove M step.serial) steps step.serial (gone M step.serial step.serial refl), bare_fresh (remove M step.serial) steps)

none_on : (N : Catalog) (step : Step) (steps : List Step) → IsNew step.serial steps → NoneAt N steps → NoneAt (with_state N step.serial step.state) steps
none_on N step [] new none = tt
none_on N step (d ∷ ds) new none = (at_state N step d.serial (λ e. new.0 (sym e)) ∙ none.0, none_on N step ds new.1 none.1)

pub fresh_where_none : (N : Catalog) (steps : List Step) → AreApart steps → NoneAt N steps → AreFresh N steps
fresh_where_none N [] apart none = tt
fresh_where_none N (step ∷ steps) apart none = (none.0, fresh_where_none (with_state N step.serial step.state) steps apart.1 (none_on N step steps apart.0 none.1))

pub bare_is_fresh : (M : Catalog) (steps : List Step) → AreApart steps → AreFresh (bare M steps) steps
bare_is_fresh M steps apart = fresh_where_none (bare M steps) steps apart (bare_fresh M steps)

apart_step : (step : Step) (t : ℕ) (b : Bool) → (step.serial == t) ≡ b → cond b (Some step.state) None ≡ None → t ≡ step.serial → ⊥
apart_step step t true is never e = cc
apart_step step t false is none e = absurd (grind (arith, is, e))

not_changed : (steps : List Step) (t : ℕ) → last_state steps t ≡ None → IsNew t steps
not_changed [] t none = tt
not_changed (step ∷ steps) t none = by (last_state steps t) refl (not_changed steps t) none
  where
    by : (o : Option (Option Object)) → last_state steps t ≡ o → (last_state steps t ≡ None → IsNew t steps) → given o (cond (step.serial == t) (Some step.state) None) Some ≡ None → IsNew t (step ∷ steps)
    by None is rest none = (apart_step step t (step.serial == t) refl none, rest is)
    by (Some state) is rest none = cc

-- it comes to the same, whether what changes was taken out before or not
pub over_bare : (M : Catalog) (steps : List Step) → over (bare M steps) steps ≡ over M steps
over_bare M steps = same_map nat_cmp_total nat_cmp-IsAntisymmetric (over (bare M steps) steps) (over M steps) (λ t. found_over (bare M steps) steps t ∙ by t (last_state steps t) refl ∙ sym (found_over M steps t))
  where
    by : (t : ℕ) (o : Option (Option Object)) → last_state steps t ≡ o → unwrap_or (last_state steps t) (get (bare M steps) t) ≡ unwrap_or (last_state steps t) (get M t)
    by t None is = ap (unwrap_or (last_state steps t)) (bare_stays M steps t (not_changed steps t is))
    by t (Some state) is = ap (λ o. unwrap_or o (get (bare M steps) t)) is ∙ sym (ap (λ o. unwrap_or o (get M t)) is)

-- ---- putting

module _ (S : Schema) (F : Catalog) (homes : Parts) (change : Change) (rest : List Change) (m : MayPutAll S F homes (change ∷ rest)) where
  abbrev row_of : List ℕ → Stored
  row_of bytes = record { home = record { 0 = change.put.home }; bytes = bytes }

  -- the object of one change may be put
  module _ (bytes : List ℕ) (step : Step) (steps : List Step) (object : Object) (are : IsChange S m.original change step) (state : step.state ≡ Some object) (fresh : AreFresh m.catalog (step ∷ steps)) (ends : over m.catalog (step ∷ steps) ≡ F)
      (of_home : object.home.0 ≡ change.put.home) (sound : IsSound S object) (spelled : bytes ≡ object_spelling S object) (some : IsSome change.put.bytes) where
    pub at_serial : get m.catalog change.put.serial ≡ None
    at_serial = ap (λ (t : ℕ). get m.catalog t) are.step_is.0 ∙ fresh.0

    pub comes_to : with_state m.catalog step.serial step.state ≡ insert m.catalog change.put.serial object
    comes_to = ap (with_state m.catalog step.serial) state ∙ ap (λ (t : ℕ). insert m.catalog t object) (sym are.step_is.0)

    pub rest_fresh : AreFresh (insert m.catalog change.put.serial object) steps
    rest_fresh = subst (λ N. AreFresh N steps) comes_to fresh.1

    pub rest_ends : over (insert m.catalog change.put.serial object) steps ≡ F
    rest_ends = subst (λ N. over N steps ≡ F) comes_to ends

    same_home : record { 0 = change.put.home } ≡ object.home
    same_home = λ i. record { 0 = sym of_home i }

    pub same_row : row_of bytes ≡ stored S object
    same_row = λ i. record { home = same_home i; bytes = spelled i }

    pub put_keys : AreKeysOf S (Some object) change.new_keys
    put_keys = subst (λ o. AreKeysOf S o change.new_keys) state are.new_keys

    pub stays_unique : IsUnique S (insert m.catalog change.put.serial object)
    stays_unique = unique_before S (insert m.catalog change.put.serial object) steps rest_fresh (subst (IsUnique S) (sym rest_ends) m.unique)

    pub stays_bounded : total S (insert m.catalog change.put.serial object) ≤ most
    stays_bounded = let less = grows_heavier S (insert m.catalog change.put.serial object) steps rest_fresh in let same = ap (total S) rest_ends in let most_is = m.bounded in omega (arith, less, same, most_is)

    pub home_reserved : IsReserved homes object.home change.put.serial
    home_reserved = subst (λ h. IsReserved homes h change.put.serial) same_home (m.reserved.0.0 some)

    abbrev pub may_put_one : MayPutObject homes change.put.serial (row_of bytes) change.new_keys
    may_put_one = record {
      schema = S;
      catalog = m.catalog;
      object = object;
      kept = m.kept;
      is_sound = sound;
      is = same_row;
      none = at_serial;
      keys = put_keys;
      unique = stays_unique;
      bounded = stays_bounded;
      reserved = home_reserved;
      keys_reserved = m.reserved.0.1;
    }

  pub may_put : (bytes : List ℕ) → change.put.bytes ≡ Some bytes → MayPutObject homes change.put.serial (row_of bytes) change.new_keys
  may_put bytes is = by m.steps m.are m.fresh m.ends
    where
      at : (step : Step) (steps : List Step) → IsChange S m.original change step → AreFresh m.catalog (step ∷ steps) → over m.catalog (step ∷ steps) ≡ F → (state : Option Object) → step.state ≡ state → IsState S change.put.home (Some bytes) state → MayPutObject homes change.put.serial (row_of bytes) change.new_keys
      at step steps are fresh ends None state told = absurd told
      at step steps are fresh ends (Some object) state told = may_put_one bytes step steps object are state fresh ends told.0 told.1 told.2 (subst IsSome (sym is) (search rules))

      by : (steps : List Step) → AreChanges S m.original (change ∷ rest) steps → AreFresh m.catalog steps → over m.catalog steps ≡ F → MayPutObject homes change.put.serial (row_of bytes) change.new_keys
      by [] are fresh ends = absurd are
      by (step ∷ steps) are fresh ends = at step steps are.0 fresh ends step.state refl (subst (λ b. IsState S change.put.home b step.state) is are.0.step_is.1)

  -- one is put
  pub put_on :
      (bytes : List ℕ) → change.put.bytes ≡ Some bytes → (new : Parts) → ((p : MayPutObject homes change.put.serial (row_of bytes) change.new_keys) → IsKept p.schema (insert p.catalog change.put.serial p.object) new)
      → OthersStay homes new change.put.serial → TurnsKeysReserved homes.keys new.keys change.new_keys false → MayPutAll S F new rest
  put_on bytes is new after stay turn = by m.steps m.are m.apart m.fresh m.ends
    where
      at :
          (step : Step) (steps : List Step) → IsChange S m.original change step → AreChanges S m.original rest steps → AreApart (step ∷ steps) → AreFresh m.catalog (step ∷ steps) → over m.catalog (step ∷ steps) ≡ F
          → (state : Option Object) → step.state ≡ state → IsState S change.put.home (Some bytes) state → MayPutAll S F new rest
      at step steps are rest_are apart fresh ends None state told = absurd told
      at step steps are rest_are apart fresh ends (Some object) state told =
          let some = subst IsSome (sym is) (search rules) in
          let new_fresh = rest_fresh bytes step steps object are state fresh ends told.0 told.1 told.2 some in
          let new_ends = rest_ends bytes step steps object are state fresh ends told.0 told.1 told.2 some in
          let found = subst (λ M. get M change.put.serial ≡ Some object) new_ends (grows (insert m.catalog change.put.serial object) steps new_fresh change.put.serial object (come m.catalog change.put.serial object change.put.serial refl)) in
          record {
            original = m.original;
            catalog = insert m.catalog change.put.serial object;
            steps = steps;
            kept = after (may_put_one bytes step steps object are state fresh ends told.0 told.1 told.2 some);
            are = rest_are;
            apart = apart.1;
            fresh = new_fresh;
            unique = m.unique;
            bounded = m.bounded;
            reserved = others_stay S F m.unique change.put.serial object found change.new_keys (put_keys bytes step steps object are state fresh ends told.0 told.1 told.2 some) m.original homes new stay turn
                (insert m.catalog change.put.serial object) rest steps rest_are new_fresh new_ends (subst (λ (t : ℕ). IsNew t steps) (sym are.step_is.0) apart.0) m.reserved.1;
            ends = new_ends;
          }

      by : (steps : List Step) → AreChanges S m.original (change ∷ rest) steps → AreApart steps → AreFresh m.catalog steps → over m.catalog steps ≡ F → MayPutAll S F new rest
      by [] are apart fresh ends = absurd are
      by (step ∷ steps) are apart fresh ends = at step steps are.0 are.1 apart fresh ends step.state refl (subst (λ b. IsState S change.put.home b step.state) is are.0.step_is.1)

  -- nothing is put of a removal
  pub none_put : change.put.bytes ≡ None → MayPutAll S F homes rest
  none_put is = by m.steps m.are m.apart m.fresh m.ends
    where
      at :
          (step : Step) (steps : List Step) → IsChange S m.original change step → AreChanges S m.original rest steps → AreApart (step ∷ steps) → AreFresh m.catalog (step ∷ steps) → over m.catalog (step ∷ steps) ≡ F
          → (state : Option Object) → step.state ≡ state → IsState S change.put.home None state → MayPutAll S F homes rest
      at step steps are rest_are apart fresh ends (Some object) state told = absurd told
      at step steps are rest_are apart fresh ends None state told =
          let same : with_state m.catalog step.serial step.state ≡ m.catalog = ap (with_state m.catalog step.serial) state ∙ without_none m.catalog step.serial fresh.0 in
          record {
            original = m.original;
            catalog = m.catalog;
            steps = steps;
            kept = m.kept;
            are = rest_are;
            apart = apart.1;
            fresh = subst (λ N. AreFresh N steps) same fresh.1;
            unique = m.unique;
            bounded = m.bounded;
            reserved = m.reserved.1;
            ends = subst (λ N. over N steps ≡ F) same ends;
          }

      by : (steps : List Step) → AreChanges S m.original (change ∷ rest) steps → AreApart steps → AreFresh m.catalog steps → over m.catalog steps ≡ F → MayPutAll S F homes rest
      by [] are apart fresh ends = absurd are
      by (step ∷ steps) are apart fresh ends = at step steps are.0 are.1 apart fresh ends step.state refl (subst (λ b. IsState S change.put.home b step.state) is are.0.step_is.1)

pub all_put : (S : Schema) (F : Catalog) (homes : Parts) → MayPutAll S F homes [] → IsKept S F homes
all_put S F homes m = by m.steps m.are m.ends
  where
    by : (steps : List Step) → AreChanges S m.original [] steps → over m.catalog steps ≡ F → IsKept S F homes
    by [] are ends = subst (λ M. IsKept S M homes) ends m.kept
    by (step ∷ steps) are ends = absurd are

-- ---- the two passes

module _ (homes : Parts) (changes : List Change) (rise : Rises 0 changes) (m : MayApply homes changes) where
  apart : AreApart m.steps
  apart = apart_rising 0 changes rise m.schema m.catalog m.steps m.are

  pub may_take_all : MayTakeAll m.schema (bare m.catalog m.steps) homes changes
  may_take_all = record { original = m.catalog; catalog = m.catalog; steps = m.steps; kept = m.kept; are = m.are; apart = apart; same = agree_self m.catalog m.steps; ends = refl }

  pub may_put_all : (new : Parts) → IsKept m.schema (bare m.catalog m.steps) new → AllStay homes new → KeepsKeysReserved homes.keys new.keys → MayPutAll m.schema (over m.catalog m.steps) new changes
  may_put_all new kept stay keys = record {
    original = m.catalog;
    catalog = bare m.catalog m.steps;
    steps = m.steps;
    kept = kept;
    are = m.are;
    apart = apart;
    fresh = bare_is_fresh m.catalog m.steps apart;
    unique = m.unique;
    bounded = m.bounded;
    reserved = all_stay homes new changes stay keys m.reserved;
    ends = over_bare m.catalog m.steps;
  }
