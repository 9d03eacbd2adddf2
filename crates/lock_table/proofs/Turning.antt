-- Tables whose keys are compared by one test or by another that is the same.
use Rattle.std.proofs.Common.{ℕ, zero, suc, ◌≡◌, ◌+◌, List, [], ◌∷◌, Option, Some, None, Bool, true, false, cond, not, slice_get, IfSome, IfNone, refl, sym, ap, subst, ◌∙◌, arith}
use Rattle.std.specs.Cmp.{IsEquivalence, decided}
use Rattle.std.specs.Option.{option_map, unwrap_or}
use Rattle.std.specs.List.{position_or_len}
use Rattle.std.specs.Map.{keys_of, values_of, lookup_key}
use Rattle.std.proofs.lemmas.Map.Made.{lookup_key_passes}
use Rattle.indexmap.specs.IndexMap.{IndexMap, IsUnique, values, insert_entry, with_value_at}
use Rattle.indexmap.specs.Layout.{set_value_at}
use Rattle.indexmap.proofs.CallerLemmas.{updates-with_value_at}
use Rattle.lock_table.proofs.Sames.{resource-true, resource-self}
use Rattle.pss_machine.specs.declared.lock.Resource.{Resource}
use Rattle.pss_machine.specs.declared.lock.Resource.TheVariants as resource
use Rattle.pss_machine.specs.Needs.{same_resource}
use Rattle.pss_machine.specs.contracts.lock.ResourcePartialEq.TheImpl as derived
use Rattle.lock_table.specs.inner.Tables.{Turns, entry_at, key_at}
use Rattle.lock_table.specs.declared.places.Place.{Place}
use Rattle.lock_table.specs.declared.links.Links.{Links}
use Rattle.lock_table.specs.declared.places.FoundPlace.{FoundPlace}
use Rattle.lock_table.specs.inner.Links.{IsAt, IsFound, IsLookedUp, Recounts, place_at}
use Rattle.lock_table.proofs.Keyed.{no_value, one_value}

pub derived_is : (a b : Resource) → derived.eq-value.it a b ≡ same_resource a b
derived_is (resource.Object s) (resource.Object t) = refl
derived_is (resource.Key k bytes) (resource.Key l other) = refl
derived_is (resource.Extent g) (resource.Extent h) = refl
derived_is (resource.Object s) (resource.Key l other) = refl
derived_is (resource.Object s) (resource.Extent h) = refl
derived_is (resource.Key k bytes) (resource.Object t) = refl
derived_is (resource.Key k bytes) (resource.Extent h) = refl
derived_is (resource.Extent g) (resource.Object t) = refl
derived_is (resource.Extent g) (resource.Key l other) = refl

module _ {K V : Type 0} (eq same : K → K → Bool) (is : (a b : K) → eq a b ≡ same a b) where
  pub entry_same : (es : List (K × V)) (key : K) → entry_at eq es key ≡ entry_at same es key
  entry_same [] key = refl
  entry_same (e ∷ es) key = (λ i. cond (is key e.0 i) (Some e.1) (entry_same es key i))

  pub turns_same : (old new : List (K × V)) (key : K) (value : Option V) → Turns eq old new key value → Turns same old new key value
  turns_same old new key value t = record {
    here = sym (entry_same new key) ∙ t.here;
    others = λ q e. sym (entry_same new q) ∙ t.others q (is q key ∙ e) ∙ entry_same old q;
  }

module _ {V : Type 0} (old new : List (Resource × V)) (key : Resource) (value : Option V) where
  pub resource_turns : Turns derived.eq-value.it old new key value → Turns same_resource old new key value
  resource_turns = turns_same derived.eq-value.it same_resource derived_is old new key value

equal : (a b : Resource) → derived.eq-value.it a b ≡ true → a ≡ b
equal a b e = resource-true a b (sym (derived_is a b) ∙ e)

resource_equiv : IsEquivalence derived.eq-value.it
resource_equiv = decided derived.eq-value.it (λ a b. (equal a b, λ same. derived_is a b ∙ ap (same_resource a) (sym same) ∙ resource-self a))

module _ {V : Type 0} where
  -- what an update makes of one key and leaves to the others
  pub updated : (old new : List (Resource × V)) (key : Resource) (value : Option V) → ((q : Resource) → entry_at derived.eq-value.it new q ≡ cond (derived.eq-value.it key q) value (entry_at derived.eq-value.it old q)) → Turns same_resource old new key value
  updated old new key value turns = resource_turns old new key value (record {
    here = turns key ∙ ap (λ b. cond b value (entry_at derived.eq-value.it old key)) (resource_equiv.refl key);
    others = λ q apart. turns q ∙ ap (λ b. cond b value (entry_at derived.eq-value.it old q)) (resource_equiv.symm key q ∙ apart);
  })

  -- the value that was found is the one by the other test
  pub found_value : (es : List (Resource × V)) (key : Resource) (value : V) → Some value ≡ entry_at derived.eq-value.it es key → entry_at same_resource es key ≡ Some value
  found_value es key value is = sym (is ∙ entry_same derived.eq-value.it same_resource derived_is es key)

  -- the key that was found is the one that was looked for
  pub found_key : (es : List (Resource × V)) (at : ℕ) (key there : Resource) (value : V) → Some there ≡ lookup_key (derived.eq-value.it key) es → slice_get es at ≡ Some (there, value) → key_at at es ≡ Some key
  found_key es at key there value is stands = ap (option_map (λ e. e.0)) stands ∙ ap Some (sym (equal key there (lookup_key_passes (derived.eq-value.it key) es there (sym is))))

  -- what stands at a place has its key
  pub stands_there : (es : List (Resource × V)) (at : ℕ) (key : Resource) (value : V) → key_at at es ≡ Some key → slice_get (values_of es) at ≡ Some value → slice_get es at ≡ Some (key, value)
  stands_there [] at key value is has = cc
  stands_there (e ∷ es) zero key value is has = λ i. Some (unwrap_or (is i) key, unwrap_or (has i) value)
  stands_there (e ∷ es) (suc at) key value is has = stands_there es at key value is has

  -- a value that is written at its place
  pub written_there : {S : Type 0} (m : IndexMap Resource V S) (at : ℕ) (key : Resource) (was value : V) → IsUnique derived.eq-value.it m → key_at at m.entries ≡ Some key → Some was ≡ slice_get (values m) at → Turns same_resource m.entries (with_value_at m at value).entries key (Some value)
  written_there m at key was value unique is has = updated m.entries _ key (Some value) (updates-with_value_at m at value resource_equiv unique key was (stands_there m.entries at key was is (sym has))).0

  -- an entry that is removed at its place
  pub removed_there : (es new : List (Resource × V)) (at : ℕ) (key : Resource) (r : Option (Resource × V)) (P : Resource × V → Type 0) → ((p : Resource × V) → P p → (q : Resource) → entry_at derived.eq-value.it new q ≡ cond (derived.eq-value.it p.0 q) None (entry_at derived.eq-value.it es q))
      → key_at at es ≡ Some key → r ≡ slice_get es at → IfSome r P → Turns same_resource es new key None
  removed_there es new at key None P f is entry has = no_value key (ap (option_map (λ e. e.0)) entry ∙ is)
  removed_there es new at key (Some p) P f is entry has = subst (λ k. Turns same_resource es new k None) (one_value (ap (option_map (λ e. e.0)) entry ∙ is)) (updated es new p.0 None (f p has))

  -- a key stands where it is put
  pub put_there : (es : List (Resource × V)) (key : Resource) (value : V) → key_at (position_or_len (derived.eq-value.it key) (keys_of es)) (insert_entry derived.eq-value.it es key value) ≡ Some key
  put_there [] key value = refl
  put_there (e ∷ es) key value = by (put_there es key value) (derived.eq-value.it key e.0) refl
    where
      rest : List (Resource × V)
      rest = insert_entry derived.eq-value.it es key value

      by : key_at (position_or_len (derived.eq-value.it key) (keys_of es)) rest ≡ Some key → (b : Bool) → derived.eq-value.it key e.0 ≡ b → key_at (cond (not b) (1 + position_or_len (derived.eq-value.it key) (keys_of es)) 0) (cond b ((e.0, value) ∷ es) (e ∷ rest)) ≡ Some key
      by there true is = ap Some (sym (equal key e.0 is))
      by there false is =
          let next : 1 + position_or_len (derived.eq-value.it key) (keys_of es) ≡ suc (position_or_len (derived.eq-value.it key) (keys_of es)) = omega arith in
          ap (λ n. key_at n (e ∷ rest)) next ∙ there

  -- keys stand where they stood when a value is written
  pub keys_stand : (es : List (Resource × V)) (at n : ℕ) (value : V) → key_at n (set_value_at es at value) ≡ key_at n es
  keys_stand [] at n value = refl
  keys_stand (e ∷ es) zero zero value = refl
  keys_stand (e ∷ es) zero (suc n) value = refl
  keys_stand (e ∷ es) (suc at) zero value = refl
  keys_stand (e ∷ es) (suc at) (suc n) value = keys_stand es at n value

  -- where a key stands, there is a value
  pub none_there : (es : List (Resource × V)) (at : ℕ) (key : Resource) → key_at at es ≡ Some key → None ≡ slice_get (values_of es) at → ⊥
  none_there [] at key is none = cc
  none_there (e ∷ es) zero key is none = cc
  none_there (e ∷ es) (suc at) key is none = none_there es at key is none

-- what was not found is not there
pub found_none : (links : Links) (r : Resource) (o : Option FoundPlace) → IsLookedUp links r o → o ≡ None → place_at links r ≡ None
found_none links r o looked is = (subst (IsLookedUp links r) is looked).none

-- what was found stands there
pub found_one : (links : Links) (r : Resource) (o : Option FoundPlace) (found : FoundPlace) → IsLookedUp links r o → o ≡ Some found → IsFound links r found
found_one links r o found looked is = (subst (IsLookedUp links r) is looked).some

-- what was found holds while no place changes
pub looked_same : (old new : Links) → new.places.table.entries ≡ old.places.table.entries → (r : Resource) (o : Option FoundPlace) → IsLookedUp old r o → IsLookedUp new r o
looked_same old new same r o looked = record {
  some = subst (λ es. IfSome o (IsAt es r)) (sym same) looked.some;
  none = subst (λ es. IfNone o (entry_at same_resource es r ≡ None)) (sym same) looked.none;
}

-- a place counts other locks
module _ (old new : Links) (r : Resource) (locks : ℕ → ℕ) (place : Place) (was : place_at old r ≡ Some place) (turns : Turns same_resource old.places.table.entries new.places.table.entries r (Some (record place { locks = locks place.locks })))
    (pool : new.pool ≡ old.pool) (columns : new.columns.entries ≡ old.columns.entries) (held : new.held ≡ old.held) where
  pub recounts : Recounts old new r locks
  recounts = record {
    here = λ other at. turns.here ∙ ap (λ (p : Place). Some (record p { locks = locks p.locks })) (one_value (sym was ∙ at));
    others = turns.others;
    pool = pool;
    columns = columns;
    held = held;
  }
