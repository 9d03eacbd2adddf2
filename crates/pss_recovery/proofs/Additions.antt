-- One object more.
use Rattle.std.proofs.Common.{ℕ, zero, suc, ◌≡◌, ◌⊎◌, inl, inr, ⊎_elim, ◌+◌, ◌<◌, ◌≤◌, IsTrue, List, [], ◌∷◌, length, Option, None, Some, IsSome, refl, sym, ap, ◌∙◌, subst, arith}
use Rattle.std.specs.List.{slice_get}
use Rattle.std.specs.FinMap.{get, insert}
use Rattle.pss_base.specs.declared.put.Put.{Put}
use Rattle.type_layout.specs.declared.key.KeyNo.{KeyNo}
use Rattle.type_layout.specs.declared.schema.Schema.{Schema}
use Rattle.type_layout.specs.declared.schema.Home.{Home}
use Rattle.type_layout.specs.Schemas.{home_at, nth}
use Rattle.pss_catalog.specs.Catalog.{Catalog, IsUnique, Object, holds, total, weight}
use Rattle.pss_catalog.specs.Changes.{over}
use Rattle.storage_home.specs.declared.change.Change.{Change}
use Rattle.storage_home.specs.declared.homes.Homes.{Homes}
use Rattle.storage_home.specs.Applied.{AreKeysOf, AreNamed, AreReserved, IsNamed, IsState, MayApply}
use Rattle.storage_home.specs.Kept.{IsKept, most}
use Rattle.storage_home.proofs.Keeping.{come, others, same_or_not, sum_with}
use Rattle.storage_home.proofs.Naming.{placed}
use Rattle.pss_recovery.specs.Loading.{IsFree}
use Rattle.pss_recovery.specs.inner.Adding.{IsAddable, MayAdd, MayCome, MayMake, addition}
use Rattle.page_format.specs.Objects.{octets_left}

-- an object with keys that nobody holds
module _ (S : Schema) (M : Catalog) (s : ℕ) (object : Object) (free : IsFree S M object) where
  there : (t : ℕ) (x : Object) → get (insert M s object) t ≡ Some x → ((t ≡ s) × (x ≡ object)) ⊎ (get M t ≡ Some x)
  there t x is = ⊎_elim (λ e. inl (e, (let q : Some x ≡ Some object = sym is ∙ come M s object t e in cc))) (λ ne. inr (sym (others M s object t ne) ∙ is)) (same_or_not t s)

  pub unique_with : IsUnique S M → IsUnique S (insert M s object)
  unique_with unique = λ key bytes a b x y at_a at_b holds_x holds_y.
      ⊎_elim
      (λ p.
      ⊎_elim (λ q. p.0 ∙ sym q.0)
      (λ q. absurd (free key bytes b y q holds_y (subst (λ (o : Object). IsTrue (holds S key bytes o)) p.1 holds_x))) (there b y at_b))
      (λ p.
      ⊎_elim (λ q. absurd (free key bytes a x p holds_x (subst (λ (o : Object). IsTrue (holds S key bytes o)) q.1 holds_y)))
      (λ q. unique key bytes a b x y p q holds_x holds_y) (there b y at_b)) (there a x at_a)

some_home : (homes : List Home) (h : ℕ) → 1 ≤ h → h ≤ length homes → IsSome (nth homes h)
some_home homes zero some few = absurd (omega (arith, some))
some_home homes (suc h) some few = within homes h (omega (arith, few))
  where
    within : (homes : List Home) (h : ℕ) → h < length homes → IsSome (slice_get homes h)
    within [] h lt = absurd (omega (arith, lt))
    within (home ∷ homes) zero lt = refl
    within (home ∷ homes) (suc h) lt = within homes h (omega (arith, lt))

-- what is named in one schema of homes is named in each
module _ (S T : Schema) (M N : Catalog) (homes : Homes) (kept : IsKept S M homes) (other : IsKept T N homes) where
  named_too : (change : Change) → IsNamed S change → IsNamed T change
  named_too change named_ some = let at = placed S M homes kept change named_ some in some_home T.homes change.put.home at.0 (subst (λ (n : ℕ). change.put.home ≤ n) other.extents_size at.1)

  pub all_named_too : (changes : List Change) → AreNamed S changes → AreNamed T changes
  all_named_too [] named_ = tt
  all_named_too (c ∷ cs) named_ = (named_too c named_.0, all_named_too cs named_.1)

pub home_there : (S : Schema) (row : Put) (object : Object) → IsState S row.home row.bytes (Some object) → IsSome (home_at S (record { 0 = row.home }))
home_there S row object stored = by row.bytes stored
  where
    by : (bytes : Option (List ℕ)) → IsState S row.home bytes (Some object) → IsSome (home_at S (record { 0 = row.home }))
    by None state = absurd state
    by (Some bytes) state = subst (λ (n : ℕ). IsSome (home_at S (record { 0 = n }))) state.0 state.1.0

-- the addition is such a change
abbrev pub may_make : (homes : Homes) (row : Put) (keys : List (KeyNo × List ℕ)) → MayAdd homes row keys → MayMake homes (addition row keys ∷ [])
may_make homes row keys m = record {
  schema = m.schema;
  catalog = m.catalog;
  steps = record { serial = row.serial; state = Some m.object } ∷ [];
  kept = m.kept;
  named = ((λ some. home_there m.schema row m.object m.stored), tt);
  are = (record { step_is = (refl, m.stored); old_keys = subst (λ (o : Option Object). AreKeysOf m.schema o []) (sym m.none) (record { listed = λ key bytes. refl; once = tt }); new_keys = m.keys_ }, tt);
  unique = unique_with m.schema m.catalog row.serial m.object m.free m.unique;
  bounded = omega (arith, m.bounded, sum_with m.schema m.catalog row.serial m.object m.none);
}

-- once room is made, the changes may be applied
abbrev pub may_apply : (old new : Homes) (changes : List Change) → ((S : Schema) (M : Catalog) → IsKept S M old → IsKept S M new) → AreReserved new changes → MayMake old changes → MayApply new changes
may_apply old new changes kept reserved m = record {
  schema = m.schema;
  catalog = m.catalog;
  steps = m.steps;
  kept = kept m.schema m.catalog m.kept;
  are = m.are;
  unique = m.unique;
  bounded = m.bounded;
  reserved = reserved;
}

pub added : (homes new : Homes) (row : Put) (keys : List (KeyNo × List ℕ)) (changes : List Change) → changes ≡ addition row keys ∷ [] → ((m : MayMake homes changes) → IsKept m.schema (over m.catalog m.steps) new)
    → (m : MayAdd homes row keys) → IsKept m.schema (insert m.catalog row.serial m.object) new
added homes new row keys changes e f m = subst (λ (cs : List Change). (n : MayMake homes cs) → IsKept n.schema (over n.catalog n.steps) new) e f (may_make homes row keys m)

pub weight_is : (S : Schema) (home : ℕ) (object : Object) (bytes : Option (List ℕ)) → IsState S home bytes (Some object) → weight S object ≡ 16 + length (octets_left bytes)
weight_is S home object None state = absurd state
weight_is S home object (Some octets) state = ap (λ l. 16 + length l) (sym state.2)

pub fits : (S : Schema) (row : Put) (object : Object) (sum : ℕ) → IsState S row.home row.bytes (Some object) → sum + (16 + length (octets_left row.bytes)) ≤ most → sum + weight S object ≤ most
fits S row object sum stored le = omega (arith, le, weight_is S row.home object row.bytes stored)

-- what may be added to a catalog that is kept is loaded by it
abbrev pub is_added : (S : Schema) (next : ℕ) (M : Catalog) (homes : Homes) (row : Put) (keys : List (KeyNo × List ℕ)) → MayCome S M homes row → IsAddable S next M row keys → MayAdd homes row keys
is_added S next M homes row keys may can = record {
  schema = S;
  catalog = M;
  object = can.object;
  kept = may.kept;
  stored = can.stored;
  none = may.none;
  keys_ = can.keys_;
  free = can.free;
  unique = may.unique;
  bounded = fits S row can.object (total S M) can.stored may.bounded;
}
