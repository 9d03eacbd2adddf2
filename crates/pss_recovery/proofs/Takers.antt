-- Where changes take only keys that are open, no two objects hold one, and the other way round.
use Rattle.std.proofs.Common.{ℕ, ◌≡◌, ◌↔◌, ◌⊎◌, inl, inr, ⊎_elim, Bool, true, false, List, [], ◌∷◌, Option, None, Some, refl, sym, ap, ◌∙◌, subst, eq-eqb}
use Rattle.std.specs.Prelude.{◌&&◌, ◌||◌}
use Rattle.std.specs.FinMap.{get, insert, remove}
use Rattle.std.specs.List.{AllByRecursion}
use Rattle.std.specs.Str.{bytes_eq}
use Rattle.std.proofs.lemmas.Bool.{false≢true}
use Rattle.std.proofs.lemmas.Slice.Eq.{bytes_eq-Decides}
use Rattle.type_layout.specs.declared.key.KeyNo.{KeyNo}
use Rattle.type_layout.specs.declared.schema.Schema.{Schema}
use Rattle.type_layout.specs.Schemas.{given}
use Rattle.pss_catalog.specs.Catalog.{Catalog, IsUnique, Object, holds}
use Rattle.pss_catalog.specs.Changes.{Change as Step, over, with_state}
use Rattle.storage_home.specs.declared.change.Change.{Change}
use Rattle.storage_home.specs.declared.homes.Homes.{Homes}
use Rattle.storage_home.specs.Applied.{AreChanges, AreKeysOf, IsNew}
use Rattle.storage_home.specs.Changes.{Rises}
use Rattle.storage_home.specs.Kept.{IsKept}
use Rattle.storage_home.specs.Indexes.{is_pair, lists}
use Rattle.storage_home.specs.inner.Steps.{AreFresh, bare}
use Rattle.storage_home.proofs.Keeping.{come, others, same_or_not, stays, was_there, without_none}
use Rattle.storage_home.proofs.Places.{by_test}
use Rattle.storage_home.proofs.Stepping.{apart_rising, bare_is_fresh, over_bare, unique_before}
use Rattle.pss_recovery.specs.Loading.{IsFree}
use Rattle.pss_recovery.specs.inner.Claims.{AreOpen, ComeApart, IsOpen, Keys, no_keys, releases, with_pairs}
use Rattle.pss_recovery.specs.inner.Held.{IsHeld}
use Rattle.pss_recovery.proofs.Additions.{unique_with}
use Rattle.pss_recovery.proofs.Holders.{free_of}

no_either : (a b : Bool) → (a || b) ≡ false → (a ≡ false) × (b ≡ false)
no_either true b e = absurd (false≢true (sym e))
no_either false b e = (refl, e)

or_true : (a b : Bool) → b ≡ true → (a || b) ≡ true
or_true true b e = refl
or_true false b e = e

-- ---- what a list of keys lists

pub listed_self : (pair : KeyNo × List ℕ) → is_pair pair pair.0.0 pair.1 ≡ true
listed_self pair = ap (λ b. b && bytes_eq pair.1 pair.1) (eq-eqb pair.0.0 pair.0.0 refl) ∙ (bytes_eq-Decides pair.1 pair.1).1 refl

-- each of its keys is listed
all_listed : (whole pairs : List (KeyNo × List ℕ)) → ((key : ℕ) (bytes : List ℕ) → lists pairs key bytes ≡ true → lists whole key bytes ≡ true) → AllByRecursion (λ pair. lists whole pair.0.0 pair.1 ≡ true) pairs
all_listed whole [] in_ = tt
all_listed whole (pair ∷ pairs) in_ = (
  in_ pair.0.0 pair.1 (ap (λ b. b || lists pairs pair.0.0 pair.1) (listed_self pair)),
  all_listed whole pairs (λ key bytes e. in_ key bytes (or_true (is_pair pair key bytes) (lists pairs key bytes) e)),
)

none_listed : (pairs : List (KeyNo × List ℕ)) → ((key : KeyNo) (bytes : List ℕ) → lists pairs key.0 bytes ≡ false) → pairs ≡ []
none_listed [] none = refl
none_listed (pair ∷ pairs) none = absurd (false≢true (sym (none pair.0 pair.1) ∙ ap (λ b. b || lists pairs pair.0.0 pair.1) (listed_self pair)))

all_of : {P Q : KeyNo × List ℕ → Type 0} (pairs : List (KeyNo × List ℕ)) → ((pair : KeyNo × List ℕ) → P pair → Q pair) → AllByRecursion P pairs → AllByRecursion Q pairs
all_of [] f all = tt
all_of (pair ∷ pairs) f all = (f pair all.0, all_of pairs f all.1)

-- ---- what is kept has unique keys

pub kept_unique : (S : Schema) (M : Catalog) (homes : Homes) → IsKept S M homes → IsUnique S M
kept_unique S M homes kept key bytes s t x y at_s at_t holds_x holds_y =
    let a = (kept.keys key bytes s).1 (x, at_s, holds_x) in
    let b = (kept.keys key bytes t).1 (y, at_t, holds_y) in
    let same : Some s ≡ Some t = sym a ∙ b in
    cc

-- ---- the objects that do not change

module _ (S : Schema) where
  in_bare : (M : Catalog) (steps : List Step) (t : ℕ) (x : Object) → get (bare M steps) t ≡ Some x → (get M t ≡ Some x) × IsNew t steps
  in_bare M [] t x is = (is, tt)
  in_bare M (step ∷ steps) t x is =
      let inner = in_bare (remove M step.serial) steps t x is in
      let was = was_there M step.serial t x inner.0 in
      (was.0, (was.1, inner.1))

  bare_keeps : (M : Catalog) (steps : List Step) (t : ℕ) → IsNew t steps → get (bare M steps) t ≡ get M t
  bare_keeps M [] t new = refl
  bare_keeps M (step ∷ steps) t new = bare_keeps (remove M step.serial) steps t new.1 ∙ stays M step.serial t new.0

  bare_unique : (M : Catalog) (steps : List Step) → IsUnique S M → IsUnique S (bare M steps)
  bare_unique M steps unique key bytes s t x y at_s at_t holds_x holds_y = unique key bytes s t x y (in_bare M steps s x at_s).0 (in_bare M steps t y at_t).0 holds_x holds_y

-- an object that changes, and holds a key
record IsReleased (S : Schema) (M : Catalog) (steps : List Step) (key : KeyNo) (bytes : List ℕ) : Type 0 where
  serial : ℕ
  object : Object
  there : get M serial ≡ Some object
  holds_ : holds S key bytes object ≡ true
  changes : IsNew serial steps → ⊥

module _ (S : Schema) (M : Catalog) (key : KeyNo) (bytes : List ℕ) where
  released_by : (changes : List Change) (steps : List Step) → AreChanges S M changes steps → releases changes key.0 bytes ≡ true → IsReleased S M steps key bytes
  released_by [] [] are e = absurd (false≢true e)
  released_by [] (d ∷ ds) are e = absurd are
  released_by (c ∷ cs) [] are e = absurd are
  released_by (c ∷ cs) (d ∷ ds) are e =
      by_test (λ b. lists c.old_keys key.0 bytes ≡ b → (b || releases cs key.0 bytes) ≡ true → IsReleased S M (d ∷ ds) key bytes) (lists c.old_keys key.0 bytes)
      (λ _ here _. found (get M d.serial) refl (sym (are.0.old_keys.listed key bytes) ∙ here))
      (λ _ _ there. let r = released_by cs ds are.1 there in record { serial = r.serial; object = r.object; there = r.there; holds_ = r.holds_; changes = λ new. r.changes new.1 })
      refl e
    where
      found : (o : Option Object) → get M d.serial ≡ o → given o false (holds S key bytes) ≡ true → IsReleased S M (d ∷ ds) key bytes
      found None is h = absurd (false≢true h)
      found (Some x) is h = record { serial = d.serial; object = x; there = is; holds_ = h; changes = λ new. new.0 refl }

  new_or_released : (changes : List Change) (steps : List Step) → AreChanges S M changes steps → (t : ℕ) (x : Object) → get M t ≡ Some x → holds S key bytes x ≡ true → IsNew t steps ⊎ (releases changes key.0 bytes ≡ true)
  new_or_released [] [] are t x is h = inl tt
  new_or_released [] (d ∷ ds) are t x is h = absurd are
  new_or_released (c ∷ cs) [] are t x is h = absurd are
  new_or_released (c ∷ cs) (d ∷ ds) are t x is h =
      ⊎_elim
      (λ same. inr (ap (λ b. b || releases cs key.0 bytes) (are.0.old_keys.listed key bytes ∙ ap (λ o. given o false (holds S key bytes)) (ap (get M) (sym same) ∙ is) ∙ h)))
      (λ other. ⊎_elim (λ new. inl (other, new)) (λ r. inr (or_true (lists c.old_keys key.0 bytes) (releases cs key.0 bytes) r)) (new_or_released cs ds are.1 t x is h))
      (same_or_not t d.serial)

  module _ (changes : List Change) (steps : List Step) (are : AreChanges S M changes steps) (unique : IsUnique S M) where
    open_at_first : IsOpen S M (releases changes) no_keys key bytes ↔ (IsHeld S (bare M steps) key bytes → ⊥)
    open_at_first = (forth, back)
      where
        forth : IsOpen S M (releases changes) no_keys key bytes → IsHeld S (bare M steps) key bytes → ⊥
        forth o h =
            let was = in_bare S M steps h.0 h.1.0 h.1.1 in
            let r = released_by changes steps are (o.held (h.0, (h.1.0, was.0, h.1.2))) in
            r.changes (subst (λ (t : ℕ). IsNew t steps) (unique key bytes h.0 r.serial h.1.0 r.object was.0 r.there h.1.2 r.holds_) was.1)

        back : (IsHeld S (bare M steps) key bytes → ⊥) → IsOpen S M (releases changes) no_keys key bytes
        back none = record {
          free = refl;
          held = λ h. ⊎_elim (λ new. absurd (none (h.0, (h.1.0, bare_keeps S M steps h.0 new ∙ h.1.1, h.1.2)))) (λ r. r) (new_or_released changes steps are h.0 h.1.0 h.1.1 h.1.2);
        }

-- ---- one change after the other

module _ (S : Schema) (M : Catalog) (released : Keys) where
  -- the keys that are open are those that no object of a catalog holds
  abbrev Tells : Catalog → Keys → Type 0
  Tells C claimed = (key : KeyNo) (bytes : List ℕ) → IsOpen S M released claimed key bytes ↔ (IsHeld S C key bytes → ⊥)

  module _ (C : Catalog) (s : ℕ) (none : get C s ≡ None) (claimed : Keys) (tells : Tells C claimed) (pairs : List (KeyNo × List ℕ)) where
    not_there : (t : ℕ) (y : Object) → get C t ≡ Some y → t ≡ s → ⊥
    not_there t y at same = let no : None ≡ Some y = sym none ∙ ap (get C) (sym same) ∙ at in cc

    grown : (x : Object) (key : KeyNo) (bytes : List ℕ) → IsHeld S C key bytes → IsHeld S (insert C s x) key bytes
    grown x key bytes h = (h.0, (h.1.0, others C s x h.0 (not_there h.0 h.1.0 h.1.1) ∙ h.1.1, h.1.2))

    tells_on : (state : Option Object) → AreKeysOf S state pairs → Tells (with_state C s state) (with_pairs pairs claimed)
    tells_on None keys key bytes = (
      λ o h. (tells key bytes).0 (record { free = (no_either (lists pairs key.0 bytes) (claimed key.0 bytes) o.free).1; held = o.held }) (subst (λ (D : Catalog). IsHeld S D key bytes) (without_none C s none) h),
      λ n. let o = (tells key bytes).1 (λ h. n (subst (λ (D : Catalog). IsHeld S D key bytes) (sym (without_none C s none)) h)) in record { free = ap (λ b. b || claimed key.0 bytes) (keys.listed key bytes) ∙ o.free; held = o.held },
    )
    tells_on (Some x) keys key bytes = (forth, back)
      where
        forth : IsOpen S M released (with_pairs pairs claimed) key bytes → IsHeld S (insert C s x) key bytes → ⊥
        forth o h =
            let free = no_either (lists pairs key.0 bytes) (claimed key.0 bytes) o.free in
            ⊎_elim
            (λ same.
            let is : Some h.1.0 ≡ Some x = sym h.1.1 ∙ come C s x h.0 same in
            let it : h.1.0 ≡ x = cc in
            false≢true (sym free.0 ∙ keys.listed key bytes ∙ subst (λ (y : Object). holds S key bytes y ≡ true) it h.1.2))
            (λ other. (tells key bytes).0 (record { free = free.1; held = o.held }) (h.0, (h.1.0, sym (others C s x h.0 other) ∙ h.1.1, h.1.2)))
            (same_or_not h.0 s)

        back : (IsHeld S (insert C s x) key bytes → ⊥) → IsOpen S M released (with_pairs pairs claimed) key bytes
        back n =
            let o = (tells key bytes).1 (λ h. n (grown x key bytes h)) in
            record {
              free = by_test (λ b. lists pairs key.0 bytes ≡ b → (b || claimed key.0 bytes) ≡ false) (lists pairs key.0 bytes)
                  (λ _ here. absurd (n (s, (x, come C s x s refl, sym (keys.listed key bytes) ∙ here))))
                  (λ _ _. o.free)
                  refl;
              held = o.held;
            }

    -- the keys of an object are open exactly where no object that is there holds one
    open_free : (x : Object) → AreKeysOf S (Some x) pairs → AreOpen S M released claimed pairs → IsFree S C x
    open_free x keys all = free_of S C x pairs keys (all_of pairs (λ pair o. (tells pair.0 pair.1).0 o) all)

    free_open : (x : Object) → AreKeysOf S (Some x) pairs → IsFree S C x → AreOpen S M released claimed pairs
    free_open x keys free =
        all_of pairs (λ pair listed. (tells pair.0 pair.1).1 (λ h. free pair.0 pair.1 h.0 h.1.0 h.1.1 h.1.2 (sym (keys.listed pair.0 pair.1) ∙ listed))) (all_listed pairs pairs (λ key bytes e. e))

    unique_free : (x : Object) → IsUnique S (insert C s x) → IsFree S C x
    unique_free x unique key bytes t y at holds_y holds_x =
        not_there t y at (sym (unique key bytes s t x y (come C s x s refl) (others C s x t (not_there t y at) ∙ at) holds_x holds_y))

    -- a change may take its keys exactly where they stay unique
    open_unique : (state : Option Object) → AreKeysOf S state pairs → IsUnique S C → AreOpen S M released claimed pairs ↔ IsUnique S (with_state C s state)
    open_unique None keys unique = (
      (λ _. subst (IsUnique S) (sym (without_none C s none)) unique),
      (λ _. subst (AreOpen S M released claimed) (sym (none_listed pairs keys.listed)) tt),
    )
    open_unique (Some x) keys unique = (
      (λ all. unique_with S C s x (open_free x keys all) unique),
      (λ after. free_open x keys (unique_free x after)),
    )

  apart_on : (changes : List Change) (steps : List Step) (O C : Catalog) (claimed : Keys) → AreChanges S O changes steps → AreFresh C steps → IsUnique S C → Tells C claimed → ComeApart S M released claimed changes ↔ IsUnique S (over C steps)
  apart_on [] [] O C claimed are fresh unique tells = ((λ _. unique), (λ _. tt))
  apart_on [] (d ∷ ds) O C claimed are fresh unique tells = absurd are
  apart_on (c ∷ cs) [] O C claimed are fresh unique tells = absurd are
  apart_on (c ∷ cs) (d ∷ ds) O C claimed are fresh unique tells =
      let D = with_state C d.serial d.state in
      let here = open_unique C d.serial fresh.0 claimed tells c.new_keys d.state are.0.new_keys unique in
      let now = tells_on C d.serial fresh.0 claimed tells c.new_keys d.state are.0.new_keys in (
        λ p. (apart_on cs ds O D (with_pairs c.new_keys claimed) are.1 fresh.1 (here.0 p.0) now).0 p.1,
        λ after.
            let before = unique_before S D ds fresh.1 after in
            (here.1 before, (apart_on cs ds O D (with_pairs c.new_keys claimed) are.1 fresh.1 before now).1 after),
      )

pub apart_unique : (S : Schema) (M : Catalog) (homes : Homes) → IsKept S M homes → (changes : List Change) → Rises 0 changes → (steps : List Step) → AreChanges S M changes steps → ComeApart S M (releases changes) no_keys changes ↔ IsUnique S (over M steps)
apart_unique S M homes kept changes rise steps are =
    let unique = kept_unique S M homes kept in
    subst (λ (N : Catalog). ComeApart S M (releases changes) no_keys changes ↔ IsUnique S N) (over_bare M steps)
    (apart_on S M (releases changes) changes steps M (bare M steps) no_keys are (bare_is_fresh M steps (apart_rising 0 changes rise S M steps are)) (bare_unique S M steps unique)
    (λ key bytes. open_at_first S M key bytes changes steps are unique))
