-- The objects of a store are good.
use Rattle.std.proofs.Common.{ℕ, ◌≡◌, ⊎_elim, ◌<◌, ◌≤◌, List, [], ◌∷◌, length, Option, None, Some, IfSome, IsSome, refl, sym, ap, ◌∙◌, subst, arith}
use Rattle.std.proofs.lemmas.Bool.{false≢true}
use Rattle.std.specs.List.{AllByRecursion, flat_map}
use Rattle.std.specs.FinMap.{empty, get-empty, insert, remove}
use Rattle.std.specs.Ordering.{nat_cmp}
use Rattle.pss_base.specs.declared.pid.Pid.{Pid}
use Rattle.pss_base.specs.declared.put.Put.{Put}
use Rattle.type_layout.specs.declared.schema.Home.{Home}
use Rattle.type_layout.specs.declared.schema.Schema.{Schema}
use Rattle.type_layout.specs.Schemas.{home_at, members_at}
use Rattle.type_layout.specs.Values.{IsRecord}
use Rattle.pss_catalog.specs.Catalog.{AreGiven, Catalog, EachObject, IsGiven, IsGood, IsUnique, Object, object_spelling, references, total}
use Rattle.pss_catalog.specs.Changes.{Change as Step, over, with_state}
use Rattle.storage_home.specs.Applied.{IsState}
use Rattle.storage_home.proofs.Keeping.{come, others, same_or_not, was_there}
use Rattle.page_format.specs.Objects.{HasRecord, IsRightPut}
use Rattle.pss_recovery.specs.Loading.{AreLoaded, RefersBelow}
use Rattle.pss_recovery.specs.Replaying.{AreMade, AreReplayed, IsChanged, IsMade, IsRight, Rise}
use Rattle.pss_recovery.proofs.Additions.{unique_with}
use Rattle.pss_recovery.proofs.Starting.{nothing_unique}

-- an object as a catalog with a next serial may have it
pub record IsGoodObject (S : Schema) (next serial : ℕ) (object : Object) : Type 0 where
  pub home : (home : Home) × (home_at S object.home ≡ Some home)
  pub record_ : IsRecord (members_at S object.home) object.values
  pub short : length (object_spelling S object) ≤ 8000
  pub given : IsGiven next serial
  pub targets : AreGiven next (flat_map references object.values)

abbrev pub AllGood : Schema → Catalog → ℕ → Type 0
AllGood S M next = EachObject M (λ serial object. IsGoodObject S next serial object)

pub good_of : (S : Schema) (M : Catalog) (next : ℕ) → AllGood S M next → 0 < next → IsUnique S M → total S M ≤ 67108864 → IsGood S M next
good_of S M next all positive unique bounded = record {
  homes = λ s x is. (all s x is).home;
  records = λ s x is. (all s x is).record_;
  short = λ s x is. (all s x is).short;
  positive = positive;
  serials = λ s x is. (all s x is).given;
  targets = λ s x is. (all s x is).targets;
  unique = unique;
  bounded = bounded;
}

pub all_of : (S : Schema) (M : Catalog) (next : ℕ) → IsGood S M next → AllGood S M next
all_of S M next good s x is = record { home = good.homes s x is; record_ = good.records s x is; short = good.short s x is; given = good.serials s x is; targets = good.targets s x is }

-- ---- one object more or less, and a later next serial

module _ (S : Schema) (M : Catalog) (next s : ℕ) where
  pub all_with : (object : Object) → AllGood S M next → IsGoodObject S next s object → AllGood S (insert M s object) next
  all_with object all good t x is =
      ⊎_elim
      (λ e.
      let same : Some object ≡ Some x = sym (come M s object t e) ∙ is in
      let it : object ≡ x = cc in
      subst (λ (n : ℕ). IsGoodObject S next n x) (sym e) (subst (λ (o : Object). IsGoodObject S next s o) it good))
      (λ ne. all t x (sym (others M s object t ne) ∙ is)) (same_or_not t s)

  pub all_without : AllGood S M next → AllGood S (remove M s) next
  all_without all t x is = all t x (was_there M s t x is).0

given_later : (next last : ℕ) → next ≤ last → (ps : List Pid) → AreGiven next ps → AreGiven last ps
given_later next last le [] given = tt
given_later next last le (p ∷ ps) given = ((given.0.0, omega (arith, given.0.1, le)), given_later next last le ps given.1)

pub all_later : (S : Schema) (M : Catalog) (next last : ℕ) → next ≤ last → AllGood S M next → AllGood S M last
all_later S M next last le all t x is =
    let good = all t x is in
    record { home = good.home; record_ = good.record_; short = good.short; given = (good.given.0, omega (arith, good.given.1, le)); targets = given_later next last le (flat_map references x.values) good.targets }

pub none_good : (S : Schema) (next : ℕ) → AllGood S empty next
none_good S next s x is = let no : None ≡ Some x = sym (get-empty nat_cmp s) ∙ is in absurd (cc)

-- ---- rows

home_of : {A : Type 0} (o : Option A) → IsSome o → (a : A) × (o ≡ Some a)
home_of None some = absurd (false≢true some)
home_of (Some a) some = (a, refl)

-- a change to an object, or a row
pub good_put : (S : Schema) (next : ℕ) (put : Put) (object : Object) → 1 ≤ put.serial → put.serial < next → IfSome put.bytes (λ octets. length octets ≤ 8000) → IsState S put.home put.bytes (Some object) → RefersBelow next object → IsGoodObject S next put.serial object
good_put S next put object some less short state refers = by put.bytes short state
  where
    by : (bytes : Option (List ℕ)) → IfSome bytes (λ octets. length octets ≤ 8000) → IsState S put.home bytes (Some object) → IsGoodObject S next put.serial object
    by None short state = absurd state
    by (Some octets) short state = record { home = home_of (home_at S object.home) state.1.0; record_ = state.1.1; short = omega (arith, short, ap length state.2); given = (omega (arith, some), less); targets = refers }

-- rows with serials that were given before the next one
abbrev pub IsGivenRow : ℕ → Put → Type 0
IsGivenRow next row = (1 ≤ row.serial) × (row.serial < next)

short_of : (bytes : Option (List ℕ)) → IfSome bytes HasRecord → IfSome bytes (λ octets. length octets ≤ 8000)
short_of None has = tt
short_of (Some octets) has = has.most

pub loaded_good : (S : Schema) (next : ℕ) (rows : List Put) (M N : Catalog) → AllByRecursion (IsGivenRow next) rows → AllByRecursion IsRightPut rows → AreLoaded S next M rows N → AllGood S M next → AllGood S N next
loaded_good S next [] M N given right loaded all = subst (λ (K : Catalog). AllGood S K next) (sym loaded) all
loaded_good S next (row ∷ rows) M N given right loaded all =
    let row_is = loaded.1 in
    loaded_good S next rows (insert M row.serial loaded.0) N given.1 right.1 loaded.2
    (all_with S M next row.serial loaded.0 all (good_put S next row loaded.0 given.0.0 given.0.1 (short_of row.bytes right.0) row_is.stored row_is.refers))

pub loaded_unique : (S : Schema) (next : ℕ) (rows : List Put) (M N : Catalog) → AreLoaded S next M rows N → IsUnique S M → IsUnique S N
loaded_unique S next [] M N loaded unique = subst (IsUnique S) (sym loaded) unique
loaded_unique S next (row ∷ rows) M N loaded unique = loaded_unique S next rows (insert M row.serial loaded.0) N loaded.2 (unique_with S M row.serial loaded.0 loaded.1.free unique)

-- the objects of pages are good
pub pages_good : (S : Schema) (next : ℕ) (rows : List Put) (N : Catalog) → 1 ≤ next → AllByRecursion (IsGivenRow next) rows → AllByRecursion IsRightPut rows → AreLoaded S next empty rows N → total S N ≤ 67108864 → IsGood S N next
pages_good S next rows N positive given right loaded bounded =
    good_of S N next (loaded_good S next rows empty N given right loaded (none_good S next)) (omega (arith, positive)) (loaded_unique S next rows empty N loaded (nothing_unique S)) bounded

-- ---- changes

module _ (S : Schema) (M : Catalog) (next : ℕ) where
  step_good : (A : Catalog) (put : Put) (step : Step) → 1 ≤ put.serial → put.serial < next → IsMade S M next put step → AllGood S A next → AllGood S (with_state A step.serial step.state) next
  step_good A put step some less made all = by step.state made.step_.1 made.refers
    where
      by : (state : Option Object) → IsState S put.home put.bytes state → IfSome state (RefersBelow next) → AllGood S (with_state A step.serial state) next
      by None state refers = all_without S A next step.serial all
      by (Some object) state refers = all_with S A next step.serial object all (subst (λ (s : ℕ). IsGoodObject S next s object) made.step_.0 (good_put S next put object some less made.short state refers))

  steps_good : (last : ℕ) (puts : List Put) (steps : List Step) (A : Catalog) → Rise last next puts → AreMade S M next puts steps → AllGood S A next → AllGood S (over A steps) next
  steps_good last [] [] A rise made all = all
  steps_good last [] (step ∷ steps) A rise made all = absurd made
  steps_good last (put ∷ puts) [] A rise made all = absurd made
  steps_good last (put ∷ puts) (step ∷ steps) A rise made all =
      steps_good put.serial puts steps (with_state A step.serial step.state) rise.2 made.1 (step_good A put step (omega (arith, rise.0)) rise.1 made.0 all)

-- a body leaves objects good
pub changed_good : (S : Schema) (M : Catalog) (next : ℕ) (body : _) (N : Catalog) → IsChanged S M next body N → IsGood S M next → IsGood S N body.next
changed_good S M next body N changed good =
    let all = steps_good S M body.next 0 body.puts changed.steps M changed.rise changed.made (all_later S M next body.next changed.later (all_of S M next good)) in
    good_of S N body.next (subst (λ (K : Catalog). AllGood S K body.next) (sym changed.result) all) (omega (arith, good.positive, changed.later)) changed.unique changed.bounded

pub right_good : (S : Schema) (M : Catalog) (next : ℕ) (octets : List ℕ) (N : Catalog) (last : ℕ) → IsRight S M next octets N last → IsGood S M next → IsGood S N last
right_good S M next octets N last right good = subst (IsGood S N) (sym right.last_) (changed_good S M next right.body N right.changed good)

-- and so do all bodies of a journal
pub replayed_good : (S : Schema) (M : Catalog) (next : ℕ) (bodies : List (List ℕ)) (N : Catalog) (last : ℕ) → AreReplayed S M next bodies N last → IsGood S M next → IsGood S N last
replayed_good S M next [] N last replayed good = subst (λ (K : Catalog). IsGood S K last) (sym replayed.0) (subst (IsGood S M) (sym replayed.1) good)
replayed_good S M next (octets ∷ bodies) N last replayed good =
    replayed_good S replayed.0 replayed.1 bodies N last replayed.3 (right_good S M next octets replayed.0 replayed.1 replayed.2 good)
