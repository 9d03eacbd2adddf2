-- The objects of pages are those of a catalog.
use Rattle.std.proofs.Common.{ℕ, ◌≡◌, ◌==◌, Bool, true, false, cond, List, [], ◌∷◌, ◌++◌, map, Option, None, Some, IsSome, eq-eqb, refl, sym, ap, ◌∙◌, subst}
use Rattle.std.proofs.lemmas.Bool.{eqb-true}
use Rattle.std.specs.Cmp.{nat_cmp_total}
use Rattle.std.specs.FinMap.{empty, get, get-empty, insert, nat_cmp-IsAntisymmetric, same_map}
use Rattle.std.specs.Option.{option_map}
use Rattle.std.specs.Ordering.{nat_cmp}
use Rattle.pss_base.specs.declared.put.Put.{Put}
use Rattle.type_layout.specs.declared.schema.Schema.{Schema}
use Rattle.pss_catalog.specs.Catalog.{Catalog, IsGood, Object, object_spelling}
use Rattle.pss_catalog.specs.Changes.{Change as Step, over as over_catalog, with_state}
use Rattle.pss_catalog.proofs.Uniqueness.{found_with, found_without}
use Rattle.storage_home.specs.Applied.{IsState, IsStep}
use Rattle.page_format.specs.Objects.{Objects, by_serial, over, stored_of, with_record}
use Rattle.page_format.specs.Pages.{Entry}
use Rattle.page_format.specs.Pages.{put_of}
use Rattle.page_format.specs.declared.objects.Stored.{Stored}
use Rattle.page_store.specs.inner.Located.{Apart, at, left_by}
use Rattle.page_store.proofs.ByKey.{get_entries}
use Rattle.page_store.proofs.Located.{get-over, get_rows, none_alike}
use Rattle.pss_recovery.specs.Loading.{AreLoaded, IsRow}
use Rattle.pss_recovery.specs.Noted.{AreNoted}
use Rattle.pss_recovery.specs.Replaying.{AreMade, AreReplayed, IsChanged}
use Rattle.pss_recovery.proofs.BodyParts.{one_body}

-- an object as pages have it
abbrev pub in_pages : Schema → Object → Stored
in_pages S object = record { home = object.home.0; octets = object_spelling S object }

-- pages have the objects of the catalog
abbrev pub Mirrors : Schema → Catalog → Objects → Type 0
Mirrors S M objects = (q : ℕ) → get objects q ≡ option_map (in_pages S) (get M q)

pub mirrors_none : (S : Schema) → Mirrors S empty empty
mirrors_none S q = get-empty nat_cmp q ∙ ap (option_map (in_pages S)) (sym (get-empty nat_cmp q))

-- ---- a change

module _ (S : Schema) where
  left_state : (home : ℕ) (bytes : Option (List ℕ)) (state : Option Object) → IsState S home bytes state → left_by home bytes ≡ option_map (in_pages S) state
  left_state home None None state = refl
  left_state home None (Some object) state = absurd state
  left_state home (Some octets) None state = absurd state
  left_state home (Some octets) (Some object) state = λ i. Some (record { home = sym state.0 i; octets = state.2 i })

  found_state : (A : Catalog) (s : ℕ) (state : Option Object) (q : ℕ) → get (with_state A s state) q ≡ cond (q == s) state (get A q)
  found_state A s None q = found_without A s q
  found_state A s (Some object) q = found_with A s object q

  map_either : (b : Bool) (x y : Option Object) → option_map (in_pages S) (cond b x y) ≡ cond b (option_map (in_pages S) x) (option_map (in_pages S) y)
  map_either true x y = refl
  map_either false x y = refl

  mirrors_step : (A : Catalog) (objects : Objects) (put : Put) (s : ℕ) (state : Option Object) → put.serial ≡ s → IsState S put.home put.bytes state → Mirrors S A objects → Mirrors S (with_state A s state) (with_record objects put.serial put.home put.bytes)
  mirrors_step A objects put s state same is mirrors q =
      get-over objects (put ∷ []) q ∙ ap (λ (o : Option Stored). cond (q == put.serial) o (get objects q)) (left_state put.home put.bytes state is)
      ∙ ap (cond (q == put.serial) (option_map (in_pages S) state)) (mirrors q) ∙ ap (λ (n : ℕ). cond (q == n) (option_map (in_pages S) state) (option_map (in_pages S) (get A q))) same
      ∙ sym (map_either (q == s) state (get A q)) ∙ ap (option_map (in_pages S)) (sym (found_state A s state q))

  mirrors_steps : (M : Catalog) (next : ℕ) (puts : List Put) (steps : List Step) (A : Catalog) (objects : Objects) → AreMade S M next puts steps → Mirrors S A objects → Mirrors S (over_catalog A steps) (over objects puts)
  mirrors_steps M next [] [] A objects made mirrors = mirrors
  mirrors_steps M next [] (step ∷ steps) A objects made mirrors = absurd made
  mirrors_steps M next (put ∷ puts) [] A objects made mirrors = absurd made
  mirrors_steps M next (put ∷ puts) (step ∷ steps) A objects made mirrors =
      let step_is : IsStep S put step = made.0.step_ in
      mirrors_steps M next puts steps (with_state A step.serial step.state) (with_record objects put.serial put.home put.bytes) made.1 (mirrors_step A objects put step.serial step.state step_is.0 step_is.1 mirrors)

  pub mirrors_changed : (M : Catalog) (next : ℕ) (body : _) (N : Catalog) (objects : Objects) → IsChanged S M next body N → Mirrors S M objects → Mirrors S N (over objects body.puts)
  mirrors_changed M next body N objects changed mirrors = subst (λ (K : Catalog). Mirrors S K (over objects body.puts)) (sym changed.result) (mirrors_steps M body.next body.puts changed.steps M objects changed.made mirrors)

  over_both : (objects : Objects) (xs ys : List Put) → over objects (xs ++ ys) ≡ over (over objects xs) ys
  over_both objects [] ys = refl
  over_both objects (x ∷ xs) ys = over_both (with_record objects x.serial x.home x.bytes) xs ys

  pub mirrors_replayed : (M : Catalog) (next : ℕ) (bodies : List (List ℕ)) (N : Catalog) (last : ℕ) (noted : List Put) (objects : Objects) → AreReplayed S M next bodies N last → AreNoted bodies noted → Mirrors S M objects → Mirrors S N (over objects noted)
  mirrors_replayed M next [] N last noted objects replayed are mirrors = subst (λ (puts : List Put). Mirrors S N (over objects puts)) (sym are) (subst (λ (K : Catalog). Mirrors S K objects) (sym replayed.0) mirrors)
  mirrors_replayed M next (octets ∷ bodies) N last noted objects replayed are mirrors =
      let right = replayed.2 in
      let body = are.0 in
      let rest = are.1 in
      let same = one_body octets right.body body right.spells are.2 in
      let here : Mirrors S replayed.0 (over objects body.puts) = subst (λ (b : _). Mirrors S replayed.0 (over objects b.puts)) same (mirrors_changed M next right.body replayed.0 objects right.changed mirrors) in
      let there : Mirrors S N (over (over objects body.puts) rest) = mirrors_replayed replayed.0 replayed.1 bodies N last rest (over objects body.puts) replayed.3 are.3 here in
      subst (λ (puts : List Put). Mirrors S N (over objects puts)) (sym are.4) (subst (Mirrors S N) (sym (over_both objects body.puts rest)) there)

  -- ---- rows

  mirrors_rows : (next : ℕ) (rows : List Put) (A N : Catalog) (objects : Objects) → AreLoaded S next A rows N → Mirrors S A objects → Mirrors S N (over objects rows)
  mirrors_rows next [] A N objects loaded mirrors = subst (λ (K : Catalog). Mirrors S K objects) (sym loaded) mirrors
  mirrors_rows next (row ∷ rows) A N objects loaded mirrors =
      mirrors_rows next rows (insert A row.serial loaded.0) N (with_record objects row.serial row.home row.bytes) loaded.2 (mirrors_step A objects row row.serial (Some loaded.0) refl loaded.1.stored mirrors)

  pub mirrors_loaded : (next : ℕ) (es : List Entry) (N : Catalog) → AreLoaded S next empty (map put_of es) N → Apart (map stored_of es) → Mirrors S N (by_serial es)
  mirrors_loaded next es N loaded apart q = get_entries (map stored_of es) q ∙ sym (get_rows es q apart) ∙ mirrors_rows next (map put_of es) empty N empty loaded (mirrors_none S) q

-- ---- entries in any order are rows of the catalog that they mirror

mapped : {A B : Type 0} (f : A → B) (o : Option A) (b : B) → option_map f o ≡ Some b → (a : A) × (o ≡ Some a) × (f a ≡ b)
mapped f None b e = cc
mapped f (Some a) b e = (a, refl, cc)

itself : (s : ℕ) → (s == s) ≡ true
itself s = eq-eqb s s refl

module _ (S : Schema) (next : ℕ) (N : Catalog) (good : IsGood S N next) where
  -- of a catalog that is there some objects are left, which are these entries
  record AreLeft (M : Catalog) (es : List Entry) : Type 0 where
    has : (q : ℕ) (x : Stored) → at q (map stored_of es) ≡ Some x → option_map (in_pages S) (get N q) ≡ Some x
    others : (q : ℕ) → at q (map stored_of es) ≡ None → get N q ≡ get M q
    new : (q : ℕ) (x : Stored) → at q (map stored_of es) ≡ Some x → get M q ≡ None

  module _ (M : Catalog) (e : Entry) (es : List Entry) (apart : Apart (map stored_of (e ∷ es))) (left : AreLeft M (e ∷ es)) where
    first : (q : ℕ) → (q == e.serial) ≡ true → at q (map stored_of (e ∷ es)) ≡ Some (stored_of e).1
    first q same = ap (λ b. cond b (Some (stored_of e).1) (at q (map stored_of es))) same

    rest_of : (q : ℕ) → (q == e.serial) ≡ false → at q (map stored_of (e ∷ es)) ≡ at q (map stored_of es)
    rest_of q other = ap (λ b. cond b (Some (stored_of e).1) (at q (map stored_of es))) other

    found : (object : Object) × (get N e.serial ≡ Some object) × (in_pages S object ≡ (stored_of e).1)
    found = mapped (in_pages S) (get N e.serial) (stored_of e).1 (left.has e.serial (stored_of e).1 (first e.serial (itself e.serial)))

    abbrev object : Object
    object = found.0

    was_new : get M e.serial ≡ None
    was_new = left.new e.serial (stored_of e).1 (first e.serial (itself e.serial))

    -- an object that is there already is not left
    there_too : (s : ℕ) (x : Object) → get M s ≡ Some x → get N s ≡ Some x
    there_too s x is = by (at s (map stored_of (e ∷ es))) refl
      where
        by : (o : Option Stored) → at s (map stored_of (e ∷ es)) ≡ o → get N s ≡ Some x
        by None e = left.others s e ∙ is
        by (Some y) e = let no : None ≡ Some x = sym (left.new s y e) ∙ is in absurd (cc)

    row : IsRow S next M (put_of e) object
    row = record {
      stored = (ap (λ (x : Stored). x.home) found.2, (ap-some (good.homes e.serial object found.1).1, good.records e.serial object found.1), sym (ap (λ (x : Stored). x.octets) found.2));
      refers = good.targets e.serial object found.1;
      free = λ key bytes s x there holds_x holds_it.
          let same : s ≡ e.serial = good.unique key bytes s e.serial x object (there_too s x there) found.1 holds_x holds_it in
          let no : None ≡ Some x = sym was_new ∙ ap (get M) (sym same) ∙ there in
          absurd (cc);
    }
      where
        ap-some : {A : Type 0} {o : Option A} {a : A} → o ≡ Some a → IsSome o
        ap-some e = subst IsSome (sym e) refl

    other_key : (q : ℕ) (x : Stored) → at q (map stored_of es) ≡ Some x → (q == e.serial) ≡ false
    other_key q x is = by (q == e.serial) refl
      where
        by : (b : Bool) → (q == e.serial) ≡ b → b ≡ false
        by false same = refl
        by true same = let no : None ≡ Some x = sym (none_alike q e.serial (map stored_of es) same apart.0) ∙ is in absurd (cc)

    abbrev more : Catalog
    more = insert M e.serial object

    left_on : AreLeft more es
    left_on = record {
      has = λ q x is. left.has q x (rest_of q (other_key q x is) ∙ is);
      others = λ q none. otherwise q none;
      new = λ q x is. found_with M e.serial object q ∙ ap (λ b. cond b (Some object) (get M q)) (other_key q x is) ∙ left.new q x (rest_of q (other_key q x is) ∙ is);
    }
      where
        otherwise : (q : ℕ) → at q (map stored_of es) ≡ None → get N q ≡ get more q
        otherwise q none = by (q == e.serial) refl
          where
            by : (b : Bool) → (q == e.serial) ≡ b → get N q ≡ get more q
            by true same = ap (get N) (eqb-true q e.serial same) ∙ found.1 ∙ sym (found_with M e.serial object q ∙ ap (λ b. cond b (Some object) (get M q)) same)
            by false other = left.others q (rest_of q other ∙ none) ∙ sym (found_with M e.serial object q ∙ ap (λ b. cond b (Some object) (get M q)) other)

  reload_on : (es : List Entry) (M : Catalog) → Apart (map stored_of es) → AreLeft M es → AreLoaded S next M (map put_of es) N
  reload_on [] M apart left = same_map nat_cmp_total nat_cmp-IsAntisymmetric N M (λ q. left.others q refl)
  reload_on (e ∷ es) M apart left = (object M e es apart left, row M e es apart left, reload_on es (more M e es apart left) apart.1 (left_on M e es apart left))

  -- entries that each stand once, in any order
  pub reloaded : (es : List Entry) → Apart (map stored_of es) → Mirrors S N (by_serial es) → AreLoaded S next empty (map put_of es) N
  reloaded es apart mirrors = reload_on es empty apart (record {
    has = λ q x is. sym (mirrors q) ∙ get_entries (map stored_of es) q ∙ is;
    others = λ q none. none_there q (sym (mirrors q) ∙ get_entries (map stored_of es) q ∙ none) ∙ sym (get-empty nat_cmp q);
    new = λ q x is. get-empty nat_cmp q;
  })
    where
      none_there : (q : ℕ) → option_map (in_pages S) (get N q) ≡ None → get N q ≡ None
      none_there q = by (get N q)
        where
          by : (o : Option Object) → option_map (in_pages S) o ≡ None → o ≡ None
          by None e = refl
          by (Some x) e = absurd cc
