-- Net changes are changes that storage homes apply.
use Rattle.std.proofs.Common.{◌≡◌, ◌<◌, ℕ, ◌+◌, Bool, true, false, cond, ◌&&◌, List, [], ◌∷◌, map, Option, Some, None, refl, sym, ap, subst, ◌∙◌, arith}
use Rattle.std.specs.Prelude.{filter, T}
use Rattle.std.specs.FinMap.{get, entries, entries_sorted, get-entries, find, is_sorted}
use Rattle.std.specs.FinMap.Entries.{below_all}
use Rattle.std.specs.Option.{option_map, is_some}
use Rattle.std.specs.Ordering.{nat_cmp, eq_by_cmp}
use Rattle.std.specs.Str.{bytes_eq}
use Rattle.std.proofs.lemmas.Bool.Decides.{nat_tests}
use Rattle.type_layout.specs.declared.key.KeyNo.{KeyNo}
use Rattle.type_layout.specs.declared.schema.Home.{Home}
use Rattle.type_layout.specs.declared.schema.Schema.{Schema}
use Rattle.type_layout.specs.Keys.{key_bytes}
use Rattle.type_layout.specs.Schemas.{given, keys_at}
use Rattle.type_layout.specs.Sound.{IsSoundSchema, are_distinct, key_name}
use Rattle.type_layout.specs.Types.{PlainValue}
use Rattle.pss_catalog.specs.Catalog.{Object, Catalog, EachObject, object_spelling}
use Rattle.pss_catalog.specs.Changes.{Change as Step}
use Rattle.storage_home.specs.declared.change.Change.{Change}
use Rattle.storage_home.specs.Applied.{IsState, AreKeysOf, IsChange, AreChanges}
use Rattle.storage_home.specs.Indexes.{IsOnce}
use Rattle.pss_machine.specs.Changes.{Changes, change_of, listed}
use Rattle.pss_machine.proofs.Found.{first, second}
use Rattle.pss_laws.proofs.Logic.{and_left, and_right}
use Rattle.owner_view.specs.Keyed.{keyed, keys_of}
use Rattle.owner_view.specs.Net.{is_net, net_of, IsNet, AreNet, home_left}
use Rattle.owner_view.specs.Seen.{Fits}
use Rattle.owner_view.proofs.Freeing.{named_once, not_true}
use Rattle.owner_view.proofs.Merging.{Rises, less_is}
use Rattle.owner_view.proofs.Owning.{lists_keyed, lists_held}
use Rattle.owner_view.proofs.Told.{apart, same_place}

-- ---- the keys of an object

once_keyed : (S : Schema) (values : List PlainValue) (keys : List KeyNo) → are_distinct bytes_eq (map (key_name S) keys) ≡ true → IsOnce (keyed S values keys)
once_keyed S values [] distinct = tt
once_keyed S values (k ∷ keys) distinct = (
  lists_keyed S values keys k (key_bytes S k values) ∙ ap (λ (b : Bool). b && bytes_eq (key_bytes S k values) (key_bytes S k values)) (named_once S k keys (not_true _ (and_left _ _ distinct))),
  once_keyed S values keys (and_right _ _ distinct),
)

abbrev FitsState : Schema → Option Object → Type 0
FitsState S state = (x : Object) → state ≡ Some x → Fits S x

keys_wanted : (S : Schema) → IsSoundSchema S → (state : Option Object) → FitsState S state → AreKeysOf S state (keys_of S state)
keys_wanted S sound None fits = record { listed = λ key bytes. refl; once = tt }
keys_wanted S sound (Some x) fits =
    let own = fits x refl in
    record {
      listed = λ key bytes. lists_held S x key bytes;
      once = once_keyed S x.values (keys_at S x.home) (subst (λ (o : Option Home). are_distinct bytes_eq (map (key_name S) (given o [] (λ (h : Home). h.keys))) ≡ true) (sym own.there) (sound.key_names x.home own.home own.there));
    }

-- ---- one change

state_wanted : (S : Schema) (state old : Option Object) (home : ℕ) → FitsState S state → home ≡ home_left state old → IsState S home (option_map (object_spelling S) state) state
state_wanted S None old home fits is = tt
state_wanted S (Some x) old home fits is = (let own = fits x refl in (sym is, (ap is_some own.there, own.is_record), refl))

module _ (S : Schema) (M : Catalog) (sound : IsSoundSchema S) (committed : EachObject M (λ serial object. Fits S object)) where
  change_wanted : (d : Step) (c : Change) → FitsState S d.state → IsNet S M d c → IsChange S M c d
  change_wanted d c fits net = record {
    step_is = (net.serial, subst (λ (b : Option (List ℕ)). IsState S c.put.home b d.state) (sym net.bytes) (state_wanted S d.state (get M d.serial) c.put.home fits net.home));
    old_keys = subst (AreKeysOf S (get M d.serial)) (sym net.old_keys) (keys_wanted S sound (get M d.serial) (λ x is. committed d.serial x is));
    new_keys = subst (AreKeysOf S d.state) (sym net.new_keys) (keys_wanted S sound d.state fits);
  }

  abbrev AllFit : List Step → Type 0
  AllFit [] = Unit {0}
  AllFit (d ∷ ds) = FitsState S d.state × AllFit ds

  all_wanted : (ds : List Step) (cs : List Change) → AllFit ds → AreNet S M ds cs → AreChanges S M cs ds
  all_wanted [] [] fit net = tt
  all_wanted [] (c ∷ cs) fit net = absurd net
  all_wanted (d ∷ ds) [] fit net = absurd net
  all_wanted (d ∷ ds) (c ∷ cs) fit net = (change_wanted d c fit.0 net.0, all_wanted ds cs fit.1 net.1)

  some_fit : (test : Step → Bool) (ds : List Step) → AllFit ds → AllFit (filter test ds)
  some_fit test [] fit = tt
  some_fit test (d ∷ ds) fit = by (test d) (some_fit test ds fit.1)
    where
      by : (b : Bool) → AllFit (filter test ds) → AllFit (cond b (d ∷ filter test ds) (filter test ds))
      by true rest = (fit.0, rest)
      by false rest = rest

  -- ---- changes by serial

  own_place : (q : ℕ) → eq_by_cmp nat_cmp q q ≡ true
  own_place q = grind (arith, nat_tests)

  abbrev Entries : Type 0
  Entries = List (ℕ × Option Object)

  rise_above : (s : ℕ) (es : Entries) → T (below_all nat_cmp s es) → T (is_sorted nat_cmp es) → Rises (s + 1) (map change_of es)
  rise_above s [] low h = tt
  rise_above s (e ∷ es) low h = (let lt = less_is s e.0 (first _ _ low) in omega (arith, lt), rise_above e.0 es (first (below_all nat_cmp e.0 es) _ h) (second (below_all nat_cmp e.0 es) _ h))

  rise_listed : (es : Entries) → T (is_sorted nat_cmp es) → Rises 0 (map change_of es)
  rise_listed [] h = tt
  rise_listed (e ∷ es) h = (omega arith, rise_above e.0 es (first (below_all nat_cmp e.0 es) _ h) (second (below_all nat_cmp e.0 es) _ h))

  none_below : (s n : ℕ) (es : Entries) → s < n → Rises n (map change_of es) → find nat_cmp s es ≡ None
  none_below s n [] lt h = refl
  none_below s n (e ∷ es) lt h =
      let le = h.0 in
      ap (λ (b : Bool). cond b (Some e.1) (find nat_cmp s es)) (apart s e.0 (omega (arith, lt, le))) ∙ none_below s (e.0 + 1) es (omega (arith, lt, le)) h.1

  abbrev FoundFit : Entries → Type 0
  FoundFit es = (s : ℕ) (x : Object) → find nat_cmp s es ≡ Some (Some x) → Fits S x

  found_behind : (e : ℕ × Option Object) (es : Entries) → Rises (e.0 + 1) (map change_of es) → FoundFit (e ∷ es) → FoundFit es
  found_behind e es rise fit s x found = by (eq_by_cmp nat_cmp s e.0) refl
    where
      by : (b : Bool) → eq_by_cmp nat_cmp s e.0 ≡ b → Fits S x
      by true is =
          let none : find nat_cmp s es ≡ None = none_below s (e.0 + 1) es (let same = same_place s e.0 is in omega (arith, same)) rise in
          let wrong : None ≡ Some (Some x) = sym none ∙ found in
          absurd cc
      by false is = fit s x (ap (λ (b : Bool). cond b (Some e.1) (find nat_cmp s es)) is ∙ found)

  entries_fit : (n : ℕ) (es : Entries) → Rises n (map change_of es) → FoundFit es → AllFit (map change_of es)
  entries_fit n [] rise fit = tt
  entries_fit n (e ∷ es) rise fit = (
    λ x is. fit e.0 x (ap (λ (b : Bool). cond b (Some e.1) (find nat_cmp e.0 es)) (own_place e.0) ∙ ap (λ (o : Option Object). Some o) is),
    entries_fit (e.0 + 1) es rise.1 (found_behind e es rise.1 fit),
  )

  -- what storage homes ask of changes holds of the net ones
  pub net_wanted : (changes : Changes) (cs : List Change) → ((s : ℕ) (x : Object) → get changes s ≡ Some (Some x) → Fits S x) → AreNet S M (net_of M changes) cs → AreChanges S M cs (net_of M changes)
  net_wanted changes cs fits net =
      all_wanted (net_of M changes) cs
      (some_fit (is_net M) (listed changes) (entries_fit 0 (entries changes) (rise_listed (entries changes) (entries_sorted changes)) (λ s x found. fits s x (get-entries changes s ∙ found))))
      net
