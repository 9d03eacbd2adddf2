-- Keys are gathered, each once.
use Rattle.std.proofs.Common.{◌≡◌, ℕ, zero, suc, ◌+◌, ◌<◌, ◌≤◌, List, [], ◌∷◌, ◌++◌, Bool, true, false, ◌||◌, ◌==◌, if◌then◌else◌, length, map, take, get_or, Some, refl, sym, ap, ◌∙◌, subst, arith, append_assoc, nat_lt, ltb-true, ltb-false, lt-ltb}
use Rattle.std.specs.List.{list_any, list_all, flat_map}
use Rattle.std.proofs.Math.ListN.{set, replicate}
use Rattle.std.specs.declared.vec.Vec.{Vec}
use Rattle.std.proofs.lemmas.Bool.{and_parts, and_from}
use Rattle.std.proofs.lemmas.List.{append-nil, map-append}
use Rattle.std.proofs.lemmas.List.Folds.{list_any-append}
use Rattle.std.proofs.lemmas.List.FromFn.{get_or-map-range_with_len}
use Rattle.psdl_directory.specs.Declarations.{Declaration}
use Rattle.psdl_directory.specs.Lookup.{at}
use Rattle.psdl_directory.specs.Parts.{keys}
use Rattle.psdl_lineage.specs.Descent.{Listed, same_listed, without_known, without_repeats, ancestry, listed_key, home_keys}
use Rattle.psdl_lineage.specs.Graph.{graph_of}
use Rattle.psdl_lineage.specs.Sources.{is_own, sources_in}
use Rattle.psdl_lineage.proofs.Inherited.{inherited}
use Rattle.psdl_lineage.proofs.Listing.{map_more, take_more}
use Rattle.psdl_lineage.proofs.Repeats.{turned}
use Rattle.psdl_members.specs.declared.list_kind.ListKind.TheVariants as kinds
use Rattle.psdl_members.proofs.Listing.{keys_in, no_lists}
use Rattle.psdl_check.specs.declared.key_rows.KeyIds.{KeyIds}
use Rattle.psdl_check.specs.declared.key_rows.OwnKey.{OwnKey}
use Rattle.psdl_check.specs.inner.Gathered.{AreGathered, AreBelow, FitsIds, keyed_rows}
use Rattle.psdl_check.specs.inner.KeyIds.{id_of, own_view, own_views, HaveIds}
use Rattle.psdl_check.specs.inner.KeyRowed.{row_in, AreRows}
use Rattle.psdl_check.proofs.KeyIding.{same_id}
use Rattle.psdl_check.proofs.KeyRowing.{by_test, row_past}
use Rattle.psdl_check.proofs.Marking.{one_marked}

-- ---- one more of a list of which each is kept once

module _ {A : Type 0} (same : A → A → Bool) where
  abbrev unless : Bool → A → List A
  unless b v = if b then [] else v ∷ []

  moved : (a b c : Bool) → ((a || b) || c) ≡ (b || (a || c))
  moved true true c = refl
  moved true false c = refl
  moved false true c = refl
  moved false false c = refl

  one_known_more : (known xs : List A) (v : A) → without_known same known (xs ++ v ∷ []) ≡ without_known same known xs ++ unless (list_any (same v) known || list_any (same v) (without_known same known xs)) v
  one_known_more known [] v = by (list_any (same v) known)
    where
      by : (b : Bool) → (if b then [] else v ∷ []) ≡ unless (b || false) v
      by true = refl
      by false = refl
  one_known_more known (x ∷ xs) v = by (list_any (same x) known) (one_known_more known xs v) (one_known_more (x ∷ known) xs v)
    where
      by : (b : Bool) → without_known same known (xs ++ v ∷ []) ≡ without_known same known xs ++ unless (list_any (same v) known || list_any (same v) (without_known same known xs)) v
          → without_known same (x ∷ known) (xs ++ v ∷ []) ≡ without_known same (x ∷ known) xs ++ unless (list_any (same v) (x ∷ known) || list_any (same v) (without_known same (x ∷ known) xs)) v
          → (if b then without_known same known (xs ++ v ∷ []) else x ∷ without_known same (x ∷ known) (xs ++ v ∷ []))
          ≡ (if b then without_known same known xs else x ∷ without_known same (x ∷ known) xs) ++ unless (list_any (same v) known || list_any (same v) (if b then without_known same known xs else x ∷ without_known same (x ∷ known) xs)) v
      by true here there = here
      by false here there =
          ap (λ l. x ∷ l) there
          ∙ ap (λ b. x ∷ (without_known same (x ∷ known) xs ++ unless b v)) (moved (same v x) (list_any (same v) known) (list_any (same v) (without_known same (x ∷ known) xs)))

  pub one_more_once : (xs : List A) (v : A) → without_repeats same (xs ++ v ∷ []) ≡ without_repeats same xs ++ unless (list_any (same v) (without_repeats same xs)) v
  one_more_once xs v = one_known_more [] xs v

-- ---- by number

pub any_id : (ids : KeyIds) (v : Listed) (i : ℕ) (ks : List OwnKey) → id_of ids v ≡ Some i → HaveIds ids ks → list_any (same_listed v) (own_views ks) ≡ list_any (λ k. k.id == i) ks
any_id ids v i [] e have = refl
any_id ids v i (k ∷ ks) e have =
    let first : Some k.id ≡ id_of ids (own_view k) = cc in
    let rest : HaveIds ids ks = cc in
    ap (λ b. b || list_any (same_listed v) (own_views ks)) (sym (same_id ids v (own_view k) i k.id e (sym first)) ∙ turned i k.id)
    ∙ ap (λ b. (k.id == i) || b) (any_id ids v i ks e rest)

module _ (ids : KeyIds) (marks : List Bool) (found : List OwnKey) (all : List Listed) (key : OwnKey) (below : key.id < length marks) (numbered : id_of ids (own_view key) ≡ Some key.id) (are : AreGathered ids marks found all) where
  there : list_any (same_listed (own_view key)) (without_repeats same_listed all) ≡ get_or marks key.id false
  there = ap (list_any (same_listed (own_view key))) (sym are.once) ∙ any_id ids (own_view key) key.id found numbered are.numbered ∙ sym (are.marked key.id below)

  -- a key that is there already
  pub again : get_or marks key.id false ≡ true → AreGathered ids marks found (all ++ own_view key ∷ [])
  again on = record {
    once = are.once ∙ sym (one_more_once same_listed all (own_view key) ∙ ap (λ b. without_repeats same_listed all ++ unless same_listed b (own_view key)) (there ∙ on) ∙ append-nil (without_repeats same_listed all));
    numbered = are.numbered;
    marked = are.marked;
  }

  either : (a b : Bool) → (if b then true else a) ≡ (a || (b || false))
  either true true = refl
  either true false = refl
  either false true = refl
  either false false = refl

  length-set : (ms : List Bool) (i : ℕ) → length (set ms i true) ≡ length ms
  length-set [] i = refl
  length-set (m ∷ ms) zero = refl
  length-set (m ∷ ms) (suc i) = ap suc (length-set ms i)

  -- a new one
  pub anew : get_or marks key.id false ≡ false → AreGathered ids (set marks key.id true) (found ++ key ∷ []) (all ++ own_view key ∷ [])
  anew off = record {
    once = map-append own_view found (key ∷ []) ∙ ap (λ l. l ++ own_view key ∷ []) are.once
        ∙ sym (one_more_once same_listed all (own_view key) ∙ ap (λ b. without_repeats same_listed all ++ unless same_listed b (own_view key)) (there ∙ off));
    numbered = map-append (λ (k : OwnKey). Some k.id) found (key ∷ []) ∙ ap (λ l. l ++ Some key.id ∷ []) are.numbered
        ∙ ap (λ o. map (id_of ids) (own_views found) ++ o ∷ []) (sym numbered)
        ∙ sym (ap (map (id_of ids)) (map-append own_view found (key ∷ [])) ∙ map-append (id_of ids) (own_views found) (own_view key ∷ []));
    marked = λ n lt.
        let within : n < length marks = omega (arith, lt, length-set marks key.id) in
        one_marked marks key.id n below ∙ ap (λ b. if key.id == n then true else b) (are.marked n within) ∙ either (list_any (λ k. k.id == n) found) (key.id == n)
        ∙ sym (list_any-append (λ (k : OwnKey). k.id == n) found (key ∷ []));
  }

-- ---- all keys of bodies

pub none_gathered : (ids : KeyIds) (marks : List Bool) → ((n : ℕ) → get_or marks n false ≡ false) → AreGathered ids marks [] []
none_gathered ids marks off = record { once = refl; numbered = refl; marked = λ n lt. off n }

pub all_off : (ms : List Bool) (n : ℕ) → get_or (map (λ _. false) ms) n false ≡ false
all_off [] n = refl
all_off (m ∷ ms) zero = refl
all_off (m ∷ ms) (suc n) = all_off ms n

pub id_at : (ids : KeyIds) (ks : List OwnKey) (i : ℕ) (k : OwnKey) → HaveIds ids ks → i < length ks → k ≡ get_or ks i k → id_of ids (own_view k) ≡ Some k.id
id_at ids [] i k have lt is = absurd (omega (arith, lt))
id_at ids (x ∷ ks) zero k have lt is =
    let first : Some x.id ≡ id_of ids (own_view x) = cc in
    subst (λ (y : OwnKey). id_of ids (own_view y) ≡ Some y.id) (sym is) (sym first)
id_at ids (x ∷ ks) (suc i) k have lt is =
    let rest : HaveIds ids ks = cc in
    id_at ids ks i k rest (omega (arith, lt)) is

pub below_at_key : (count : ℕ) (ks : List OwnKey) (i : ℕ) (k : OwnKey) → AreBelow count ks → i < length ks → k ≡ get_or ks i k → k.id < count
below_at_key count [] i k all lt is = absurd (omega (arith, lt))
below_at_key count (x ∷ ks) zero k all lt is =
    let both = and_parts (nat_lt x.id count) (list_all (λ k. nat_lt k.id count) ks) all in
    subst (λ (y : OwnKey). y.id < count) (sym is) (ltb-true x.id count both.0)
below_at_key count (x ∷ ks) (suc i) k all lt is =
    let both = and_parts (nat_lt x.id count) (list_all (λ k. nat_lt k.id count) ks) all in
    below_at_key count ks i k both.1 (omega (arith, lt)) is

pub keys_more : (all : List Listed) (ks : List OwnKey) (i : ℕ) (k : OwnKey) → i < length ks → k ≡ get_or ks i k → (all ++ own_views (take i ks)) ++ own_view k ∷ [] ≡ all ++ own_views (take (i + 1) ks)
keys_more all ks i k lt is =
    append_assoc all (own_views (take i ks)) (own_view k ∷ []) ∙ ap (λ l. all ++ l) (ap (λ (y : OwnKey). own_views (take i ks) ++ own_view y ∷ []) is ∙ sym (map_more own_view ks i k lt))

flat_one : {A : Type 0} (f : ℕ → List A) (ns : List ℕ) (n : ℕ) → flat_map f (ns ++ n ∷ []) ≡ flat_map f ns ++ f n
flat_one f [] n = append-nil (f n)
flat_one f (m ∷ ns) n = ap (λ l. f m ++ l) (flat_one f ns n) ∙ sym (append_assoc (f m) (flat_map f ns) (f n))

pub bodies_more : (f : ℕ → List Listed) (all : List Listed) (ns : List ℕ) (i n d : ℕ) → i < length ns → n ≡ get_or ns i d → (all ++ flat_map f (take i ns)) ++ f n ≡ all ++ flat_map f (take (i + 1) ns)
bodies_more f all ns i n d lt is =
    append_assoc all (flat_map f (take i ns)) (f n) ∙ ap (λ l. all ++ l) (sym (flat_one f (take i ns) n) ∙ ap (λ m. flat_map f (take i ns ++ m ∷ [])) is ∙ ap (flat_map f) (sym (take_more ns i d lt)))

-- the numbers of all keys are marked for
pub row_below : (ids : KeyIds) (count : ℕ) (ks : List OwnKey) → FitsIds ids count → HaveIds ids ks → AreBelow count ks
row_below ids count [] fits have = refl
row_below ids count (k ∷ ks) fits have =
    let first : Some k.id ≡ id_of ids (own_view k) = cc in
    let rest : HaveIds ids ks = cc in
    and_from (nat_lt k.id count) (list_all (λ j. nat_lt j.id count) ks) (lt-ltb k.id count (fits (own_view k) k.id (sym first))) (row_below ids count ks fits rest)

flat_same : (f g : ℕ → List Listed) → ((n : ℕ) → f n ≡ g n) → (ns : List ℕ) → flat_map f ns ≡ flat_map g ns
flat_same f g same [] = refl
flat_same f g same (n ∷ ns) = ap (λ l. l ++ flat_map f ns) (same n) ∙ ap (λ l. g n ++ l) (flat_same f g same ns)

module _ {Z : Type 0} (all : List Declaration) (ids : KeyIds) (rows : List (Vec OwnKey Z)) (are : AreRows all ids rows) where
  row_is : (n : ℕ) → own_views (row_in rows n) ≡ map listed_key (keys (at all n).what)
  row_is n =
      by_test (length all) n (λ le. ap own_views (row_past rows n (omega (arith, le, are.sized))) ∙ sym (no_lists kinds.Key all n le) ∙ keys_in (at all n).what)
      (λ lt. are.views n lt ∙ keys_in (at all n).what)

  -- the keys of a home
  pub home_keys_are : (own : List Bool) (graph : List (List ℕ)) (home : ℕ) (bodies : List ℕ) (views : List Listed) → ((n : ℕ) → is_own own n ≡ false → row_in rows n ≡ []) → graph ≡ graph_of all → bodies ≡ sources_in graph own home
      → views ≡ without_repeats same_listed (flat_map (λ n. own_views (row_in rows n)) bodies) → views ≡ home_keys all home
  home_keys_are own graph home bodies views flagged g b is =
      let each : ℕ → List Listed = λ n. own_views (row_in rows n) in
      is ∙ ap (λ l. without_repeats same_listed (flat_map each l)) (b ∙ ap (λ k. sources_in k own home) g)
      ∙ ap (without_repeats same_listed) (sym (inherited each all own home (λ n off. ap own_views (flagged n off))) ∙ flat_same each (λ n. map listed_key (keys (at all n).what)) row_is (ancestry all home))

some_there : {A : Type 0} (xs : List A) → nat_lt 0 (length xs) ≡ false → xs ≡ []
some_there [] e = refl
some_there (x ∷ xs) e = absurd (omega (arith, ltb-false 0 (length (x ∷ xs)) e))

-- what is not flagged has no key
pub are_flagged : {Z : Type 0} (rows : List (Vec OwnKey Z)) (count : ℕ) (own : List Bool) → length rows ≤ count → own ≡ keyed_rows rows count → (n : ℕ) → is_own own n ≡ false → row_in rows n ≡ []
are_flagged rows count own le is n off =
    by_test count n (λ past. row_past rows n (omega (arith, past, le)))
    (λ lt. some_there (row_in rows n) (sym (ap (λ l. get_or l n false) is ∙ get_or-map-range_with_len (λ m. nat_lt 0 (length (row_in rows m))) 0 count n n false lt (omega arith)) ∙ off))

pub length-cleared : (ms : List Bool) → length (map (λ _. false) ms) ≡ length ms
length-cleared [] = refl
length-cleared (m ∷ ms) = ap suc (length-cleared ms)

length-replicate : (k : ℕ) → length (replicate k false) ≡ k
length-replicate zero = refl
length-replicate (suc k) = ap suc (length-replicate k)

pub length-off : (marks : List Bool) (k n : ℕ) → marks ≡ replicate k false → n < k → n < length marks
length-off marks k n is lt = omega (arith, ap length is, length-replicate k, lt)
