-- A key that the base of a home has was introduced by a home in front of it.
use Rattle.std.proofs.Common.{◌≡◌, ℕ, zero, suc, ◌+◌, ◌<◌, ◌≤◌, List, [], ◌∷◌, ◌++◌, Bool, true, false, cond, not, ◌&&◌, ◌||◌, ◌==◌, Option, Some, None, length, filter, map, refl, sym, ap, ◌∙◌, arith, ⊎_elim}
use Rattle.std.specs.List.{find, flat_map, list_any, position_from, range_with_len}
use Rattle.std.specs.Option.{is_some, option_to_list}
use Rattle.std.proofs.lemmas.Bool.{and_from, cases_eq, eq-eqb, eqb-true, or_left, or_right}
use Rattle.std.proofs.lemmas.List.Concat.{flat_map-append}
use Rattle.std.proofs.lemmas.List.Folds.{list_any-append}
use Rattle.psdl_tree.specs.Trees.{Name}
use Rattle.type_layout.specs.Schemas.{given}
use Rattle.psdl_directory.specs.Declarations.{Declaration, What, IsModule, IsConstant, IsAlias, IsStruct, IsEnumeration, IsEnumerator, IsAbstractType, IsConcreteType, IsAbstractHome, IsConcreteHome, IsCatalog}
use Rattle.psdl_directory.specs.Lookup.{at, defined}
use Rattle.psdl_directory.specs.Parts.{bases, implemented, is_concrete_home, is_home, is_storage_type, parents}
use Rattle.psdl_lineage.specs.Descent.{Listed, has, ancestry, lines, definitions_of, same_listed, same_sort, base_home, concrete_homes, home_keys}
use Rattle.psdl_lineage.specs.Graph.{conforms_in, graph_of, parents_in}
use Rattle.psdl_lineage.proofs.Inherited.{homes_below}
use Rattle.psdl_lineage.proofs.Repeats.{has_here, has_later, has_once}
use Rattle.psdl_lineage.proofs.Texts.{conforms_is, length-graph_of, parents_are}
use Rattle.psdl_check.specs.Schemas.{Introduced, introduced}
use Rattle.psdl_check.specs.inner.HeldKeys.{base_has}
use Rattle.psdl_check.specs.inner.Numbering.{HasNumber}
use Rattle.psdl_check.specs.inner.Rising.{IsRising}
use Rattle.psdl_check.proofs.Descent.{conforms_by}
use Rattle.psdl_check.proofs.KeyIding.{listed_is, listed_itself}

-- ---- lists in which one passes

false_true : false ≡ true → ⊥
false_true e = cc

pub any_left : {A : Type 0} (test : A → Bool) (xs ys : List A) → list_any test xs ≡ true → list_any test (xs ++ ys) ≡ true
any_left test xs ys h = list_any-append test xs ys ∙ or_left (list_any test xs) (list_any test ys) h

pub any_right : {A : Type 0} (test : A → Bool) (xs ys : List A) → list_any test ys ≡ true → list_any test (xs ++ ys) ≡ true
any_right test xs ys h = list_any-append test xs ys ∙ or_right (list_any test xs) (list_any test ys) h

-- what passes has a place
pub place_of_any : {A : Type 0} (test : A → Bool) (i : ℕ) (xs : List A) → list_any test xs ≡ true → is_some (position_from test i xs) ≡ true
place_of_any test i [] h = absurd (cc)
place_of_any test i (x ∷ xs) h = by (test x) h (λ later. place_of_any test (i + 1) xs later)
  where
    by : (b : Bool) → b || list_any test xs ≡ true → (list_any test xs ≡ true → is_some (position_from test (i + 1) xs) ≡ true) → is_some (cond b (Some i) (position_from test (i + 1) xs)) ≡ true
    by true h rest = refl
    by false h rest = rest h

any_flat : {A : Type 0} (test : A → Bool) (f : ℕ → List A) (gs : List ℕ) (g : ℕ) → has gs g ≡ true → list_any test (f g) ≡ true → list_any test (flat_map f gs) ≡ true
any_flat test f [] g there h = absurd (cc)
any_flat test f (x ∷ gs) g there h = by (x == g) refl there (λ t. any_flat test f gs g t h)
  where
    by : (b : Bool) → (x == g) ≡ b → b || has gs g ≡ true → (has gs g ≡ true → list_any test (flat_map f gs) ≡ true) → list_any test (f x ++ flat_map f gs) ≡ true
    by true e t rest = any_left test (f x) (flat_map f gs) (ap (λ (n : ℕ). list_any test (f n)) (eqb-true x g e) ∙ h)
    by false e t rest = any_right test (f x) (flat_map f gs) (rest t)

any_of : (f : ℕ → Bool) (ps : List ℕ) (p : ℕ) → has ps p ≡ true → f p ≡ true → list_any f ps ≡ true
any_of f [] p there h = absurd (cc)
any_of f (x ∷ ps) p there h = by (x == p) refl there (λ t. any_of f ps p t h)
  where
    by : (b : Bool) → (x == p) ≡ b → b || has ps p ≡ true → (has ps p ≡ true → list_any f ps ≡ true) → f x || list_any f ps ≡ true
    by true e t rest = or_left (f x) (list_any f ps) (ap f (eqb-true x p e) ∙ h)
    by false e t rest = or_right (f x) (list_any f ps) (rest t)

-- ---- filters

found : (test : ℕ → Bool) (xs : List ℕ) (b : ℕ) → find test xs ≡ Some b → (has xs b ≡ true) × (test b ≡ true)
found test [] b e = absurd (cc)
found test (x ∷ xs) b e = by (test x) refl e (λ later. found test xs b later)
  where
    by : (c : Bool) → test x ≡ c → cond c (Some x) (find test xs) ≡ Some b → (find test xs ≡ Some b → (has xs b ≡ true) × (test b ≡ true)) → (has (x ∷ xs) b ≡ true) × (test b ≡ true)
    by true on e rest = let same : x ≡ b = cc in (or_left (x == b) (has xs b) (eq-eqb x b same), ap test (sym same) ∙ on)
    by false off e rest = let later = rest e in (has_later x b xs later.0, later.1)

passes_through : (test : ℕ → Bool) (xs : List ℕ) (b : ℕ) → has xs b ≡ true → test b ≡ true → has (filter test xs) b ≡ true
passes_through test [] b h on = absurd (cc)
passes_through test (x ∷ xs) b h on = by (test x) (x == b) refl refl h (λ later. passes_through test xs b later on)
  where
    by : (c d : Bool) → test x ≡ c → (x == b) ≡ d → d || has xs b ≡ true → (has xs b ≡ true → has (filter test xs) b ≡ true) → has (cond c (x ∷ filter test xs) (filter test xs)) b ≡ true
    by true true p q h rest = or_left (x == b) (has (filter test xs) b) q
    by true false p q h rest = has_later x b (filter test xs) (rest h)
    by false true p q h rest = absurd (false_true (sym p ∙ ap test (eqb-true x b q) ∙ on))
    by false false p q h rest = rest h

passes : (test : ℕ → Bool) (xs : List ℕ) (b : ℕ) → has (filter test xs) b ≡ true → test b ≡ true
passes test [] b h = absurd (cc)
passes test (x ∷ xs) b h = by (test x) refl h (λ later. passes test xs b later)
  where
    here : (d : Bool) → test x ≡ true → (x == b) ≡ d → d || has (filter test xs) b ≡ true → (has (filter test xs) b ≡ true → test b ≡ true) → test b ≡ true
    here true p q h rest = ap test (sym (eqb-true x b q)) ∙ p
    here false p q h rest = rest h

    by : (c : Bool) → test x ≡ c → has (cond c (x ∷ filter test xs) (filter test xs)) b ≡ true → (has (filter test xs) b ≡ true → test b ≡ true) → test b ≡ true
    by true p h rest = here (x == b) p refl h rest
    by false p h rest = rest h

-- what passes below an element stands in front of it
in_front : (test : ℕ → Bool) (k a g h : ℕ) (homes more : List ℕ) → filter test (range_with_len a k) ≡ (homes ++ h ∷ []) ++ more → a ≤ g → g < h → test g ≡ true → has homes g ≡ true
in_front test zero a g h [] more e le lt on = absurd (cc)
in_front test zero a g h (x ∷ homes) more e le lt on = absurd (cc)
in_front test (suc k) a g h homes more e le lt on = by (test a) refl homes e (λ hs rest le. in_front test k (a + 1) g h hs more rest le lt on)
  where
    by : (c : Bool) → test a ≡ c → (hs : List ℕ) → cond c (a ∷ filter test (range_with_len (a + 1) k)) (filter test (range_with_len (a + 1) k)) ≡ (hs ++ h ∷ []) ++ more
        → ((hs : List ℕ) → filter test (range_with_len (a + 1) k) ≡ (hs ++ h ∷ []) ++ more → a + 1 ≤ g → has hs g ≡ true) → has hs g ≡ true
    by true p [] e next = let same : a ≡ h = cc in absurd (omega (arith, same, le, lt))
    by true p (x ∷ hs) e next =
        let same : a ≡ x = cc in
        let rest : filter test (range_with_len (a + 1) k) ≡ (hs ++ h ∷ []) ++ more = cc in
        ⊎_elim (λ is. or_left (x == g) (has hs g) (eq-eqb x g (sym same ∙ is))) (λ other. has_later x g hs (next hs rest (omega (arith, other, le)))) (cases_eq a g)
    by false p hs e next = ⊎_elim (λ is. absurd (false_true (sym p ∙ ap test is ∙ on))) (λ other. next hs e (omega (arith, other, le))) (cases_eq a g)

-- ---- what descends from what

-- a definition descends from itself
pub from_itself : (all : List Declaration) (n : ℕ) → has (ancestry all n) n ≡ true
unfolding ancestry
from_itself all n = by (length all)
  where
    by : (fuel : ℕ) → has (lines fuel all (n ∷ []) n) n ≡ true
    by zero = has_here n []
    by (suc fuel) =
        let front : List ℕ = flat_map (λ p. lines fuel all (p ∷ n ∷ []) p) (filter (λ p. not (has (n ∷ []) p)) (definitions_of all n (parents (at all n).what))) in
        has_once (front ++ n ∷ []) n ∙ any_right (λ m. m == n) front (n ∷ []) (has_here n [])

concrete_is_home : (what : What) → is_concrete_home what ≡ true → is_home what ≡ true
concrete_is_home (IsConcreteHome home) is = refl
concrete_is_home IsModule is = absurd (cc)
concrete_is_home (IsConstant constant) is = absurd (cc)
concrete_is_home (IsAlias before spec dimensions) is = absurd (cc)
concrete_is_home (IsStruct struct) is = absurd (cc)
concrete_is_home (IsEnumeration enumerators) is = absurd (cc)
concrete_is_home IsEnumerator is = absurd (cc)
concrete_is_home (IsAbstractType body) is = absurd (cc)
concrete_is_home (IsConcreteType body) is = absurd (cc)
concrete_is_home (IsAbstractHome body) is = absurd (cc)
concrete_is_home (IsCatalog provisions) is = absurd (cc)

-- ---- keys that a home introduces

-- of the keys of a home those that the base does not have
new_key : (anc : ℕ → Bool) (p : Listed → Bool) (h : ℕ) (l : Listed) (ks : List Listed) → anc h ≡ true → list_any (same_listed l) ks ≡ true → p l ≡ true
    → list_any (λ (i : Introduced). anc i.home && same_listed l i.listed) (map (λ (k : Listed). record { home = h; listed = k }) (filter p ks)) ≡ true
new_key anc p h l [] from a on = absurd (cc)
new_key anc p h l (k ∷ ks) from a on = by (p k) (same_listed l k) refl refl a (λ later. new_key anc p h l ks from later on)
  where
    test : Introduced → Bool
    test i = anc i.home && same_listed l i.listed

    made : Listed → Introduced
    made k = record { home = h; listed = k }

    by : (c d : Bool) → p k ≡ c → same_listed l k ≡ d → d || list_any (same_listed l) ks ≡ true → (list_any (same_listed l) ks ≡ true → list_any test (map made (filter p ks)) ≡ true) → list_any test (map made (cond c (k ∷ filter p ks) (filter p ks))) ≡ true
    by true true e s a rest = or_left (anc h && same_listed l k) (list_any test (map made (filter p ks))) (and_from (anc h) (same_listed l k) from s)
    by true false e s a rest = or_right (anc h && same_listed l k) (list_any test (map made (filter p ks))) (rest a)
    by false true e s a rest = absurd (false_true (sym e ∙ ap p (sym (listed_is l k s)) ∙ on))
    by false false e s a rest = rest a

-- one that its base does not have is among them
pub own_among : (all : List Declaration) (anc : ℕ → Bool) (h : ℕ) (l : Listed) → anc h ≡ true → list_any (same_listed l) (home_keys all h) ≡ true → base_has all (base_home all h) l ≡ false
    → list_any (λ (i : Introduced). anc i.home && same_listed l i.listed) (introduced all h) ≡ true
own_among all anc h l from a off = new_key anc (λ k. not (base_has all (base_home all h) k)) h l (home_keys all h) from a (ap not off)

-- the home that introduced a key of a home
record From (all : List Declaration) (b : ℕ) (l : Listed) : Type 0 where
  origin : ℕ
  not_behind : origin ≤ b
  is_home : is_concrete_home (at all origin).what ≡ true
  above : has (ancestry all b) origin ≡ true
  introduces : (anc : ℕ → Bool) → anc origin ≡ true → list_any (λ (i : Introduced). anc i.home && same_listed l i.listed) (introduced all origin) ≡ true

module _ (all : List Declaration) (rising : IsRising (graph_of all)) where
  base_parent : (h b : ℕ) → is_concrete_home (at all h).what ≡ true → base_home all h ≡ Some b → (has (parents_in (graph_of all) h) b ≡ true) × (is_concrete_home (at all b).what ≡ true)
  base_parent h b home is =
      let what : What = (at all h).what in
      let means : Name → List ℕ = λ name. option_to_list (defined all h name) in
      let base = found (λ m. is_concrete_home (at all m).what) (flat_map means (bases what)) b is in
      let among : has (flat_map means (parents what)) b ≡ true = ap (λ (l : List ℕ). has l b) (flat_map-append means (bases what) (implemented what)) ∙ any_left (λ m. m == b) (flat_map means (bases what)) (flat_map means (implemented what)) base.0 in
      let sort : same_sort what (at all b).what ≡ true =
      or_right (is_storage_type what && is_storage_type (at all b).what) (is_home what && is_home (at all b).what) (and_from (is_home what) (is_home (at all b).what) (concrete_is_home what home) (concrete_is_home (at all b).what base.1)) in
      (ap (λ (l : List ℕ). has l b) (parents_are all h) ∙ passes_through (λ m. same_sort what (at all m).what) (flat_map means (parents what)) b among sort, base.1)

  upwards : (h b g : ℕ) → h < length all → has (parents_in (graph_of all) h) b ≡ true → has (ancestry all b) g ≡ true → has (ancestry all h) g ≡ true
  upwards h b g lt parent there =
      conforms_is all h g ∙ conforms_by (graph_of all) h g rising (omega (arith, lt, length-graph_of all))
      ∙ or_right (h == g) (list_any (λ p. conforms_in (graph_of all) p g) (parents_in (graph_of all) h)) (any_of (λ p. conforms_in (graph_of all) p g) (parents_in (graph_of all) h) b parent (sym (conforms_is all b g) ∙ there))

  line : (n b : ℕ) (l : Listed) → b < n → b < length all → is_concrete_home (at all b).what ≡ true → list_any (same_listed l) (home_keys all b) ≡ true → From all b l
  line zero b l low lt home keyed = absurd (omega (arith, low))
  line (suc n) b l low lt home keyed = by (base_has all (base_home all b) l) refl (λ p. line n p l)
    where
      Next : Type 0
      Next = (p : ℕ) → p < n → p < length all → is_concrete_home (at all p).what ≡ true → list_any (same_listed l) (home_keys all p) ≡ true → From all p l

      of_base : Next → (o : Option ℕ) → base_home all b ≡ o → list_any (same_listed l) (given o [] (home_keys all)) ≡ true → From all b l
      of_base next None e on = absurd (cc)
      of_base next (Some p) e on =
          let parent = base_parent b p home e in
          let front : p < b = rising b p parent.0 in
          let r = next p (omega (arith, front, low)) (omega (arith, front, lt)) parent.1 on in
          record { origin = r.origin; not_behind = omega (arith, r.not_behind, front); is_home = r.is_home; above = upwards b p r.origin lt parent.0 r.above; introduces = r.introduces }

      by : (c : Bool) → base_has all (base_home all b) l ≡ c → Next → From all b l
      by true e next = of_base next (base_home all b) refl e
      by false e next = record { origin = b; not_behind = omega arith; is_home = home; above = from_itself all b; introduces = λ anc from. own_among all anc b l from keyed e }

  -- the key has a number among those of the homes in front
  pub base_numbered : (homes more : List ℕ) (home : ℕ) (l : Listed) → concrete_homes all ≡ (homes ++ home ∷ []) ++ more → base_has all (base_home all home) l ≡ true → HasNumber all home (flat_map (introduced all) homes) l
  unfolding concrete_homes
  base_numbered homes more home l whole on = by (base_home all home) refl on
    where
      test : ℕ → Bool
      test n = is_concrete_home (at all n).what

      there : has (concrete_homes all) home ≡ true
      there = ap (λ (hs : List ℕ). has hs home) whole ∙ any_left (λ m. m == home) (homes ++ home ∷ []) more (any_right (λ m. m == home) homes (home ∷ []) (has_here home []))

      by : (o : Option ℕ) → base_home all home ≡ o → list_any (same_listed l) (given o [] (home_keys all)) ≡ true → HasNumber all home (flat_map (introduced all) homes) l
      by None e on = absurd (cc)
      by (Some b) e on =
          let lt : home < length all = homes_below all home there in
          let parent = base_parent home b (passes test (range_with_len 0 (length all)) home there) e in
          let front : b < home = rising home b parent.0 in
          let r : From all b l = line (b + 1) b l (omega arith) (omega (arith, front, lt)) parent.1 on in
          let before : has homes r.origin ≡ true = in_front test (length all) 0 r.origin home homes more whole (omega arith) (omega (arith, r.not_behind, front)) r.is_home in
          place_of_any (λ (i : Introduced). has (ancestry all home) i.home && same_listed l i.listed) 0 (flat_map (introduced all) homes)
          (any_flat (λ (i : Introduced). has (ancestry all home) i.home && same_listed l i.listed) (introduced all) homes r.origin before (r.introduces (has (ancestry all home)) (upwards home b r.origin lt parent.0 r.above)))

-- a key that the home introduces itself has a number
pub own_numbered : (all : List Declaration) (home : ℕ) (l : Listed) (front : List Introduced) → HasNumber all home (front ++ record { home = home; listed = l } ∷ []) l
own_numbered all home l front =
    let test : Introduced → Bool = λ i. has (ancestry all home) i.home && same_listed l i.listed in
    place_of_any test 0 (front ++ record { home = home; listed = l } ∷ [])
    (any_right test front (record { home = home; listed = l } ∷ []) (or_left (has (ancestry all home) home && same_listed l l) false (and_from (has (ancestry all home) home) (same_listed l l) (from_itself all home) (listed_itself l l refl))))
