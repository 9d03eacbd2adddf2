-- In a text without a fault each declaration stands behind those that it names as bases or implements.
use Rattle.std.proofs.Common.{◌≡◌, ℕ, ◌+◌, ◌<◌, List, [], ◌∷◌, ◌++◌, length, Bool, true, false, cond, not, nat_lt, ◌||◌, ◌==◌, Option, Some, None, refl, sym, ap, subst, ◌∙◌, arith, ⊎_elim}
use Rattle.std.specs.List.{flat_map}
use Rattle.std.specs.Option.{option_or, option_to_list}
use Rattle.std.proofs.lemmas.Bool.{cases_Bool, cases_eq, eq-eqb, eqb-true, ltb-true, ltb-false, not-false}
use Rattle.std.proofs.lemmas.List.{get_or_past}
use Rattle.std.proofs.lemmas.List.Concat.{flat_map-append}
use Rattle.pss_base.specs.declared.place.Place.{Place}
use Rattle.psdl_tree.specs.declared.names.NamePart.{NamePart}
use Rattle.psdl_tree.specs.Trees.{Name}
use Rattle.type_layout.specs.Schemas.{given}
use Rattle.psdl_directory.specs.declared.fault.CheckKind.TheVariants.{Incomplete, Cycle}
use Rattle.psdl_directory.specs.Declarations.{Path, Declaration}
use Rattle.psdl_directory.specs.Fault.{fault_if, each, least}
use Rattle.psdl_directory.specs.Lookup.{as_is, at, nothing, below, first, first_of, first_inside, outwards, inwards, beginning, meaning, named, origin, place_of, is_named, defined}
use Rattle.psdl_directory.specs.Parts.{is_module, parents}
use Rattle.psdl_lineage.specs.Descent.{has, definitions_of, same_sort}
use Rattle.psdl_lineage.specs.Graph.{graph_of}
use Rattle.psdl_lineage.proofs.Foremost.{first_passes}
use Rattle.psdl_lineage.proofs.Repeats.{has-append, has_kept}
use Rattle.psdl_lineage.proofs.Texts.{parents_are}
use Rattle.psdl_rules.specs.Faults.{faults, body_faults, definition_faults, member_faults, home_faults}
use Rattle.psdl_rules.specs.Faults.Redefined.{redefined_faults}
use Rattle.psdl_rules.specs.Faults.Incomplete.{incomplete, is_defined_by, of_forward, never_defined}
use Rattle.psdl_rules.specs.Faults.Cycle.{cycle, cycle_faults}
use Rattle.psdl_rules.specs.Words.{above}
use Rattle.psdl_rules.specs.Faults.Limit.{limit_faults}
use Rattle.psdl_standings.specs.Standings.{Standing, standings}
use Rattle.psdl_standings.specs.Selves.{is_itself, of_itself, of_selves}
use Rattle.psdl_check.specs.inner.Rising.{IsRising}
use Rattle.psdl_check.proofs.FaultlessTexts.{both_empty, does_not_hold, none_given, nothing_least, at_one}
use Rattle.psdl_check.proofs.Meanings.{IsDefinition, position_within, named_parts, definition_is, Means, means}

-- ---- what a name means is the first of its own name

-- what holds of the first of each name in each scope holds of what names mean
module _ (all : List Declaration) (limit : ℕ) (P : ℕ → Type 0) (holds : (path : Path) (name : List ℕ) (m : ℕ) → first_of as_is all limit path name ≡ Some m → P m) where
  or_so : (a b : Option ℕ) → ((m : ℕ) → a ≡ Some m → P m) → ((m : ℕ) → b ≡ Some m → P m) → (m : ℕ) → option_or a b ≡ Some m → P m
  or_so None b f g m e = g m e
  or_so (Some n) b f g m e = f m e

  outwards_so : (name : List ℕ) (path : Path) (m : ℕ) → outwards (λ p. first_of as_is all limit p name) path ≡ Some m → P m
  outwards_so name [] m e = holds [] name m e
  outwards_so name (outer ∷ path) m e =
      or_so (first_of as_is all limit (outer ∷ path) name) (outwards (λ p. first_of as_is all limit p name) path) (holds (outer ∷ path) name) (outwards_so name path) m e

  inside_so : (n : ℕ) (name : List ℕ) (m : ℕ) → first_inside as_is all limit n name ≡ Some m → P m
  inside_so n name m e = by (is_module (at all n).what) e
    where
      by : (b : Bool) → cond b (first_of as_is all limit ((at all n).name ∷ (at all n).path) name) None ≡ Some m → P m
      by true e = holds ((at all n).name ∷ (at all n).path) name m e
      by false e = absurd (cc)

  inwards_so : (n : ℕ) (parts : List NamePart) → P n → (m : ℕ) → inwards as_is all limit n parts ≡ Some m → P m
  inwards_so n [] here m e = let same : n ≡ m = cc in subst P same here
  inwards_so n (part ∷ parts) here m e = further (first_inside as_is all limit n part.name.name) (inside_so n part.name.name) (λ k so is. inwards_so k parts so m is) e
    where
      further : (o : Option ℕ) → ((k : ℕ) → o ≡ Some k → P k) → ((k : ℕ) → P k → inwards as_is all limit k parts ≡ Some m → P m) → given o None (λ k. inwards as_is all limit k parts) ≡ Some m → P m
      further None h next e = absurd (cc)
      further (Some k) h next e = next k (h k refl) e

  begins_so : (path : Path) (name : Name) (m : ℕ) → beginning as_is all limit path name ≡ Some m → P m
  begins_so path name m e = by name.leading e
    where
      by : (o : Option Place) → given o (outwards (λ p. first_of as_is all limit p name.first.name) path) (λ _. first_of as_is all limit [] name.first.name) ≡ Some m → P m
      by None e = outwards_so name.first.name path m e
      by (Some place) e = holds [] name.first.name m e

  -- of what a name means
  pub meaning_so : (path : Path) (name : Name) (m : ℕ) → meaning as_is all limit path name ≡ Some m → P m
  unfolding meaning
  meaning_so path name m e = by (beginning as_is all limit path name) (begins_so path name) e
    where
      by : (o : Option ℕ) → ((k : ℕ) → o ≡ Some k → P k) → given o None (λ n. inwards as_is all limit n name.others) ≡ Some m → P m
      by None h e = absurd (cc)
      by (Some n) h e = inwards_so n name.others (h n refl) m e

at_first : (limit : ℕ) (o : Option ℕ) (m : ℕ) → below limit o ≡ Some m → o ≡ Some m
at_first limit None m e = absurd (cc)
at_first limit (Some n) m e = by (nat_lt n limit) e
  where
    by : (b : Bool) → cond b (Some n) None ≡ Some m → Some n ≡ Some m
    by true e = e
    by false e = absurd (cc)

own_first : (all : List Declaration) (path : Path) (name : List ℕ) (m : ℕ) → first as_is all path name ≡ Some m → origin all m ≡ Some m
own_first all path name m is =
    let e : Declaration = at all m in
    let asked : Declaration = record { path = path; name = name; place = e.place; what = e.what } in
    let lt : m < length all = omega (arith, position_within (is_named as_is path name) 0 all m is) in
    let parts = named_parts asked e (first_passes (is_named as_is path name) all m nothing lt is) in
    sym (ap (λ (p : Path). first as_is all p name) parts.0 ∙ ap (λ (n : List ℕ). first as_is all e.path n) parts.1) ∙ is

-- the first of its name is what a name means
pub means_first : (all : List Declaration) (n : ℕ) (name : Name) (m : ℕ) → named all n name ≡ Some m → origin all m ≡ Some m
means_first all n name m is =
    meaning_so all (n + 1) (λ k. origin all k ≡ Some k) (λ path word k e. own_first all path word k (at_first (n + 1) (first as_is all path word) k e)) (at all n).path name m is

-- ---- what a header names

at_name : (all : List Declaration) (n : ℕ) (name : Name) (u : ℕ) → of_forward all n name ≡ [] → of_itself all n name ≡ [] → defined all n name ≡ Some u → u < n
at_name all n name u forward itself is =
    let m : Means all n name u = means all n name u is in
    let j : ℕ = m.declared in
    let fault = none_given (named all n name) (λ k. fault_if (not (is_defined_by all n k)) Incomplete (place_of name)) forward j m.is_named in
    let before : is_defined_by all n j ≡ true = not-false (is_defined_by all n j) (does_not_hold (not (is_defined_by all n j)) Incomplete (place_of name) fault) in
    let not_behind : u < n + 1 = ltb-true u (n + 1) (sym (ap (λ (o : Option ℕ). given o false (λ k. nat_lt k (n + 1))) m.is_definition) ∙ before) in
    let off : is_itself all n name ≡ false = does_not_hold (is_itself all n name) Cycle (place_of name) itself in
    let whole : IsDefinition all j u = definition_is all j u m.is_definition in
    let one : origin all u ≡ origin all j = ap (λ (p : Path). first as_is all p (at all u).name) (sym whole.one_path) ∙ ap (λ (w : List ℕ). first as_is all (at all j).path w) (sym whole.one_name) in
    let own : (u ≡ n) → origin all n ≡ Some j = λ same. ap (origin all) (sym same) ∙ one ∙ means_first all n name j m.is_named in
    let on : (u ≡ n) → is_itself all n name ≡ true =
    λ same. ap (λ (o : Option ℕ). given o false (λ k. given (origin all n) false (λ h. k == h))) m.is_named ∙ ap (λ (o : Option ℕ). given o false (λ h. j == h)) (own same) ∙ eq-eqb j j refl in
    ⊎_elim (λ same. absurd (differ (sym (on same) ∙ off))) (λ other. omega (arith, other, not_behind)) (cases_eq u n)
  where
    differ : true ≡ false → ⊥
    differ e = cc

among : (all : List Declaration) (n : ℕ) (names : List Name) → flat_map (of_forward all n) names ≡ [] → flat_map (of_itself all n) names ≡ []
    → (p : ℕ) → has (flat_map (λ name. option_to_list (defined all n name)) names) p ≡ true → p < n
among all n [] forward itself p h = absurd (cc)
among all n (name ∷ names) forward itself p h =
    let f = both_empty (of_forward all n name) (flat_map (of_forward all n) names) forward in
    let i = both_empty (of_itself all n name) (flat_map (of_itself all n) names) itself in
    let rest : List ℕ = flat_map (λ w. option_to_list (defined all n w)) names in
    by (defined all n name) refl f.0 i.0 (λ later. among all n names f.1 i.1 p later) (sym (has-append (option_to_list (defined all n name)) rest p) ∙ h)
  where
    by : (o : Option ℕ) → defined all n name ≡ o → of_forward all n name ≡ [] → of_itself all n name ≡ [] → (has (flat_map (λ w. option_to_list (defined all n w)) names) p ≡ true → p < n)
        → (has (option_to_list o) p || has (flat_map (λ w. option_to_list (defined all n w)) names) p) ≡ true → p < n
    by None e f i later h = later h
    by (Some u) e f i later h = ⊎_elim
        (λ same. let one : u ≡ p = eqb-true u p same in subst (λ m. m < n) one (at_name all n name u f i e))
        (λ other. later (sym (ap (λ (b : Bool). (b || false) || has (flat_map (λ w. option_to_list (defined all n w)) names) p) other) ∙ h))
        (cases_Bool (u == p))

-- ---- all declarations

-- nothing incomplete, and nothing that names itself
conditions : (all : List Declaration) → least (faults all) ≡ None → (each (incomplete all) all ≡ []) × (each (cycle all) all ≡ [])
unfolding faults
conditions all e =
    let done : List Standing = standings all in
    let none : faults all ≡ [] = nothing_least (faults all) e in
    let homes = both_empty (redefined_faults all ++ body_faults all done ++ definition_faults all done ++ member_faults all done) (home_faults all) none in
    let members = both_empty (redefined_faults all ++ body_faults all done ++ definition_faults all done) (member_faults all done) homes.0 in
    let definitions = both_empty (redefined_faults all ++ body_faults all done) (definition_faults all done) members.0 in
    let limits = both_empty (each (incomplete all) all ++ cycle_faults all) (limit_faults all done) definitions.1 in
    let cycles = both_empty (each (incomplete all) all) (cycle_faults all) limits.0 in
    (cycles.0, (both_empty (each (cycle all) all) (each (of_selves all) all) cycles.1).0)

-- of names that lie in front of others
front : {X A : Type 0} (f : X → List A) (xs ys : List X) → flat_map f (xs ++ ys) ≡ [] → flat_map f xs ≡ []
front f xs ys e = (both_empty (flat_map f xs) (flat_map f ys) (sym (flat_map-append f xs ys) ∙ e)).0

names_in_front : (all : List Declaration) → least (faults all) ≡ None → (n p : ℕ) → n < length all → has (definitions_of all n (parents (at all n).what)) p ≡ true → p < n
names_in_front all e n p lt named =
    let d : Declaration = at all n in
    let both = conditions all e in
    let forward = (both_empty (never_defined all n d) (flat_map (of_forward all n) (above d.what)) (at_one all (incomplete all) both.0 n lt)).1 in
    let itself = at_one all (cycle all) both.1 n lt in
    among all n (parents d.what) (front (of_forward all n) (parents d.what) _ forward) (front (of_itself all n) (parents d.what) _ itself) p
    (has_kept (λ k. same_sort d.what (at all k).what) (flat_map (λ name. option_to_list (defined all n name)) (parents d.what)) p named)

pub rising_of : (all : List Declaration) → least (faults all) ≡ None → IsRising (graph_of all)
rising_of all e n p named = ⊎_elim
    (λ lt. names_in_front all e n p (ltb-true n (length all) lt) here)
    (λ past. absurd (none_past past))
    (cases_Bool (nat_lt n (length all)))
  where
    here : has (definitions_of all n (parents (at all n).what)) p ≡ true
    here = ap (λ (l : List ℕ). has l p) (sym (parents_are all n)) ∙ named

    none_past : nat_lt n (length all) ≡ false → ⊥
    none_past past = cc (ap (λ d. has (definitions_of all n (parents d.what)) p) (sym (get_or_past all n nothing (ltb-false n (length all) past))) ∙ here)
