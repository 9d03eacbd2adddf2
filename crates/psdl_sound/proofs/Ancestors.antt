-- What the declarations of a text without a fault descend from.
use Rattle.std.proofs.Common.{◌≡◌, ℕ, zero, suc, ◌<◌, List, [], ◌∷◌, ◌++◌, length, Bool, true, ◌==◌, nat_lt, ◌⊎◌, inl, inr, Some, None, refl, sym, ap, subst, ◌∙◌, arith, ⊎_elim}
use Rattle.std.specs.List.{flat_map}
use Rattle.std.specs.Option.{option_to_list}
use Rattle.std.proofs.lemmas.Bool.{eqb-true, lt-ltb, ltb-true}
use Rattle.psdl_tree.specs.Trees.{Name}
use Rattle.psdl_directory.specs.Declarations.{What, IsModule, IsConstant, IsAlias, IsStruct, IsEnumeration, IsEnumerator, IsAbstractType, IsConcreteType, IsAbstractHome, IsConcreteHome, IsCatalog, Declaration}
use Rattle.psdl_lineage.specs.Descent.{has, same_sort, definitions_of, ancestry}
use Rattle.psdl_check.specs.Faults.{first_fault}
use Rattle.psdl_lineage.specs.Graph.{parents_in, ancestry_in, graph_of}
use Rattle.psdl_directory.specs.Lookup.{at, defined}
use Rattle.psdl_directory.specs.Parts.{is_abstract_type, is_abstract_home, bases, implemented, parents}
use Rattle.psdl_lineage.proofs.Texts.{ancestry_is, length-graph_of, parents_are}
use Rattle.psdl_lineage.proofs.Low.{AreLow, joined_of, same_on}
use Rattle.psdl_lineage.proofs.Repeats.{once}
use Rattle.psdl_sound.proofs.Among.{Among, among_front, among_behind, among_parts, among_flat, among_from, among_chosen, among_passing, among_some, among_fresh, among_once}
use Rattle.psdl_check.proofs.FaultlessTexts.{no_fault_at}
use Rattle.psdl_sound.proofs.MemberLists.{has_among}
use Rattle.psdl_sound.proofs.Parents.{IsOfKind, Stands, IsAbove, base_stands, implemented_stands, above_is, abstract_type_kind, abstract_home_kind, option_among}

-- ---- parents

-- what a declaration names as bases or implements
abbrev pub parents_of : List Declaration → ℕ → List ℕ
parents_of all n = definitions_of all n (parents (at all n).what)

-- a parent is what a name means
pub record IsParent (all : List Declaration) (n p : ℕ) : Type 0 where
  pub name : Name
  pub is_name : Among name (parents (at all n).what)
  pub is_defined : defined all n name ≡ Some p
  pub one_sort : same_sort (at all n).what (at all p).what ≡ true

-- each parent is such
pub parent_told : (all : List Declaration) (n p : ℕ) → Among p (parents_of all n) → IsParent all n p
parent_told all n p a =
    let c = among_chosen (λ p. same_sort (at all n).what (at all p).what) (flat_map (λ name. option_to_list (defined all n name)) (parents (at all n).what)) p a in
    let r = among_from (λ name. option_to_list (defined all n name)) (parents (at all n).what) p c.0 in
    record { name = r.0; is_name = r.1; is_defined = among_some (defined all n r.0) p r.2; one_sort = c.1 }

-- what a name means is a parent
pub parent_from : (all : List Declaration) (n p : ℕ) → IsParent all n p → Among p (parents_of all n)
parent_from all n p is =
    among_passing (λ p. same_sort (at all n).what (at all p).what) (flat_map (λ name. option_to_list (defined all n name)) (parents (at all n).what)) p
    (among_flat (λ name. option_to_list (defined all n name)) (parents (at all n).what) is.name p is.is_name (option_among (defined all n is.name) p is.is_defined)) is.one_sort

any_kind : IsOfKind (λ w. true)
any_kind = record { number = λ k. true; tells = λ w. refl }

any_stands : (n : ℕ) (what : What) (name : Name) → Among name (parents what) → Stands n what name (λ w. true)
any_stands n what name a =
    ⊎_elim (λ b. base_stands n what name (λ w. true) b (λ w s m. refl)) (λ i. implemented_stands n what name (λ w. true) i (λ w s m. refl)) (among_parts name (bases what) (implemented what) a)

-- what is there is one
pub same_some : {A : Type 0} (a b : A) → Some a ≡ Some b → a ≡ b
same_some a b e = cc

module _ (all : List Declaration) (none : first_fault all ≡ None) where
  -- what stands in a place of its own is a declaration in front that passes
  pub parent_passes : (n p : ℕ) → n < length all → (name : Name) (test : What → Bool) → IsOfKind test → Stands n (at all n).what name test → defined all n name ≡ Some p → (p < n) × (test (at all p).what ≡ true)
  parent_passes n p lt name test of stands is =
      let above : IsAbove all n name test = above_is all n (no_fault_at all none n lt) name test of stands in
      let same : above.target ≡ p = same_some above.target p (sym above.is_defined ∙ is) in
      (omega (arith, above.in_front, same), ap (λ (m : ℕ). test (at all m).what) (sym same) ∙ above.passes)

  -- a parent stands in front
  pub parent_in_front : (n p : ℕ) → n < length all → Among p (parents_of all n) → p < n
  parent_in_front n p lt a =
      let told = parent_told all n p a in
      (parent_passes n p lt told.name (λ w. true) any_kind (any_stands n (at all n).what told.name told.is_name) told.is_defined).0

  -- ---- ancestries

  abbrev low : ℕ → Bool
  low m = nat_lt m (length all)

  lower : (n p : ℕ) → n < length all → has (parents_in (graph_of all) n) p ≡ true → (p < n) × (low p ≡ true)
  lower n p lt h =
      let a : Among p (parents_of all n) = has_among (parents_of all n) p (ap (λ (l : List ℕ). has l p) (sym (parents_are all n)) ∙ h) in
      let front : p < n = parent_in_front n p lt a in
      (front, lt-ltb p (length all) (omega (arith, front, lt)))

  are_low : AreLow (graph_of all) (λ m. m) low
  are_low n p is h = lower n p (ltb-true n (length all) is) h

  -- what a declaration descends from: what its parents do, and itself
  pub ancestry_joined : (n : ℕ) → n < length all → ancestry all n ≡ once (flat_map (ancestry all) (parents_of all n) ++ n ∷ [])
  ancestry_joined n lt =
      ancestry_is all n
      ∙ joined_of (graph_of all) (λ m. m) low n are_low (omega (arith, lt, length-graph_of all)) (omega (arith, lt, length-graph_of all)) (λ p h. lower n p lt h)
      ∙ ap (λ (ps : List ℕ). once (flat_map (ancestry_in (graph_of all)) ps ++ n ∷ [])) (parents_are all n)
      ∙ ap (λ (l : List ℕ). once (l ++ n ∷ [])) (same_on (ancestry_in (graph_of all)) (ancestry all) (parents_of all n) (λ p h. sym (ancestry_is all p)))

  into : (n a : ℕ) → n < length all → Among a (flat_map (ancestry all) (parents_of all n) ++ n ∷ []) → Among a (ancestry all n)
  into n a lt there =
      subst (λ (l : List ℕ). Among a l) (sym (ancestry_joined n lt)) (among_once (λ x y. x == y) (λ x y h. eqb-true x y h) (flat_map (ancestry all) (parents_of all n) ++ n ∷ []) a there)

  -- it descends from itself
  pub from_itself : (n : ℕ) → n < length all → Among n (ancestry all n)
  from_itself n lt = into n n lt (among_behind n (flat_map (ancestry all) (parents_of all n)) (n ∷ []) (inl refl))

  -- from what its parents descend from
  pub from_parent : (n p a : ℕ) → n < length all → Among p (parents_of all n) → Among a (ancestry all p) → Among a (ancestry all n)
  from_parent n p a lt parent there = into n a lt (among_front a (flat_map (ancestry all) (parents_of all n)) (n ∷ []) (among_flat (ancestry all) (parents_of all n) p a parent there))

  -- and from nothing else
  pub from_whom : (n a : ℕ) → n < length all → Among a (ancestry all n) → (n ≡ a) ⊎ ((p : ℕ) × Among p (parents_of all n) × Among a (ancestry all p))
  from_whom n a lt there =
      let l : List ℕ = flat_map (ancestry all) (parents_of all n) in
      let whole : Among a (l ++ n ∷ []) = among_fresh (λ x y. x == y) [] (l ++ n ∷ []) a (subst (λ (l : List ℕ). Among a l) (ancestry_joined n lt) there) in
      ⊎_elim (λ b. inr (among_from (ancestry all) (parents_of all n) a b)) (λ b. ⊎_elim (λ e. inl e) (λ c. absurd c) b) (among_parts a l (n ∷ []) whole)

  -- ---- what is abstract descends from what is abstract

  abstract_home_parent : (n p : ℕ) → n < length all → (what : What) → (at all n).what ≡ what → is_abstract_home what ≡ true → Among p (parents_of all n) → is_abstract_home (at all p).what ≡ true
  abstract_home_parent n p lt (IsAbstractHome body) is on a =
      let told = parent_told all n p a in
      let named : Among told.name (parents (IsAbstractHome body)) = subst (λ (w : What). Among told.name (parents w)) is told.is_name in
      let base : Among told.name (bases (IsAbstractHome body)) = ⊎_elim (λ b. b) (λ i. absurd i) (among_parts told.name (bases (IsAbstractHome body)) [] named) in
      let stands : Stands n (at all n).what told.name is_abstract_home = subst (λ (w : What). Stands n w told.name is_abstract_home) (sym is) (base_stands n (IsAbstractHome body) told.name is_abstract_home base (λ w s m. m)) in
      (parent_passes n p lt told.name is_abstract_home abstract_home_kind stands told.is_defined).1
  abstract_home_parent n p lt IsModule is on a = absurd (cc)
  abstract_home_parent n p lt (IsConstant constant) is on a = absurd (cc)
  abstract_home_parent n p lt (IsAlias before spec dimensions) is on a = absurd (cc)
  abstract_home_parent n p lt (IsStruct struct) is on a = absurd (cc)
  abstract_home_parent n p lt (IsEnumeration enumerators) is on a = absurd (cc)
  abstract_home_parent n p lt IsEnumerator is on a = absurd (cc)
  abstract_home_parent n p lt (IsAbstractType body) is on a = absurd (cc)
  abstract_home_parent n p lt (IsConcreteType body) is on a = absurd (cc)
  abstract_home_parent n p lt (IsConcreteHome home) is on a = absurd (cc)
  abstract_home_parent n p lt (IsCatalog provisions) is on a = absurd (cc)

  abstract_type_parent : (n p : ℕ) → n < length all → (what : What) → (at all n).what ≡ what → is_abstract_type what ≡ true → Among p (parents_of all n) → is_abstract_type (at all p).what ≡ true
  abstract_type_parent n p lt (IsAbstractType body) is on a =
      let told = parent_told all n p a in
      let named : Among told.name (parents (IsAbstractType body)) = subst (λ (w : What). Among told.name (parents w)) is told.is_name in
      let base : Among told.name (bases (IsAbstractType body)) = ⊎_elim (λ b. b) (λ i. absurd i) (among_parts told.name (bases (IsAbstractType body)) [] named) in
      let stands : Stands n (at all n).what told.name is_abstract_type = subst (λ (w : What). Stands n w told.name is_abstract_type) (sym is) (base_stands n (IsAbstractType body) told.name is_abstract_type base (λ w s m. m)) in
      (parent_passes n p lt told.name is_abstract_type abstract_type_kind stands told.is_defined).1
  abstract_type_parent n p lt IsModule is on a = absurd (cc)
  abstract_type_parent n p lt (IsConstant constant) is on a = absurd (cc)
  abstract_type_parent n p lt (IsAlias before spec dimensions) is on a = absurd (cc)
  abstract_type_parent n p lt (IsStruct struct) is on a = absurd (cc)
  abstract_type_parent n p lt (IsEnumeration enumerators) is on a = absurd (cc)
  abstract_type_parent n p lt IsEnumerator is on a = absurd (cc)
  abstract_type_parent n p lt (IsConcreteType body) is on a = absurd (cc)
  abstract_type_parent n p lt (IsAbstractHome body) is on a = absurd (cc)
  abstract_type_parent n p lt (IsConcreteHome home) is on a = absurd (cc)
  abstract_type_parent n p lt (IsCatalog provisions) is on a = absurd (cc)

  all_abstract : (test : What → Bool) → ((n p : ℕ) → n < length all → test (at all n).what ≡ true → Among p (parents_of all n) → test (at all p).what ≡ true)
      → (k n a : ℕ) → n < k → n < length all → test (at all n).what ≡ true → Among a (ancestry all n) → test (at all a).what ≡ true
  all_abstract test each zero n a low lt on there = absurd (omega (arith, low))
  all_abstract test each (suc k) n a low lt on there =
      ⊎_elim (λ same. ap (λ (m : ℕ). test (at all m).what) (sym same) ∙ on)
      (λ r.
      let front : r.0 < n = parent_in_front n r.0 lt r.1 in
      all_abstract test each k r.0 a (omega (arith, front, low)) (omega (arith, front, lt)) (each n r.0 lt on r.1) r.2)
      (from_whom n a lt there)

  -- what an abstract home descends from is abstract
  pub abstract_homes : (n a : ℕ) → n < length all → is_abstract_home (at all n).what ≡ true → Among a (ancestry all n) → is_abstract_home (at all a).what ≡ true
  abstract_homes n a lt on there = all_abstract is_abstract_home (λ m p inside is parent. abstract_home_parent m p inside (at all m).what refl is parent) (suc n) n a (omega arith) lt on there

  -- what an abstract type descends from is abstract
  pub abstract_types : (n a : ℕ) → n < length all → is_abstract_type (at all n).what ≡ true → Among a (ancestry all n) → is_abstract_type (at all a).what ≡ true
  abstract_types n a lt on there = all_abstract is_abstract_type (λ m p inside is parent. abstract_type_parent m p inside (at all m).what refl is parent) (suc n) n a (omega arith) lt on there
