-- The types of homes in a text without a fault: a home's type conforms to those of what the home descends from.
use Rattle.std.proofs.Common.{◌≡◌, ℕ, zero, suc, ◌<◌, List, [], ◌∷◌, ◌++◌, length, filter, Bool, true, false, cond, not, ◌&&◌, ◌||◌, ◌==◌, ◌⊎◌, inl, inr, Option, Some, None, refl, sym, ap, subst, ◌∙◌, arith, ⊎_elim, append_assoc}
use Rattle.std.specs.List.{flat_map, list_any}
use Rattle.std.specs.Option.{option_to_list, option_and_then}
use Rattle.std.proofs.lemmas.Bool.{or_parts, not-false, false_from_ne_true}
use Rattle.std.proofs.lemmas.List.{append-nil}
use Rattle.psdl_tree.specs.Trees.{Name}
use Rattle.type_layout.specs.Schemas.{given}
use Rattle.psdl_directory.specs.declared.fault.CheckKind.TheVariants.{NotImplemented, HomeType}
use Rattle.psdl_directory.specs.Declarations.{What, IsModule, IsConstant, IsAlias, IsStruct, IsEnumeration, IsEnumerator, IsAbstractType, IsConcreteType, IsAbstractHome, IsConcreteHome, IsCatalog, Declaration}
use Rattle.psdl_lineage.specs.Descent.{same_sort, ancestry, conforms, type_of_home}
use Rattle.psdl_rules.specs.Words.{type_of_named, of_types}
use Rattle.psdl_rules.specs.Faults.NotImplemented.{of_implemented}
use Rattle.psdl_rules.specs.Faults.HomeType.{differs_from_base, is_other_kind, has_wrong_type}
use Rattle.psdl_directory.specs.Fault.{fault_if}
use Rattle.psdl_check.specs.Faults.{first_fault}
use Rattle.psdl_directory.specs.Lookup.{at, named, defined, place_of}
use Rattle.psdl_directory.specs.Parts.{is_forward, is_storage_type, is_abstract_type, is_concrete_type, is_home, is_concrete_home, all_names, bases, implemented, managed, parents}
use Rattle.psdl_lineage.proofs.Repeats.{once, fresh, once-append, once_absorbs}
use Rattle.psdl_sound.proofs.Among.{Among, among_parts, any_among}
use Rattle.psdl_sound.proofs.Ancestors.{parents_of, parent_told, parent_passes, parent_in_front, ancestry_joined, from_itself, from_parent, from_whom, abstract_types, same_some}
use Rattle.psdl_sound.proofs.BaseLines.{IsConcrete}
use Rattle.psdl_check.proofs.FaultlessTexts.{does_not_hold, no_fault_at}
use Rattle.psdl_check.proofs.Meanings.{IsDefinition, definition_is, Means, means, IsTypeOf, type_is}
use Rattle.psdl_sound.proofs.MemberLists.{has_among}
use Rattle.psdl_sound.proofs.Parents.{Stands, IsAbove, base_stands, implemented_stands, managed_stands, above_is, abstract_type_kind, concrete_type_kind, storage_type_kind, passes_too, none_among, typed}

-- ---- what is whole

-- a whole home names a type
home_managed : (what : What) → is_home what ≡ true → is_forward what ≡ false → (name : Name) × (managed what ≡ Some name)
home_managed (IsAbstractHome (Some body)) h f = (body.managed, refl)
home_managed (IsConcreteHome home) h f = (home.managed, refl)
home_managed (IsAbstractHome None) h f = absurd (cc)
home_managed IsModule h f = absurd (cc)
home_managed (IsConstant constant) h f = absurd (cc)
home_managed (IsAlias before spec dimensions) h f = absurd (cc)
home_managed (IsStruct struct) h f = absurd (cc)
home_managed (IsEnumeration enumerators) h f = absurd (cc)
home_managed IsEnumerator h f = absurd (cc)
home_managed (IsAbstractType body) h f = absurd (cc)
home_managed (IsConcreteType body) h f = absurd (cc)
home_managed (IsCatalog provisions) h f = absurd (cc)

no_storage_home : (what : What) → is_home what ≡ true → is_storage_type what ≡ false
no_storage_home (IsAbstractHome body) h = refl
no_storage_home (IsConcreteHome home) h = refl
no_storage_home IsModule h = absurd (cc)
no_storage_home (IsConstant constant) h = absurd (cc)
no_storage_home (IsAlias before spec dimensions) h = absurd (cc)
no_storage_home (IsStruct struct) h = absurd (cc)
no_storage_home (IsEnumeration enumerators) h = absurd (cc)
no_storage_home IsEnumerator h = absurd (cc)
no_storage_home (IsAbstractType body) h = absurd (cc)
no_storage_home (IsConcreteType body) h = absurd (cc)
no_storage_home (IsCatalog provisions) h = absurd (cc)

other_home : (s t g h : Bool) → s ≡ false → (s && t) || (g && h) ≡ true → h ≡ true
other_home false t true true p q = refl
other_home false t true false p q = absurd (cc)
other_home false t false h p q = absurd (cc)
other_home true t g h p q = absurd (cc)

one_of_both : (w : What) → is_storage_type w ≡ true → is_abstract_type w ≡ false → is_concrete_type w ≡ true
one_of_both (IsConcreteType body) s a = refl
one_of_both (IsAbstractType body) s a = absurd (cc)
one_of_both IsModule s a = absurd (cc)
one_of_both (IsConstant constant) s a = absurd (cc)
one_of_both (IsAlias before spec dimensions) s a = absurd (cc)
one_of_both (IsStruct struct) s a = absurd (cc)
one_of_both (IsEnumeration enumerators) s a = absurd (cc)
one_of_both IsEnumerator s a = absurd (cc)
one_of_both (IsAbstractHome body) s a = absurd (cc)
one_of_both (IsConcreteHome home) s a = absurd (cc)
one_of_both (IsCatalog provisions) s a = absurd (cc)

not_both : (w : What) → is_abstract_type w ≡ true → is_concrete_type w ≡ true → ⊥
not_both (IsAbstractType body) a c = cc
not_both (IsConcreteType body) a c = cc
not_both IsModule a c = cc
not_both (IsConstant constant) a c = cc
not_both (IsAlias before spec dimensions) a c = cc
not_both (IsStruct struct) a c = cc
not_both (IsEnumeration enumerators) a c = cc
not_both IsEnumerator a c = cc
not_both (IsAbstractHome body) a c = cc
not_both (IsConcreteHome home) a c = cc
not_both (IsCatalog provisions) a c = cc

module _ (all : List Declaration) (none : first_fault all ≡ None) where
  -- what descends from one descends from what that descends from
  descent_below : (k n p a : ℕ) → n < k → n < length all → Among p (ancestry all n) → Among a (ancestry all p) → Among a (ancestry all n)
  descent_below zero n p a low lt one two = absurd (omega (arith, low))
  descent_below (suc k) n p a low lt one two =
      ⊎_elim (λ same. subst (λ (m : ℕ). Among a (ancestry all m)) (sym same) two)
      (λ r.
      let front : r.0 < n = parent_in_front all none n r.0 lt r.1 in
      from_parent all none n r.0 a lt r.1 (descent_below k r.0 p a (omega (arith, front, low)) (omega (arith, front, lt)) r.2 two))
      (from_whom all none n p lt one)

  -- so for all
  pub descent_further : (n p a : ℕ) → n < length all → Among p (ancestry all n) → Among a (ancestry all p) → Among a (ancestry all n)
  descent_further n p a lt one two = descent_below (suc n) n p a (omega arith) lt one two

  -- ---- types of homes

  -- a whole home
  pub record IsWhole (h : ℕ) : Type 0 where
    pub is_declared : h < length all
    pub is_one : is_home (at all h).what ≡ true
    pub is_defined : is_forward (at all h).what ≡ false

  -- it has a type
  pub home_typed : (h : ℕ) → IsWhole h → (t : ℕ) × (type_of_home all h ≡ Some t)
  home_typed h whole = let name = home_managed (at all h).what whole.is_one whole.is_defined in typed all none h whole.is_declared name.0 name.1

  -- a type of a home is declared
  pub type_declared : (h t : ℕ) → type_of_home all h ≡ Some t → (t < length all) × (is_storage_type (at all t).what ≡ true)
  type_declared h t is = let type : IsTypeOf all h t = type_is all h t is in ((definition_is all type.means.declared t type.means.is_definition).is_declared, type.is_storage)

  -- a parent of a home is whole
  pub parent_whole : (h p : ℕ) → IsWhole h → Among p (parents_of all h) → IsWhole p
  parent_whole h p whole a =
      let told = parent_told all h p a in
      let m : Means all h told.name p = means all h told.name p told.is_defined in
      let d : IsDefinition all m.declared p = definition_is all m.declared p m.is_definition in
      record {
        is_declared = d.is_declared;
        is_one = other_home (is_storage_type (at all h).what) (is_storage_type (at all p).what) (is_home (at all h).what) (is_home (at all p).what) (no_storage_home (at all h).what whole.is_one) told.one_sort;
        is_defined = d.is_whole;
      }

  -- where it is not so of two types, it is not so of theirs
  types_off : (h p t u : ℕ) (name : Name) (test : ℕ → ℕ → Bool) → type_of_home all h ≡ Some t → defined all h name ≡ Some p → type_of_home all p ≡ Some u → of_types all h test name ≡ false → test t u ≡ false
  types_off h p t u name test of is up off =
      sym
      (ap (λ (o : Option ℕ). given o false (λ t. given (type_of_named all h name) false (λ u. test t u))) of
      ∙ ap (λ (o : Option ℕ). given (option_and_then (type_of_home all) o) false (λ u. test t u)) is
      ∙ ap (λ (o : Option ℕ). given o false (λ u. test t u)) up)
      ∙ off

  -- the name of a type has no fault
  right_type : (h : ℕ) → h < length all → (name : Name) → managed (at all h).what ≡ Some name
      → (given (named all h name) false (λ j. is_other_kind (at all h).what (at all j).what) ≡ false) × (list_any (of_types all h (differs_from_base all (at all h).what)) (bases (at all h).what) ≡ false)
  right_type h lt name is =
      let what : What = (at all h).what in
      let off = none_among (λ name. fault_if (has_wrong_type all h what name) HomeType (place_of name)) (option_to_list (managed what)) (no_fault_at all none h lt).no_home_type name (subst (λ (o : Option Name). Among name (option_to_list o)) (sym is) (inl refl)) in
      or_parts (given (named all h name) false (λ j. is_other_kind what (at all j).what)) (list_any (of_types all h (differs_from_base all what)) (bases what)) (does_not_hold (has_wrong_type all h what name) HomeType (place_of name) off)

  -- a home's type conforms to that of a parent
  parent_conforms : (h p t u : ℕ) → IsWhole h → Among p (parents_of all h) → type_of_home all h ≡ Some t → type_of_home all p ≡ Some u → Among u (ancestry all t)
  parent_conforms h p t u whole a of up =
      let told = parent_told all h p a in
      let what : What = (at all h).what in
      let sure : conforms all t u ≡ true =
      ⊎_elim
      (λ b.
      let name = home_managed what whole.is_one whole.is_defined in
      let test : ℕ → ℕ → Bool = differs_from_base all what in
      let off : of_types all h test told.name ≡ false =
      false_from_ne_true (of_types all h test told.name)
      (λ on. let both : true ≡ false = sym (any_among (of_types all h test) (bases what) told.name b on) ∙ (right_type h whole.is_declared name.0 name.1).1 in cc) in
      not-false (conforms all t u) (or_parts (not (conforms all t u)) (is_concrete_home what && t == u) (types_off h p t u told.name test of told.is_defined up off)).0)
      (λ i.
      let test : ℕ → ℕ → Bool = λ t u. not (conforms all t u) in
      let off : of_types all h test told.name ≡ false = does_not_hold (of_types all h test told.name) NotImplemented (place_of told.name) (none_among (of_implemented all h) (implemented what) (no_fault_at all none h whole.is_declared).no_not_implemented told.name i) in
      not-false (conforms all t u) (types_off h p t u told.name test of told.is_defined up off))
      (among_parts told.name (bases what) (implemented what) told.is_name) in
      has_among (ancestry all t) u sure

  conforms_below : (k h a t u : ℕ) → h < k → IsWhole h → Among a (ancestry all h) → type_of_home all h ≡ Some t → type_of_home all a ≡ Some u → Among u (ancestry all t)
  conforms_below zero h a t u low whole there of up = absurd (omega (arith, low))
  conforms_below (suc k) h a t u low whole there of up =
      ⊎_elim
      (λ same.
      let one : t ≡ u = same_some t u (sym of ∙ ap (type_of_home all) same ∙ up) in
      subst (λ (m : ℕ). Among m (ancestry all t)) one (from_itself all none t (type_declared h t of).0))
      (λ r.
      let front : r.0 < h = parent_in_front all none h r.0 whole.is_declared r.1 in
      let parent : IsWhole r.0 = parent_whole h r.0 whole r.1 in
      let type = home_typed r.0 parent in
      descent_further t type.0 u (type_declared h t of).0 (parent_conforms h r.0 t type.0 whole r.1 of type.1) (conforms_below k r.0 a type.0 u (omega (arith, front, low)) parent r.2 type.1 up))
      (from_whom all none h a whole.is_declared there)

  -- and to those of all that the home descends from
  pub home_conforms : (h a t u : ℕ) → IsWhole h → Among a (ancestry all h) → type_of_home all h ≡ Some t → type_of_home all a ≡ Some u → Among u (ancestry all t)
  home_conforms h a t u whole there of up = conforms_below (suc h) h a t u (omega arith) whole there of up

  -- the type of a concrete home is concrete
  pub type_concrete : (h t : ℕ) → IsConcrete all h → IsWhole h → type_of_home all h ≡ Some t → is_concrete_type (at all t).what ≡ true
  type_concrete h t home whole is =
      let name = home_managed (at all h).what whole.is_one whole.is_defined in
      let above : IsAbove all h name.0 is_storage_type = above_is all h (no_fault_at all none h home.is_declared) name.0 is_storage_type storage_type_kind (managed_stands h (at all h).what name.0 name.1) in
      let off : is_other_kind (at all h).what (at all above.declared).what ≡ false = sym (ap (λ (o : Option ℕ). given o false (λ j. is_other_kind (at all h).what (at all j).what)) above.is_named) ∙ (right_type h home.is_declared name.0 name.1).0 in
      let concrete : is_concrete_type (at all above.declared).what ≡ true = one_of_both (at all above.declared).what above.declared_passes (by (at all h).what (at all above.declared).what home.is_concrete off) in
      let type : IsTypeOf all h t = type_is all h t is in
      let one : type.name ≡ name.0 = same_some type.name name.0 (sym type.is_managed ∙ name.1) in
      let declared : type.means.declared ≡ above.declared = same_some type.means.declared above.declared (sym type.means.is_named ∙ ap (named all h) one ∙ above.is_named) in
      let whole : IsDefinition all type.means.declared t = definition_is all type.means.declared t type.means.is_definition in
      passes_too is_concrete_type concrete_type_kind (at all type.means.declared).what (at all t).what whole.one_kind (ap (λ (m : ℕ). is_concrete_type (at all m).what) declared ∙ concrete)
    where
      by : (what type : What) → is_concrete_home what ≡ true → is_other_kind what type ≡ false → is_abstract_type type ≡ false
      by (IsConcreteHome home) type c off = off
      by IsModule type c off = absurd (cc)
      by (IsConstant constant) type c off = absurd (cc)
      by (IsAlias before spec dimensions) type c off = absurd (cc)
      by (IsStruct struct) type c off = absurd (cc)
      by (IsEnumeration enumerators) type c off = absurd (cc)
      by IsEnumerator type c off = absurd (cc)
      by (IsAbstractType body) type c off = absurd (cc)
      by (IsConcreteType body) type c off = absurd (cc)
      by (IsAbstractHome body) type c off = absurd (cc)
      by (IsCatalog provisions) type c off = absurd (cc)

  -- ---- a derived type begins with its base

  once_again : (n : ℕ) → n < length all → once (ancestry all n) ≡ ancestry all n
  once_again n lt =
      let l : List ℕ = flat_map (ancestry all) (parents_of all n) ++ n ∷ [] in
      ap once (ancestry_joined all none n lt) ∙ ap once (sym (append-nil (once l))) ∙ once_absorbs [] l [] ∙ ap once (append-nil l) ∙ sym (ancestry_joined all none n lt)

  -- the first parent's ancestry comes first
  first_parent : (n p : ℕ) (ps : List ℕ) → n < length all → p < length all → parents_of all n ≡ p ∷ ps → (rest : List ℕ) × (ancestry all n ≡ ancestry all p ++ rest)
  first_parent n p ps lt inside is =
      let behind : List ℕ = flat_map (ancestry all) ps ++ n ∷ [] in (
        fresh (ancestry all p) behind,
        ancestry_joined all none n lt
            ∙ ap (λ (l : List ℕ). once (flat_map (ancestry all) l ++ n ∷ [])) is
            ∙ ap once (append_assoc (ancestry all p) (flat_map (ancestry all) ps) (n ∷ []))
            ∙ once-append (ancestry all p) behind
            ∙ ap (λ (l : List ℕ). l ++ fresh (ancestry all p) behind) (once_again p inside),
      )

  base_first : (n p : ℕ) (o : Option Name) (others : List Name) (name : Name) → Among name (option_to_list o) → defined all n name ≡ Some p → same_sort (at all n).what (at all p).what ≡ true
      → (ps : List ℕ) × (filter (λ q. same_sort (at all n).what (at all q).what) (flat_map (λ name. option_to_list (defined all n name)) (option_to_list o ++ others)) ≡ p ∷ ps)
  base_first n p None others name a is sort = absurd a
  base_first n p (Some m) others name (inr a) is sort = absurd a
  base_first n p (Some m) others name (inl e) is sort =
      let test : ℕ → Bool = λ q. same_sort (at all n).what (at all q).what in
      let rest : List ℕ = flat_map (λ name. option_to_list (defined all n name)) others in
      let means : defined all n m ≡ Some p = ap (defined all n) e ∙ is in (
        filter test rest,
        ap (λ (o : Option ℕ). filter test (option_to_list o ++ rest)) means ∙ ap (λ (b : Bool). cond b (p ∷ filter test rest) (filter test rest)) sort,
      )

  -- a parent of a concrete type is its base, which is the first, or abstract
  type_parent : (n p : ℕ) → n < length all → (what : What) → (at all n).what ≡ what → is_concrete_type what ≡ true → Among p (parents_of all n) → ((ps : List ℕ) × (parents_of all n ≡ p ∷ ps) × (is_concrete_type (at all p).what ≡ true)) ⊎ (is_abstract_type (at all p).what ≡ true)
  type_parent n p lt (IsConcreteType (Some body)) is on a =
      let told = parent_told all n p a in
      let what : What = IsConcreteType (Some body) in
      let named : Among told.name (parents what) = subst (λ (w : What). Among told.name (parents w)) is told.is_name in
      ⊎_elim
      (λ b.
      let stands : Stands n (at all n).what told.name is_concrete_type = subst (λ (w : What). Stands n w told.name is_concrete_type) (sym is) (base_stands n what told.name is_concrete_type b (λ w s m. m)) in
      let first = base_first n p body.base (all_names body.implements) told.name b told.is_defined told.one_sort in
      let whole : parents_of all n ≡ p ∷ first.0 =
      ap (λ (w : What). filter (λ q. same_sort (at all n).what (at all q).what) (flat_map (λ name. option_to_list (defined all n name)) (parents w))) is ∙ first.1 in
      inl (first.0, whole, (parent_passes all none n p lt told.name is_concrete_type concrete_type_kind stands told.is_defined).1))
      (λ i.
      let stands : Stands n (at all n).what told.name is_abstract_type = subst (λ (w : What). Stands n w told.name is_abstract_type) (sym is) (implemented_stands n what told.name is_abstract_type i (λ w s m. m)) in
      inr (parent_passes all none n p lt told.name is_abstract_type abstract_type_kind stands told.is_defined).1)
      (among_parts told.name (bases what) (implemented what) named)
  type_parent n p lt (IsConcreteType None) is on a =
      let told = parent_told all n p a in
      absurd (subst (λ (w : What). Among told.name (parents w)) is told.is_name)
  type_parent n p lt IsModule is on a = absurd (cc)
  type_parent n p lt (IsConstant constant) is on a = absurd (cc)
  type_parent n p lt (IsAlias before spec dimensions) is on a = absurd (cc)
  type_parent n p lt (IsStruct struct) is on a = absurd (cc)
  type_parent n p lt (IsEnumeration enumerators) is on a = absurd (cc)
  type_parent n p lt IsEnumerator is on a = absurd (cc)
  type_parent n p lt (IsAbstractType body) is on a = absurd (cc)
  type_parent n p lt (IsAbstractHome body) is on a = absurd (cc)
  type_parent n p lt (IsConcreteHome home) is on a = absurd (cc)
  type_parent n p lt (IsCatalog provisions) is on a = absurd (cc)

  begins_below : (k t u : ℕ) → t < k → t < length all → is_concrete_type (at all t).what ≡ true → is_concrete_type (at all u).what ≡ true → Among u (ancestry all t) → (rest : List ℕ) × (ancestry all t ≡ ancestry all u ++ rest)
  begins_below zero t u low lt c d there = absurd (omega (arith, low))
  begins_below (suc k) t u low lt c d there =
      ⊎_elim (λ same. ([], ap (ancestry all) same ∙ sym (append-nil (ancestry all u))))
      (λ r.
      let front : r.0 < t = parent_in_front all none t r.0 lt r.1 in
      ⊎_elim
      (λ f.
      let one = first_parent t r.0 f.0 lt (omega (arith, front, lt)) f.1 in
      let two = begins_below k r.0 u (omega (arith, front, low)) (omega (arith, front, lt)) f.2 d r.2 in
      (two.0 ++ one.0, one.1 ∙ ap (λ (l : List ℕ). l ++ one.0) two.1 ∙ append_assoc (ancestry all u) two.0 one.0))
      (λ abstract. absurd (not_both (at all u).what (abstract_types all none r.0 u (omega (arith, front, lt)) abstract r.2) d))
      (type_parent t r.0 lt (at all t).what refl c r.1))
      (from_whom all none t u lt there)

  -- what a concrete type descends from begins with what a concrete type among it descends from
  pub begins_with : (t u : ℕ) → t < length all → is_concrete_type (at all t).what ≡ true → is_concrete_type (at all u).what ≡ true → Among u (ancestry all t) → (rest : List ℕ) × (ancestry all t ≡ ancestry all u ++ rest)
  begins_with t u lt c d there = begins_below (suc t) t u (omega arith) lt c d there
