-- In a text without a fault, what is named as base, in `of` or behind `implements` is defined in front, and is of the kind that its place needs.
use Rattle.std.proofs.Common.{◌≡◌, ℕ, ◌+◌, ◌<◌, List, [], ◌∷◌, ◌++◌, length, map, get_or, Bool, true, false, cond, not, ◌||◌, nat_lt, ◌==◌, inl, Option, Some, None, refl, sym, ap, subst, ◌∙◌, arith, ⊎_elim}
use Rattle.std.specs.List.{flat_map, find}
use Rattle.std.specs.Option.{option_to_list, option_and_then}
use Rattle.std.proofs.lemmas.Bool.{cases_eq, eq-eqb, ltb-true, not-false}
use Rattle.std.proofs.lemmas.List.Concat.{flat_map-append}
use Rattle.psdl_tree.specs.Trees.{Name, Reference}
use Rattle.type_layout.specs.Schemas.{given}
use Rattle.psdl_directory.specs.declared.fault.CheckKind.TheVariants.{Unknown, WrongCase, WrongKind, Incomplete, Cycle}
use Rattle.psdl_directory.specs.Declarations.{Path, What, IsModule, IsConstant, IsAlias, IsStruct, IsEnumeration, IsEnumerator, IsAbstractType, IsConcreteType, IsAbstractHome, IsConcreteHome, IsCatalog, Declaration}
use Rattle.psdl_lineage.specs.Descent.{type_of_home}
use Rattle.psdl_directory.specs.Fault.{fault, fault_if}
use Rattle.psdl_check.specs.Faults.{first_fault}
use Rattle.psdl_rules.specs.Words.{above}
use Rattle.psdl_rules.specs.Faults.Incomplete.{is_defined_by, of_forward, never_defined}
use Rattle.psdl_standings.specs.Selves.{is_itself, of_itself, in_struct}
use Rattle.psdl_directory.specs.Lookup.{as_is, lower, at, first, meaning, named, origin, definition, defined, place_of}
use Rattle.psdl_standings.specs.Naming.{of_use}
use Rattle.psdl_directory.specs.Parts.{kind, is_storage_type, is_abstract_type, is_concrete_type, is_abstract_home, is_concrete_home, bases, implemented, managed, parents, states, operations}
use Rattle.psdl_standings.specs.Standings.{Standing, standing, standings}
use Rattle.psdl_standings.specs.Uses.{meets, Use, use_of, base_need, implements_need, in_state_type, in_operation, in_store, uses}
use Rattle.psdl_sound.proofs.Among.{Among, among_at, among_front, among_behind, among_image}
use Rattle.psdl_sound.proofs.Bases.{means_first}
use Rattle.psdl_check.proofs.FaultlessTexts.{HasNone, both_empty, does_not_hold, none_at, none_given, no_fault_at}
use Rattle.psdl_check.proofs.Meanings.{IsDefinition, definition_is}

-- ---- what a place needs is told by the kind

storage_told : (what : What) → is_storage_type what ≡ (kind what == 6 || kind what == 7)
storage_told IsModule = refl
storage_told (IsConstant constant) = refl
storage_told (IsAlias before spec dimensions) = refl
storage_told (IsStruct struct) = refl
storage_told (IsEnumeration enumerators) = refl
storage_told IsEnumerator = refl
storage_told (IsAbstractType body) = refl
storage_told (IsConcreteType body) = refl
storage_told (IsAbstractHome body) = refl
storage_told (IsConcreteHome home) = refl
storage_told (IsCatalog provisions) = refl

abstract_type_told : (what : What) → is_abstract_type what ≡ (kind what == 6)
abstract_type_told IsModule = refl
abstract_type_told (IsConstant constant) = refl
abstract_type_told (IsAlias before spec dimensions) = refl
abstract_type_told (IsStruct struct) = refl
abstract_type_told (IsEnumeration enumerators) = refl
abstract_type_told IsEnumerator = refl
abstract_type_told (IsAbstractType body) = refl
abstract_type_told (IsConcreteType body) = refl
abstract_type_told (IsAbstractHome body) = refl
abstract_type_told (IsConcreteHome home) = refl
abstract_type_told (IsCatalog provisions) = refl

concrete_type_told : (what : What) → is_concrete_type what ≡ (kind what == 7)
concrete_type_told IsModule = refl
concrete_type_told (IsConstant constant) = refl
concrete_type_told (IsAlias before spec dimensions) = refl
concrete_type_told (IsStruct struct) = refl
concrete_type_told (IsEnumeration enumerators) = refl
concrete_type_told IsEnumerator = refl
concrete_type_told (IsAbstractType body) = refl
concrete_type_told (IsConcreteType body) = refl
concrete_type_told (IsAbstractHome body) = refl
concrete_type_told (IsConcreteHome home) = refl
concrete_type_told (IsCatalog provisions) = refl

abstract_home_told : (what : What) → is_abstract_home what ≡ (kind what == 8)
abstract_home_told IsModule = refl
abstract_home_told (IsConstant constant) = refl
abstract_home_told (IsAlias before spec dimensions) = refl
abstract_home_told (IsStruct struct) = refl
abstract_home_told (IsEnumeration enumerators) = refl
abstract_home_told IsEnumerator = refl
abstract_home_told (IsAbstractType body) = refl
abstract_home_told (IsConcreteType body) = refl
abstract_home_told (IsAbstractHome body) = refl
abstract_home_told (IsConcreteHome home) = refl
abstract_home_told (IsCatalog provisions) = refl

concrete_home_told : (what : What) → is_concrete_home what ≡ (kind what == 9)
concrete_home_told IsModule = refl
concrete_home_told (IsConstant constant) = refl
concrete_home_told (IsAlias before spec dimensions) = refl
concrete_home_told (IsStruct struct) = refl
concrete_home_told (IsEnumeration enumerators) = refl
concrete_home_told IsEnumerator = refl
concrete_home_told (IsAbstractType body) = refl
concrete_home_told (IsConcreteType body) = refl
concrete_home_told (IsAbstractHome body) = refl
concrete_home_told (IsConcreteHome home) = refl
concrete_home_told (IsCatalog provisions) = refl

by_kind : (test : What → Bool) (of : ℕ → Bool) → ((w : What) → test w ≡ of (kind w)) → (a b : What) → kind a ≡ kind b → test a ≡ true → test b ≡ true
by_kind test of tells a b same on = tells b ∙ ap of (sym same) ∙ sym (tells a) ∙ on

-- a test of declarations that their kind decides
pub record IsOfKind (test : What → Bool) : Type 0 where
  pub number : ℕ → Bool
  pub tells : (w : What) → test w ≡ number (kind w)

-- storage types
pub storage_type_kind : IsOfKind is_storage_type
storage_type_kind = record { number = λ k. k == 6 || k == 7; tells = storage_told }

-- abstract types
pub abstract_type_kind : IsOfKind is_abstract_type
abstract_type_kind = record { number = λ k. k == 6; tells = abstract_type_told }

-- concrete types
pub concrete_type_kind : IsOfKind is_concrete_type
concrete_type_kind = record { number = λ k. k == 7; tells = concrete_type_told }

-- abstract homes
pub abstract_home_kind : IsOfKind is_abstract_home
abstract_home_kind = record { number = λ k. k == 8; tells = abstract_home_told }

-- concrete homes
pub concrete_home_kind : IsOfKind is_concrete_home
concrete_home_kind = record { number = λ k. k == 9; tells = concrete_home_told }

-- what is of the kind of what passes does pass
pub passes_too : (test : What → Bool) → IsOfKind test → (a b : What) → kind a ≡ kind b → test a ≡ true → test b ≡ true
passes_too test of a b same on = by_kind test of.number of.tells a b same on

-- ---- the names above a declaration are among its uses

stores : (n : ℕ) (what : What) (name : Name) → Among name (above what) → uses n what ≡ in_store (n + 1) what
stores n IsModule name a = absurd a
stores n (IsConstant constant) name a = absurd a
stores n (IsAlias before spec dimensions) name a = absurd a
stores n (IsStruct struct) name a = absurd a
stores n (IsEnumeration enumerators) name a = absurd a
stores n IsEnumerator name a = absurd a
stores n (IsAbstractType body) name a = refl
stores n (IsConcreteType body) name a = refl
stores n (IsAbstractHome body) name a = refl
stores n (IsConcreteHome home) name a = refl
stores n (IsCatalog provisions) name a = absurd a

-- what is met passes a test
abbrev pub Meets : Use → (What → Bool) → Type 0
Meets u test = (w : What) (s : Standing) → meets u.need w s ≡ true → test w ≡ true

-- a name above is a use
pub record Stands (n : ℕ) (what : What) (name : Name) (test : What → Bool) : Type 0 where
  pub place : Use
  pub is_above : Among name (above what)
  pub is_used : Among place (uses n what)
  pub one_name : place.name ≡ name
  pub one_limit : place.limit ≡ n + 1
  pub meets : Meets place test

in_uses : (n : ℕ) (what : What) (name : Name) (u : Use) → Among name (above what) → Among u (in_store (n + 1) what) → Among u (uses n what)
in_uses n what name u a b = subst (λ (l : List Use). Among u l) (sym (stores n what name a)) b

-- what is there stands in its list
pub option_among : {A : Type 0} (o : Option A) (x : A) → o ≡ Some x → Among x (option_to_list o)
option_among None x e = absurd (cc)
option_among (Some m) x e = let same : m ≡ x = cc in inl same

-- the place of a name of a storage type
abbrev pub storage_use : ℕ → Name → Use
storage_use limit name = get_or (in_state_type limit (Reference name)) 0 (use_of limit (base_need IsModule) name)

-- the places of a store's names, one kind behind the other
abbrev pub of_bases : ℕ → What → List Use
of_bases n what = map (use_of (n + 1) (base_need what)) (bases what)

-- those behind `implements`
abbrev pub of_implemented : ℕ → What → List Use
of_implemented n what = map (use_of (n + 1) (implements_need what)) (implemented what)

-- that behind `of`
abbrev pub of_managed : ℕ → What → List Use
of_managed n what = map (storage_use (n + 1)) (option_to_list (managed what))

first_three : (n : ℕ) (what : What) (u : Use) → Among u (of_bases n what ++ of_implemented n what ++ of_managed n what) → Among u (in_store (n + 1) what)
first_three n what u h =
    let front : List Use = of_bases n what ++ of_implemented n what ++ of_managed n what in
    let stated : List Use = flat_map (λ s. in_state_type (n + 1) s.state_type) (states what) in
    among_front u (front ++ stated) (flat_map (in_operation (n + 1)) (operations what)) (among_front u front stated h)

-- a base
pub base_stands : (n : ℕ) (what : What) (name : Name) (test : What → Bool) → Among name (bases what) → Meets (use_of (n + 1) (base_need what) name) test → Stands n what name test
base_stands n what name test a m =
    let above : Among name (above what) = among_front name (parents what) (option_to_list (managed what)) (among_front name (bases what) (implemented what) a) in
    let u : Use = use_of (n + 1) (base_need what) name in
    record {
      place = u;
      is_above = above;
      is_used = in_uses n what name u above (first_three n what u (among_front u (of_bases n what ++ of_implemented n what) (of_managed n what) (among_front u (of_bases n what) (of_implemented n what) (among_image (use_of (n + 1) (base_need what)) (bases what) name a))));
      one_name = refl;
      one_limit = refl;
      meets = m;
    }

-- what is implemented
pub implemented_stands : (n : ℕ) (what : What) (name : Name) (test : What → Bool) → Among name (implemented what) → Meets (use_of (n + 1) (implements_need what) name) test → Stands n what name test
implemented_stands n what name test a m =
    let above : Among name (above what) = among_front name (parents what) (option_to_list (managed what)) (among_behind name (bases what) (implemented what) a) in
    let u : Use = use_of (n + 1) (implements_need what) name in
    record {
      place = u;
      is_above = above;
      is_used = in_uses n what name u above (first_three n what u (among_front u (of_bases n what ++ of_implemented n what) (of_managed n what) (among_behind u (of_bases n what) (of_implemented n what) (among_image (use_of (n + 1) (implements_need what)) (implemented what) name a))));
      one_name = refl;
      one_limit = refl;
      meets = m;
    }

-- the type of a home
pub managed_stands : (n : ℕ) (what : What) (name : Name) → managed what ≡ Some name → Stands n what name is_storage_type
managed_stands n what name is =
    let a : Among name (option_to_list (managed what)) = option_among (managed what) name is in
    let above : Among name (above what) = among_behind name (parents what) (option_to_list (managed what)) a in
    let u : Use = storage_use (n + 1) name in
    record {
      place = u;
      is_above = above;
      is_used = in_uses n what name u above (first_three n what u (among_behind u (of_bases n what ++ of_implemented n what) (of_managed n what) (among_image (storage_use (n + 1)) (option_to_list (managed what)) name a)));
      one_name = refl;
      one_limit = refl;
      meets = λ w s m. m;
    }

-- ---- what it means

-- what stands in such a place is defined in front, and passes the test
pub record IsAbove (all : List Declaration) (n : ℕ) (name : Name) (test : What → Bool) : Type 0 where
  pub declared : ℕ
  pub target : ℕ
  pub is_named : named all n name ≡ Some declared
  pub is_definition : definition all declared ≡ Some target
  pub is_defined : defined all n name ≡ Some target
  pub in_front : target < n
  pub declared_passes : test (at all declared).what ≡ true
  pub passes : test (at all target).what ≡ true

-- where none has a fault, each that stands in the list has none
pub none_among : {X A : Type 0} (f : X → List A) (xs : List X) → flat_map f xs ≡ [] → (x : X) → Among x xs → f x ≡ []
none_among f xs e x a = let r = among_at xs x a in none_at f xs e r.0 x r.1

above_parts : (all : List Declaration) (n : ℕ) (none : HasNone all n) → (flat_map (of_forward all n) (above (at all n).what) ≡ []) × (flat_map (of_itself all n) (above (at all n).what) ≡ [])
above_parts all n none =
    let d : Declaration = at all n in
    let split = both_empty (flat_map (of_itself all n) (above d.what)) (flat_map (of_itself all n) (in_struct n d.what)) (sym (flat_map-append (of_itself all n) (above d.what) (in_struct n d.what)) ∙ none.no_cycle) in
    ((both_empty (never_defined all n d) (flat_map (of_forward all n) (above d.what)) none.no_incomplete).1, split.0)

module _ (all : List Declaration) (n : ℕ) (none : HasNone all n) (name : Name) (test : What → Bool) (of : IsOfKind test) (stands : Stands n (at all n).what name test) where
  a : Among name (above (at all n).what)
  a = stands.is_above

  used : of_use all (standings all) (at all n).path stands.place ≡ []
  used = none_among (of_use all (standings all) (at all n).path) (uses n (at all n).what) none.no_names stands.place stands.is_used

  same_meaning : meaning as_is all stands.place.limit (at all n).path stands.place.name ≡ named all n name
  same_meaning = ap (λ (l : ℕ). meaning as_is all l (at all n).path stands.place.name) stands.one_limit ∙ ap (named all n) stands.one_name

  resolves : (j : ℕ) × (named all n name ≡ Some j) × (test (at all j).what ≡ true)
  resolves = by (meaning as_is all stands.place.limit (at all n).path stands.place.name) refl used
    where
      by : (o : Option ℕ) → meaning as_is all stands.place.limit (at all n).path stands.place.name ≡ o
          → given o (fault (given (meaning lower all stands.place.limit (at all n).path stands.place.name) Unknown (λ _. WrongCase)) (place_of stands.place.name) ∷ [])
          (λ j. fault_if (not (meets stands.place.need (at all j).what (standing (standings all) j))) WrongKind (place_of stands.place.name)) ≡ []
          → (j : ℕ) × (named all n name ≡ Some j) × (test (at all j).what ≡ true)
      by None e off = absurd (cc)
      by (Some j) e off =
          let met : meets stands.place.need (at all j).what (standing (standings all) j) ≡ true =
          not-false _ (does_not_hold (not (meets stands.place.need (at all j).what (standing (standings all) j))) WrongKind (place_of stands.place.name) off) in
          (j, sym same_meaning ∙ e, stands.meets (at all j).what (standing (standings all) j) met)

  -- it is not the declaration itself
  not_same : (j t : ℕ) → named all n name ≡ Some j → definition all j ≡ Some t → t ≡ n → ⊥
  not_same j t is defines same =
      let off : is_itself all n name ≡ false = does_not_hold (is_itself all n name) Cycle (place_of name) (none_among (of_itself all n) (above (at all n).what) (above_parts all n none).1 name a) in
      let whole : IsDefinition all j t = definition_is all j t defines in
      let one : origin all t ≡ origin all j =
      ap (λ (p : Path). first as_is all p (at all t).name) (sym whole.one_path) ∙ ap (λ (w : List ℕ). first as_is all (at all j).path w) (sym whole.one_name) in
      let own : origin all n ≡ Some j = ap (origin all) (sym same) ∙ one ∙ means_first all n name j is in
      let on : is_itself all n name ≡ true =
      ap (λ (o : Option ℕ). given o false (λ j. given (origin all n) false (λ k. j == k))) is ∙ ap (λ (o : Option ℕ). given o false (λ k. j == k)) own ∙ eq-eqb j j refl in
      let both : true ≡ false = sym on ∙ off in
      cc

  by_definition : (j : ℕ) → named all n name ≡ Some j → (t : ℕ) × (definition all j ≡ Some t) × (t < n)
  by_definition j is = by (definition all j) refl fault
    where
      fault : not (is_defined_by all n j) ≡ false
      fault =
          does_not_hold (not (is_defined_by all n j)) Incomplete (place_of name)
          (none_given (named all n name) (λ j. fault_if (not (is_defined_by all n j)) Incomplete (place_of name)) (none_among (of_forward all n) (above (at all n).what) (above_parts all n none).0 name a) j is)

      by : (o : Option ℕ) → definition all j ≡ o → not (given o false (λ k. nat_lt k (n + 1))) ≡ false → (t : ℕ) × (definition all j ≡ Some t) × (t < n)
      by None e off = absurd (cc)
      by (Some t) e off =
          let below : t < n + 1 = ltb-true t (n + 1) (not-false _ off) in
          (t, e, ⊎_elim (λ same. absurd (not_same j t is e same)) (λ differ. omega (arith, differ, below)) (cases_eq t n))

  -- what stands there is such
  pub above_is : IsAbove all n name test
  above_is =
      let r = resolves in
      let d = by_definition r.0 r.1 in
      record {
        declared = r.0;
        target = d.0;
        is_named = r.1;
        is_definition = d.1;
        is_defined = ap (λ (o : Option ℕ). option_and_then (definition all) o) r.1 ∙ d.1;
        in_front = d.2;
        declared_passes = r.2;
        passes = passes_too test of (at all r.0).what (at all d.0).what (definition_is all r.0 d.0 d.1).one_kind r.2;
      }

-- ---- a home's type

type_found : (test : ℕ → Bool) (t : ℕ) → test t ≡ true → find test (t ∷ []) ≡ Some t
type_found test t e = ap (λ (b : Bool). cond b (Some t) None) e

-- a home whose body names a type has one
pub typed : (all : List Declaration) → first_fault all ≡ None → (n : ℕ) → n < length all → (name : Name) → managed (at all n).what ≡ Some name → (t : ℕ) × (type_of_home all n ≡ Some t)
typed all none n lt name is =
    let above : IsAbove all n name is_storage_type = above_is all n (no_fault_at all none n lt) name is_storage_type storage_type_kind (managed_stands n (at all n).what name is) in
    let test : ℕ → Bool = λ t. is_storage_type (at all t).what in (
      above.target,
      ap (λ (o : Option Name). find test (option_to_list (option_and_then (defined all n) o))) is
          ∙ ap (λ (o : Option ℕ). find test (option_to_list o)) above.is_defined
          ∙ type_found test above.target above.passes,
    )
