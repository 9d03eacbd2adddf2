-- What a text without a fault has at each declaration: no fault of any condition.
use Rattle.std.proofs.Common.{◌≡◌, ℕ, zero, suc, ◌+◌, ◌<◌, List, [], ◌∷◌, ◌++◌, length, Bool, true, false, Option, Some, None, refl, sym, ap, ◌∙◌, arith}
use Rattle.std.specs.Prelude.{map, is_some, not, ◌&&◌, ◌||◌, nat_lt, cond}
use Rattle.std.specs.List.{flat_map, list_all, slice_get}
use Rattle.std.specs.Option.{option_to_list}
use Rattle.std.proofs.lemmas.Bool.{and_from}
use Rattle.std.proofs.lemmas.List.Concat.{flat_map-append}
use Rattle.std.proofs.lemmas.List.Folds.{list_all-append}
use Rattle.type_layout.specs.Schemas.{given}
use Rattle.psdl_directory.specs.declared.fault.CheckFault.{CheckFault}
use Rattle.psdl_directory.specs.declared.fault.CheckKind.{CheckKind}
use Rattle.pss_base.specs.declared.place.Place.{Place}
use Rattle.psdl_tree.specs.Trees.{Name}
use Rattle.psdl_directory.specs.declared.fault.CheckKind.TheVariants.{Limit, MemberClash}
use Rattle.psdl_directory.specs.Declarations.{Declaration, Path, What, IsModule, IsConstant, IsAlias, IsStruct, IsEnumeration, IsEnumerator, IsAbstractType, IsConcreteType, IsAbstractHome, IsConcreteHome, IsCatalog}
use Rattle.psdl_directory.specs.Parts.{bases, implemented, is_concrete_type, is_forward, is_storage_type, managed, operations, parents, states}
use Rattle.psdl_rules.specs.Faults.NotImplemented.{not_implemented}
use Rattle.psdl_rules.specs.Faults.HomeType.{home_type}
use Rattle.psdl_rules.specs.Faults.FamilyType.{family_type}
use Rattle.psdl_rules.specs.Faults.Provides.{not_provided}
use Rattle.psdl_directory.specs.Fault.{fault_if, each, each_from, is_after, least, lesser}
use Rattle.psdl_rules.specs.Faults.{faults, wrong_names, wrong_values, listed_wrong}
use Rattle.psdl_rules.proofs.Bodies.{names_alike_at, values_alike_at}
use Rattle.psdl_check.specs.Faults.{long_shape, or_else, all_faults, first_fault}
use Rattle.psdl_rules.specs.Words.{above}
use Rattle.psdl_rules.specs.Faults.Cycle.{cycle}
use Rattle.psdl_rules.specs.Faults.Incomplete.{incomplete}
use Rattle.psdl_rules.specs.Faults.Limit.{deep_type, has_long_default, long_type, many_homes, most_members}
use Rattle.psdl_directory.specs.Lookup.{as_is, at, meaning}
use Rattle.psdl_rules.specs.Faults.MemberClash.{member_clash}
use Rattle.psdl_rules.specs.Faults.KeyMember.{key_members}
use Rattle.psdl_rules.specs.Faults.KeyType.{key_types}
use Rattle.psdl_rules.specs.Faults.FactoryMember.{factory_members}
use Rattle.psdl_rules.specs.Words.{has_settled_header}
use Rattle.psdl_members.specs.Clashes.{has_clash}
use Rattle.psdl_lineage.specs.Descent.{members}
use Rattle.psdl_standings.specs.Naming.{of_names, of_strings, of_use}
use Rattle.psdl_standings.specs.Selves.{in_struct, of_itself, of_selves}
use Rattle.psdl_standings.specs.Uses.{Use, base_need, implements_need, in_operation, in_state_type, in_store, use_of, uses}
use Rattle.psdl_standings.specs.Ranges.{of_values}
use Rattle.psdl_rules.specs.Faults.Redefined.{redefined, redefined_inside}
use Rattle.psdl_standings.specs.Standings.{Standing, standings}

-- ---- lists that are empty

-- of two lists that are empty together each is empty
pub both_empty : {A : Type 0} (xs ys : List A) → xs ++ ys ≡ [] → (xs ≡ []) × (ys ≡ [])
both_empty [] ys e = (refl, e)
both_empty (x ∷ xs) ys e = absurd (cc)

-- a fault that is not given does not hold
pub does_not_hold : (b : Bool) (kind : CheckKind) (place : Place) → fault_if b kind place ≡ [] → b ≡ false
does_not_hold true kind place e = absurd (cc)
does_not_hold false kind place e = refl

-- where no element of a list has a fault, none at a place has
pub none_at : {X A : Type 0} (f : X → List A) (xs : List X) → flat_map f xs ≡ [] → (i : ℕ) (x : X) → slice_get xs i ≡ Some x → f x ≡ []
none_at f [] e i x is = absurd (cc)
none_at f (y ∷ ys) e zero x is = let same : y ≡ x = cc in ap f (sym same) ∙ (both_empty (f y) (flat_map f ys) e).0
none_at f (y ∷ ys) e (suc i) x is = none_at f ys (both_empty (f y) (flat_map f ys) e).1 i x is

-- what follows of a thing that is there is nothing
pub none_given : {X A : Type 0} (o : Option X) (f : X → List A) → given o [] f ≡ [] → (x : X) → o ≡ Some x → f x ≡ []
none_given None f e x is = absurd (cc)
none_given (Some y) f e x is = let same : y ≡ x = cc in ap f (sym same) ∙ e

-- ---- headers

-- a name that has no fault means something
meant : (o : Option ℕ) (fault : CheckFault) (f : ℕ → List CheckFault) → given o (fault ∷ []) f ≡ [] → is_some o ≡ true
meant None fault f e = absurd (cc)
meant (Some j) fault f e = refl

module _ (all : List Declaration) (done : List Standing) (n : ℕ) (path : Path) where
  means : Name → Bool
  means name = is_some (meaning as_is all (n + 1) path name)

  -- a name in such a place is looked for in front of this declaration, as `named` looks for it
  IsHere : (Name → Use) → Type 0
  IsHere place = (name : Name) → ((place name).limit ≡ n + 1) × ((place name).name ≡ name)

  all_mean : (place : Name → Use) → IsHere place → (names : List Name) → flat_map (of_use all done path) (map place names) ≡ [] → list_all means names ≡ true
  unfolding IsHere means meaning
  all_mean place here [] e = refl
  all_mean place here (name ∷ names) e =
      let parts = both_empty (of_use all done path (place name)) (flat_map (of_use all done path) (map place names)) e in
      let same : meaning as_is all (place name).limit path (place name).name ≡ meaning as_is all (n + 1) path name = ap (λ l. meaning as_is all l path (place name).name) (here name).0 ∙ ap (meaning as_is all (n + 1) path) (here name).1 in
      and_from (means name) (list_all means names) (sym (ap is_some same) ∙ meant (meaning as_is all (place name).limit path (place name).name) _ _ parts.0) (all_mean place here names parts.1)

  three_mean : (what : What) → flat_map (of_use all done path) (in_store (n + 1) what) ≡ [] → list_all means (parents what ++ option_to_list (managed what)) ≡ true
  unfolding IsHere
  three_mean what e =
      let f = of_use all done path in
      let a4 = both_empty _ _ (sym (flat_map-append f _ (flat_map (in_operation (n + 1)) (operations what))) ∙ e) in
      let a3 = both_empty _ _ (sym (flat_map-append f _ (flat_map (λ s. in_state_type (n + 1) s.state_type) (states what))) ∙ a4.0) in
      let a2 = both_empty _ _ (sym (flat_map-append f (map (use_of (n + 1) (base_need what)) (bases what) ++ map (use_of (n + 1) (implements_need what)) (implemented what)) _) ∙ a3.0) in
      let a1 = both_empty _ _ (sym (flat_map-append f (map (use_of (n + 1) (base_need what)) (bases what)) (map (use_of (n + 1) (implements_need what)) (implemented what))) ∙ a2.0) in
      list_all-append means (parents what) (option_to_list (managed what))
      ∙ and_from (list_all means (parents what)) (list_all means (option_to_list (managed what)))
      (list_all-append means (bases what) (implemented what)
      ∙ and_from (list_all means (bases what)) (list_all means (implemented what))
      (all_mean (use_of (n + 1) (base_need what)) (λ name. (refl, refl)) (bases what) a1.0)
      (all_mean (use_of (n + 1) (implements_need what)) (λ name. (refl, refl)) (implemented what) a1.1))
      (all_mean _ (λ name. (refl, refl)) (option_to_list (managed what)) a2.1)

  header_means : (what : What) → flat_map (of_use all done path) (uses n what) ≡ [] → list_all means (parents what ++ option_to_list (managed what)) ≡ true
  header_means (IsConstant constant) e = refl
  header_means (IsAlias before spec dimensions) e = refl
  header_means (IsStruct struct) e = refl
  header_means (IsCatalog provisions) e = refl
  header_means IsModule e = refl
  header_means (IsEnumeration enumerators) e = refl
  header_means IsEnumerator e = refl
  header_means (IsAbstractType body) e = three_mean (IsAbstractType body) e
  header_means (IsConcreteType body) e = three_mean (IsConcreteType body) e
  header_means (IsAbstractHome body) e = three_mean (IsAbstractHome body) e
  header_means (IsConcreteHome home) e = three_mean (IsConcreteHome home) e

-- where no name has a fault, each name of the header means something
settled_header : (all : List Declaration) (n : ℕ) → of_names all (standings all) n (at all n) ≡ [] → has_settled_header all n ≡ true
unfolding meaning means
settled_header all n e = header_means all (standings all) n (at all n).path (at all n).what e

-- what is asked of a settled header holds without it
of_settled : (settled : Bool) (kind : CheckKind) (place : Place) (x y : Bool) → settled ≡ true → fault_if (x && settled && y) kind place ≡ [] → fault_if (x && y) kind place ≡ []
of_settled true kind place true y w e = e
of_settled true kind place false y w e = e
of_settled false kind place x y w e = absurd (cc)

-- ---- all conditions at one declaration

-- no condition has a fault at the declaration with this number
pub record HasNone (all : List Declaration) (n : ℕ) : Type 0 where
  pub no_redefined : redefined all n (at all n) ≡ []
  pub no_redefined_inside : redefined_inside n (at all n) ≡ []
  pub no_names : of_names all (standings all) n (at all n) ≡ []
  pub no_strings : of_strings all (standings all) n (at all n) ≡ []
  pub no_incomplete : incomplete all n (at all n) ≡ []
  pub no_cycle : flat_map (of_itself all n) (above (at all n).what ++ in_struct n (at all n).what) ≡ []
  pub no_clash : fault_if (not (is_forward (at all n).what) && has_clash all n (at all n).what) MemberClash (at all n).place ≡ []
  pub no_key_members : key_members all n (at all n) ≡ []
  pub no_key_types : key_types all (standings all) n (at all n) ≡ []
  pub no_factory_members : factory_members all n (at all n) ≡ []
  pub no_not_implemented : not_implemented all n (at all n) ≡ []
  pub no_home_type : home_type all n (at all n) ≡ []
  pub no_family_type : family_type all n (at all n) ≡ []
  pub no_not_provided : not_provided all n (at all n) ≡ []
  pub no_values : of_values all (standings all) n (at all n) ≡ []
  pub no_long_type : fault_if (is_storage_type (at all n).what && not (is_forward (at all n).what) && (nat_lt most_members (length (members all n)) || (is_concrete_type (at all n).what && has_long_default all (standings all) n))) Limit (at all n).place ≡ []
  pub no_deep_type : deep_type all (standings all) n (at all n) ≡ []
  pub no_many_homes : many_homes all n (at all n) ≡ []

-- ---- the whole text

-- none of the faults at all declarations, none at one
none_of_each : (condition : ℕ → Declaration → List CheckFault) (k : ℕ) (ds : List Declaration) → each_from condition k ds ≡ [] → (i : ℕ) → i < length ds → condition (k + i) (at ds i) ≡ []
none_of_each condition k [] e i lt = absurd (omega (arith, lt))
none_of_each condition k (d ∷ ds) e zero lt =
    let same : k + 0 ≡ k = omega arith in
    ap (λ (n : ℕ). condition n d) same ∙ (both_empty (condition k d) (each_from condition (k + 1) ds) e).0
none_of_each condition k (d ∷ ds) e (suc i) lt =
    let same : k + suc i ≡ k + 1 + i = omega arith in
    ap (λ (n : ℕ). condition n (at ds i)) same
    ∙ none_of_each condition (k + 1) ds (both_empty (condition k d) (each_from condition (k + 1) ds) e).1 i (omega (arith, lt))

both_none : {A : Type 0} (xs ys : List A) → or_else xs ys ≡ [] → (xs ≡ []) × (ys ≡ [])
both_none [] ys e = (refl, e)
both_none (x ∷ xs) ys e = absurd (cc)

some_least : (f : CheckFault) (o : Option CheckFault) → lesser (Some f) o ≡ None → ⊥
some_least f None e = cc
some_least f (Some g) e = by (is_after f g) e
  where
    by : (b : Bool) → cond b (Some g) (Some f) ≡ None → ⊥
    by true e = cc
    by false e = cc

pub nothing_least : (fs : List CheckFault) → least fs ≡ None → fs ≡ []
nothing_least [] e = refl
nothing_least (f ∷ fs) e = absurd (some_least f (least fs) e)

pub none_of_all : (all : List Declaration) → first_fault all ≡ None → (faults all ≡ []) × (long_shape all ≡ [])
unfolding all_faults
none_of_all all e = both_none (faults all) (long_shape all) (nothing_least (all_faults all) e)

-- a condition that has no fault at any declaration has none at one
pub at_one : (all : List Declaration) (condition : ℕ → Declaration → List CheckFault) → each condition all ≡ [] → (n : ℕ) → n < length all → condition n (at all n) ≡ []
at_one all condition e n lt =
    let same : n ≡ 0 + n = omega arith in
    ap (λ (k : ℕ). condition k (at all n)) same ∙ none_of_each condition 0 all e n lt

-- a text in which nothing is wrong but for its shape has no fault at any declaration
pub faultless_at : (all : List Declaration) → faults all ≡ [] → (n : ℕ) → n < length all → HasNone all n
unfolding faults
faultless_at all e n lt =
    let done : List Standing = standings all in
    let on_homes = both_empty _ _ e in
    let on_members = both_empty _ _ on_homes.0 in
    let on_definitions = both_empty _ _ on_members.0 in
    let on_bodies = both_empty _ _ on_definitions.0 in
    let scopes = both_empty _ _ on_bodies.0 in
    let values = both_empty _ _ on_bodies.1 in
    let texts = both_empty _ _ values.0 in
    let limits = both_empty _ _ on_definitions.1 in
    let circles = both_empty _ _ limits.0 in
    let cycles = both_empty _ _ circles.1 in
    let many = both_empty _ _ limits.1 in
    let long = both_empty _ _ many.0 in
    let clashes = both_empty _ _ on_members.1 in
    let provisions = both_empty _ _ on_homes.1 in
    let kin = both_empty _ _ provisions.0 in
    let typed = both_empty _ _ kin.0 in
    let names : of_names all done n (at all n) ≡ [] = names_alike_at all done n (at all n) ∙ at_one all (wrong_names all done) texts.0 n lt in
    let settled = settled_header all n names in
    let listed = both_empty _ _ (at_one all (listed_wrong all done) clashes.1 n lt) in
    let keyed = both_empty _ _ listed.0 in
    let d : Declaration = at all n in
    record {
      no_redefined = at_one all (redefined all) scopes.0 n lt;
      no_redefined_inside = at_one all redefined_inside scopes.1 n lt;
      no_names = names;
      no_strings = at_one all (of_strings all done) texts.1 n lt;
      no_values = values_alike_at all done n (at all n) ∙ at_one all (wrong_values all done) values.1 n lt;
      no_cycle = flat_map-append (of_itself all n) (above d.what) (in_struct n d.what) ∙ ap (λ xs. xs ++ flat_map (of_itself all n) (in_struct n d.what)) (at_one all (cycle all) cycles.0 n lt) ∙ at_one all (of_selves all) cycles.1 n lt;
      no_incomplete = at_one all (incomplete all) circles.0 n lt;
      no_long_type = of_settled (has_settled_header all n) Limit d.place (is_storage_type d.what && not (is_forward d.what)) _ settled (at_one all (long_type all done) long.0 n lt);
      no_deep_type = at_one all (deep_type all done) long.1 n lt;
      no_many_homes = at_one all (many_homes all) many.1 n lt;
      no_clash = of_settled (has_settled_header all n) MemberClash d.place (not (is_forward d.what)) _ settled (at_one all (member_clash all) clashes.0 n lt);
      no_key_members = keyed.0;
      no_key_types = keyed.1;
      no_factory_members = listed.1;
      no_not_implemented = at_one all (not_implemented all) typed.0 n lt;
      no_home_type = at_one all (home_type all) typed.1 n lt;
      no_family_type = at_one all (family_type all) kin.1 n lt;
      no_not_provided = at_one all (not_provided all) provisions.1 n lt;
    }

pub no_fault_at : (all : List Declaration) → first_fault all ≡ None → (n : ℕ) → n < length all → HasNone all n
no_fault_at all e n lt = faultless_at all (none_of_all all e).0 n lt

-- its shape text is not too long
pub no_long_shape : (all : List Declaration) → first_fault all ≡ None → long_shape all ≡ []
no_long_shape all e = (none_of_all all e).1
