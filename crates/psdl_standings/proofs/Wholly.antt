-- What is noted of a declaration by those before it is what is noted of it by all.
use Rattle.std.proofs.Common.{◌≡◌, ℕ, zero, suc, ◌+◌, ◌-◌, ◌<◌, ◌≤◌, List, [], ◌∷◌, ◌++◌, map, false, Option, Some, None, refl, ap, arith, append_assoc}
use mathlib.Core.Path.{fun_ext}
use Rattle.std.specs.Prelude.{not}
use Rattle.std.specs.List.{flat_map}
use Rattle.std.specs.Option.{option_and_then, option_to_list}
use Rattle.psdl_tree.specs.Trees.{Name, Expression, Constant, ConstantType, IntegerConstant, OctetConstant, StringConstant, NameConstant}
use Rattle.type_layout.specs.Schemas.{given}
use Rattle.type_layout.specs.Types.{PlainType}
use Rattle.psdl_directory.specs.declared.fault.CheckFault.{CheckFault}
use Rattle.psdl_directory.specs.declared.fault.CheckKind.TheVariants.{Unknown, WrongCase, WrongKind}
use Rattle.psdl_directory.specs.Declarations.{Path, What, IsModule, IsConstant, IsAlias, IsStruct, IsEnumeration, IsEnumerator, IsAbstractType, IsConcreteType, IsAbstractHome, IsConcreteHome, IsCatalog, Declaration}
use Rattle.psdl_directory.specs.Fault.{fault, fault_if}
use Rattle.psdl_directory.specs.Lookup.{as_is, lower, at, meaning, place_of}
use Rattle.psdl_directory.specs.Noting.{noting}
use Rattle.psdl_directory.specs.Parts.{bases, implemented, managed, states, operations, all_fields}
use Rattle.psdl_standings.specs.declared.body_faults.BodyFaults.{BodyFaults}
use Rattle.psdl_standings.specs.declared.need.Need.TheVariants as needs
use Rattle.psdl_standings.specs.Naming.{of_use}
use Rattle.psdl_standings.specs.Ranges.{of_bound}
use Rattle.psdl_standings.specs.Standings.{Standing, Nothing, standing, sight, standing_of, as_type, arrays_by, spec_by, struct_by}
use Rattle.psdl_standings.specs.Uses.{Use, Bound, use_of, uses, bounds, in_constant_type, in_expression, in_expressions, in_spec, in_field, in_state_type, in_operation, in_store, base_need, implements_need, spec_bounds, bounds_of, most_elements, field_bounds, state_bounds, operation_bounds, meets, is_number}
use Rattle.psdl_standings.specs.Expressions.{operands, named_by}
use Rattle.psdl_standings.specs.inner.Declared.{declared_noted}
use Rattle.psdl_standings.proofs.Below.{meaning_less}
use Rattle.psdl_standings.proofs.Own.{ByWhat, AreSame, AreBound, same_both, same_each, same_expressions, same_spec, same_field, same_body, same_header, same_provisions, bound_both, bound_each, bound_dimensions, bound_spec, bound_field, bound_body}

regroup : {A : Type 0} (a b c d e : List A) → a ++ b ++ c ++ d ++ e ≡ a ++ (b ++ (c ++ (d ++ e)))
regroup a b c d e = simp append_assoc

abbrev pub IsNoConstant : What → Type 0
IsNoConstant (IsConstant c) = ⊥
IsNoConstant _ = Unit {0}

type_is_none : (o : Option PlainType) → is_number (as_type o) ≡ false
type_is_none None = refl
type_is_none (Some t) = refl

-- what is no constant stands for no number
pub no_number : (all : List Declaration) (done : List Standing) (n : ℕ) (path : Path) (what : What) → IsNoConstant what → is_number (standing_of all done n path what) ≡ false
no_number all done n path IsModule h = refl
no_number all done n path (IsConstant c) h = absurd h
no_number all done n path (IsAlias before spec dimensions) h = type_is_none (option_and_then (arrays_by (sight all done (n + 1) path) dimensions) (spec_by (sight all done (n - before) path) spec))
no_number all done n path (IsStruct s) h = type_is_none (struct_by (sight all done (n + 1) path) s)
no_number all done n path (IsEnumeration e) h = refl
no_number all done n path IsEnumerator h = refl
no_number all done n path (IsAbstractType body) h = refl
no_number all done n path (IsConcreteType body) h = refl
no_number all done n path (IsAbstractHome body) h = refl
no_number all done n path (IsConcreteHome home) h = refl
no_number all done n path (IsCatalog provisions) h = refl

-- ---- names that stand in front

module _ (all : List Declaration) (done full : List Standing) (n : ℕ) (same : (j : ℕ) → j < n → standing full j ≡ standing done j) (path : Path) where
  sight_named : (limit : ℕ) → limit ≤ n → (name : Name) → sight all full limit path name ≡ sight all done limit path name
  sight_named limit le name = by (meaning as_is all limit path name) (meaning_less as_is all limit path name)
    where
      by : (o : Option ℕ) → ((m : ℕ) → o ≡ Some m → m < limit) → given o Nothing (λ m. standing full m) ≡ given o Nothing (λ m. standing done m)
      by None h = refl
      by (Some m) h = let lt : m < limit = h m refl in same m (omega (arith, lt, le))

  pub sight_less : (limit : ℕ) → limit ≤ n → sight all full limit path ≡ sight all done limit path
  sight_less limit le = fun_ext (sight_named limit le)

  use_less : (u : Use) → u.limit ≤ n → of_use all full path u ≡ of_use all done path u
  use_less u le = by (meaning as_is all u.limit path u.name) (meaning_less as_is all u.limit path u.name)
    where
      by : (o : Option ℕ) → ((m : ℕ) → o ≡ Some m → m < u.limit)
          → given o (fault (given (meaning lower all u.limit path u.name) Unknown (λ _. WrongCase)) (place_of u.name) ∷ []) (λ j. fault_if (not (meets u.need (at all j).what (standing full j))) WrongKind (place_of u.name))
          ≡ given o (fault (given (meaning lower all u.limit path u.name) Unknown (λ _. WrongCase)) (place_of u.name) ∷ []) (λ j. fault_if (not (meets u.need (at all j).what (standing done j))) WrongKind (place_of u.name))
      by None h = refl
      by (Some m) h =
          let lt : m < u.limit = h m refl in
          ap (λ (s : Standing). fault_if (not (meets u.need (at all m).what s)) WrongKind (place_of u.name)) (same m (omega (arith, lt, le)))

  abbrev AreLess : List Use → Type 0
  AreLess us = flat_map (of_use all full path) us ≡ flat_map (of_use all done path) us

  less_names : (names : List Name) → AreLess (map (use_of n needs.OfNumber) names)
  less_names [] = refl
  less_names (x ∷ xs) = rw (use_less (use_of n needs.OfNumber x) (omega arith), less_names xs) refl

  less_constant : (type : ConstantType) (e : Expression) → AreLess (in_constant_type n type ++ in_expression n e)
  less_constant (IntegerConstant i) e = less_names (flat_map named_by (operands e))
  less_constant OctetConstant e = less_names (flat_map named_by (operands e))
  less_constant StringConstant e = less_names (flat_map named_by (operands e))
  less_constant (NameConstant name) e = rw (use_less (use_of n needs.OfConstantType name) (omega arith), less_names (flat_map named_by (operands e))) refl

  pub constant_same : (f : BodyFaults) (c : Constant) → declared_noted all full f n path (IsConstant c) ≡ declared_noted all done f n path (IsConstant c)
  constant_same f c = rw (less_constant c.constant_type c.value, sight_less n (omega arith)) refl

-- ---- all others

module _ (all : List Declaration) (done full : List Standing) (n : ℕ) (same : (j : ℕ) → j < n → standing full j ≡ standing done j) (own : is_number (standing full n) ≡ false) (past : standing done n ≡ Nothing) (path : Path) where
  abbrev Same : List Use → Type 0
  Same us = AreSame all done full n same own past path us

  next : n + 1 ≤ n + 1
  next = omega arith

  now : n ≤ n + 1
  now = omega arith

  both : (us vs : List Use) → Same us → Same vs → Same (us ++ vs)
  both us vs a b = same_both all done full n same own past path us vs a b

  store_names : (what : What) → ByWhat (base_need what) → ByWhat (implements_need what) → Same (in_store (n + 1) what)
  store_names what a b =
      rw (regroup (map (use_of (n + 1) (base_need what)) (bases what)) (map (use_of (n + 1) (implements_need what)) (implemented what)) (map (use_of (n + 1) needs.OfStorageType) (option_to_list (managed what))) (flat_map (λ s. in_state_type (n + 1) s.state_type) (states what)) (flat_map (in_operation (n + 1)) (operations what)))
      (both (map (use_of (n + 1) (base_need what)) (bases what)) _ (same_header all done full n same own past path (n + 1) next (base_need what) a (bases what))
      (both (map (use_of (n + 1) (implements_need what)) (implemented what)) _ (same_header all done full n same own past path (n + 1) next (implements_need what) b (implemented what))
      (both (map (use_of (n + 1) needs.OfStorageType) (option_to_list (managed what))) _ (same_header all done full n same own past path (n + 1) next needs.OfStorageType (λ w s t. refl) (option_to_list (managed what)))
      (same_body all done full n same own past path (n + 1) next (states what) (operations what)))))

  names_whole : (what : What) → IsNoConstant what → Same (uses n what)
  names_whole (IsConstant c) h = absurd h
  names_whole (IsAlias zero spec dimensions) h =
      both (in_spec n spec) (in_expressions (n + 1) dimensions) (same_spec all done full n same own past path n now spec) (same_expressions all done full n same own past path (n + 1) next dimensions)
  names_whole (IsAlias (suc before) spec dimensions) h = same_expressions all done full n same own past path (n + 1) next dimensions
  names_whole (IsStruct s) h = same_each all done full n same own past path (in_field (n + 1)) (λ f. same_field all done full n same own past path (n + 1) next f) (all_fields s)
  names_whole (IsCatalog provisions) h = same_provisions all done full n same own past path (n + 1) next provisions
  names_whole IsModule h = store_names IsModule (λ w s t. refl) (λ w s t. refl)
  names_whole (IsEnumeration e) h = store_names (IsEnumeration e) (λ w s t. refl) (λ w s t. refl)
  names_whole IsEnumerator h = store_names IsEnumerator (λ w s t. refl) (λ w s t. refl)
  names_whole (IsAbstractType body) h = store_names (IsAbstractType body) (λ w s t. refl) (λ w s t. refl)
  names_whole (IsConcreteType body) h = store_names (IsConcreteType body) (λ w s t. refl) (λ w s t. refl)
  names_whole (IsAbstractHome body) h = store_names (IsAbstractHome body) (λ w s t. refl) (λ w s t. refl)
  names_whole (IsConcreteHome home) h = store_names (IsConcreteHome home) (λ w s t. refl) (λ w s t. refl)

  abbrev Bounded : List Bound → Type 0
  Bounded bs = AreBound all done full n same own past path bs

  store_bounds : (what : What) → Bounded (flat_map (λ s. state_bounds (n + 1) s.state_type) (states what) ++ flat_map (operation_bounds (n + 1)) (operations what))
  store_bounds what = bound_body all done full n same own past path (n + 1) next (states what) (operations what)

  bounds_whole : (what : What) → IsNoConstant what → Bounded (bounds n what)
  bounds_whole (IsConstant c) h = absurd h
  bounds_whole (IsAlias zero spec dimensions) h =
      bound_both all done full n same own past path (spec_bounds n spec) (bounds_of (n + 1) most_elements dimensions) (bound_spec all done full n same own past path n now spec)
      (bound_dimensions all done full n same own past path (n + 1) next most_elements dimensions)
  bounds_whole (IsAlias (suc before) spec dimensions) h = bound_dimensions all done full n same own past path (n + 1) next most_elements dimensions
  bounds_whole (IsStruct s) h = bound_each all done full n same own past path (field_bounds (n + 1)) (λ f. bound_field all done full n same own past path (n + 1) next f) (all_fields s)
  bounds_whole (IsCatalog provisions) h = refl
  bounds_whole IsModule h = refl
  bounds_whole (IsEnumeration e) h = refl
  bounds_whole IsEnumerator h = refl
  bounds_whole (IsAbstractType body) h = store_bounds (IsAbstractType body)
  bounds_whole (IsConcreteType body) h = store_bounds (IsConcreteType body)
  bounds_whole (IsAbstractHome body) h = store_bounds (IsAbstractHome body)
  bounds_whole (IsConcreteHome home) h = refl

  abbrev parts_noted : BodyFaults → List CheckFault → Option CheckFault → List CheckFault → Option CheckFault → BodyFaults
  parts_noted f names strings values selves = record { names = noting f.names names; strings = strings; values = noting f.values values; selves = selves }

  -- by what its bounds and names come to
  by_parts : (f : BodyFaults) (what : What) (selves : Option CheckFault) → (strings : Option CheckFault) → Same (uses n what) → Bounded (bounds n what)
      → parts_noted f (flat_map (of_use all full path) (uses n what)) strings (flat_map (of_bound all full path) (bounds n what)) selves ≡ parts_noted f (flat_map (of_use all done path) (uses n what)) strings (flat_map (of_bound all done path) (bounds n what)) selves
  by_parts f what selves strings a b = rw (a, b) refl

  pub others_same : (f : BodyFaults) (what : What) → IsNoConstant what → declared_noted all full f n path what ≡ declared_noted all done f n path what
  others_same f (IsConstant c) h = absurd h
  others_same f (IsAlias before spec dimensions) h = by_parts f (IsAlias before spec dimensions) _ _ (names_whole (IsAlias before spec dimensions) h) (bounds_whole (IsAlias before spec dimensions) h)
  others_same f (IsStruct s) h = by_parts f (IsStruct s) _ _ (names_whole (IsStruct s) h) (bounds_whole (IsStruct s) h)
  others_same f (IsCatalog provisions) h = by_parts f (IsCatalog provisions) _ _ (names_whole (IsCatalog provisions) h) (bounds_whole (IsCatalog provisions) h)
  others_same f IsModule h = by_parts f IsModule _ _ (names_whole IsModule h) (bounds_whole IsModule h)
  others_same f (IsEnumeration e) h = by_parts f (IsEnumeration e) _ _ (names_whole (IsEnumeration e) h) (bounds_whole (IsEnumeration e) h)
  others_same f IsEnumerator h = by_parts f IsEnumerator _ _ (names_whole IsEnumerator h) (bounds_whole IsEnumerator h)
  others_same f (IsAbstractType body) h = by_parts f (IsAbstractType body) _ _ (names_whole (IsAbstractType body) h) (bounds_whole (IsAbstractType body) h)
  others_same f (IsConcreteType body) h = by_parts f (IsConcreteType body) _ _ (names_whole (IsConcreteType body) h) (bounds_whole (IsConcreteType body) h)
  others_same f (IsAbstractHome body) h = by_parts f (IsAbstractHome body) _ _ (names_whole (IsAbstractHome body) h) (bounds_whole (IsAbstractHome body) h)
  others_same f (IsConcreteHome home) h = by_parts f (IsConcreteHome home) _ _ (names_whole (IsConcreteHome home) h) (bounds_whole (IsConcreteHome home) h)
