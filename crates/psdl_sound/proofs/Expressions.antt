-- The expressions of a declaration, whatever its number.
use Rattle.std.proofs.Common.{◌≡◌, ℕ, zero, suc, ◌+◌, ◌<◌, List, [], ◌∷◌, ◌++◌, length, map, true, refl, sym, ap, ◌∙◌}
use Rattle.std.specs.List.{flat_map, list_all}
use Rattle.std.specs.Option.{option_to_list}
use Rattle.std.proofs.lemmas.List.{map-append}
use Rattle.psdl_tree.specs.Trees.{Expression, PlainType as PlainTree, IntegerPlain, CharPlain, BooleanPlain, OctetPlain, StringPlain, NamePlain, TypeSpec, PlainSpec, Sequence, StateType, PlainState, Reference, Field, State, Parameter, OperationResult, Void, StateResult, Operation}
use Rattle.psdl_directory.specs.Declarations.{What, IsModule, IsConstant, IsAlias, IsStruct, IsEnumeration, IsEnumerator, IsAbstractType, IsConcreteType, IsAbstractHome, IsConcreteHome, IsCatalog, Declaration, all_declarators}
use Rattle.psdl_standings.specs.Expressions.{operands}
use Rattle.psdl_directory.specs.Lookup.{at}
use Rattle.psdl_directory.specs.Parts.{all_fields, all_parameters, states, operations}
use Rattle.psdl_standings.specs.Uses.{Bound, bounds_of, most_items, most_elements, plain_bounds, spec_bounds, state_bounds, declarator_bounds, field_bounds, result_bounds, operation_bounds, bounds}
use Rattle.psdl_sound.specs.SmallLiterals.{is_small, expressions_of, has_small, AreSmall}
use Rattle.psdl_sound.proofs.ScopedNames.{each_passes}

-- the expressions of bounds
abbrev values : List Bound → List Expression
values bs = map (λ b. b.value) bs

two_parts : (as_one bs cs ds : List Bound) → values as_one ≡ values bs → values cs ≡ values ds → values (as_one ++ cs) ≡ values (bs ++ ds)
two_parts as_one bs cs ds e d =
    map-append (λ (b : Bound). b.value) as_one cs ∙ ap (λ (l : List Expression). l ++ values cs) e ∙ ap (λ (l : List Expression). values bs ++ l) d ∙ sym (map-append (λ (b : Bound). b.value) bs ds)

each_part : {A : Type 0} (f g : A → List Bound) (xs : List A) → ((x : A) → values (f x) ≡ values (g x)) → values (flat_map f xs) ≡ values (flat_map g xs)
each_part f g [] same = refl
each_part f g (x ∷ xs) same = two_parts (f x) (g x) (flat_map f xs) (flat_map g xs) (same x) (each_part f g xs same)

of_list : (a b most : ℕ) (es : List Expression) → values (bounds_of a most es) ≡ values (bounds_of b most es)
of_list a b most [] = refl
of_list a b most (e ∷ es) = ap (λ (l : List Expression). e ∷ l) (of_list a b most es)

of_plain : (a b : ℕ) (plain : PlainTree) → values (plain_bounds a plain) ≡ values (plain_bounds b plain)
of_plain a b (StringPlain bound) = of_list a b most_items (option_to_list bound)
of_plain a b (IntegerPlain integer) = refl
of_plain a b CharPlain = refl
of_plain a b BooleanPlain = refl
of_plain a b OctetPlain = refl
of_plain a b (NamePlain name) = refl

of_spec : (a b : ℕ) (spec : TypeSpec) → values (spec_bounds a spec) ≡ values (spec_bounds b spec)
of_spec a b (PlainSpec plain) = of_plain a b plain
of_spec a b (Sequence item bound) =
    two_parts (spec_bounds a item) (spec_bounds b item) (bounds_of a most_items (option_to_list bound)) (bounds_of b most_items (option_to_list bound)) (of_spec a b item) (of_list a b most_items (option_to_list bound))

of_state : (a b : ℕ) (type : StateType) → values (state_bounds a type) ≡ values (state_bounds b type)
of_state a b (PlainState plain) = of_plain a b plain
of_state a b (Reference name) = refl

of_field : (a b : ℕ) (field : Field) → values (field_bounds a field) ≡ values (field_bounds b field)
of_field a b field =
    two_parts (spec_bounds a field.spec) (spec_bounds b field.spec) (flat_map (declarator_bounds a) (all_declarators field.declarators)) (flat_map (declarator_bounds b) (all_declarators field.declarators)) (of_spec a b field.spec)
    (each_part (declarator_bounds a) (declarator_bounds b) (all_declarators field.declarators) (λ d. of_list a b most_elements d.dimensions))

of_result : (a b : ℕ) (result : OperationResult) → values (result_bounds a result) ≡ values (result_bounds b result)
of_result a b Void = refl
of_result a b (StateResult type) = of_state a b type

of_operation : (a b : ℕ) (o : Operation) → values (operation_bounds a o) ≡ values (operation_bounds b o)
of_operation a b o =
    let f : ℕ → Parameter → List Bound = λ n p. state_bounds n p.parameter_type in
    two_parts (result_bounds a o.returned) (result_bounds b o.returned) (flat_map (f a) (all_parameters o.parameters)) (flat_map (f b) (all_parameters o.parameters)) (of_result a b o.returned)
    (each_part (f a) (f b) (all_parameters o.parameters) (λ p. of_state a b p.parameter_type))

of_store : (a b : ℕ) (what : What)
    → values (flat_map (λ s. state_bounds a s.state_type) (states what) ++ flat_map (operation_bounds a) (operations what)) ≡ values (flat_map (λ s. state_bounds b s.state_type) (states what) ++ flat_map (operation_bounds b) (operations what))
of_store a b what =
    let f : ℕ → State → List Bound = λ n s. state_bounds n s.state_type in
    two_parts (flat_map (f a) (states what)) (flat_map (f b) (states what)) (flat_map (operation_bounds a) (operations what)) (flat_map (operation_bounds b) (operations what))
    (each_part (f a) (f b) (states what) (λ s. of_state a b s.state_type)) (each_part (operation_bounds a) (operation_bounds b) (operations what) (λ o. of_operation a b o))

-- the expressions of the declaration with this number
abbrev pub expressions_at : ℕ → What → List Expression
expressions_at n (IsConstant constant) = constant.value ∷ []
expressions_at n what = values (bounds n what)

-- are those of the declaration
one_list : (n : ℕ) (what : What) → expressions_at n what ≡ expressions_of what
one_list n (IsConstant constant) = refl
one_list n (IsAlias zero spec dimensions) =
    two_parts (spec_bounds n spec) (spec_bounds 0 spec) (bounds_of (n + 1) most_elements dimensions) (bounds_of (0 + 1) most_elements dimensions) (of_spec n 0 spec) (of_list (n + 1) (0 + 1) most_elements dimensions)
one_list n (IsAlias (suc before) spec dimensions) = of_list (n + 1) (0 + 1) most_elements dimensions
one_list n (IsStruct struct) = each_part (field_bounds (n + 1)) (field_bounds (0 + 1)) (all_fields struct) (λ f. of_field (n + 1) (0 + 1) f)
one_list n IsModule = refl
one_list n (IsEnumeration enumerators) = refl
one_list n IsEnumerator = refl
one_list n (IsAbstractType body) = of_store (n + 1) (0 + 1) (IsAbstractType body)
one_list n (IsConcreteType body) = of_store (n + 1) (0 + 1) (IsConcreteType body)
one_list n (IsAbstractHome body) = of_store (n + 1) (0 + 1) (IsAbstractHome body)
one_list n (IsConcreteHome home) = of_store (n + 1) (0 + 1) (IsConcreteHome home)
one_list n (IsCatalog provisions) = of_store (n + 1) (0 + 1) (IsCatalog provisions)

-- the literals of each declaration are small, by its number
abbrev pub AreSmallAt : List Declaration → Type 0
AreSmallAt all = (n : ℕ) → n < length all → list_all (λ e. list_all is_small (operands e)) (expressions_at n (at all n).what) ≡ true

-- as they are in a text whose literals are small
pub small_at : (all : List Declaration) → AreSmall all → AreSmallAt all
small_at all small n lt = ap (list_all (λ e. list_all is_small (operands e))) (one_list n (at all n).what) ∙ each_passes has_small all small n lt
