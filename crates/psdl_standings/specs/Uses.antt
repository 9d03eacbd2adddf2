-- The names and expressions of a declaration, each with how many declarations stand before it.
use Rattle.std.specs.Prelude.{ℕ, zero, suc, ◌+◌, List, [], ◌∷◌, ◌++◌, map, Bool, true, false}
use Rattle.std.specs.List.{flat_map}
use Rattle.std.specs.Option.{option_to_list}
use Rattle.psdl_tree.specs.Trees.{Name, Expression, PlainType as PlainTree, StringPlain, NamePlain, TypeSpec, PlainSpec, Sequence, StateType, PlainState, Reference, Declarator, Field, OperationResult, Void, StateResult, Operation, ConstantType, NameConstant}
use Rattle.type_layout.specs.Schemas.{given}
use Rattle.type_layout.specs.Types.{PlainType, Str}
use Rattle.psdl_standings.specs.declared.need.Need.{Need}
use Rattle.psdl_directory.specs.Declarations.{What, IsConstant, IsAlias, IsStruct, IsAbstractType, IsConcreteType, IsAbstractHome, IsCatalog, all_declarators}
use Rattle.psdl_directory.specs.Parts.{is_type, is_storage_type, is_abstract_type, is_concrete_type, is_abstract_home, is_concrete_home, bases, implemented, managed, states, operations, all_fields, all_parameters}
use Rattle.psdl_standings.specs.Expressions.{operands, named_by}
use Rattle.psdl_standings.specs.Standings.{Standing, StandsForType, StandsForNumber, range}
use Rattle.psdl_standings.specs.declared.need.Need.TheVariants as needs

-- ---- what a place needs

abbrev pub is_text : PlainType → Bool
is_text (Str bound) = true
is_text _ = false

-- an integer, octet or string
abbrev pub may_be_constant : Standing → Bool
may_be_constant (StandsForType type) = given (range type) (is_text type) (λ _. true)
may_be_constant _ = false

abbrev pub is_number : Standing → Bool
is_number (StandsForNumber type value) = true
is_number _ = false

-- a declaration, by what it is and what it stands for, is what a place needs
abbrev pub meets : Need → What → Standing → Bool
meets needs.OfType what standing = is_type what
meets needs.OfConstantType what standing = may_be_constant standing
meets needs.OfNumber what standing = is_number standing
meets needs.OfStorageType what standing = is_storage_type what
meets needs.OfAbstractType what standing = is_abstract_type what
meets needs.OfConcreteType what standing = is_concrete_type what
meets needs.OfAbstractHome what standing = is_abstract_home what
meets needs.OfConcreteHome what standing = is_concrete_home what

-- ---- names

pub record Use : Type 0 where
  pub limit : ℕ
  pub need : Need
  pub name : Name

abbrev pub use_of : ℕ → Need → Name → Use
use_of limit need name = record { limit = limit; need = need; name = name }

abbrev pub in_expression : ℕ → Expression → List Use
in_expression limit e = map (use_of limit needs.OfNumber) (flat_map named_by (operands e))

abbrev pub in_expressions : ℕ → List Expression → List Use
in_expressions limit es = flat_map (in_expression limit) es

abbrev pub in_plain : ℕ → PlainTree → List Use
in_plain limit (NamePlain name) = use_of limit needs.OfType name ∷ []
in_plain limit (StringPlain bound) = in_expressions limit (option_to_list bound)
in_plain limit _ = []

abbrev pub in_spec : ℕ → TypeSpec → List Use
in_spec limit (PlainSpec plain) = in_plain limit plain
in_spec limit (Sequence item bound) = in_spec limit item ++ in_expressions limit (option_to_list bound)

abbrev pub in_state_type : ℕ → StateType → List Use
in_state_type limit (PlainState plain) = in_plain limit plain
in_state_type limit (Reference name) = use_of limit needs.OfStorageType name ∷ []

abbrev pub in_declarator : ℕ → Declarator → List Use
in_declarator limit d = in_expressions limit d.dimensions

abbrev pub in_field : ℕ → Field → List Use
in_field limit field = in_spec limit field.spec ++ flat_map (in_declarator limit) (all_declarators field.declarators)

abbrev pub in_result : ℕ → OperationResult → List Use
in_result limit Void = []
in_result limit (StateResult type) = in_state_type limit type

abbrev pub in_operation : ℕ → Operation → List Use
in_operation limit o = in_result limit o.returned ++ flat_map (λ p. in_state_type limit p.parameter_type) (all_parameters o.parameters)

abbrev pub in_constant_type : ℕ → ConstantType → List Use
in_constant_type limit (NameConstant name) = use_of limit needs.OfConstantType name ∷ []
in_constant_type limit _ = []

-- in the bases of a type or home
abbrev pub base_need : What → Need
base_need (IsAbstractType body) = needs.OfAbstractType
base_need (IsConcreteType body) = needs.OfConcreteType
base_need (IsAbstractHome body) = needs.OfAbstractHome
base_need _ = needs.OfConcreteHome

-- behind `implements` of a type or home
abbrev pub implements_need : What → Need
implements_need (IsConcreteType body) = needs.OfAbstractType
implements_need _ = needs.OfAbstractHome

-- in a storage type or home
abbrev pub in_store : ℕ → What → List Use
in_store limit what =
    map (use_of limit (base_need what)) (bases what)
    ++ map (use_of limit (implements_need what)) (implemented what)
    ++ map (use_of limit needs.OfStorageType) (option_to_list (managed what))
    ++ flat_map (λ s. in_state_type limit s.state_type) (states what)
    ++ flat_map (in_operation limit) (operations what)

-- the names of the declaration with this number; those in the type of a typedef are counted with its first declarator
abbrev pub uses : ℕ → What → List Use
uses n (IsConstant constant) = in_constant_type n constant.constant_type ++ in_expression n constant.value
uses n (IsAlias zero spec dimensions) = in_spec n spec ++ in_expressions (n + 1) dimensions
uses n (IsAlias (suc before) spec dimensions) = in_expressions (n + 1) dimensions
uses n (IsStruct struct) = flat_map (in_field (n + 1)) (all_fields struct)
uses n (IsCatalog provisions) = map (λ p. use_of (n + 1) needs.OfAbstractHome p.home) provisions
uses n what = in_store (n + 1) what

-- ---- bounds and dimensions

pub record Bound : Type 0 where
  pub limit : ℕ
  -- its value is from 1 to this
  pub most : ℕ
  pub value : Expression

abbrev pub bounds_of : ℕ → ℕ → List Expression → List Bound
bounds_of limit most es = map (λ e. record { limit = limit; most = most; value = e }) es

-- a bound of a string or sequence
abbrev pub most_items : ℕ
most_items = 4294967295

abbrev pub most_elements : ℕ
most_elements = 65535

abbrev pub plain_bounds : ℕ → PlainTree → List Bound
plain_bounds limit (StringPlain bound) = bounds_of limit most_items (option_to_list bound)
plain_bounds limit _ = []

abbrev pub spec_bounds : ℕ → TypeSpec → List Bound
spec_bounds limit (PlainSpec plain) = plain_bounds limit plain
spec_bounds limit (Sequence item bound) = spec_bounds limit item ++ bounds_of limit most_items (option_to_list bound)

abbrev pub state_bounds : ℕ → StateType → List Bound
state_bounds limit (PlainState plain) = plain_bounds limit plain
state_bounds limit (Reference name) = []

abbrev pub declarator_bounds : ℕ → Declarator → List Bound
declarator_bounds limit d = bounds_of limit most_elements d.dimensions

abbrev pub field_bounds : ℕ → Field → List Bound
field_bounds limit field = spec_bounds limit field.spec ++ flat_map (declarator_bounds limit) (all_declarators field.declarators)

abbrev pub result_bounds : ℕ → OperationResult → List Bound
result_bounds limit Void = []
result_bounds limit (StateResult type) = state_bounds limit type

abbrev pub operation_bounds : ℕ → Operation → List Bound
operation_bounds limit o = result_bounds limit o.returned ++ flat_map (λ p. state_bounds limit p.parameter_type) (all_parameters o.parameters)

-- the bounds and dimensions of the declaration with this number; those in the type of a typedef go with its first declarator
abbrev pub bounds : ℕ → What → List Bound
bounds n (IsAlias zero spec dimensions) = spec_bounds n spec ++ bounds_of (n + 1) most_elements dimensions
bounds n (IsAlias (suc before) spec dimensions) = bounds_of (n + 1) most_elements dimensions
bounds n (IsStruct struct) = flat_map (field_bounds (n + 1)) (all_fields struct)
bounds n what = flat_map (λ s. state_bounds (n + 1) s.state_type) (states what) ++ flat_map (operation_bounds (n + 1)) (operations what)
