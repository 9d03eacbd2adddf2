-- The parts of a declaration.
use Rattle.std.specs.Prelude.{ℕ, List, [], ◌∷◌, ◌++◌, map, Option, Some, None, Bool, true, false, ◌==◌}
use Rattle.std.specs.List.{flat_map}
use Rattle.std.specs.Option.{option_to_list}
use Rattle.psdl_tree.specs.declared.names.Identifier.{Identifier}
use Rattle.psdl_tree.specs.Trees.{Name, Names, Field, State, Parameter, Parameters, Operation, Key, Factory, AbstractTypeMember, StateMember, OperationMember, AbstractHomeMember, KeyMember, FactoryMember, HomeOperation, HomeMember, PlainKey, PrimaryKey, HomeFactory, Provision, Struct}
use Rattle.type_layout.specs.Schemas.{given}
use Rattle.psdl_directory.specs.Declarations.{What, IsModule, IsConstant, IsAlias, IsStruct, IsEnumeration, IsEnumerator, IsAbstractType, IsConcreteType, IsAbstractHome, IsConcreteHome, IsCatalog, all_identifiers, all_declarators}

-- ---- kinds

-- a number for each kind of declaration
abbrev pub kind : What → ℕ
kind IsModule = 0
kind (IsConstant constant) = 1
kind (IsAlias before spec dimensions) = 2
kind (IsStruct struct) = 3
kind (IsEnumeration enumerators) = 4
kind IsEnumerator = 5
kind (IsAbstractType body) = 6
kind (IsConcreteType body) = 7
kind (IsAbstractHome body) = 8
kind (IsConcreteHome home) = 9
kind (IsCatalog provisions) = 10

abbrev pub same_kind : What → What → Bool
same_kind a b = kind a == kind b

abbrev pub is_module : What → Bool
is_module IsModule = true
is_module _ = false

-- a typedef, a struct or an enum
abbrev pub is_type : What → Bool
is_type (IsAlias before spec dimensions) = true
is_type (IsStruct struct) = true
is_type (IsEnumeration enumerators) = true
is_type _ = false

abbrev pub is_abstract_type : What → Bool
is_abstract_type (IsAbstractType body) = true
is_abstract_type _ = false

abbrev pub is_concrete_type : What → Bool
is_concrete_type (IsConcreteType body) = true
is_concrete_type _ = false

abbrev pub is_storage_type : What → Bool
is_storage_type (IsAbstractType body) = true
is_storage_type (IsConcreteType body) = true
is_storage_type _ = false

abbrev pub is_abstract_home : What → Bool
is_abstract_home (IsAbstractHome body) = true
is_abstract_home _ = false

abbrev pub is_concrete_home : What → Bool
is_concrete_home (IsConcreteHome home) = true
is_concrete_home _ = false

abbrev pub is_home : What → Bool
is_home (IsAbstractHome body) = true
is_home (IsConcreteHome home) = true
is_home _ = false

-- a type or home without its body
abbrev pub is_forward : What → Bool
is_forward (IsAbstractType None) = true
is_forward (IsConcreteType None) = true
is_forward (IsAbstractHome None) = true
is_forward _ = false

-- ---- names

abbrev pub all_names : Option Names → List Name
all_names None = []
all_names (Some names) = names.first ∷ names.others

-- the names behind `:`
abbrev pub bases : What → List Name
bases (IsAbstractType (Some body)) = all_names body.bases
bases (IsConcreteType (Some body)) = option_to_list body.base
bases (IsAbstractHome (Some body)) = all_names body.bases
bases (IsConcreteHome home) = option_to_list home.base
bases _ = []

-- the names behind `implements`
abbrev pub implemented : What → List Name
implemented (IsConcreteType (Some body)) = all_names body.implements
implemented (IsConcreteHome home) = all_names home.implements
implemented _ = []

-- the name behind `of`
abbrev pub managed : What → Option Name
managed (IsAbstractHome (Some body)) = Some body.managed
managed (IsConcreteHome home) = Some home.managed
managed _ = None

-- the names behind `:` and `implements`
abbrev pub parents : What → List Name
parents what = bases what ++ implemented what

-- the homes that a catalog provides
abbrev pub provided : What → List Provision
provided (IsCatalog provisions) = provisions
provided _ = []

-- ---- bodies

abbrev pub all_fields : Struct → List Field
all_fields struct = struct.first ∷ struct.others

abbrev pub all_parameters : Option Parameters → List Parameter
all_parameters None = []
all_parameters (Some parameters) = parameters.first ∷ parameters.others

-- the states of an abstract type
abbrev pub state_of : AbstractTypeMember → List State
state_of (StateMember state) = state ∷ []
state_of (OperationMember operation) = []

abbrev pub states : What → List State
states (IsAbstractType (Some body)) = flat_map state_of body.members
states (IsConcreteType (Some body)) = body.states
states _ = []

abbrev pub type_operation : AbstractTypeMember → List Operation
type_operation (StateMember state) = []
type_operation (OperationMember operation) = operation ∷ []

abbrev pub home_operation : AbstractHomeMember → List Operation
home_operation (KeyMember key) = []
home_operation (FactoryMember factory) = []
home_operation (HomeOperation operation) = operation ∷ []

abbrev pub operations : What → List Operation
operations (IsAbstractType (Some body)) = flat_map type_operation body.members
operations (IsAbstractHome (Some body)) = flat_map home_operation body.members
operations _ = []

abbrev pub abstract_key : AbstractHomeMember → List Key
abstract_key (KeyMember key) = key ∷ []
abstract_key (FactoryMember factory) = []
abstract_key (HomeOperation operation) = []

abbrev pub concrete_key : HomeMember → List Key
concrete_key (PlainKey key) = key ∷ []
concrete_key (PrimaryKey key) = key ∷ []
concrete_key (HomeFactory factory) = []

abbrev pub keys : What → List Key
keys (IsAbstractHome (Some body)) = flat_map abstract_key body.members
keys (IsConcreteHome home) = flat_map concrete_key home.members
keys _ = []

abbrev pub abstract_factory : AbstractHomeMember → List Factory
abstract_factory (KeyMember key) = []
abstract_factory (FactoryMember factory) = factory ∷ []
abstract_factory (HomeOperation operation) = []

abbrev pub concrete_factory : HomeMember → List Factory
concrete_factory (PlainKey key) = []
concrete_factory (PrimaryKey key) = []
concrete_factory (HomeFactory factory) = factory ∷ []

abbrev pub factories : What → List Factory
factories (IsAbstractHome (Some body)) = flat_map abstract_factory body.members
factories (IsConcreteHome home) = flat_map concrete_factory home.members
factories _ = []

-- a key without a list has its own name as list
abbrev pub key_list : Key → List Identifier
key_list key = given key.members (key.name ∷ []) (λ members. all_identifiers members.names)

abbrev pub factory_list : Factory → List Identifier
factory_list factory = given factory.members [] all_identifiers

-- ---- the scopes inside

abbrev pub field_names : Field → List Identifier
field_names field = map (λ d. d.name) (all_declarators field.declarators)

abbrev pub state_names : State → List Identifier
state_names state = all_identifiers state.names

abbrev pub abstract_type_names : AbstractTypeMember → List Identifier
abstract_type_names (StateMember state) = state_names state
abstract_type_names (OperationMember operation) = operation.name ∷ []

abbrev pub abstract_home_names : AbstractHomeMember → List Identifier
abstract_home_names (KeyMember key) = key.name ∷ []
abstract_home_names (FactoryMember factory) = factory.name ∷ []
abstract_home_names (HomeOperation operation) = operation.name ∷ []

abbrev pub home_names : HomeMember → List Identifier
home_names (PlainKey key) = key.name ∷ []
home_names (PrimaryKey key) = key.name ∷ []
home_names (HomeFactory factory) = factory.name ∷ []

-- the identifiers that stand right in a body
abbrev pub body_names : What → List Identifier
body_names (IsStruct struct) = flat_map field_names (all_fields struct)
body_names (IsAbstractType (Some body)) = flat_map abstract_type_names body.members
body_names (IsConcreteType (Some body)) = flat_map state_names body.states
body_names (IsAbstractHome (Some body)) = flat_map abstract_home_names body.members
body_names (IsConcreteHome home) = flat_map home_names home.members
body_names (IsCatalog provisions) = map (λ p. p.name) provisions
body_names _ = []

abbrev pub parameter_names : Operation → List Identifier
parameter_names operation = map (λ p. p.name) (all_parameters operation.parameters)

-- the body and the parameter lists in it, each by its identifiers
abbrev pub scopes : What → List (List Identifier)
scopes what = body_names what ∷ map parameter_names (operations what)
