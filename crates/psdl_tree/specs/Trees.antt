-- Trees, without where they lie in memory.
use Rattle.std.specs.Prelude.{List, Bool, Option}
use Rattle.pss_base.specs.declared.place.Place.{Place}
use Rattle.psdl_tree.specs.declared.names.Identifier.{Identifier}
use Rattle.psdl_tree.specs.declared.names.NamePart.{NamePart}
use Rattle.psdl_tree.specs.declared.expressions.IntegerLiteral.{IntegerLiteral}
use Rattle.psdl_tree.specs.declared.expressions.TextLiteral.{TextLiteral}
use Rattle.psdl_tree.specs.declared.expressions.ShiftOperator.{ShiftOperator}
use Rattle.psdl_tree.specs.declared.expressions.SumOperator.{SumOperator}
use Rattle.psdl_tree.specs.declared.expressions.ProductOperator.{ProductOperator}
use Rattle.psdl_tree.specs.declared.expressions.UnarySign.{UnarySign}
use Rattle.psdl_tree.specs.declared.types.IntegerType.{IntegerType}
use Rattle.psdl_tree.specs.declared.stores.Direction.{Direction}

pub record Name : Type 0 where
  pub leading : Option Place
  pub first : Identifier
  pub others : List NamePart

pub record Names : Type 0 where
  pub first : Name
  pub others : List Name

pub record Identifiers : Type 0 where
  pub first : Identifier
  pub others : List Identifier

mutual
  pub data Primary : Type 0 where
    NameOperand : (name : Name) → Primary
    IntegerOperand : (literal : IntegerLiteral) → Primary
    TextOperand : (literal : TextLiteral) → Primary
    Group : (place : Place) → (inner : Expression) → Primary

  pub data Unary : Type 0 where
    Signed : (sign : Option UnarySign) → (operand : Primary) → Unary

  pub data Product : Type 0 where
    OneUnary : (operand : Unary) → Product
    Multiplied : (operand : Unary) → (place : Place) → (operator : ProductOperator) → (others : Product) → Product

  pub data Sum : Type 0 where
    OneProduct : (operand : Product) → Sum
    Added : (operand : Product) → (place : Place) → (operator : SumOperator) → (others : Sum) → Sum

  pub data Shift : Type 0 where
    OneSum : (operand : Sum) → Shift
    Shifted : (operand : Sum) → (place : Place) → (operator : ShiftOperator) → (others : Shift) → Shift

  pub data And : Type 0 where
    OneShift : (operand : Shift) → And
    Anded : (operand : Shift) → (place : Place) → (others : And) → And

  pub data Xor : Type 0 where
    OneAnd : (operand : And) → Xor
    Xored : (operand : And) → (place : Place) → (others : Xor) → Xor

  pub data Expression : Type 0 where
    OneXor : (operand : Xor) → Expression
    Ored : (operand : Xor) → (place : Place) → (others : Expression) → Expression

pub data PlainType : Type 0 where
  IntegerPlain : (integer : IntegerType) → PlainType
  CharPlain : PlainType
  BooleanPlain : PlainType
  OctetPlain : PlainType
  StringPlain : (bound : Option Expression) → PlainType
  NamePlain : (name : Name) → PlainType

pub data TypeSpec : Type 0 where
  PlainSpec : (plain : PlainType) → TypeSpec
  Sequence : (item : TypeSpec) → (bound : Option Expression) → TypeSpec

pub data StateType : Type 0 where
  PlainState : (plain : PlainType) → StateType
  Reference : (name : Name) → StateType

pub record Declarator : Type 0 where
  pub name : Identifier
  pub dimensions : List Expression

pub record Declarators : Type 0 where
  pub first : Declarator
  pub others : List Declarator

pub record Field : Type 0 where
  pub spec : TypeSpec
  pub declarators : Declarators

pub record State : Type 0 where
  pub is_readonly : Bool
  pub state_type : StateType
  pub names : Identifiers

pub record Parameter : Type 0 where
  pub direction : Direction
  pub parameter_type : StateType
  pub name : Identifier

pub record Parameters : Type 0 where
  pub first : Parameter
  pub others : List Parameter

pub data OperationResult : Type 0 where
  Void : OperationResult
  StateResult : (state_type : StateType) → OperationResult

pub record Operation : Type 0 where
  pub returned : OperationResult
  pub name : Identifier
  pub place : Place
  pub parameters : Option Parameters

pub record KeyMembers : Type 0 where
  pub place : Place
  pub names : Identifiers

pub record Key : Type 0 where
  pub name : Identifier
  pub members : Option KeyMembers

pub record Factory : Type 0 where
  pub name : Identifier
  pub place : Place
  pub members : Option Identifiers

pub data AbstractTypeMember : Type 0 where
  StateMember : (state : State) → AbstractTypeMember
  OperationMember : (operation : Operation) → AbstractTypeMember

pub record AbstractTypeBody : Type 0 where
  pub bases : Option Names
  pub members : List AbstractTypeMember

pub record AbstractType : Type 0 where
  pub name : Identifier
  pub body : Option AbstractTypeBody

pub record StorageTypeBody : Type 0 where
  pub base : Option Name
  pub implements : Option Names
  pub states : List State

pub record StorageType : Type 0 where
  pub name : Identifier
  pub body : Option StorageTypeBody

pub data AbstractHomeMember : Type 0 where
  KeyMember : (key : Key) → AbstractHomeMember
  FactoryMember : (factory : Factory) → AbstractHomeMember
  HomeOperation : (operation : Operation) → AbstractHomeMember

pub record AbstractHomeBody : Type 0 where
  pub managed : Name
  pub bases : Option Names
  pub members : List AbstractHomeMember

pub record AbstractHome : Type 0 where
  pub name : Identifier
  pub body : Option AbstractHomeBody

pub data HomeMember : Type 0 where
  PlainKey : (key : Key) → HomeMember
  PrimaryKey : (key : Key) → HomeMember
  HomeFactory : (factory : Factory) → HomeMember

pub record StorageHome : Type 0 where
  pub name : Identifier
  pub base : Option Name
  pub managed : Name
  pub implements : Option Names
  pub members : List HomeMember

pub record Provision : Type 0 where
  pub home : Name
  pub name : Identifier

pub record Catalog : Type 0 where
  pub name : Identifier
  pub provisions : List Provision

pub data ConstantType : Type 0 where
  IntegerConstant : (integer : IntegerType) → ConstantType
  OctetConstant : ConstantType
  StringConstant : ConstantType
  NameConstant : (name : Name) → ConstantType

pub record Constant : Type 0 where
  pub constant_type : ConstantType
  pub name : Identifier
  pub value : Expression

pub record TypeDefinition : Type 0 where
  pub spec : TypeSpec
  pub declarators : Declarators

pub record Struct : Type 0 where
  pub name : Identifier
  pub first : Field
  pub others : List Field

pub record Enumeration : Type 0 where
  pub name : Identifier
  pub enumerators : Identifiers

mutual
  pub data Definition : Type 0 where
    ModuleDefinition : (name : Identifier) → (definitions : Definitions) → Definition
    ConstantDefinition : (constant : Constant) → Definition
    TypeDefinitionDefinition : (definition : TypeDefinition) → Definition
    StructDefinition : (struct : Struct) → Definition
    EnumerationDefinition : (enumeration : Enumeration) → Definition
    AbstractTypeDefinition : (storage_type : AbstractType) → Definition
    StorageTypeDefinition : (storage_type : StorageType) → Definition
    AbstractHomeDefinition : (home : AbstractHome) → Definition
    StorageHomeDefinition : (home : StorageHome) → Definition
    CatalogDefinition : (catalog : Catalog) → Definition

  pub data Definitions : Type 0 where
    NoDefinition : Definitions
    AndDefinition : (definition : Definition) → (others : Definitions) → Definitions
