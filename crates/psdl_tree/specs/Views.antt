-- Trees seen without where they lie in memory.
use Rattle.std.specs.Prelude.{List, [], ◌∷◌, map, option_map}
use Rattle.pss_base.specs.declared.place.Place.{Place}
use Rattle.psdl_tree.specs.declared.expressions.ShiftOperator.{ShiftOperator}
use Rattle.psdl_tree.specs.declared.expressions.SumOperator.{SumOperator}
use Rattle.psdl_tree.specs.declared.expressions.ProductOperator.{ProductOperator}
use Rattle.psdl_tree.specs.declared.expressions.Primary.TheOpen.{Primary-F, And-F, AndPart-F, Expression-F, Group-F, OrPart-F, Product-F, ProductPart-F, Shift-F, ShiftPart-F, Sum-F, SumPart-F, Unary-F, Xor-F, XorPart-F}
use Rattle.psdl_tree.specs.declared.expressions.Primary.TheOpen as open_primary
use Rattle.psdl_tree.specs.declared.expressions.Primary.TheFolds.{fold-Primary, fold-And, fold-AndPart, fold-Expression, fold-Group, fold-OrPart, fold-Product, fold-ProductPart, fold-Shift, fold-ShiftPart, fold-Sum, fold-SumPart, fold-Unary, fold-Xor, fold-XorPart}
use Rattle.psdl_tree.specs.declared.expressions.Primary.{Primary as PrimaryNode}
use Rattle.psdl_tree.specs.declared.expressions.Unary.{Unary as UnaryNode}
use Rattle.psdl_tree.specs.declared.expressions.Product.{Product as ProductNode}
use Rattle.psdl_tree.specs.declared.expressions.Sum.{Sum as SumNode}
use Rattle.psdl_tree.specs.declared.expressions.Shift.{Shift as ShiftNode}
use Rattle.psdl_tree.specs.declared.expressions.And.{And as AndNode}
use Rattle.psdl_tree.specs.declared.expressions.Xor.{Xor as XorNode}
use Rattle.psdl_tree.specs.declared.expressions.Expression.{Expression as ExpressionNode}
use Rattle.psdl_tree.specs.declared.expressions.AndPart.{AndPart as AndPartNode}
use Rattle.psdl_tree.specs.declared.expressions.OrPart.{OrPart as OrPartNode}
use Rattle.psdl_tree.specs.declared.expressions.XorPart.{XorPart as XorPartNode}
use Rattle.psdl_tree.specs.declared.expressions.ShiftPart.{ShiftPart as ShiftPartNode}
use Rattle.psdl_tree.specs.declared.expressions.SumPart.{SumPart as SumPartNode}
use Rattle.psdl_tree.specs.declared.expressions.ProductPart.{ProductPart as ProductPartNode}
use Rattle.psdl_tree.specs.declared.expressions.Group.{Group as GroupNode}
use Rattle.psdl_tree.specs.declared.types.TypeSpec.{TypeSpec as TypeSpecNode}
use Rattle.psdl_tree.specs.declared.types.TypeSpec.TheOpen.{TypeSpec-F}
use Rattle.psdl_tree.specs.declared.types.TypeSpec.TheOpen as open_spec
use Rattle.psdl_tree.specs.declared.types.TypeSpec.TheFolds.{fold-TypeSpec}
use Rattle.psdl_tree.specs.declared.definitions.Definition.{Definition as DefinitionNode}
use Rattle.psdl_tree.specs.declared.definitions.Module.{Module as ModuleNode}
use Rattle.psdl_tree.specs.declared.definitions.Definition.TheOpen.{Definition-F, Module-F}
use Rattle.psdl_tree.specs.declared.definitions.Definition.TheOpen as open_definition
use Rattle.psdl_tree.specs.declared.definitions.Definition.TheFolds.{fold-Definition, fold-Module}
use Rattle.psdl_tree.specs.declared.definitions.Tree.{Tree}
use Rattle.psdl_tree.specs.declared.names.Name.{Name as NameNode}
use Rattle.psdl_tree.specs.declared.names.Names.{Names as NamesNode}
use Rattle.psdl_tree.specs.declared.names.Identifiers.{Identifiers as IdentifiersNode}
use Rattle.psdl_tree.specs.declared.types.Declarator.{Declarator as DeclaratorNode}
use Rattle.psdl_tree.specs.declared.types.Declarators.{Declarators as DeclaratorsNode}
use Rattle.psdl_tree.specs.declared.types.Field.{Field as FieldNode}
use Rattle.psdl_tree.specs.declared.stores.State.{State as StateNode}
use Rattle.psdl_tree.specs.declared.stores.Parameter.{Parameter as ParameterNode}
use Rattle.psdl_tree.specs.declared.stores.Parameters.{Parameters as ParametersNode}
use Rattle.psdl_tree.specs.declared.stores.Operation.{Operation as OperationNode}
use Rattle.psdl_tree.specs.declared.stores.KeyMembers.{KeyMembers as KeyMembersNode}
use Rattle.psdl_tree.specs.declared.stores.Key.{Key as KeyNode}
use Rattle.psdl_tree.specs.declared.stores.Factory.{Factory as FactoryNode}
use Rattle.psdl_tree.specs.declared.stores.AbstractTypeBody.{AbstractTypeBody as AbstractTypeBodyNode}
use Rattle.psdl_tree.specs.declared.stores.AbstractType.{AbstractType as AbstractTypeNode}
use Rattle.psdl_tree.specs.declared.stores.StorageTypeBody.{StorageTypeBody as StorageTypeBodyNode}
use Rattle.psdl_tree.specs.declared.stores.StorageType.{StorageType as StorageTypeNode}
use Rattle.psdl_tree.specs.declared.stores.AbstractHomeBody.{AbstractHomeBody as AbstractHomeBodyNode}
use Rattle.psdl_tree.specs.declared.stores.AbstractHome.{AbstractHome as AbstractHomeNode}
use Rattle.psdl_tree.specs.declared.stores.StorageHome.{StorageHome as StorageHomeNode}
use Rattle.psdl_tree.specs.declared.stores.Provision.{Provision as ProvisionNode}
use Rattle.psdl_tree.specs.declared.stores.Catalog.{Catalog as CatalogNode}
use Rattle.psdl_tree.specs.declared.definitions.Constant.{Constant as ConstantNode}
use Rattle.psdl_tree.specs.declared.definitions.TypeDefinition.{TypeDefinition as TypeDefinitionNode}
use Rattle.psdl_tree.specs.declared.definitions.Struct.{Struct as StructNode}
use Rattle.psdl_tree.specs.declared.definitions.Enumeration.{Enumeration as EnumerationNode}
use Rattle.psdl_tree.specs.declared.types.PlainType.{PlainType as PlainTypeNode}
use Rattle.psdl_tree.specs.declared.types.PlainType.TheVariants as plains
use Rattle.psdl_tree.specs.declared.types.StateType.{StateType as StateTypeNode}
use Rattle.psdl_tree.specs.declared.types.StateType.TheVariants as states
use Rattle.psdl_tree.specs.declared.stores.OperationResult.{OperationResult as OperationResultNode}
use Rattle.psdl_tree.specs.declared.stores.OperationResult.TheVariants as results
use Rattle.psdl_tree.specs.declared.stores.AbstractTypeMember.{AbstractTypeMember as AbstractTypeMemberNode}
use Rattle.psdl_tree.specs.declared.stores.AbstractTypeMember.TheVariants as type_members
use Rattle.psdl_tree.specs.declared.stores.AbstractHomeMember.{AbstractHomeMember as AbstractHomeMemberNode}
use Rattle.psdl_tree.specs.declared.stores.AbstractHomeMember.TheVariants as abstract_members
use Rattle.psdl_tree.specs.declared.stores.HomeMember.{HomeMember as HomeMemberNode}
use Rattle.psdl_tree.specs.declared.stores.HomeMember.TheVariants as home_members
use Rattle.psdl_tree.specs.declared.definitions.ConstantType.{ConstantType as ConstantTypeNode}
use Rattle.psdl_tree.specs.declared.definitions.ConstantType.TheVariants as constants
use Rattle.psdl_tree.specs.Trees.{Name, Names, Identifiers, Primary, NameOperand, IntegerOperand, TextOperand, Group, Unary, Signed, Product, OneUnary, Multiplied, Sum, OneProduct, Added, Shift, OneSum, Shifted, And, OneShift, Anded, Xor, OneAnd, Xored, Expression, OneXor, Ored, PlainType, IntegerPlain, CharPlain, BooleanPlain, OctetPlain, StringPlain, NamePlain, TypeSpec, PlainSpec, Sequence, StateType, PlainState, Reference, Declarator, Declarators, Field, State, Parameter, Parameters, OperationResult, Void, StateResult, Operation, KeyMembers, Key, Factory, AbstractTypeMember, StateMember, OperationMember, AbstractTypeBody, AbstractType, StorageTypeBody, StorageType, AbstractHomeMember, KeyMember, FactoryMember, HomeOperation, AbstractHomeBody, AbstractHome, HomeMember, PlainKey, PrimaryKey, HomeFactory, StorageHome, Provision, Catalog, ConstantType, IntegerConstant, OctetConstant, StringConstant, NameConstant, Constant, TypeDefinition, Struct, Enumeration, Definition, ModuleDefinition, ConstantDefinition, TypeDefinitionDefinition, StructDefinition, EnumerationDefinition, AbstractTypeDefinition, StorageTypeDefinition, AbstractHomeDefinition, StorageHomeDefinition, CatalogDefinition, Definitions, NoDefinition, AndDefinition}

-- a level of operators, of its first operand and the others with their operators
abbrev pub product_of : Unary → List (Place × ProductOperator × Unary) → Product
product_of x [] = OneUnary x
product_of x (y ∷ ys) = Multiplied x y.0 y.1 (product_of y.2 ys)

abbrev pub sum_of : Product → List (Place × SumOperator × Product) → Sum
sum_of x [] = OneProduct x
sum_of x (y ∷ ys) = Added x y.0 y.1 (sum_of y.2 ys)

abbrev pub shift_of : Sum → List (Place × ShiftOperator × Sum) → Shift
shift_of x [] = OneSum x
shift_of x (y ∷ ys) = Shifted x y.0 y.1 (shift_of y.2 ys)

abbrev pub and_of : Shift → List (Place × Shift) → And
and_of x [] = OneShift x
and_of x (y ∷ ys) = Anded x y.0 (and_of y.1 ys)

abbrev pub xor_of : And → List (Place × And) → Xor
xor_of x [] = OneAnd x
xor_of x (y ∷ ys) = Xored x y.0 (xor_of y.1 ys)

abbrev pub expression_of : Xor → List (Place × Xor) → Expression
expression_of x [] = OneXor x
expression_of x (y ∷ ys) = Ored x y.0 (expression_of y.1 ys)

-- one level of a tree, with what is below it seen already
abbrev pub primary_step : Primary-F Primary And (Place × Shift) Expression (Place × Expression) (Place × Xor) Product (Place × ProductOperator × Unary) Shift (Place × ShiftOperator × Sum) Sum (Place × SumOperator × Product) Unary Xor (Place × And) → Primary
primary_step (open_primary.Name n) = NameOperand (record { leading = n.leading; first = n.first; others = n.others.items })
primary_step (open_primary.Integer literal) = IntegerOperand literal
primary_step (open_primary.Text literal) = TextOperand literal
primary_step (open_primary.Group g) = Group g.0 g.1

abbrev pub group_step : Group-F Primary And (Place × Shift) Expression (Place × Expression) (Place × Xor) Product (Place × ProductOperator × Unary) Shift (Place × ShiftOperator × Sum) Sum (Place × SumOperator × Product) Unary Xor (Place × And) → Place × Expression
group_step g = (g.place, g.inner.value)

abbrev pub unary_step : Unary-F Primary And (Place × Shift) Expression (Place × Expression) (Place × Xor) Product (Place × ProductOperator × Unary) Shift (Place × ShiftOperator × Sum) Sum (Place × SumOperator × Product) Unary Xor (Place × And) → Unary
unary_step u = Signed u.sign u.operand

abbrev pub product_step : Product-F Primary And (Place × Shift) Expression (Place × Expression) (Place × Xor) Product (Place × ProductOperator × Unary) Shift (Place × ShiftOperator × Sum) Sum (Place × SumOperator × Product) Unary Xor (Place × And) → Product
product_step x = product_of x.first x.others.items

abbrev pub sum_step : Sum-F Primary And (Place × Shift) Expression (Place × Expression) (Place × Xor) Product (Place × ProductOperator × Unary) Shift (Place × ShiftOperator × Sum) Sum (Place × SumOperator × Product) Unary Xor (Place × And) → Sum
sum_step x = sum_of x.first x.others.items

abbrev pub shift_step : Shift-F Primary And (Place × Shift) Expression (Place × Expression) (Place × Xor) Product (Place × ProductOperator × Unary) Shift (Place × ShiftOperator × Sum) Sum (Place × SumOperator × Product) Unary Xor (Place × And) → Shift
shift_step x = shift_of x.first x.others.items

abbrev pub and_step : And-F Primary And (Place × Shift) Expression (Place × Expression) (Place × Xor) Product (Place × ProductOperator × Unary) Shift (Place × ShiftOperator × Sum) Sum (Place × SumOperator × Product) Unary Xor (Place × And) → And
and_step x = and_of x.first x.others.items

abbrev pub xor_step : Xor-F Primary And (Place × Shift) Expression (Place × Expression) (Place × Xor) Product (Place × ProductOperator × Unary) Shift (Place × ShiftOperator × Sum) Sum (Place × SumOperator × Product) Unary Xor (Place × And) → Xor
xor_step x = xor_of x.first x.others.items

abbrev pub expression_step : Expression-F Primary And (Place × Shift) Expression (Place × Expression) (Place × Xor) Product (Place × ProductOperator × Unary) Shift (Place × ShiftOperator × Sum) Sum (Place × SumOperator × Product) Unary Xor (Place × And) → Expression
expression_step x = expression_of x.first x.others.items

abbrev pub product_part_step : ProductPart-F Primary And (Place × Shift) Expression (Place × Expression) (Place × Xor) Product (Place × ProductOperator × Unary) Shift (Place × ShiftOperator × Sum) Sum (Place × SumOperator × Product) Unary Xor (Place × And) → Place × ProductOperator × Unary
product_part_step p = (p.place, p.operator, p.operand)

abbrev pub sum_part_step : SumPart-F Primary And (Place × Shift) Expression (Place × Expression) (Place × Xor) Product (Place × ProductOperator × Unary) Shift (Place × ShiftOperator × Sum) Sum (Place × SumOperator × Product) Unary Xor (Place × And) → Place × SumOperator × Product
sum_part_step p = (p.place, p.operator, p.operand)

abbrev pub shift_part_step : ShiftPart-F Primary And (Place × Shift) Expression (Place × Expression) (Place × Xor) Product (Place × ProductOperator × Unary) Shift (Place × ShiftOperator × Sum) Sum (Place × SumOperator × Product) Unary Xor (Place × And) → Place × ShiftOperator × Sum
shift_part_step p = (p.place, p.operator, p.operand)

abbrev pub and_part_step : AndPart-F Primary And (Place × Shift) Expression (Place × Expression) (Place × Xor) Product (Place × ProductOperator × Unary) Shift (Place × ShiftOperator × Sum) Sum (Place × SumOperator × Product) Unary Xor (Place × And) → Place × Shift
and_part_step p = (p.place, p.operand)

abbrev pub xor_part_step : XorPart-F Primary And (Place × Shift) Expression (Place × Expression) (Place × Xor) Product (Place × ProductOperator × Unary) Shift (Place × ShiftOperator × Sum) Sum (Place × SumOperator × Product) Unary Xor (Place × And) → Place × And
xor_part_step p = (p.place, p.operand)

abbrev pub or_part_step : OrPart-F Primary And (Place × Shift) Expression (Place × Expression) (Place × Xor) Product (Place × ProductOperator × Unary) Shift (Place × ShiftOperator × Sum) Sum (Place × SumOperator × Product) Unary Xor (Place × And) → Place × Xor
or_part_step p = (p.place, p.operand)

abbrev pub primary_view : PrimaryNode → Primary
primary_view = fold-Primary Primary And (Place × Shift) Expression (Place × Expression) (Place × Xor) Product (Place × ProductOperator × Unary) Shift (Place × ShiftOperator × Sum) Sum (Place × SumOperator × Product) Unary Xor (Place × And) primary_step and_step and_part_step expression_step group_step or_part_step product_step product_part_step shift_step shift_part_step sum_step sum_part_step unary_step xor_step xor_part_step

abbrev pub and_view : AndNode → And
and_view = fold-And Primary And (Place × Shift) Expression (Place × Expression) (Place × Xor) Product (Place × ProductOperator × Unary) Shift (Place × ShiftOperator × Sum) Sum (Place × SumOperator × Product) Unary Xor (Place × And) primary_step and_step and_part_step expression_step group_step or_part_step product_step product_part_step shift_step shift_part_step sum_step sum_part_step unary_step xor_step xor_part_step

abbrev pub and_part_view : AndPartNode → Place × Shift
and_part_view = fold-AndPart Primary And (Place × Shift) Expression (Place × Expression) (Place × Xor) Product (Place × ProductOperator × Unary) Shift (Place × ShiftOperator × Sum) Sum (Place × SumOperator × Product) Unary Xor (Place × And) primary_step and_step and_part_step expression_step group_step or_part_step product_step product_part_step shift_step shift_part_step sum_step sum_part_step unary_step xor_step xor_part_step

abbrev pub expression_view : ExpressionNode → Expression
expression_view = fold-Expression Primary And (Place × Shift) Expression (Place × Expression) (Place × Xor) Product (Place × ProductOperator × Unary) Shift (Place × ShiftOperator × Sum) Sum (Place × SumOperator × Product) Unary Xor (Place × And) primary_step and_step and_part_step expression_step group_step or_part_step product_step product_part_step shift_step shift_part_step sum_step sum_part_step unary_step xor_step xor_part_step

abbrev pub group_view : GroupNode → Place × Expression
group_view = fold-Group Primary And (Place × Shift) Expression (Place × Expression) (Place × Xor) Product (Place × ProductOperator × Unary) Shift (Place × ShiftOperator × Sum) Sum (Place × SumOperator × Product) Unary Xor (Place × And) primary_step and_step and_part_step expression_step group_step or_part_step product_step product_part_step shift_step shift_part_step sum_step sum_part_step unary_step xor_step xor_part_step

abbrev pub or_part_view : OrPartNode → Place × Xor
or_part_view = fold-OrPart Primary And (Place × Shift) Expression (Place × Expression) (Place × Xor) Product (Place × ProductOperator × Unary) Shift (Place × ShiftOperator × Sum) Sum (Place × SumOperator × Product) Unary Xor (Place × And) primary_step and_step and_part_step expression_step group_step or_part_step product_step product_part_step shift_step shift_part_step sum_step sum_part_step unary_step xor_step xor_part_step

abbrev pub product_view : ProductNode → Product
product_view = fold-Product Primary And (Place × Shift) Expression (Place × Expression) (Place × Xor) Product (Place × ProductOperator × Unary) Shift (Place × ShiftOperator × Sum) Sum (Place × SumOperator × Product) Unary Xor (Place × And) primary_step and_step and_part_step expression_step group_step or_part_step product_step product_part_step shift_step shift_part_step sum_step sum_part_step unary_step xor_step xor_part_step

abbrev pub product_part_view : ProductPartNode → Place × ProductOperator × Unary
product_part_view = fold-ProductPart Primary And (Place × Shift) Expression (Place × Expression) (Place × Xor) Product (Place × ProductOperator × Unary) Shift (Place × ShiftOperator × Sum) Sum (Place × SumOperator × Product) Unary Xor (Place × And) primary_step and_step and_part_step expression_step group_step or_part_step product_step product_part_step shift_step shift_part_step sum_step sum_part_step unary_step xor_step xor_part_step

abbrev pub shift_view : ShiftNode → Shift
shift_view = fold-Shift Primary And (Place × Shift) Expression (Place × Expression) (Place × Xor) Product (Place × ProductOperator × Unary) Shift (Place × ShiftOperator × Sum) Sum (Place × SumOperator × Product) Unary Xor (Place × And) primary_step and_step and_part_step expression_step group_step or_part_step product_step product_part_step shift_step shift_part_step sum_step sum_part_step unary_step xor_step xor_part_step

abbrev pub shift_part_view : ShiftPartNode → Place × ShiftOperator × Sum
shift_part_view = fold-ShiftPart Primary And (Place × Shift) Expression (Place × Expression) (Place × Xor) Product (Place × ProductOperator × Unary) Shift (Place × ShiftOperator × Sum) Sum (Place × SumOperator × Product) Unary Xor (Place × And) primary_step and_step and_part_step expression_step group_step or_part_step product_step product_part_step shift_step shift_part_step sum_step sum_part_step unary_step xor_step xor_part_step

abbrev pub sum_view : SumNode → Sum
sum_view = fold-Sum Primary And (Place × Shift) Expression (Place × Expression) (Place × Xor) Product (Place × ProductOperator × Unary) Shift (Place × ShiftOperator × Sum) Sum (Place × SumOperator × Product) Unary Xor (Place × And) primary_step and_step and_part_step expression_step group_step or_part_step product_step product_part_step shift_step shift_part_step sum_step sum_part_step unary_step xor_step xor_part_step

abbrev pub sum_part_view : SumPartNode → Place × SumOperator × Product
sum_part_view = fold-SumPart Primary And (Place × Shift) Expression (Place × Expression) (Place × Xor) Product (Place × ProductOperator × Unary) Shift (Place × ShiftOperator × Sum) Sum (Place × SumOperator × Product) Unary Xor (Place × And) primary_step and_step and_part_step expression_step group_step or_part_step product_step product_part_step shift_step shift_part_step sum_step sum_part_step unary_step xor_step xor_part_step

abbrev pub unary_view : UnaryNode → Unary
unary_view = fold-Unary Primary And (Place × Shift) Expression (Place × Expression) (Place × Xor) Product (Place × ProductOperator × Unary) Shift (Place × ShiftOperator × Sum) Sum (Place × SumOperator × Product) Unary Xor (Place × And) primary_step and_step and_part_step expression_step group_step or_part_step product_step product_part_step shift_step shift_part_step sum_step sum_part_step unary_step xor_step xor_part_step

abbrev pub xor_view : XorNode → Xor
xor_view = fold-Xor Primary And (Place × Shift) Expression (Place × Expression) (Place × Xor) Product (Place × ProductOperator × Unary) Shift (Place × ShiftOperator × Sum) Sum (Place × SumOperator × Product) Unary Xor (Place × And) primary_step and_step and_part_step expression_step group_step or_part_step product_step product_part_step shift_step shift_part_step sum_step sum_part_step unary_step xor_step xor_part_step

abbrev pub xor_part_view : XorPartNode → Place × And
xor_part_view = fold-XorPart Primary And (Place × Shift) Expression (Place × Expression) (Place × Xor) Product (Place × ProductOperator × Unary) Shift (Place × ShiftOperator × Sum) Sum (Place × SumOperator × Product) Unary Xor (Place × And) primary_step and_step and_part_step expression_step group_step or_part_step product_step product_part_step shift_step shift_part_step sum_step sum_part_step unary_step xor_step xor_part_step

abbrev pub name_view : NameNode → Name
name_view x = record { leading = x.leading; first = x.first; others = x.others.items }

abbrev pub names_view : NamesNode → Names
names_view x = record { first = name_view x.first; others = map name_view x.others.items }

abbrev pub identifiers_view : IdentifiersNode → Identifiers
identifiers_view x = record { first = x.first; others = x.others.items }

abbrev pub plain_type_view : PlainTypeNode → PlainType
plain_type_view (plains.Integer i) = IntegerPlain i
plain_type_view plains.Char = CharPlain
plain_type_view plains.Boolean = BooleanPlain
plain_type_view plains.Octet = OctetPlain
plain_type_view (plains.String bound) = StringPlain (option_map expression_view bound)
plain_type_view (plains.Name n) = NamePlain (name_view n)

abbrev pub spec_step : TypeSpec-F TypeSpec → TypeSpec
spec_step (open_spec.Plain plain) = PlainSpec (plain_type_view plain)
spec_step (open_spec.Sequence item bound) = Sequence item.value (option_map expression_view bound)

abbrev pub type_spec_view : TypeSpecNode → TypeSpec
type_spec_view = fold-TypeSpec TypeSpec spec_step

abbrev pub state_type_view : StateTypeNode → StateType
state_type_view (states.Plain plain) = PlainState (plain_type_view plain)
state_type_view (states.Reference n) = Reference (name_view n)

abbrev pub declarator_view : DeclaratorNode → Declarator
declarator_view x = record { name = x.name; dimensions = map expression_view x.dimensions.items }

abbrev pub declarators_view : DeclaratorsNode → Declarators
declarators_view x = record { first = declarator_view x.first; others = map declarator_view x.others.items }

abbrev pub field_view : FieldNode → Field
field_view x = record { spec = type_spec_view x.spec; declarators = declarators_view x.declarators }

abbrev pub state_view : StateNode → State
state_view x = record { is_readonly = x.readonly; state_type = state_type_view x.state_type; names = identifiers_view x.names }

abbrev pub parameter_view : ParameterNode → Parameter
parameter_view x = record { direction = x.direction; parameter_type = state_type_view x.parameter_type; name = x.name }

abbrev pub parameters_view : ParametersNode → Parameters
parameters_view x = record { first = parameter_view x.first; others = map parameter_view x.others.items }

abbrev pub operation_result_view : OperationResultNode → OperationResult
operation_result_view results.Void = Void
operation_result_view (results.State type) = StateResult (state_type_view type)

abbrev pub operation_view : OperationNode → Operation
operation_view x = record { returned = operation_result_view x.returned; name = x.name; place = x.place; parameters = option_map parameters_view x.parameters }

abbrev pub key_members_view : KeyMembersNode → KeyMembers
key_members_view x = record { place = x.place; names = identifiers_view x.names }

abbrev pub key_view : KeyNode → Key
key_view x = record { name = x.name; members = option_map key_members_view x.members }

abbrev pub factory_view : FactoryNode → Factory
factory_view x = record { name = x.name; place = x.place; members = option_map identifiers_view x.members }

abbrev pub abstract_type_member_view : AbstractTypeMemberNode → AbstractTypeMember
abstract_type_member_view (type_members.State s) = StateMember (state_view s)
abstract_type_member_view (type_members.Operation op) = OperationMember (operation_view op)

abbrev pub abstract_type_body_view : AbstractTypeBodyNode → AbstractTypeBody
abstract_type_body_view x = record { bases = option_map names_view x.bases; members = map abstract_type_member_view x.members.items }

abbrev pub abstract_type_view : AbstractTypeNode → AbstractType
abstract_type_view x = record { name = x.name; body = option_map abstract_type_body_view x.body }

abbrev pub storage_type_body_view : StorageTypeBodyNode → StorageTypeBody
storage_type_body_view x = record { base = option_map name_view x.base; implements = option_map names_view x.implements; states = map state_view x.states.items }

abbrev pub storage_type_view : StorageTypeNode → StorageType
storage_type_view x = record { name = x.name; body = option_map storage_type_body_view x.body }

abbrev pub abstract_home_member_view : AbstractHomeMemberNode → AbstractHomeMember
abstract_home_member_view (abstract_members.Key k) = KeyMember (key_view k)
abstract_home_member_view (abstract_members.Factory f) = FactoryMember (factory_view f)
abstract_home_member_view (abstract_members.Operation op) = HomeOperation (operation_view op)

abbrev pub abstract_home_body_view : AbstractHomeBodyNode → AbstractHomeBody
abstract_home_body_view x = record { managed = name_view x.managed; bases = option_map names_view x.bases; members = map abstract_home_member_view x.members.items }

abbrev pub abstract_home_view : AbstractHomeNode → AbstractHome
abstract_home_view x = record { name = x.name; body = option_map abstract_home_body_view x.body }

abbrev pub home_member_view : HomeMemberNode → HomeMember
home_member_view (home_members.Key k) = PlainKey (key_view k)
home_member_view (home_members.PrimaryKey k) = PrimaryKey (key_view k)
home_member_view (home_members.Factory f) = HomeFactory (factory_view f)

abbrev pub storage_home_view : StorageHomeNode → StorageHome
storage_home_view x = record { name = x.name; base = option_map name_view x.base; managed = name_view x.managed; implements = option_map names_view x.implements; members = map home_member_view x.members.items }

abbrev pub provision_view : ProvisionNode → Provision
provision_view x = record { home = name_view x.home; name = x.name }

abbrev pub catalog_view : CatalogNode → Catalog
catalog_view x = record { name = x.name; provisions = map provision_view x.provisions.items }

abbrev pub constant_type_view : ConstantTypeNode → ConstantType
constant_type_view (constants.Integer i) = IntegerConstant i
constant_type_view constants.Octet = OctetConstant
constant_type_view constants.String = StringConstant
constant_type_view (constants.Name n) = NameConstant (name_view n)

abbrev pub constant_view : ConstantNode → Constant
constant_view x = record { constant_type = constant_type_view x.constant_type; name = x.name; value = expression_view x.value }

abbrev pub type_definition_view : TypeDefinitionNode → TypeDefinition
type_definition_view x = record { spec = type_spec_view x.spec; declarators = declarators_view x.declarators }

abbrev pub struct_view : StructNode → Struct
struct_view x = record { name = x.name; first = field_view x.first; others = map field_view x.others.items }

abbrev pub enumeration_view : EnumerationNode → Enumeration
enumeration_view x = record { name = x.name; enumerators = identifiers_view x.enumerators }

abbrev pub definitions_of : List Definition → Definitions
definitions_of [] = NoDefinition
definitions_of (d ∷ ds) = AndDefinition d (definitions_of ds)

abbrev pub module_step : Module-F Definition Definition → Definition
module_step m = ModuleDefinition m.name (definitions_of m.definitions.items)

abbrev pub definition_step : Definition-F Definition Definition → Definition
definition_step (open_definition.Module m) = m
definition_step (open_definition.Constant x) = ConstantDefinition (constant_view x)
definition_step (open_definition.TypeDefinition x) = TypeDefinitionDefinition (type_definition_view x)
definition_step (open_definition.Struct x) = StructDefinition (struct_view x)
definition_step (open_definition.Enumeration x) = EnumerationDefinition (enumeration_view x)
definition_step (open_definition.AbstractType x) = AbstractTypeDefinition (abstract_type_view x)
definition_step (open_definition.StorageType x) = StorageTypeDefinition (storage_type_view x)
definition_step (open_definition.AbstractHome x) = AbstractHomeDefinition (abstract_home_view x)
definition_step (open_definition.StorageHome x) = StorageHomeDefinition (storage_home_view x)
definition_step (open_definition.Catalog x) = CatalogDefinition (catalog_view x)

abbrev pub definition_view : DefinitionNode → Definition
definition_view = fold-Definition Definition Definition definition_step module_step

abbrev pub module_view : ModuleNode → Definition
module_view = fold-Module Definition Definition definition_step module_step

-- the definitions of a whole tree
abbrev pub tree_view : Tree → Definitions
tree_view t = definitions_of (map definition_view t.definitions.items)
