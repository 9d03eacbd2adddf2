-- Trees whose places are others.
use Rattle.std.specs.Prelude.{map, option_map}
use Rattle.pss_base.specs.declared.place.Place.{Place}
use Rattle.psdl_tree.specs.declared.names.Identifier.{Identifier}
use Rattle.psdl_tree.specs.declared.names.NamePart.{NamePart}
use Rattle.psdl_tree.specs.declared.expressions.IntegerLiteral.{IntegerLiteral}
use Rattle.psdl_tree.specs.declared.expressions.TextLiteral.{TextLiteral}
use Rattle.psdl_tree.specs.declared.expressions.UnarySign.{UnarySign}
use Rattle.psdl_tree.specs.Trees.{Name, Names, Identifiers, Primary, NameOperand, IntegerOperand, TextOperand, Group, Unary, Signed, Product, OneUnary, Multiplied, Sum, OneProduct, Added, Shift, OneSum, Shifted, And, OneShift, Anded, Xor, OneAnd, Xored, Expression, OneXor, Ored, PlainType, IntegerPlain, CharPlain, BooleanPlain, OctetPlain, StringPlain, NamePlain, TypeSpec, PlainSpec, Sequence, StateType, PlainState, Reference, Declarator, Declarators, Field, State, Parameter, Parameters, OperationResult, Void, StateResult, Operation, KeyMembers, Key, Factory, AbstractTypeMember, StateMember, OperationMember, AbstractTypeBody, AbstractType, StorageTypeBody, StorageType, AbstractHomeMember, KeyMember, FactoryMember, HomeOperation, AbstractHomeBody, AbstractHome, HomeMember, PlainKey, PrimaryKey, HomeFactory, StorageHome, Provision, Catalog, ConstantType, IntegerConstant, OctetConstant, StringConstant, NameConstant, Constant, TypeDefinition, Struct, Enumeration, Definition, ModuleDefinition, ConstantDefinition, TypeDefinitionDefinition, StructDefinition, EnumerationDefinition, AbstractTypeDefinition, StorageTypeDefinition, AbstractHomeDefinition, StorageHomeDefinition, CatalogDefinition, Definitions, NoDefinition, AndDefinition}

-- Each part of a tree, with what `move` makes of each of its places.

abbrev pub moved_identifier : (Place → Place) → Identifier → Identifier
moved_identifier move i = record { place = move i.place; name = i.name }

abbrev pub moved_integer : (Place → Place) → IntegerLiteral → IntegerLiteral
moved_integer move literal = record { place = move literal.place; value = literal.value }

abbrev pub moved_text : (Place → Place) → TextLiteral → TextLiteral
moved_text move literal = record { place = move literal.place; bytes = literal.bytes }

abbrev pub moved_part : (Place → Place) → NamePart → NamePart
moved_part move p = record { scope = move p.scope; name = moved_identifier move p.name }

abbrev pub moved_name : (Place → Place) → Name → Name
moved_name move n = record { leading = option_map move n.leading; first = moved_identifier move n.first; others = map (moved_part move) n.others }

abbrev pub moved_names : (Place → Place) → Names → Names
moved_names move n = record { first = moved_name move n.first; others = map (moved_name move) n.others }

abbrev pub moved_identifiers : (Place → Place) → Identifiers → Identifiers
moved_identifiers move i = record { first = moved_identifier move i.first; others = map (moved_identifier move) i.others }

abbrev pub moved_sign : (Place → Place) → UnarySign → UnarySign
moved_sign move s = record { place = move s.place; operator = s.operator }

abbrev mutual
  pub moved_primary : (Place → Place) → Primary → Primary
  moved_primary move (NameOperand n) = NameOperand (moved_name move n)
  moved_primary move (IntegerOperand literal) = IntegerOperand (moved_integer move literal)
  moved_primary move (TextOperand literal) = TextOperand (moved_text move literal)
  moved_primary move (Group place inner) = Group (move place) (moved_expression move inner)

  pub moved_unary : (Place → Place) → Unary → Unary
  moved_unary move (Signed sign operand) = Signed (option_map (moved_sign move) sign) (moved_primary move operand)

  pub moved_product : (Place → Place) → Product → Product
  moved_product move (OneUnary operand) = OneUnary (moved_unary move operand)
  moved_product move (Multiplied operand place operator others) = Multiplied (moved_unary move operand) (move place) operator (moved_product move others)

  pub moved_sum : (Place → Place) → Sum → Sum
  moved_sum move (OneProduct operand) = OneProduct (moved_product move operand)
  moved_sum move (Added operand place operator others) = Added (moved_product move operand) (move place) operator (moved_sum move others)

  pub moved_shift : (Place → Place) → Shift → Shift
  moved_shift move (OneSum operand) = OneSum (moved_sum move operand)
  moved_shift move (Shifted operand place operator others) = Shifted (moved_sum move operand) (move place) operator (moved_shift move others)

  pub moved_and : (Place → Place) → And → And
  moved_and move (OneShift operand) = OneShift (moved_shift move operand)
  moved_and move (Anded operand place others) = Anded (moved_shift move operand) (move place) (moved_and move others)

  pub moved_xor : (Place → Place) → Xor → Xor
  moved_xor move (OneAnd operand) = OneAnd (moved_and move operand)
  moved_xor move (Xored operand place others) = Xored (moved_and move operand) (move place) (moved_xor move others)

  pub moved_expression : (Place → Place) → Expression → Expression
  moved_expression move (OneXor operand) = OneXor (moved_xor move operand)
  moved_expression move (Ored operand place others) = Ored (moved_xor move operand) (move place) (moved_expression move others)

abbrev pub moved_plain_type : (Place → Place) → PlainType → PlainType
moved_plain_type move (IntegerPlain i) = IntegerPlain i
moved_plain_type move CharPlain = CharPlain
moved_plain_type move BooleanPlain = BooleanPlain
moved_plain_type move OctetPlain = OctetPlain
moved_plain_type move (StringPlain bound) = StringPlain (option_map (moved_expression move) bound)
moved_plain_type move (NamePlain n) = NamePlain (moved_name move n)

abbrev pub moved_type_spec : (Place → Place) → TypeSpec → TypeSpec
moved_type_spec move (PlainSpec plain) = PlainSpec (moved_plain_type move plain)
moved_type_spec move (Sequence item bound) = Sequence (moved_type_spec move item) (option_map (moved_expression move) bound)

abbrev pub moved_state_type : (Place → Place) → StateType → StateType
moved_state_type move (PlainState plain) = PlainState (moved_plain_type move plain)
moved_state_type move (Reference n) = Reference (moved_name move n)

abbrev pub moved_declarator : (Place → Place) → Declarator → Declarator
moved_declarator move d = record { name = moved_identifier move d.name; dimensions = map (moved_expression move) d.dimensions }

abbrev pub moved_declarators : (Place → Place) → Declarators → Declarators
moved_declarators move d = record { first = moved_declarator move d.first; others = map (moved_declarator move) d.others }

abbrev pub moved_field : (Place → Place) → Field → Field
moved_field move f = record { spec = moved_type_spec move f.spec; declarators = moved_declarators move f.declarators }

abbrev pub moved_state : (Place → Place) → State → State
moved_state move s = record { is_readonly = s.is_readonly; state_type = moved_state_type move s.state_type; names = moved_identifiers move s.names }

abbrev pub moved_parameter : (Place → Place) → Parameter → Parameter
moved_parameter move p = record { direction = p.direction; parameter_type = moved_state_type move p.parameter_type; name = moved_identifier move p.name }

abbrev pub moved_parameters : (Place → Place) → Parameters → Parameters
moved_parameters move p = record { first = moved_parameter move p.first; others = map (moved_parameter move) p.others }

abbrev pub moved_result : (Place → Place) → OperationResult → OperationResult
moved_result move Void = Void
moved_result move (StateResult type) = StateResult (moved_state_type move type)

abbrev pub moved_operation : (Place → Place) → Operation → Operation
moved_operation move o = record { returned = moved_result move o.returned; name = moved_identifier move o.name; place = move o.place; parameters = option_map (moved_parameters move) o.parameters }

abbrev pub moved_key_members : (Place → Place) → KeyMembers → KeyMembers
moved_key_members move m = record { place = move m.place; names = moved_identifiers move m.names }

abbrev pub moved_key : (Place → Place) → Key → Key
moved_key move k = record { name = moved_identifier move k.name; members = option_map (moved_key_members move) k.members }

abbrev pub moved_factory : (Place → Place) → Factory → Factory
moved_factory move f = record { name = moved_identifier move f.name; place = move f.place; members = option_map (moved_identifiers move) f.members }

abbrev pub moved_type_member : (Place → Place) → AbstractTypeMember → AbstractTypeMember
moved_type_member move (StateMember s) = StateMember (moved_state move s)
moved_type_member move (OperationMember o) = OperationMember (moved_operation move o)

abbrev pub moved_abstract_type_body : (Place → Place) → AbstractTypeBody → AbstractTypeBody
moved_abstract_type_body move b = record { bases = option_map (moved_names move) b.bases; members = map (moved_type_member move) b.members }

abbrev pub moved_abstract_type : (Place → Place) → AbstractType → AbstractType
moved_abstract_type move t = record { name = moved_identifier move t.name; body = option_map (moved_abstract_type_body move) t.body }

abbrev pub moved_storage_type_body : (Place → Place) → StorageTypeBody → StorageTypeBody
moved_storage_type_body move b = record { base = option_map (moved_name move) b.base; implements = option_map (moved_names move) b.implements; states = map (moved_state move) b.states }

abbrev pub moved_storage_type : (Place → Place) → StorageType → StorageType
moved_storage_type move t = record { name = moved_identifier move t.name; body = option_map (moved_storage_type_body move) t.body }

abbrev pub moved_abstract_home_member : (Place → Place) → AbstractHomeMember → AbstractHomeMember
moved_abstract_home_member move (KeyMember k) = KeyMember (moved_key move k)
moved_abstract_home_member move (FactoryMember f) = FactoryMember (moved_factory move f)
moved_abstract_home_member move (HomeOperation o) = HomeOperation (moved_operation move o)

abbrev pub moved_abstract_home_body : (Place → Place) → AbstractHomeBody → AbstractHomeBody
moved_abstract_home_body move b = record { managed = moved_name move b.managed; bases = option_map (moved_names move) b.bases; members = map (moved_abstract_home_member move) b.members }

abbrev pub moved_abstract_home : (Place → Place) → AbstractHome → AbstractHome
moved_abstract_home move h = record { name = moved_identifier move h.name; body = option_map (moved_abstract_home_body move) h.body }

abbrev pub moved_home_member : (Place → Place) → HomeMember → HomeMember
moved_home_member move (PlainKey k) = PlainKey (moved_key move k)
moved_home_member move (PrimaryKey k) = PrimaryKey (moved_key move k)
moved_home_member move (HomeFactory f) = HomeFactory (moved_factory move f)

abbrev pub moved_storage_home : (Place → Place) → StorageHome → StorageHome
moved_storage_home move h = record { name = moved_identifier move h.name; base = option_map (moved_name move) h.base; managed = moved_name move h.managed; implements = option_map (moved_names move) h.implements; members = map (moved_home_member move) h.members }

abbrev pub moved_provision : (Place → Place) → Provision → Provision
moved_provision move p = record { home = moved_name move p.home; name = moved_identifier move p.name }

abbrev pub moved_catalog : (Place → Place) → Catalog → Catalog
moved_catalog move c = record { name = moved_identifier move c.name; provisions = map (moved_provision move) c.provisions }

abbrev pub moved_constant_type : (Place → Place) → ConstantType → ConstantType
moved_constant_type move (IntegerConstant i) = IntegerConstant i
moved_constant_type move OctetConstant = OctetConstant
moved_constant_type move StringConstant = StringConstant
moved_constant_type move (NameConstant n) = NameConstant (moved_name move n)

abbrev pub moved_constant : (Place → Place) → Constant → Constant
moved_constant move c = record { constant_type = moved_constant_type move c.constant_type; name = moved_identifier move c.name; value = moved_expression move c.value }

abbrev pub moved_type_definition : (Place → Place) → TypeDefinition → TypeDefinition
moved_type_definition move t = record { spec = moved_type_spec move t.spec; declarators = moved_declarators move t.declarators }

abbrev pub moved_struct : (Place → Place) → Struct → Struct
moved_struct move s = record { name = moved_identifier move s.name; first = moved_field move s.first; others = map (moved_field move) s.others }

abbrev pub moved_enumeration : (Place → Place) → Enumeration → Enumeration
moved_enumeration move e = record { name = moved_identifier move e.name; enumerators = moved_identifiers move e.enumerators }

abbrev mutual
  pub moved_definition : (Place → Place) → Definition → Definition
  moved_definition move (ModuleDefinition n ds) = ModuleDefinition (moved_identifier move n) (moved move ds)
  moved_definition move (ConstantDefinition c) = ConstantDefinition (moved_constant move c)
  moved_definition move (TypeDefinitionDefinition t) = TypeDefinitionDefinition (moved_type_definition move t)
  moved_definition move (StructDefinition s) = StructDefinition (moved_struct move s)
  moved_definition move (EnumerationDefinition e) = EnumerationDefinition (moved_enumeration move e)
  moved_definition move (AbstractTypeDefinition t) = AbstractTypeDefinition (moved_abstract_type move t)
  moved_definition move (StorageTypeDefinition t) = StorageTypeDefinition (moved_storage_type move t)
  moved_definition move (AbstractHomeDefinition h) = AbstractHomeDefinition (moved_abstract_home move h)
  moved_definition move (StorageHomeDefinition h) = StorageHomeDefinition (moved_storage_home move h)
  moved_definition move (CatalogDefinition c) = CatalogDefinition (moved_catalog move c)

  -- the definitions of a whole text
  pub moved : (Place → Place) → Definitions → Definitions
  moved move NoDefinition = NoDefinition
  moved move (AndDefinition d ds) = AndDefinition (moved_definition move d) (moved move ds)
