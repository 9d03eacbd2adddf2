-- The grammar: what tokens spell each tree, one case for each production.
use Rattle.std.specs.Prelude.{List, [], ◌∷◌, ◌++◌, Bool, true, false}
use Rattle.pss_base.specs.declared.place.Place.{Place}
use Rattle.part_readers.specs.Sentences.{joined, maybe}
use Rattle.psdl_tokens.specs.declared.token.Keyword.{Keyword}
use Rattle.psdl_tokens.specs.declared.token.Keyword.TheVariants as keywords
use Rattle.psdl_tokens.specs.declared.token.Mark.{Mark}
use Rattle.psdl_tokens.specs.declared.token.Mark.TheVariants as marks
use Rattle.psdl_tree.specs.declared.names.Identifier.{Identifier}
use Rattle.psdl_tree.specs.declared.names.NamePart.{NamePart}
use Rattle.psdl_tree.specs.declared.expressions.ShiftOperator.{ShiftOperator}
use Rattle.psdl_tree.specs.declared.expressions.ShiftOperator.TheVariants as shifts
use Rattle.psdl_tree.specs.declared.expressions.SumOperator.{SumOperator}
use Rattle.psdl_tree.specs.declared.expressions.SumOperator.TheVariants as sums
use Rattle.psdl_tree.specs.declared.expressions.ProductOperator.{ProductOperator}
use Rattle.psdl_tree.specs.declared.expressions.ProductOperator.TheVariants as products
use Rattle.psdl_tree.specs.declared.expressions.UnaryOperator.{UnaryOperator}
use Rattle.psdl_tree.specs.declared.expressions.UnaryOperator.TheVariants as signs
use Rattle.psdl_tree.specs.declared.expressions.UnarySign.{UnarySign}
use Rattle.psdl_tree.specs.declared.types.IntegerType.{IntegerType}
use Rattle.psdl_tree.specs.declared.types.IntegerSize.{IntegerSize}
use Rattle.psdl_tree.specs.declared.types.IntegerSize.TheVariants as sizes
use Rattle.psdl_tree.specs.declared.stores.Direction.{Direction}
use Rattle.psdl_tree.specs.declared.stores.Direction.TheVariants as directions
use Rattle.psdl_syntax.specs.Seen.{Seen, Word, Sign, Placed, Named, Number, Quoted}
use Rattle.psdl_tree.specs.Trees.{Name, Names, Identifiers, Primary, NameOperand, IntegerOperand, TextOperand, Group, Unary, Signed, Product, OneUnary, Multiplied, Sum, OneProduct, Added, Shift, OneSum, Shifted, And, OneShift, Anded, Xor, OneAnd, Xored, Expression, OneXor, Ored, PlainType, IntegerPlain, CharPlain, BooleanPlain, OctetPlain, StringPlain, NamePlain, TypeSpec, PlainSpec, Sequence, StateType, PlainState, Reference, Declarator, Declarators, Field, State, Parameter, Parameters, OperationResult, Void, StateResult, Operation, KeyMembers, Key, Factory, AbstractTypeMember, StateMember, OperationMember, AbstractTypeBody, AbstractType, StorageTypeBody, StorageType, AbstractHomeMember, KeyMember, FactoryMember, HomeOperation, AbstractHomeBody, AbstractHome, HomeMember, PlainKey, PrimaryKey, HomeFactory, StorageHome, Provision, Catalog, ConstantType, IntegerConstant, OctetConstant, StringConstant, NameConstant, Constant, TypeDefinition, Struct, Enumeration, Definition, ModuleDefinition, ConstantDefinition, TypeDefinitionDefinition, StructDefinition, EnumerationDefinition, AbstractTypeDefinition, StorageTypeDefinition, AbstractHomeDefinition, StorageHomeDefinition, CatalogDefinition, Definitions, NoDefinition, AndDefinition}

abbrev pub word : Keyword → List Seen
word keyword = Word keyword ∷ []

abbrev pub sign : Mark → List Seen
sign mark = Sign mark ∷ []

abbrev pub placed : Mark → Place → List Seen
placed mark place = Placed mark place ∷ []

abbrev pub identifier : Identifier → List Seen
identifier i = Named i ∷ []

-- a part with a word or a sign in front of it
abbrev pub behind : {A : Type 0} → List Seen → (A → List Seen) → A → List Seen
behind front spell x = front ++ spell x

-- others of a list with commas
abbrev pub after_commas : {A : Type 0} → (A → List Seen) → List A → List Seen
after_commas spell = joined (behind (sign marks.Comma) spell)

-- name = [ "::" ] id { "::" id }
abbrev pub name_part : NamePart → List Seen
name_part p = placed marks.Scope p.scope ++ identifier p.name

abbrev pub name : Name → List Seen
name n = maybe (placed marks.Scope) n.leading ++ (identifier n.first ++ joined name_part n.others)

-- names = name { "," name }
abbrev pub names : Names → List Seen
names n = name n.first ++ after_commas name n.others

-- id { "," id }
abbrev pub identifiers : Identifiers → List Seen
identifiers i = identifier i.first ++ after_commas identifier i.others

abbrev pub shift_mark : ShiftOperator → Mark
shift_mark shifts.Left = marks.ShiftLeft
shift_mark shifts.Right = marks.ShiftRight

abbrev pub sum_mark : SumOperator → Mark
sum_mark sums.Plus = marks.Plus
sum_mark sums.Minus = marks.Minus

abbrev pub product_mark : ProductOperator → Mark
product_mark products.Times = marks.Times
product_mark products.Divide = marks.Divide
product_mark products.Remainder = marks.Remainder

abbrev pub unary_mark : UnaryOperator → Mark
unary_mark signs.Minus = marks.Minus
unary_mark signs.Plus = marks.Plus
unary_mark signs.Not = marks.Not

abbrev pub unary_sign : UnarySign → List Seen
unary_sign s = placed (unary_mark s.operator) s.place

abbrev mutual
  -- primary = name | integer literal | string literal | "(" expr ")"
  pub primary : Primary → List Seen
  primary (NameOperand n) = name n
  primary (IntegerOperand literal) = Number literal ∷ []
  primary (TextOperand literal) = Quoted literal ∷ []
  primary (Group place inner) = placed marks.LeftParen place ++ (expression inner ++ sign marks.RightParen)

  -- unary = [ "-" | "+" | "~" ] primary
  pub unary : Unary → List Seen
  unary (Signed sign operand) = maybe unary_sign sign ++ primary operand

  -- mul = unary { ( "*" | "/" | "%" ) unary }
  pub product : Product → List Seen
  product (OneUnary operand) = unary operand
  product (Multiplied operand place operator others) = unary operand ++ (placed (product_mark operator) place ++ product others)

  -- add = mul { ( "+" | "-" ) mul }
  pub sum : Sum → List Seen
  sum (OneProduct operand) = product operand
  sum (Added operand place operator others) = product operand ++ (placed (sum_mark operator) place ++ sum others)

  -- shift = add { ( "<<" | ">>" ) add }
  pub shift : Shift → List Seen
  shift (OneSum operand) = sum operand
  shift (Shifted operand place operator others) = sum operand ++ (placed (shift_mark operator) place ++ shift others)

  -- and = shift { "&" shift }
  pub and : And → List Seen
  and (OneShift operand) = shift operand
  and (Anded operand place others) = shift operand ++ (placed marks.And place ++ and others)

  -- xor = and { "^" and }
  pub xor : Xor → List Seen
  xor (OneAnd operand) = and operand
  xor (Xored operand place others) = and operand ++ (placed marks.Xor place ++ xor others)

  -- expr = xor { "|" xor }
  pub expression : Expression → List Seen
  expression (OneXor operand) = xor operand
  expression (Ored operand place others) = xor operand ++ (placed marks.Or place ++ expression others)

-- integer = [ "unsigned" ] ( "short" | "long" [ "long" ] )
abbrev pub unsigned : Bool → List Seen
unsigned true = word keywords.Unsigned
unsigned false = []

abbrev pub integer_size : IntegerSize → List Seen
integer_size sizes.Short = word keywords.Short
integer_size sizes.Long = word keywords.Long
integer_size sizes.LongLong = word keywords.Long ++ word keywords.Long

abbrev pub integer : IntegerType → List Seen
integer i = unsigned i.unsigned ++ integer_size i.size

-- plain_t = integer | "char" | "boolean" | "octet" | "string" [ "<" expr ">" ] | name
abbrev pub string_bound : Expression → List Seen
string_bound bound = sign marks.Less ++ (expression bound ++ sign marks.Greater)

abbrev pub plain_type : PlainType → List Seen
plain_type (IntegerPlain i) = integer i
plain_type CharPlain = word keywords.Char
plain_type BooleanPlain = word keywords.Boolean
plain_type OctetPlain = word keywords.Octet
plain_type (StringPlain bound) = word keywords.String ++ maybe string_bound bound
plain_type (NamePlain n) = name n

-- spec_t = plain_t | "sequence" "<" spec_t [ "," expr ] ">"
abbrev pub type_spec : TypeSpec → List Seen
type_spec (PlainSpec plain) = plain_type plain
type_spec (Sequence item bound) = word keywords.Sequence ++ (sign marks.Less ++ ((type_spec item ++ maybe (behind (sign marks.Comma) expression) bound) ++ sign marks.Greater))

-- state_t = plain_t | "ref" "<" name ">"
abbrev pub state_type : StateType → List Seen
state_type (PlainState plain) = plain_type plain
state_type (Reference n) = word keywords.Ref ++ (sign marks.Less ++ (name n ++ sign marks.Greater))

-- declr = id { "[" expr "]" }
abbrev pub dimension : Expression → List Seen
dimension size = sign marks.LeftBracket ++ (expression size ++ sign marks.RightBracket)

abbrev pub declarator : Declarator → List Seen
declarator d = identifier d.name ++ joined dimension d.dimensions

-- declr { "," declr }
abbrev pub declarators : Declarators → List Seen
declarators d = declarator d.first ++ after_commas declarator d.others

-- field = spec_t declr { "," declr } ";"
abbrev pub field : Field → List Seen
field f = type_spec f.spec ++ (declarators f.declarators ++ sign marks.Semicolon)

-- state = [ "readonly" ] "state" state_t id { "," id } ";"
abbrev pub readonly : Bool → List Seen
readonly true = word keywords.ReadOnly
readonly false = []

abbrev pub state : State → List Seen
state s = readonly s.is_readonly ++ (word keywords.State ++ (state_type s.state_type ++ (identifiers s.names ++ sign marks.Semicolon)))

-- param = ( "in" | "out" | "inout" ) state_t id
abbrev pub direction_keyword : Direction → Keyword
direction_keyword directions.In = keywords.In
direction_keyword directions.Out = keywords.Out
direction_keyword directions.InOut = keywords.InOut

abbrev pub parameter : Parameter → List Seen
parameter p = word (direction_keyword p.direction) ++ (state_type p.parameter_type ++ identifier p.name)

-- param { "," param }
abbrev pub parameters : Parameters → List Seen
parameters p = parameter p.first ++ after_commas parameter p.others

-- op = ( "void" | state_t ) id "(" [ param { "," param } ] ")" ";"
abbrev pub operation_result : OperationResult → List Seen
operation_result Void = word keywords.Void
operation_result (StateResult type) = state_type type

abbrev pub operation : Operation → List Seen
operation o = operation_result o.returned ++ (identifier o.name ++ ((placed marks.LeftParen o.place ++ (maybe parameters o.parameters ++ sign marks.RightParen)) ++ sign marks.Semicolon))

-- key = "key" id [ "(" id { "," id } ")" ] ";"
abbrev pub key_members : KeyMembers → List Seen
key_members m = placed marks.LeftParen m.place ++ (identifiers m.names ++ sign marks.RightParen)

abbrev pub key : Key → List Seen
key k = word keywords.Key ++ (identifier k.name ++ (maybe key_members k.members ++ sign marks.Semicolon))

-- factory = "factory" id "(" [ id { "," id } ] ")" ";"
abbrev pub factory : Factory → List Seen
factory f = word keywords.Factory ++ (identifier f.name ++ ((placed marks.LeftParen f.place ++ (maybe identifiers f.members ++ sign marks.RightParen)) ++ sign marks.Semicolon))

-- "{" and what stands in it up to "}"
abbrev pub braced : List Seen → List Seen
braced inner = sign marks.LeftBrace ++ (inner ++ sign marks.RightBrace)

-- abstype = "abstract" "storagetype" id [ [ ":" names ] "{" { state | op } "}" ]
abbrev pub abstract_type_member : AbstractTypeMember → List Seen
abstract_type_member (StateMember s) = state s
abstract_type_member (OperationMember o) = operation o

abbrev pub abstract_type_body : AbstractTypeBody → List Seen
abstract_type_body b = maybe (behind (sign marks.Colon) names) b.bases ++ braced (joined abstract_type_member b.members)

abbrev pub abstract_type : AbstractType → List Seen
abstract_type t = word keywords.Abstract ++ (word keywords.StorageType ++ (identifier t.name ++ maybe abstract_type_body t.body))

-- type = "storagetype" id [ [ ":" name ] [ "implements" names ] "{" { state } "}" ]
abbrev pub storage_type_body : StorageTypeBody → List Seen
storage_type_body b = maybe (behind (sign marks.Colon) name) b.base ++ (maybe (behind (word keywords.Implements) names) b.implements ++ braced (joined state b.states))

abbrev pub storage_type : StorageType → List Seen
storage_type t = word keywords.StorageType ++ (identifier t.name ++ maybe storage_type_body t.body)

-- abshome = "abstract" "storagehome" id [ "of" name [ ":" names ] "{" { key | factory | op } "}" ]
abbrev pub abstract_home_member : AbstractHomeMember → List Seen
abstract_home_member (KeyMember k) = key k
abstract_home_member (FactoryMember f) = factory f
abstract_home_member (HomeOperation o) = operation o

abbrev pub abstract_home_body : AbstractHomeBody → List Seen
abstract_home_body b = word keywords.Of ++ (name b.managed ++ (maybe (behind (sign marks.Colon) names) b.bases ++ braced (joined abstract_home_member b.members)))

abbrev pub abstract_home : AbstractHome → List Seen
abstract_home h = word keywords.Abstract ++ (word keywords.StorageHome ++ (identifier h.name ++ maybe abstract_home_body h.body))

-- home = "storagehome" id [ ":" name ] "of" name [ "implements" names ] "{" { key | "primary" key | factory } "}"
abbrev pub home_member : HomeMember → List Seen
home_member (PlainKey k) = key k
home_member (PrimaryKey k) = word keywords.Primary ++ key k
home_member (HomeFactory f) = factory f

abbrev pub storage_home : StorageHome → List Seen
storage_home h = word keywords.StorageHome ++ (identifier h.name ++ (maybe (behind (sign marks.Colon) name) h.base ++ (word keywords.Of ++ (name h.managed ++ (maybe (behind (word keywords.Implements) names) h.implements ++ braced (joined home_member h.members))))))

-- catalog = "catalog" id "{" { "provides" name id ";" } "}"
abbrev pub provision : Provision → List Seen
provision p = word keywords.Provides ++ (name p.home ++ (identifier p.name ++ sign marks.Semicolon))

abbrev pub catalog : Catalog → List Seen
catalog c = word keywords.Catalog ++ (identifier c.name ++ braced (joined provision c.provisions))

-- const = "const" ( integer | "octet" | "string" | name ) id "=" expr
abbrev pub constant_type : ConstantType → List Seen
constant_type (IntegerConstant i) = integer i
constant_type OctetConstant = word keywords.Octet
constant_type StringConstant = word keywords.String
constant_type (NameConstant n) = name n

abbrev pub constant : Constant → List Seen
constant c = word keywords.Const ++ (constant_type c.constant_type ++ (identifier c.name ++ (sign marks.Equals ++ expression c.value)))

-- typedef = "typedef" spec_t declr { "," declr }
abbrev pub type_definition : TypeDefinition → List Seen
type_definition t = word keywords.Typedef ++ (type_spec t.spec ++ declarators t.declarators)

-- struct = "struct" id "{" field { field } "}"
abbrev pub struct : Struct → List Seen
struct s = word keywords.Struct ++ (identifier s.name ++ braced (field s.first ++ joined field s.others))

-- enum = "enum" id "{" id { "," id } "}"
abbrev pub enumeration : Enumeration → List Seen
enumeration e = word keywords.Enum ++ (identifier e.name ++ braced (identifiers e.enumerators))

abbrev mutual
  -- def = ( module | const | typedef | struct | enum | abstype | type | abshome | home | catalog ) ";"
  -- module = "module" id "{" { def } "}"
  pub definition : Definition → List Seen
  definition (ModuleDefinition n ds) = (word keywords.Module ++ (identifier n ++ (sign marks.LeftBrace ++ (definitions ds ++ sign marks.RightBrace)))) ++ sign marks.Semicolon
  definition (ConstantDefinition c) = constant c ++ sign marks.Semicolon
  definition (TypeDefinitionDefinition t) = type_definition t ++ sign marks.Semicolon
  definition (StructDefinition s) = struct s ++ sign marks.Semicolon
  definition (EnumerationDefinition e) = enumeration e ++ sign marks.Semicolon
  definition (AbstractTypeDefinition t) = abstract_type t ++ sign marks.Semicolon
  definition (StorageTypeDefinition t) = storage_type t ++ sign marks.Semicolon
  definition (AbstractHomeDefinition h) = abstract_home h ++ sign marks.Semicolon
  definition (StorageHomeDefinition h) = storage_home h ++ sign marks.Semicolon
  definition (CatalogDefinition c) = catalog c ++ sign marks.Semicolon

  -- spec = { def }
  pub definitions : Definitions → List Seen
  definitions NoDefinition = []
  definitions (AndDefinition d ds) = definition d ++ definitions ds
