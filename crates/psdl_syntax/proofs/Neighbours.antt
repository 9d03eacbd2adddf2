-- The tokens of each production may stand one behind the other.
use Rattle.std.proofs.Common.{◌≡◌, List, ◌++◌, Bool, true, false, Option, Some, None, refl}
use Rattle.pss_base.specs.declared.place.Place.{Place}
use Rattle.part_readers.specs.Sentences.{joined, maybe}
use Rattle.psdl_tokens.specs.declared.token.Keyword.{Keyword}
use Rattle.psdl_tokens.specs.declared.token.Keyword.TheVariants as keywords
use Rattle.psdl_tokens.specs.declared.token.Mark.TheVariants as marks
use Rattle.psdl_tree.specs.declared.names.Identifier.{Identifier}
use Rattle.psdl_tree.specs.declared.names.NamePart.{NamePart}
use Rattle.psdl_tree.specs.declared.expressions.ShiftOperator.{ShiftOperator}
use Rattle.psdl_tree.specs.declared.expressions.ShiftOperator.TheVariants as shifts
use Rattle.psdl_tree.specs.declared.expressions.SumOperator.{SumOperator}
use Rattle.psdl_tree.specs.declared.expressions.SumOperator.TheVariants as sums
use Rattle.psdl_tree.specs.declared.expressions.ProductOperator.{ProductOperator}
use Rattle.psdl_tree.specs.declared.expressions.ProductOperator.TheVariants as products
use Rattle.psdl_tree.specs.declared.expressions.UnaryOperator.{UnaryOperator}
use Rattle.psdl_tree.specs.declared.expressions.UnaryOperator.TheVariants as signs
use Rattle.psdl_tree.specs.declared.expressions.UnarySign.{UnarySign}
use Rattle.psdl_tree.specs.declared.types.IntegerType.{IntegerType}
use Rattle.psdl_tree.specs.declared.types.IntegerSize.{IntegerSize}
use Rattle.psdl_tree.specs.declared.types.IntegerSize.TheVariants as sizes
use Rattle.psdl_syntax.specs.Seen.{Seen}
use Rattle.psdl_tree.specs.Trees.{Name, Names, Identifiers, Primary, NameOperand, IntegerOperand, TextOperand, Group, Unary, Signed, Product, OneUnary, Multiplied, Sum, OneProduct, Added, Shift, OneSum, Shifted, And, OneShift, Anded, Xor, OneAnd, Xored, Expression, OneXor, Ored, PlainType, IntegerPlain, CharPlain, BooleanPlain, OctetPlain, StringPlain, NamePlain, TypeSpec, PlainSpec, Sequence, StateType, PlainState, Reference, Declarator, Declarators, Field, State, Parameter, Parameters, OperationResult, Void, StateResult, Operation, KeyMembers, Key, Factory, AbstractTypeMember, StateMember, OperationMember, AbstractTypeBody, AbstractType, StorageTypeBody, StorageType, AbstractHomeMember, KeyMember, FactoryMember, HomeOperation, AbstractHomeBody, AbstractHome, HomeMember, PlainKey, PrimaryKey, HomeFactory, StorageHome, Provision, Catalog, ConstantType, IntegerConstant, OctetConstant, StringConstant, NameConstant, Constant, TypeDefinition, Struct, Enumeration, Definition, ModuleDefinition, ConstantDefinition, TypeDefinitionDefinition, StructDefinition, EnumerationDefinition, AbstractTypeDefinition, StorageTypeDefinition, AbstractHomeDefinition, StorageHomeDefinition, CatalogDefinition, Definitions, NoDefinition, AndDefinition}
use Rattle.psdl_syntax.specs.Grammar as grammar
use Rattle.psdl_syntax.proofs.Standing.{Closed, Solid, is_less_mark, solid_closed, nothing, both_closed, first_solid, second_solid, sign_between, angled, maybe_closed, joined_closed}

one_word : (k : Keyword) → Closed (grammar.word k)
one_word k = record { stands = refl; leaves = refl }

one_identifier : (i : Identifier) → Closed (grammar.identifier i)
one_identifier i = record { stands = refl; leaves = refl }

semicolon : Closed (grammar.sign marks.Semicolon)
semicolon = record { stands = refl; leaves = refl }

comma : Closed (grammar.sign marks.Comma)
comma = record { stands = refl; leaves = refl }

colon : Closed (grammar.sign marks.Colon)
colon = record { stands = refl; leaves = refl }

close : Closed (grammar.sign marks.RightParen)
close = record { stands = refl; leaves = refl }

open_at : (place : Place) → Closed (grammar.placed marks.LeftParen place)
open_at place = record { stands = refl; leaves = refl }

scope_at : (place : Place) → Closed (grammar.placed marks.Scope place)
scope_at place = record { stands = refl; leaves = refl }

-- a part with closed tokens in front
behind_closed : {A : Type 0} (front : List Seen) (spell : A → List Seen) → Closed front → ((x : A) → Closed (spell x)) → (x : A) → Closed (grammar.behind front spell x)
behind_closed front spell h each x = both_closed front (spell x) h (each x)

after_commas : {A : Type 0} (spell : A → List Seen) → ((x : A) → Closed (spell x)) → (xs : List A) → Closed (grammar.after_commas spell xs)
after_commas spell each xs = joined_closed (grammar.behind (grammar.sign marks.Comma) spell) (behind_closed (grammar.sign marks.Comma) spell comma each) xs

name_part : (p : NamePart) → Closed (grammar.name_part p)
name_part p = record { stands = refl; leaves = refl }

name_solid : (n : Name) → Solid (grammar.name n)
name_solid n =
    second_solid (maybe (grammar.placed marks.Scope) n.leading) (grammar.identifier n.first ++ joined grammar.name_part n.others)
    (maybe_closed (grammar.placed marks.Scope) scope_at n.leading)
    (first_solid (grammar.identifier n.first) (joined grammar.name_part n.others) (record { stands = refl; leaves = refl }) (joined_closed grammar.name_part name_part n.others))

name : (n : Name) → Closed (grammar.name n)
name n = solid_closed (grammar.name n) (name_solid n)

names : (n : Names) → Closed (grammar.names n)
names n = both_closed (grammar.name n.first) (grammar.after_commas grammar.name n.others) (name n.first) (after_commas grammar.name name n.others)

identifiers : (i : Identifiers) → Closed (grammar.identifiers i)
identifiers i = both_closed (grammar.identifier i.first) (grammar.after_commas grammar.identifier i.others) (one_identifier i.first) (after_commas grammar.identifier one_identifier i.others)

shift_mark : (o : ShiftOperator) → is_less_mark (grammar.shift_mark o) ≡ false
shift_mark shifts.Left = refl
shift_mark shifts.Right = refl

sum_mark : (o : SumOperator) → is_less_mark (grammar.sum_mark o) ≡ false
sum_mark sums.Plus = refl
sum_mark sums.Minus = refl

product_mark : (o : ProductOperator) → is_less_mark (grammar.product_mark o) ≡ false
product_mark products.Times = refl
product_mark products.Divide = refl
product_mark products.Remainder = refl

operator_at : (o : UnaryOperator) (place : Place) → Closed (grammar.placed (grammar.unary_mark o) place)
operator_at signs.Minus place = record { stands = refl; leaves = refl }
operator_at signs.Plus place = record { stands = refl; leaves = refl }
operator_at signs.Not place = record { stands = refl; leaves = refl }

unary_sign : (s : UnarySign) → Closed (grammar.unary_sign s)
unary_sign s = operator_at s.operator s.place

mutual
  primary : (x : Primary) → Solid (grammar.primary x)
  primary (NameOperand n) = name_solid n
  primary (IntegerOperand literal) = record { stands = refl; leaves = refl }
  primary (TextOperand literal) = record { stands = refl; leaves = refl }
  primary (Group place inner) =
      first_solid (grammar.placed marks.LeftParen place) (grammar.expression inner ++ grammar.sign marks.RightParen) (record { stands = refl; leaves = refl })
      (both_closed (grammar.expression inner) (grammar.sign marks.RightParen) (solid_closed (grammar.expression inner) (expression_solid inner)) close)

  unary : (x : Unary) → Solid (grammar.unary x)
  unary (Signed sign operand) = second_solid (maybe grammar.unary_sign sign) (grammar.primary operand) (maybe_closed grammar.unary_sign unary_sign sign) (primary operand)

  product : (x : Product) → Solid (grammar.product x)
  product (OneUnary operand) = unary operand
  product (Multiplied operand place operator others) = sign_between (grammar.unary operand) (grammar.product_mark operator) place (grammar.product others) (product_mark operator) (unary operand) (solid_closed (grammar.product others) (product others))

  sum : (x : Sum) → Solid (grammar.sum x)
  sum (OneProduct operand) = product operand
  sum (Added operand place operator others) = sign_between (grammar.product operand) (grammar.sum_mark operator) place (grammar.sum others) (sum_mark operator) (product operand) (solid_closed (grammar.sum others) (sum others))

  shift : (x : Shift) → Solid (grammar.shift x)
  shift (OneSum operand) = sum operand
  shift (Shifted operand place operator others) = sign_between (grammar.sum operand) (grammar.shift_mark operator) place (grammar.shift others) (shift_mark operator) (sum operand) (solid_closed (grammar.shift others) (shift others))

  and : (x : And) → Solid (grammar.and x)
  and (OneShift operand) = shift operand
  and (Anded operand place others) = sign_between (grammar.shift operand) marks.And place (grammar.and others) refl (shift operand) (solid_closed (grammar.and others) (and others))

  xor : (x : Xor) → Solid (grammar.xor x)
  xor (OneAnd operand) = and operand
  xor (Xored operand place others) = sign_between (grammar.and operand) marks.Xor place (grammar.xor others) refl (and operand) (solid_closed (grammar.xor others) (xor others))

  expression_solid : (x : Expression) → Solid (grammar.expression x)
  expression_solid (OneXor operand) = xor operand
  expression_solid (Ored operand place others) = sign_between (grammar.xor operand) marks.Or place (grammar.expression others) refl (xor operand) (solid_closed (grammar.expression others) (expression_solid others))

expression : (x : Expression) → Closed (grammar.expression x)
expression x = solid_closed (grammar.expression x) (expression_solid x)

integer : (i : IntegerType) → Closed (grammar.integer i)
integer i = both_closed (grammar.unsigned i.unsigned) (grammar.integer_size i.size) (unsigned i.unsigned) (size i.size)
  where
    unsigned : (u : Bool) → Closed (grammar.unsigned u)
    unsigned true = one_word keywords.Unsigned
    unsigned false = nothing

    size : (s : IntegerSize) → Closed (grammar.integer_size s)
    size sizes.Short = one_word keywords.Short
    size sizes.Long = one_word keywords.Long
    size sizes.LongLong = record { stands = refl; leaves = refl }

plain_type : (p : PlainType) → Closed (grammar.plain_type p)
plain_type (IntegerPlain i) = integer i
plain_type CharPlain = one_word keywords.Char
plain_type BooleanPlain = one_word keywords.Boolean
plain_type OctetPlain = one_word keywords.Octet
plain_type (StringPlain None) = record { stands = refl; leaves = refl }
plain_type (StringPlain (Some bound)) = angled keywords.String (grammar.expression bound) (expression bound)
plain_type (NamePlain n) = name n

type_spec : (t : TypeSpec) → Closed (grammar.type_spec t)
type_spec (PlainSpec plain) = plain_type plain
type_spec (Sequence item bound) =
    angled keywords.Sequence (grammar.type_spec item ++ maybe (grammar.behind (grammar.sign marks.Comma) grammar.expression) bound)
    (both_closed (grammar.type_spec item) (maybe (grammar.behind (grammar.sign marks.Comma) grammar.expression) bound) (type_spec item)
    (maybe_closed (grammar.behind (grammar.sign marks.Comma) grammar.expression) (behind_closed (grammar.sign marks.Comma) grammar.expression comma expression) bound))

state_type : (t : StateType) → Closed (grammar.state_type t)
state_type (PlainState plain) = plain_type plain
state_type (Reference n) = angled keywords.Ref (grammar.name n) (name n)

dimension : (size : Expression) → Closed (grammar.dimension size)
dimension size =
    both_closed (grammar.sign marks.LeftBracket) (grammar.expression size ++ grammar.sign marks.RightBracket) (record { stands = refl; leaves = refl })
    (both_closed (grammar.expression size) (grammar.sign marks.RightBracket) (expression size) (record { stands = refl; leaves = refl }))

declarator : (d : Declarator) → Closed (grammar.declarator d)
declarator d = both_closed (grammar.identifier d.name) (joined grammar.dimension d.dimensions) (one_identifier d.name) (joined_closed grammar.dimension dimension d.dimensions)

declarators : (d : Declarators) → Closed (grammar.declarators d)
declarators d = both_closed (grammar.declarator d.first) (grammar.after_commas grammar.declarator d.others) (declarator d.first) (after_commas grammar.declarator declarator d.others)

field : (f : Field) → Closed (grammar.field f)
field f =
    both_closed (grammar.type_spec f.spec) (grammar.declarators f.declarators ++ grammar.sign marks.Semicolon) (type_spec f.spec)
    (both_closed (grammar.declarators f.declarators) (grammar.sign marks.Semicolon) (declarators f.declarators) semicolon)

readonly : (r : Bool) → Closed (grammar.readonly r)
readonly true = one_word keywords.ReadOnly
readonly false = nothing

state : (s : State) → Closed (grammar.state s)
state s =
    both_closed (grammar.readonly s.is_readonly) (grammar.word keywords.State ++ (grammar.state_type s.state_type ++ (grammar.identifiers s.names ++ grammar.sign marks.Semicolon))) (readonly s.is_readonly)
    (both_closed (grammar.word keywords.State) (grammar.state_type s.state_type ++ (grammar.identifiers s.names ++ grammar.sign marks.Semicolon)) (one_word keywords.State)
    (both_closed (grammar.state_type s.state_type) (grammar.identifiers s.names ++ grammar.sign marks.Semicolon) (state_type s.state_type)
    (both_closed (grammar.identifiers s.names) (grammar.sign marks.Semicolon) (identifiers s.names) semicolon)))

parameter : (p : Parameter) → Closed (grammar.parameter p)
parameter p =
    both_closed (grammar.word (grammar.direction_keyword p.direction)) (grammar.state_type p.parameter_type ++ grammar.identifier p.name) (one_word (grammar.direction_keyword p.direction))
    (both_closed (grammar.state_type p.parameter_type) (grammar.identifier p.name) (state_type p.parameter_type) (one_identifier p.name))

parameters : (p : Parameters) → Closed (grammar.parameters p)
parameters p = both_closed (grammar.parameter p.first) (grammar.after_commas grammar.parameter p.others) (parameter p.first) (after_commas grammar.parameter parameter p.others)

operation_result : (r : OperationResult) → Closed (grammar.operation_result r)
operation_result Void = one_word keywords.Void
operation_result (StateResult type) = state_type type

-- a list between `(` and `)`
listed : (place : Place) (inner : List Seen) → Closed inner → Closed (grammar.placed marks.LeftParen place ++ (inner ++ grammar.sign marks.RightParen))
listed place inner h =
    both_closed (grammar.placed marks.LeftParen place) (inner ++ grammar.sign marks.RightParen) (open_at place)
    (both_closed inner (grammar.sign marks.RightParen) h close)

-- an identifier with such a list, up to its `;`
with_list : (i : Identifier) (place : Place) (inner : List Seen) → Closed inner → Closed (grammar.identifier i ++ ((grammar.placed marks.LeftParen place ++ (inner ++ grammar.sign marks.RightParen)) ++ grammar.sign marks.Semicolon))
with_list i place inner h =
    both_closed (grammar.identifier i) ((grammar.placed marks.LeftParen place ++ (inner ++ grammar.sign marks.RightParen)) ++ grammar.sign marks.Semicolon) (one_identifier i)
    (both_closed (grammar.placed marks.LeftParen place ++ (inner ++ grammar.sign marks.RightParen)) (grammar.sign marks.Semicolon) (listed place inner h) semicolon)

operation : (o : Operation) → Closed (grammar.operation o)
operation o =
    both_closed (grammar.operation_result o.returned) (grammar.identifier o.name ++ ((grammar.placed marks.LeftParen o.place ++ (maybe grammar.parameters o.parameters ++ grammar.sign marks.RightParen)) ++ grammar.sign marks.Semicolon)) (operation_result o.returned)
    (with_list o.name o.place (maybe grammar.parameters o.parameters) (maybe_closed grammar.parameters parameters o.parameters))

key_members : (m : KeyMembers) → Closed (grammar.key_members m)
key_members m = listed m.place (grammar.identifiers m.names) (identifiers m.names)

key : (k : Key) → Closed (grammar.key k)
key k =
    both_closed (grammar.word keywords.Key) (grammar.identifier k.name ++ (maybe grammar.key_members k.members ++ grammar.sign marks.Semicolon)) (one_word keywords.Key)
    (both_closed (grammar.identifier k.name) (maybe grammar.key_members k.members ++ grammar.sign marks.Semicolon) (one_identifier k.name)
    (both_closed (maybe grammar.key_members k.members) (grammar.sign marks.Semicolon) (maybe_closed grammar.key_members key_members k.members) semicolon))

factory : (f : Factory) → Closed (grammar.factory f)
factory f =
    both_closed (grammar.word keywords.Factory) (grammar.identifier f.name ++ ((grammar.placed marks.LeftParen f.place ++ (maybe grammar.identifiers f.members ++ grammar.sign marks.RightParen)) ++ grammar.sign marks.Semicolon)) (one_word keywords.Factory)
    (with_list f.name f.place (maybe grammar.identifiers f.members) (maybe_closed grammar.identifiers identifiers f.members))

braced : (inner : List Seen) → Closed inner → Closed (grammar.braced inner)
braced inner h =
    both_closed (grammar.sign marks.LeftBrace) (inner ++ grammar.sign marks.RightBrace) (record { stands = refl; leaves = refl })
    (both_closed inner (grammar.sign marks.RightBrace) h (record { stands = refl; leaves = refl }))

-- what may stand behind a `:` and behind `implements`
behind_colon : {A : Type 0} (spell : A → List Seen) → ((x : A) → Closed (spell x)) → (o : Option A) → Closed (maybe (grammar.behind (grammar.sign marks.Colon) spell) o)
behind_colon spell each o = maybe_closed (grammar.behind (grammar.sign marks.Colon) spell) (behind_closed (grammar.sign marks.Colon) spell colon each) o

implemented : (o : Option Names) → Closed (maybe (grammar.behind (grammar.word keywords.Implements) grammar.names) o)
implemented o = maybe_closed (grammar.behind (grammar.word keywords.Implements) grammar.names) (behind_closed (grammar.word keywords.Implements) grammar.names (one_word keywords.Implements) names) o

abstract_type_member : (m : AbstractTypeMember) → Closed (grammar.abstract_type_member m)
abstract_type_member (StateMember s) = state s
abstract_type_member (OperationMember o) = operation o

abstract_type_body : (b : AbstractTypeBody) → Closed (grammar.abstract_type_body b)
abstract_type_body b =
    both_closed (maybe (grammar.behind (grammar.sign marks.Colon) grammar.names) b.bases) (grammar.braced (joined grammar.abstract_type_member b.members)) (behind_colon grammar.names names b.bases)
    (braced (joined grammar.abstract_type_member b.members) (joined_closed grammar.abstract_type_member abstract_type_member b.members))

-- an identifier behind a keyword, and what follows
headed : (k : Keyword) (i : Identifier) (rest : List Seen) → Closed rest → Closed (grammar.word k ++ (grammar.identifier i ++ rest))
headed k i rest h = both_closed (grammar.word k) (grammar.identifier i ++ rest) (one_word k) (both_closed (grammar.identifier i) rest (one_identifier i) h)

abstract_type : (t : AbstractType) → Closed (grammar.abstract_type t)
abstract_type t =
    both_closed (grammar.word keywords.Abstract) (grammar.word keywords.StorageType ++ (grammar.identifier t.name ++ maybe grammar.abstract_type_body t.body)) (one_word keywords.Abstract)
    (headed keywords.StorageType t.name (maybe grammar.abstract_type_body t.body) (maybe_closed grammar.abstract_type_body abstract_type_body t.body))

storage_type_body : (b : StorageTypeBody) → Closed (grammar.storage_type_body b)
storage_type_body b =
    both_closed (maybe (grammar.behind (grammar.sign marks.Colon) grammar.name) b.base) (maybe (grammar.behind (grammar.word keywords.Implements) grammar.names) b.implements ++ grammar.braced (joined grammar.state b.states)) (behind_colon grammar.name name b.base)
    (both_closed (maybe (grammar.behind (grammar.word keywords.Implements) grammar.names) b.implements) (grammar.braced (joined grammar.state b.states)) (implemented b.implements)
    (braced (joined grammar.state b.states) (joined_closed grammar.state state b.states)))

storage_type : (t : StorageType) → Closed (grammar.storage_type t)
storage_type t = headed keywords.StorageType t.name (maybe grammar.storage_type_body t.body) (maybe_closed grammar.storage_type_body storage_type_body t.body)

abstract_home_member : (m : AbstractHomeMember) → Closed (grammar.abstract_home_member m)
abstract_home_member (KeyMember k) = key k
abstract_home_member (FactoryMember f) = factory f
abstract_home_member (HomeOperation o) = operation o

abstract_home_body : (b : AbstractHomeBody) → Closed (grammar.abstract_home_body b)
abstract_home_body b =
    both_closed (grammar.word keywords.Of) (grammar.name b.managed ++ (maybe (grammar.behind (grammar.sign marks.Colon) grammar.names) b.bases ++ grammar.braced (joined grammar.abstract_home_member b.members))) (one_word keywords.Of)
    (both_closed (grammar.name b.managed) (maybe (grammar.behind (grammar.sign marks.Colon) grammar.names) b.bases ++ grammar.braced (joined grammar.abstract_home_member b.members)) (name b.managed)
    (both_closed (maybe (grammar.behind (grammar.sign marks.Colon) grammar.names) b.bases) (grammar.braced (joined grammar.abstract_home_member b.members)) (behind_colon grammar.names names b.bases)
    (braced (joined grammar.abstract_home_member b.members) (joined_closed grammar.abstract_home_member abstract_home_member b.members))))

abstract_home : (h : AbstractHome) → Closed (grammar.abstract_home h)
abstract_home h =
    both_closed (grammar.word keywords.Abstract) (grammar.word keywords.StorageHome ++ (grammar.identifier h.name ++ maybe grammar.abstract_home_body h.body)) (one_word keywords.Abstract)
    (headed keywords.StorageHome h.name (maybe grammar.abstract_home_body h.body) (maybe_closed grammar.abstract_home_body abstract_home_body h.body))

home_member : (m : HomeMember) → Closed (grammar.home_member m)
home_member (PlainKey k) = key k
home_member (PrimaryKey k) = both_closed (grammar.word keywords.Primary) (grammar.key k) (one_word keywords.Primary) (key k)
home_member (HomeFactory f) = factory f

storage_home : (h : StorageHome) → Closed (grammar.storage_home h)
storage_home h =
    let members : List Seen = grammar.braced (joined grammar.home_member h.members) in
    let implements : List Seen = maybe (grammar.behind (grammar.word keywords.Implements) grammar.names) h.implements in
    headed keywords.StorageHome h.name (maybe (grammar.behind (grammar.sign marks.Colon) grammar.name) h.base ++ (grammar.word keywords.Of ++ (grammar.name h.managed ++ (implements ++ members))))
    (both_closed (maybe (grammar.behind (grammar.sign marks.Colon) grammar.name) h.base) (grammar.word keywords.Of ++ (grammar.name h.managed ++ (implements ++ members))) (behind_colon grammar.name name h.base)
    (both_closed (grammar.word keywords.Of) (grammar.name h.managed ++ (implements ++ members)) (one_word keywords.Of)
    (both_closed (grammar.name h.managed) (implements ++ members) (name h.managed)
    (both_closed implements members (implemented h.implements)
    (braced (joined grammar.home_member h.members) (joined_closed grammar.home_member home_member h.members))))))

provision : (p : Provision) → Closed (grammar.provision p)
provision p =
    both_closed (grammar.word keywords.Provides) (grammar.name p.home ++ (grammar.identifier p.name ++ grammar.sign marks.Semicolon)) (one_word keywords.Provides)
    (both_closed (grammar.name p.home) (grammar.identifier p.name ++ grammar.sign marks.Semicolon) (name p.home)
    (both_closed (grammar.identifier p.name) (grammar.sign marks.Semicolon) (one_identifier p.name) semicolon))

catalog : (c : Catalog) → Closed (grammar.catalog c)
catalog c = headed keywords.Catalog c.name (grammar.braced (joined grammar.provision c.provisions)) (braced (joined grammar.provision c.provisions) (joined_closed grammar.provision provision c.provisions))

constant_type : (t : ConstantType) → Closed (grammar.constant_type t)
constant_type (IntegerConstant i) = integer i
constant_type OctetConstant = one_word keywords.Octet
constant_type StringConstant = one_word keywords.String
constant_type (NameConstant n) = name n

constant : (c : Constant) → Closed (grammar.constant c)
constant c =
    both_closed (grammar.word keywords.Const) (grammar.constant_type c.constant_type ++ (grammar.identifier c.name ++ (grammar.sign marks.Equals ++ grammar.expression c.value))) (one_word keywords.Const)
    (both_closed (grammar.constant_type c.constant_type) (grammar.identifier c.name ++ (grammar.sign marks.Equals ++ grammar.expression c.value)) (constant_type c.constant_type)
    (both_closed (grammar.identifier c.name) (grammar.sign marks.Equals ++ grammar.expression c.value) (one_identifier c.name)
    (both_closed (grammar.sign marks.Equals) (grammar.expression c.value) (record { stands = refl; leaves = refl }) (expression c.value))))

type_definition : (t : TypeDefinition) → Closed (grammar.type_definition t)
type_definition t =
    both_closed (grammar.word keywords.Typedef) (grammar.type_spec t.spec ++ grammar.declarators t.declarators) (one_word keywords.Typedef)
    (both_closed (grammar.type_spec t.spec) (grammar.declarators t.declarators) (type_spec t.spec) (declarators t.declarators))

struct : (s : Struct) → Closed (grammar.struct s)
struct s =
    headed keywords.Struct s.name (grammar.braced (grammar.field s.first ++ joined grammar.field s.others))
    (braced (grammar.field s.first ++ joined grammar.field s.others) (both_closed (grammar.field s.first) (joined grammar.field s.others) (field s.first) (joined_closed grammar.field field s.others)))

enumeration : (e : Enumeration) → Closed (grammar.enumeration e)
enumeration e = headed keywords.Enum e.name (grammar.braced (grammar.identifiers e.enumerators)) (braced (grammar.identifiers e.enumerators) (identifiers e.enumerators))

ended : (tokens : List Seen) → Closed tokens → Closed (tokens ++ grammar.sign marks.Semicolon)
ended tokens h = both_closed tokens (grammar.sign marks.Semicolon) h semicolon

mutual
  definition : (d : Definition) → Closed (grammar.definition d)
  definition (ModuleDefinition n ds) = ended (grammar.word keywords.Module ++ (grammar.identifier n ++ grammar.braced (grammar.definitions ds))) (headed keywords.Module n (grammar.braced (grammar.definitions ds)) (braced (grammar.definitions ds) (definitions ds)))
  definition (ConstantDefinition c) = ended (grammar.constant c) (constant c)
  definition (TypeDefinitionDefinition t) = ended (grammar.type_definition t) (type_definition t)
  definition (StructDefinition s) = ended (grammar.struct s) (struct s)
  definition (EnumerationDefinition e) = ended (grammar.enumeration e) (enumeration e)
  definition (AbstractTypeDefinition t) = ended (grammar.abstract_type t) (abstract_type t)
  definition (StorageTypeDefinition t) = ended (grammar.storage_type t) (storage_type t)
  definition (AbstractHomeDefinition h) = ended (grammar.abstract_home h) (abstract_home h)
  definition (StorageHomeDefinition h) = ended (grammar.storage_home h) (storage_home h)
  definition (CatalogDefinition c) = ended (grammar.catalog c) (catalog c)

  -- the tokens of definitions
  pub definitions : (ds : Definitions) → Closed (grammar.definitions ds)
  definitions NoDefinition = nothing
  definitions (AndDefinition d ds) = both_closed (grammar.definition d) (grammar.definitions ds) (definition d) (definitions ds)
