-- Reading each production from the front of the tokens. The number says how many brackets may still open.
use Rattle.std.specs.Prelude.{ℕ, zero, suc, ◌-◌, List, [], ◌∷◌, Bool, true, false, length, Option, Some, None, Err, option_map, is_some, if◌then◌else◌, ◌||◌, not}
use Rattle.std.proofs.Common.{◌⊎◌, inl, inr}
use Rattle.pss_base.specs.declared.place.Place.{Place}
use Rattle.part_readers.specs.Reading.{Reader, given, one, mapped, both, either, optional, many, separated}
use Rattle.psdl_syntax.specs.declared.fault.Fault.{Fault}
use Rattle.psdl_syntax.specs.declared.fault.Fault.TheVariants.{Unexpected, TooDeep}
use Rattle.psdl_tokens.specs.declared.token.Keyword.{Keyword}
use Rattle.psdl_tokens.specs.declared.token.Keyword.TheVariants as keywords
use Rattle.psdl_tokens.specs.declared.token.Mark.{Mark}
use Rattle.psdl_tokens.specs.declared.token.Mark.TheVariants as marks
use Rattle.psdl_tree.specs.declared.names.Identifier.{Identifier}
use Rattle.psdl_tree.specs.declared.names.NamePart.{NamePart}
use Rattle.psdl_tree.specs.declared.expressions.IntegerLiteral.{IntegerLiteral}
use Rattle.psdl_tree.specs.declared.expressions.TextLiteral.{TextLiteral}
use Rattle.psdl_tree.specs.declared.expressions.ShiftOperator.{ShiftOperator}
use Rattle.psdl_tree.specs.declared.expressions.ShiftOperator.TheVariants as shifts
use Rattle.psdl_tree.specs.declared.expressions.SumOperator.{SumOperator}
use Rattle.psdl_tree.specs.declared.expressions.SumOperator.TheVariants as sums
use Rattle.psdl_tree.specs.declared.expressions.ProductOperator.{ProductOperator}
use Rattle.psdl_tree.specs.declared.expressions.ProductOperator.TheVariants as products
use Rattle.psdl_tree.specs.declared.expressions.UnaryOperator.{UnaryOperator}
use Rattle.psdl_tree.specs.declared.expressions.UnaryOperator.TheVariants as signs
use Rattle.psdl_tree.specs.declared.expressions.UnarySign.{UnarySign}
use Rattle.psdl_tree.specs.declared.types.IntegerType.{IntegerType}
use Rattle.psdl_tree.specs.declared.types.IntegerSize.{IntegerSize}
use Rattle.psdl_tree.specs.declared.types.IntegerSize.TheVariants as sizes
use Rattle.psdl_tree.specs.declared.stores.Direction.{Direction}
use Rattle.psdl_tree.specs.declared.stores.Direction.TheVariants as directions
use Rattle.psdl_syntax.specs.Codes.{same_keyword, same_mark}
use Rattle.psdl_syntax.specs.Seen.{Seen, Word, Sign, Placed, Named, Number, Quoted, Stray}
use Rattle.psdl_tree.specs.Views.{product_of, sum_of, shift_of, and_of, xor_of, expression_of, definitions_of}
use Rattle.psdl_tree.specs.Trees.{Name, Names, Identifiers, Primary, NameOperand, IntegerOperand, TextOperand, Group, Unary, Signed, Product, Sum, Shift, And, Xor, Expression, PlainType, IntegerPlain, CharPlain, BooleanPlain, OctetPlain, StringPlain, NamePlain, TypeSpec, PlainSpec, Sequence, StateType, PlainState, Reference, Declarator, Declarators, Field, State, Parameter, Parameters, OperationResult, Void, StateResult, Operation, KeyMembers, Key, Factory, AbstractTypeMember, StateMember, OperationMember, AbstractTypeBody, AbstractType, StorageTypeBody, StorageType, AbstractHomeMember, KeyMember, FactoryMember, HomeOperation, AbstractHomeBody, AbstractHome, HomeMember, PlainKey, PrimaryKey, HomeFactory, StorageHome, Provision, Catalog, ConstantType, IntegerConstant, OctetConstant, StringConstant, NameConstant, Constant, TypeDefinition, Struct, Enumeration, Definition, ModuleDefinition, ConstantDefinition, TypeDefinitionDefinition, StructDefinition, EnumerationDefinition, AbstractTypeDefinition, StorageTypeDefinition, AbstractHomeDefinition, StorageHomeDefinition, CatalogDefinition}

-- a reader of the seen tokens
abbrev pub Reads : Type 0 → Type 0
Reads A = Reader Seen Fault A

-- ---- one token

abbrev pub is_word : Keyword → Seen → Bool
is_word k (Word l) = same_keyword l k
is_word k (Sign m) = false
is_word k (Placed m p) = false
is_word k (Named i) = false
is_word k (Number n) = false
is_word k (Quoted q) = false
is_word k Stray = false

abbrev pub is_mark : Mark → Seen → Bool
is_mark m (Word l) = false
is_mark m (Sign n) = same_mark n m
is_mark m (Placed n p) = same_mark n m
is_mark m (Named i) = false
is_mark m (Number n) = false
is_mark m (Quoted q) = false
is_mark m Stray = false

-- any token but the brace that closes
abbrev pub is_inside : Seen → Bool
is_inside t = not (is_mark marks.RightBrace t)

abbrev pub is_identifier : Seen → Bool
is_identifier (Word l) = false
is_identifier (Sign n) = false
is_identifier (Placed n p) = false
is_identifier (Named i) = true
is_identifier (Number n) = false
is_identifier (Quoted q) = false
is_identifier Stray = false

-- an identifier or :: begins a name
abbrev pub is_name : Seen → Bool
is_name t = is_mark marks.Scope t || is_identifier t

abbrev pub is_number : Seen → Bool
is_number (Word l) = false
is_number (Sign n) = false
is_number (Placed n p) = false
is_number (Named i) = false
is_number (Number n) = true
is_number (Quoted q) = false
is_number Stray = false

abbrev pub is_quoted : Seen → Bool
is_quoted (Word l) = false
is_quoted (Sign n) = false
is_quoted (Placed n p) = false
is_quoted (Named i) = false
is_quoted (Number n) = false
is_quoted (Quoted q) = true
is_quoted Stray = false

abbrev pub word_part : Keyword → Seen → Option (Unit {0})
word_part k (Word l) = if same_keyword l k then Some tt else None
word_part k (Sign n) = None
word_part k (Placed n p) = None
word_part k (Named i) = None
word_part k (Number n) = None
word_part k (Quoted q) = None
word_part k Stray = None

abbrev pub sign_part : Mark → Seen → Option (Unit {0})
sign_part m (Word l) = None
sign_part m (Sign n) = if same_mark n m then Some tt else None
sign_part m (Placed n p) = None
sign_part m (Named i) = None
sign_part m (Number n) = None
sign_part m (Quoted q) = None
sign_part m Stray = None

abbrev pub place_part : Mark → Seen → Option Place
place_part m (Word l) = None
place_part m (Sign n) = None
place_part m (Placed n p) = if same_mark n m then Some p else None
place_part m (Named i) = None
place_part m (Number n) = None
place_part m (Quoted q) = None
place_part m Stray = None

abbrev pub identifier_part : Seen → Option Identifier
identifier_part (Word l) = None
identifier_part (Sign n) = None
identifier_part (Placed n p) = None
identifier_part (Named i) = Some i
identifier_part (Number n) = None
identifier_part (Quoted q) = None
identifier_part Stray = None

abbrev pub number_part : Seen → Option IntegerLiteral
number_part (Word l) = None
number_part (Sign n) = None
number_part (Placed n p) = None
number_part (Named i) = None
number_part (Number n) = Some n
number_part (Quoted q) = None
number_part Stray = None

abbrev pub quoted_part : Seen → Option TextLiteral
quoted_part (Word l) = None
quoted_part (Sign n) = None
quoted_part (Placed n p) = None
quoted_part (Named i) = None
quoted_part (Number n) = None
quoted_part (Quoted q) = Some q
quoted_part Stray = None

unfoldable pub word_at : Keyword → Reads (Unit {0})
word_at k = one Unexpected (word_part k)

unfoldable pub sign_at : Mark → Reads (Unit {0})
sign_at m = one Unexpected (sign_part m)

unfoldable pub place_at : Mark → Reads Place
place_at m = one Unexpected (place_part m)

unfoldable pub identifier_at : Reads Identifier
identifier_at = one Unexpected identifier_part

unfoldable pub number_at : Reads IntegerLiteral
number_at = one Unexpected number_part

unfoldable pub quoted_at : Reads TextLiteral
quoted_at = one Unexpected quoted_part

-- ---- brackets

-- the same token, where no bracket may open
abbrev pub closed : {A : Type 0} → (Seen → Option A) → Reads A
closed part [] = Err (Unexpected 0)
closed part (t ∷ ts) = given (part t) (Err (Unexpected (length (t ∷ ts)))) (λ x. Err (TooDeep (length (t ∷ ts))))

-- no token stands for anything
abbrev pub none_part : {A : Type 0} → Seen → Option A
none_part t = None

-- a token that opens a bracket, where so many may open
unfoldable pub opened : {A : Type 0} → (Seen → Option A) → ℕ → Reads A
opened part zero = closed part
opened part (suc d) = one Unexpected part

-- a bracket, what it encloses, and its end
abbrev pub enclosed : {A B : Type 0} → (Seen → Option A) → Mark → Reads B → ℕ → Reads (A × B)
enclosed part close inner d = mapped (λ p. (p.0, p.1.0)) (both (opened part d) (both inner (sign_at close)))

-- the same without a place
abbrev pub between : {B : Type 0} → Mark → Mark → Reads B → ℕ → Reads B
between open_mark close inner d = mapped (λ p. p.1) (enclosed (sign_part open_mark) close inner d)

abbrev pub braces : {B : Type 0} → Reads B → ℕ → Reads B
braces = between marks.LeftBrace marks.RightBrace

-- parts up to a brace that closes
abbrev pub up_to_brace : {A : Type 0} → Reads A → Reads (List A)
up_to_brace part = many is_inside part

-- ---- lists

-- a part behind a word, a sign
abbrev pub behind_word : {A : Type 0} → Keyword → Reads A → Reads A
behind_word k part = mapped (λ p. p.1) (both (word_at k) part)

abbrev pub behind_sign : {A : Type 0} → Mark → Reads A → Reads A
behind_sign m part = mapped (λ p. p.1) (both (sign_at m) part)

-- a part in front of a sign
abbrev pub before_sign : {A : Type 0} → Mark → Reads A → Reads A
before_sign m part = mapped (λ p. p.0) (both part (sign_at m))

-- one part, and others behind commas
abbrev pub listed : {A : Type 0} → Reads A → Reads (A × List A)
listed part = separated (is_mark marks.Comma) part (behind_sign marks.Comma part)

-- ---- names

unfoldable pub name_part_at : Reads NamePart
name_part_at = mapped (λ p. record { scope = p.0; name = p.1 }) (both (place_at marks.Scope) identifier_at)

unfoldable pub name_at : Reads Name
name_at = mapped (λ p. record { leading = p.0; first = p.1.0; others = p.1.1 }) (both (optional (is_mark marks.Scope) (place_at marks.Scope)) (separated (is_mark marks.Scope) identifier_at name_part_at))

unfoldable pub names_at : Reads Names
names_at = mapped (λ p. record { first = p.0; others = p.1 }) (listed name_at)

unfoldable pub identifiers_at : Reads Identifiers
identifiers_at = mapped (λ p. record { first = p.0; others = p.1 }) (listed identifier_at)

-- ---- expressions

abbrev pub shift_operator : Mark → Option ShiftOperator
shift_operator marks.ShiftLeft = Some shifts.Left
shift_operator marks.ShiftRight = Some shifts.Right
shift_operator _ = None

abbrev pub sum_operator : Mark → Option SumOperator
sum_operator marks.Plus = Some sums.Plus
sum_operator marks.Minus = Some sums.Minus
sum_operator _ = None

abbrev pub product_operator : Mark → Option ProductOperator
product_operator marks.Times = Some products.Times
product_operator marks.Divide = Some products.Divide
product_operator marks.Remainder = Some products.Remainder
product_operator _ = None

abbrev pub unary_operator : Mark → Option UnaryOperator
unary_operator marks.Minus = Some signs.Minus
unary_operator marks.Plus = Some signs.Plus
unary_operator marks.Not = Some signs.Not
unary_operator _ = None

-- the operator that a sign stands for, with its place
abbrev pub operator_part : {O : Type 0} → (Mark → Option O) → Seen → Option (Place × O)
operator_part of_mark (Word l) = None
operator_part of_mark (Sign n) = None
operator_part of_mark (Placed n p) = option_map (λ o. (p, o)) (of_mark n)
operator_part of_mark (Named i) = None
operator_part of_mark (Number n) = None
operator_part of_mark (Quoted q) = None
operator_part of_mark Stray = None

abbrev pub is_operator : {O : Type 0} → (Mark → Option O) → Seen → Bool
is_operator of_mark (Word l) = false
is_operator of_mark (Sign n) = false
is_operator of_mark (Placed n p) = is_some (of_mark n)
is_operator of_mark (Named i) = false
is_operator of_mark (Number n) = false
is_operator of_mark (Quoted q) = false
is_operator of_mark Stray = false

unfoldable pub operator_at : {O : Type 0} → (Mark → Option O) → Reads (Place × O)
operator_at of_mark = one Unexpected (operator_part of_mark)

unfoldable pub unary_sign_at : Reads UnarySign
unary_sign_at = mapped (λ p. record { place = p.0; operator = p.1 }) (operator_at unary_operator)

-- an operand behind its operator
unfoldable pub operand_at : {A : Type 0} → Mark → Reads A → Reads (Place × A)
operand_at m operand = both (place_at m) operand

unfoldable pub operator_operand_at : {O A : Type 0} → (Mark → Option O) → Reads A → Reads (Place × O × A)
operator_operand_at of_mark operand = mapped (λ p. (p.0.0, p.0.1, p.1)) (both (operator_at of_mark) operand)

abbrev pub primary_of : Name ⊎ (IntegerLiteral ⊎ (TextLiteral ⊎ (Place × Expression))) → Primary
primary_of (inl n) = NameOperand n
primary_of (inr (inl n)) = IntegerOperand n
primary_of (inr (inr (inl t))) = TextOperand t
primary_of (inr (inr (inr g))) = Group g.0 g.1

unfoldable pub group_with : Reads Expression → ℕ → Reads (Place × Expression)
group_with inner = enclosed (place_part marks.LeftParen) marks.RightParen inner

unfoldable pub primary_with : Reads Expression → ℕ → Reads Primary
primary_with inner d = mapped primary_of (either is_name name_at (either is_number number_at (either is_quoted quoted_at (group_with inner d))))

unfoldable pub unary_with : Reads Expression → ℕ → Reads Unary
unary_with inner d = mapped (λ p. Signed p.0 p.1) (both (optional (is_operator unary_operator) unary_sign_at) (primary_with inner d))

unfoldable pub product_with : Reads Expression → ℕ → Reads Product
product_with inner d = mapped (λ p. product_of p.0 p.1) (separated (is_operator product_operator) (unary_with inner d) (operator_operand_at product_operator (unary_with inner d)))

unfoldable pub sum_with : Reads Expression → ℕ → Reads Sum
sum_with inner d = mapped (λ p. sum_of p.0 p.1) (separated (is_operator sum_operator) (product_with inner d) (operator_operand_at sum_operator (product_with inner d)))

unfoldable pub shift_with : Reads Expression → ℕ → Reads Shift
shift_with inner d = mapped (λ p. shift_of p.0 p.1) (separated (is_operator shift_operator) (sum_with inner d) (operator_operand_at shift_operator (sum_with inner d)))

unfoldable pub and_with : Reads Expression → ℕ → Reads And
and_with inner d = mapped (λ p. and_of p.0 p.1) (separated (is_mark marks.And) (shift_with inner d) (operand_at marks.And (shift_with inner d)))

unfoldable pub xor_with : Reads Expression → ℕ → Reads Xor
xor_with inner d = mapped (λ p. xor_of p.0 p.1) (separated (is_mark marks.Xor) (and_with inner d) (operand_at marks.Xor (and_with inner d)))

unfoldable pub expression_with : Reads Expression → ℕ → Reads Expression
expression_with inner d = mapped (λ p. expression_of p.0 p.1) (separated (is_mark marks.Or) (xor_with inner d) (operand_at marks.Or (xor_with inner d)))

-- the expression in a bracket that opens where so many may
unfoldable pub expression_inside : ℕ → Reads Expression
expression_inside zero = closed none_part
expression_inside (suc d) = expression_with (expression_inside d) d

unfoldable pub expression_at : ℕ → Reads Expression
expression_at d = expression_with (expression_inside d) d

-- ---- types

abbrev pub size_of : Unit {0} ⊎ (Unit {0} × Option (Unit {0})) → IntegerSize
size_of (inl x) = sizes.Short
size_of (inr (x, None)) = sizes.Long
size_of (inr (x, Some y)) = sizes.LongLong

unfoldable pub integer_size_at : Reads IntegerSize
integer_size_at = mapped size_of (either (is_word keywords.Short) (word_at keywords.Short) (both (word_at keywords.Long) (optional (is_word keywords.Long) (word_at keywords.Long))))

unfoldable pub integer_at : Reads IntegerType
integer_at = mapped (λ p. record { unsigned = is_some p.0; size = p.1 }) (both (optional (is_word keywords.Unsigned) (word_at keywords.Unsigned)) integer_size_at)

abbrev pub is_integer : Seen → Bool
is_integer t = is_word keywords.Unsigned t || (is_word keywords.Short t || is_word keywords.Long t)

abbrev pub plain_of : IntegerType ⊎ (Unit {0} ⊎ (Unit {0} ⊎ (Unit {0} ⊎ (Option Expression ⊎ Name)))) → PlainType
plain_of (inl i) = IntegerPlain i
plain_of (inr (inl x)) = CharPlain
plain_of (inr (inr (inl x))) = BooleanPlain
plain_of (inr (inr (inr (inl x)))) = OctetPlain
plain_of (inr (inr (inr (inr (inl bound))))) = StringPlain bound
plain_of (inr (inr (inr (inr (inr n))))) = NamePlain n

unfoldable pub bound_at : ℕ → Reads Expression
bound_at d = between marks.Less marks.Greater (expression_at (d - 1)) d

unfoldable pub string_at : ℕ → Reads (Option Expression)
string_at d = behind_word keywords.String (optional (is_mark marks.Less) (bound_at d))

unfoldable pub plain_type_at : ℕ → Reads PlainType
plain_type_at d = mapped plain_of (either is_integer integer_at (either (is_word keywords.Char) (word_at keywords.Char) (either (is_word keywords.Boolean) (word_at keywords.Boolean) (either (is_word keywords.Octet) (word_at keywords.Octet) (either (is_word keywords.String) (string_at d) name_at)))))

abbrev pub spec_of : TypeSpec × Option Expression ⊎ PlainType → TypeSpec
spec_of (inl p) = Sequence p.0 p.1
spec_of (inr plain) = PlainSpec plain

-- the bound of a sequence, behind a comma
unfoldable pub comma_bound_at : ℕ → Reads (Option Expression)
comma_bound_at d = optional (is_mark marks.Comma) (behind_sign marks.Comma (expression_at d))

unfoldable pub sequence_with : Reads (TypeSpec × Option Expression) → ℕ → Reads (TypeSpec × Option Expression)
sequence_with inner d = behind_word keywords.Sequence (between marks.Less marks.Greater inner d)

unfoldable pub type_spec_with : Reads (TypeSpec × Option Expression) → ℕ → Reads TypeSpec
type_spec_with inner d = mapped spec_of (either (is_word keywords.Sequence) (sequence_with inner d) (plain_type_at d))

-- what stands in the bracket of a sequence that opens where so many may
unfoldable pub sequence_inside : ℕ → Reads (TypeSpec × Option Expression)
sequence_inside zero = closed none_part
sequence_inside (suc d) = both (type_spec_with (sequence_inside d) d) (comma_bound_at d)

unfoldable pub type_spec_at : ℕ → Reads TypeSpec
type_spec_at d = type_spec_with (sequence_inside d) d

-- what stands in a bracket behind which so many may open
unfoldable pub sequence_inner_at : ℕ → Reads (TypeSpec × Option Expression)
sequence_inner_at d = both (type_spec_at d) (comma_bound_at d)

abbrev pub state_type_of : Name ⊎ PlainType → StateType
state_type_of (inl n) = Reference n
state_type_of (inr plain) = PlainState plain

unfoldable pub reference_at : ℕ → Reads Name
reference_at d = behind_word keywords.Ref (between marks.Less marks.Greater name_at d)

unfoldable pub state_type_at : ℕ → Reads StateType
state_type_at d = mapped state_type_of (either (is_word keywords.Ref) (reference_at d) (plain_type_at d))

unfoldable pub dimension_at : ℕ → Reads Expression
dimension_at d = between marks.LeftBracket marks.RightBracket (expression_at (d - 1)) d

unfoldable pub declarator_at : ℕ → Reads Declarator
declarator_at d = mapped (λ p. record { name = p.0; dimensions = p.1 }) (separated (is_mark marks.LeftBracket) identifier_at (dimension_at d))

unfoldable pub declarators_at : ℕ → Reads Declarators
declarators_at d = mapped (λ p. record { first = p.0; others = p.1 }) (listed (declarator_at d))

unfoldable pub field_at : ℕ → Reads Field
field_at d = mapped (λ p. record { spec = p.0; declarators = p.1.0 }) (both (type_spec_at d) (both (declarators_at d) (sign_at marks.Semicolon)))

-- ---- members

unfoldable pub readonly_at : Reads Bool
readonly_at = mapped is_some (optional (is_word keywords.ReadOnly) (word_at keywords.ReadOnly))

unfoldable pub state_at : ℕ → Reads State
state_at d = mapped (λ p. record { is_readonly = p.0; state_type = p.1.1.0; names = p.1.1.1.0 }) (both readonly_at (both (word_at keywords.State) (both (state_type_at d) (both identifiers_at (sign_at marks.Semicolon)))))

abbrev pub is_state : Seen → Bool
is_state t = is_word keywords.ReadOnly t || is_word keywords.State t

abbrev pub direction_of : Unit {0} ⊎ (Unit {0} ⊎ Unit {0}) → Direction
direction_of (inl x) = directions.In
direction_of (inr (inl x)) = directions.Out
direction_of (inr (inr x)) = directions.InOut

unfoldable pub direction_at : Reads Direction
direction_at = mapped direction_of (either (is_word keywords.In) (word_at keywords.In) (either (is_word keywords.Out) (word_at keywords.Out) (word_at keywords.InOut)))

abbrev pub is_direction : Seen → Bool
is_direction t = is_word keywords.In t || (is_word keywords.Out t || is_word keywords.InOut t)

unfoldable pub parameter_at : ℕ → Reads Parameter
parameter_at d = mapped (λ p. record { direction = p.0; parameter_type = p.1.0; name = p.1.1 }) (both direction_at (both (state_type_at d) identifier_at))

unfoldable pub parameters_at : ℕ → Reads Parameters
parameters_at d = mapped (λ p. record { first = p.0; others = p.1 }) (listed (parameter_at d))

abbrev pub result_of : Unit {0} ⊎ StateType → OperationResult
result_of (inl x) = Void
result_of (inr type) = StateResult type

unfoldable pub operation_result_at : ℕ → Reads OperationResult
operation_result_at d = mapped result_of (either (is_word keywords.Void) (word_at keywords.Void) (state_type_at d))

unfoldable pub operation_parameters_at : ℕ → Reads (Place × Option Parameters)
operation_parameters_at d = enclosed (place_part marks.LeftParen) marks.RightParen (optional is_direction (parameters_at (d - 1))) d

unfoldable pub operation_at : ℕ → Reads Operation
operation_at d = mapped (λ p. record { returned = p.0; name = p.1.0; place = p.1.1.0.0; parameters = p.1.1.0.1 }) (both (operation_result_at d) (both identifier_at (both (operation_parameters_at d) (sign_at marks.Semicolon))))

unfoldable pub key_members_at : ℕ → Reads KeyMembers
key_members_at d = mapped (λ p. record { place = p.0; names = p.1 }) (enclosed (place_part marks.LeftParen) marks.RightParen identifiers_at d)

unfoldable pub key_at : ℕ → Reads Key
key_at d = mapped (λ p. record { name = p.1.0; members = p.1.1.0 }) (both (word_at keywords.Key) (both identifier_at (both (optional (is_mark marks.LeftParen) (key_members_at d)) (sign_at marks.Semicolon))))

unfoldable pub factory_members_at : ℕ → Reads (Place × Option Identifiers)
factory_members_at d = enclosed (place_part marks.LeftParen) marks.RightParen (optional is_identifier identifiers_at) d

unfoldable pub factory_at : ℕ → Reads Factory
factory_at d = mapped (λ p. record { name = p.1.0; place = p.1.1.0.0; members = p.1.1.0.1 }) (both (word_at keywords.Factory) (both identifier_at (both (factory_members_at d) (sign_at marks.Semicolon))))

-- ---- storage types and homes

unfoldable pub bases_at : Reads (Option Names)
bases_at = optional (is_mark marks.Colon) (behind_sign marks.Colon names_at)

unfoldable pub base_at : Reads (Option Name)
base_at = optional (is_mark marks.Colon) (behind_sign marks.Colon name_at)

unfoldable pub implements_at : Reads (Option Names)
implements_at = optional (is_word keywords.Implements) (behind_word keywords.Implements names_at)

abbrev pub type_member_of : State ⊎ Operation → AbstractTypeMember
type_member_of (inl s) = StateMember s
type_member_of (inr op) = OperationMember op

unfoldable pub abstract_type_member_at : ℕ → Reads AbstractTypeMember
abstract_type_member_at d = mapped type_member_of (either is_state (state_at d) (operation_at d))

unfoldable pub abstract_type_members_at : ℕ → Reads (List AbstractTypeMember)
abstract_type_members_at d = up_to_brace (abstract_type_member_at d)

unfoldable pub abstract_type_body_at : ℕ → Reads AbstractTypeBody
abstract_type_body_at d = mapped (λ p. record { bases = p.0; members = p.1 }) (both bases_at (braces (abstract_type_members_at (d - 1)) d))

abbrev pub is_abstract_type_body : Seen → Bool
is_abstract_type_body t = is_mark marks.Colon t || is_mark marks.LeftBrace t

unfoldable pub abstract_type_at : ℕ → Reads AbstractType
abstract_type_at d = mapped (λ p. record { name = p.1.0; body = p.1.1 }) (both (word_at keywords.StorageType) (both identifier_at (optional is_abstract_type_body (abstract_type_body_at d))))

unfoldable pub states_at : ℕ → Reads (List State)
states_at d = up_to_brace (state_at d)

unfoldable pub storage_type_body_at : ℕ → Reads StorageTypeBody
storage_type_body_at d = mapped (λ p. record { base = p.0; implements = p.1.0; states = p.1.1 }) (both base_at (both implements_at (braces (states_at (d - 1)) d)))

abbrev pub is_storage_type_body : Seen → Bool
is_storage_type_body t = is_mark marks.Colon t || (is_word keywords.Implements t || is_mark marks.LeftBrace t)

unfoldable pub storage_type_at : ℕ → Reads StorageType
storage_type_at d = mapped (λ p. record { name = p.1.0; body = p.1.1 }) (both (word_at keywords.StorageType) (both identifier_at (optional is_storage_type_body (storage_type_body_at d))))

abbrev pub abstract_member_of : Key ⊎ (Factory ⊎ Operation) → AbstractHomeMember
abstract_member_of (inl k) = KeyMember k
abstract_member_of (inr (inl f)) = FactoryMember f
abstract_member_of (inr (inr op)) = HomeOperation op

unfoldable pub abstract_home_member_at : ℕ → Reads AbstractHomeMember
abstract_home_member_at d = mapped abstract_member_of (either (is_word keywords.Key) (key_at d) (either (is_word keywords.Factory) (factory_at d) (operation_at d)))

unfoldable pub abstract_home_members_at : ℕ → Reads (List AbstractHomeMember)
abstract_home_members_at d = up_to_brace (abstract_home_member_at d)

unfoldable pub abstract_home_body_at : ℕ → Reads AbstractHomeBody
abstract_home_body_at d = mapped (λ p. record { managed = p.1.0; bases = p.1.1.0; members = p.1.1.1 }) (both (word_at keywords.Of) (both name_at (both bases_at (braces (abstract_home_members_at (d - 1)) d))))

unfoldable pub abstract_home_at : ℕ → Reads AbstractHome
abstract_home_at d = mapped (λ p. record { name = p.1.0; body = p.1.1 }) (both (word_at keywords.StorageHome) (both identifier_at (optional (is_word keywords.Of) (abstract_home_body_at d))))

abbrev pub home_member_of : Key ⊎ (Key ⊎ Factory) → HomeMember
home_member_of (inl k) = PlainKey k
home_member_of (inr (inl k)) = PrimaryKey k
home_member_of (inr (inr f)) = HomeFactory f

unfoldable pub primary_key_at : ℕ → Reads Key
primary_key_at d = behind_word keywords.Primary (key_at d)

unfoldable pub home_member_at : ℕ → Reads HomeMember
home_member_at d = mapped home_member_of (either (is_word keywords.Key) (key_at d) (either (is_word keywords.Primary) (primary_key_at d) (factory_at d)))

unfoldable pub home_members_at : ℕ → Reads (List HomeMember)
home_members_at d = up_to_brace (home_member_at d)

unfoldable pub storage_home_at : ℕ → Reads StorageHome
storage_home_at d = mapped (λ p. record { name = p.1.0; base = p.1.1.0; managed = p.1.1.1.1.0; implements = p.1.1.1.1.1.0; members = p.1.1.1.1.1.1 }) (both (word_at keywords.StorageHome) (both identifier_at (both base_at (both (word_at keywords.Of) (both name_at (both implements_at (braces (home_members_at (d - 1)) d)))))))

unfoldable pub provision_at : Reads Provision
provision_at = mapped (λ p. record { home = p.1.0; name = p.1.1.0 }) (both (word_at keywords.Provides) (both name_at (both identifier_at (sign_at marks.Semicolon))))

unfoldable pub provisions_at : Reads (List Provision)
provisions_at = up_to_brace provision_at

unfoldable pub catalog_at : ℕ → Reads Catalog
catalog_at d = mapped (λ p. record { name = p.1.0; provisions = p.1.1 }) (both (word_at keywords.Catalog) (both identifier_at (braces provisions_at d)))

-- ---- definitions

abbrev pub constant_type_of : IntegerType ⊎ (Unit {0} ⊎ (Unit {0} ⊎ Name)) → ConstantType
constant_type_of (inl i) = IntegerConstant i
constant_type_of (inr (inl x)) = OctetConstant
constant_type_of (inr (inr (inl x))) = StringConstant
constant_type_of (inr (inr (inr n))) = NameConstant n

unfoldable pub constant_type_at : Reads ConstantType
constant_type_at = mapped constant_type_of (either is_integer integer_at (either (is_word keywords.Octet) (word_at keywords.Octet) (either (is_word keywords.String) (word_at keywords.String) name_at)))

unfoldable pub constant_at : ℕ → Reads Constant
constant_at d = mapped (λ p. record { constant_type = p.1.0; name = p.1.1.0; value = p.1.1.1.1 }) (both (word_at keywords.Const) (both constant_type_at (both identifier_at (both (sign_at marks.Equals) (expression_at d)))))

unfoldable pub type_definition_at : ℕ → Reads TypeDefinition
type_definition_at d = mapped (λ p. record { spec = p.1.0; declarators = p.1.1 }) (both (word_at keywords.Typedef) (both (type_spec_at d) (declarators_at d)))

unfoldable pub fields_at : ℕ → Reads (Field × List Field)
fields_at d = both (field_at d) (up_to_brace (field_at d))

unfoldable pub struct_at : ℕ → Reads Struct
struct_at d = mapped (λ p. record { name = p.1.0; first = p.1.1.0; others = p.1.1.1 }) (both (word_at keywords.Struct) (both identifier_at (braces (fields_at (d - 1)) d)))

unfoldable pub enumeration_at : ℕ → Reads Enumeration
enumeration_at d = mapped (λ p. record { name = p.1.0; enumerators = p.1.1 }) (both (word_at keywords.Enum) (both identifier_at (braces identifiers_at d)))

unfoldable pub module_with : Reads (List Definition) → ℕ → Reads (Identifier × List Definition)
module_with inner d = behind_word keywords.Module (both identifier_at (braces inner d))

abbrev pub abstract_of : AbstractType ⊎ AbstractHome → Definition
abstract_of (inl t) = AbstractTypeDefinition t
abstract_of (inr h) = AbstractHomeDefinition h

unfoldable pub abstract_at : ℕ → Reads (AbstractType ⊎ AbstractHome)
abstract_at d = behind_word keywords.Abstract (either (is_word keywords.StorageType) (abstract_type_at d) (abstract_home_at d))

abbrev pub definition_of : (Identifier × List Definition) ⊎ (Constant ⊎ (TypeDefinition ⊎ (Struct ⊎ (Enumeration ⊎ ((AbstractType ⊎ AbstractHome) ⊎ (StorageType ⊎ (StorageHome ⊎ Catalog))))))) → Definition
definition_of (inl m) = ModuleDefinition m.0 (definitions_of m.1)
definition_of (inr (inl x)) = ConstantDefinition x
definition_of (inr (inr (inl x))) = TypeDefinitionDefinition x
definition_of (inr (inr (inr (inl x)))) = StructDefinition x
definition_of (inr (inr (inr (inr (inl x))))) = EnumerationDefinition x
definition_of (inr (inr (inr (inr (inr (inl x)))))) = abstract_of x
definition_of (inr (inr (inr (inr (inr (inr (inl x))))))) = StorageTypeDefinition x
definition_of (inr (inr (inr (inr (inr (inr (inr (inl x)))))))) = StorageHomeDefinition x
definition_of (inr (inr (inr (inr (inr (inr (inr (inr x)))))))) = CatalogDefinition x

-- a definition without the ; behind it
unfoldable pub body_with : Reads (List Definition) → ℕ → Reads Definition
body_with inner d = mapped definition_of (either (is_word keywords.Module) (module_with inner d) (either (is_word keywords.Const) (constant_at d) (either (is_word keywords.Typedef) (type_definition_at d) (either (is_word keywords.Struct) (struct_at d) (either (is_word keywords.Enum) (enumeration_at d) (either (is_word keywords.Abstract) (abstract_at d) (either (is_word keywords.StorageType) (storage_type_at d) (either (is_word keywords.StorageHome) (storage_home_at d) (catalog_at d)))))))))

unfoldable pub definition_with : Reads (List Definition) → ℕ → Reads Definition
definition_with inner d = before_sign marks.Semicolon (body_with inner d)

-- the definitions in a brace that opens where so many may
unfoldable pub definitions_inside : ℕ → Reads (List Definition)
definitions_inside zero = closed none_part
definitions_inside (suc d) = up_to_brace (definition_with (definitions_inside d) d)

unfoldable pub definition_at : ℕ → Reads Definition
definition_at d = definition_with (definitions_inside d) d

-- any token
abbrev pub is_any : Seen → Bool
is_any t = true

-- all definitions of a text
unfoldable pub text_at : ℕ → Reads (List Definition)
text_at d = many is_any (definition_at d)
