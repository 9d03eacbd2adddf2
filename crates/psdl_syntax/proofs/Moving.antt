-- The tokens of a tree whose places are others.
use Rattle.std.proofs.Common.{◌≡◌, List, [], ◌∷◌, ◌++◌, map, Bool, true, false, Option, Some, None, refl, sym, ap, ◌∙◌}
use Rattle.std.specs.Prelude.{option_map}
use Rattle.std.proofs.lemmas.List.{map-append}
use Rattle.pss_base.specs.declared.place.Place.{Place}
use Rattle.part_readers.specs.Sentences.{joined, maybe}
use Rattle.psdl_tokens.specs.declared.token.Mark.{Mark}
use Rattle.psdl_tokens.specs.declared.token.Mark.TheVariants as marks
use Rattle.psdl_tokens.specs.declared.token.Keyword.{Keyword}
use Rattle.psdl_tokens.specs.declared.token.Keyword.TheVariants as keywords
use Rattle.psdl_tree.specs.declared.names.Identifier.{Identifier}
use Rattle.psdl_tree.specs.declared.names.NamePart.{NamePart}
use Rattle.psdl_tree.specs.declared.expressions.UnarySign.{UnarySign}
use Rattle.psdl_tree.specs.declared.types.IntegerType.{IntegerType}
use Rattle.psdl_tree.specs.declared.types.IntegerSize.{IntegerSize}
use Rattle.psdl_tree.specs.declared.types.IntegerSize.TheVariants as sizes
use Rattle.psdl_syntax.specs.Seen.{Seen, Word, Sign, Placed, Named, Number, Quoted, Stray}
use Rattle.psdl_tree.specs.Trees.{Name, Names, Identifiers, Primary, NameOperand, IntegerOperand, TextOperand, Group, Unary, Signed, Product, OneUnary, Multiplied, Sum, OneProduct, Added, Shift, OneSum, Shifted, And, OneShift, Anded, Xor, OneAnd, Xored, Expression, OneXor, Ored, PlainType, IntegerPlain, CharPlain, BooleanPlain, OctetPlain, StringPlain, NamePlain, TypeSpec, PlainSpec, Sequence, StateType, PlainState, Reference, Declarator, Declarators, Field, State, Parameter, Parameters, OperationResult, Void, StateResult, Operation, KeyMembers, Key, Factory, AbstractTypeMember, StateMember, OperationMember, AbstractTypeBody, AbstractType, StorageTypeBody, StorageType, AbstractHomeMember, KeyMember, FactoryMember, HomeOperation, AbstractHomeBody, AbstractHome, HomeMember, PlainKey, PrimaryKey, HomeFactory, StorageHome, Provision, Catalog, ConstantType, IntegerConstant, OctetConstant, StringConstant, NameConstant, Constant, TypeDefinition, Struct, Enumeration, Definition, ModuleDefinition, ConstantDefinition, TypeDefinitionDefinition, StructDefinition, EnumerationDefinition, AbstractTypeDefinition, StorageTypeDefinition, AbstractHomeDefinition, StorageHomeDefinition, CatalogDefinition, Definitions, NoDefinition, AndDefinition}
use Rattle.psdl_syntax.specs.Grammar as grammar
use Rattle.psdl_syntax.specs.Moved

-- a token with what `move` makes of its place
abbrev pub moved_seen : (Place → Place) → Seen → Seen
moved_seen move (Word keyword) = Word keyword
moved_seen move (Sign mark) = Sign mark
moved_seen move (Placed mark place) = Placed mark (move place)
moved_seen move (Named identifier) = Named (Moved.moved_identifier move identifier)
moved_seen move (Number literal) = Number (Moved.moved_integer move literal)
moved_seen move (Quoted literal) = Quoted (Moved.moved_text move literal)
moved_seen move Stray = Stray

-- One list of tokens is another with its places moved.
abbrev Moves : (Place → Place) → List Seen → List Seen → Type 0
Moves move other tokens = other ≡ map (moved_seen move) tokens

both : {x y : List Seen} (move : Place → Place) (a b : List Seen) → x ≡ map (moved_seen move) a → y ≡ map (moved_seen move) b → x ++ y ≡ map (moved_seen move) (a ++ b)
both {x} {y} move a b ha hb = ap (λ l. l ++ y) ha ∙ ap (λ l. map (moved_seen move) a ++ l) hb ∙ sym (map-append (moved_seen move) a b)

each_joined : {A : Type 0} (move : Place → Place) (spell : A → List Seen) (f : A → A) → ((x : A) → Moves move (spell (f x)) (spell x)) → (xs : List A) → Moves move (joined spell (map f xs)) (joined spell xs)
each_joined move spell f each [] = refl
each_joined move spell f each (x ∷ xs) = both move (spell x) (joined spell xs) (each x) (each_joined move spell f each xs)

each_maybe : {A : Type 0} (move : Place → Place) (spell : A → List Seen) (f : A → A) → ((x : A) → Moves move (spell (f x)) (spell x)) → (o : Option A) → Moves move (maybe spell (option_map f o)) (maybe spell o)
each_maybe move spell f each None = refl
each_maybe move spell f each (Some x) = each x

-- behind a sign or a keyword
behind_sign : {A : Type 0} (move : Place → Place) (m : Mark) (spell : A → List Seen) (f : A → A) → ((x : A) → Moves move (spell (f x)) (spell x)) → (x : A) → Moves move (grammar.behind (grammar.sign m) spell (f x)) (grammar.behind (grammar.sign m) spell x)
behind_sign move m spell f each x = ap (λ l. Sign m ∷ l) (each x)

behind_word : {A : Type 0} (move : Place → Place) (k : Keyword) (spell : A → List Seen) (f : A → A) → ((x : A) → Moves move (spell (f x)) (spell x)) → (x : A) → Moves move (grammar.behind (grammar.word k) spell (f x)) (grammar.behind (grammar.word k) spell x)
behind_word move k spell f each x = ap (λ l. Word k ∷ l) (each x)

after_commas : {A : Type 0} (move : Place → Place) (spell : A → List Seen) (f : A → A) → ((x : A) → Moves move (spell (f x)) (spell x)) → (xs : List A) → Moves move (grammar.after_commas spell (map f xs)) (grammar.after_commas spell xs)
after_commas move spell f each xs = each_joined move (grammar.behind (grammar.sign marks.Comma) spell) f (behind_sign move marks.Comma spell f each) xs

identifier : (move : Place → Place) (i : Identifier) → Moves move (grammar.identifier (Moved.moved_identifier move i)) (grammar.identifier i)
identifier move i = refl

name_part : (move : Place → Place) (p : NamePart) → Moves move (grammar.name_part (Moved.moved_part move p)) (grammar.name_part p)
name_part move p = refl

leading : (move : Place → Place) (o : Option Place) → Moves move (maybe (grammar.placed marks.Scope) (option_map move o)) (maybe (grammar.placed marks.Scope) o)
leading move None = refl
leading move (Some p) = refl

name : (move : Place → Place) (n : Name) → Moves move (grammar.name (Moved.moved_name move n)) (grammar.name n)
name move n =
    both move (maybe (grammar.placed marks.Scope) n.leading) (grammar.identifier n.first ++ joined grammar.name_part n.others) (leading move n.leading)
    (ap (λ l. Named (Moved.moved_identifier move n.first) ∷ l) (each_joined move grammar.name_part (Moved.moved_part move) (name_part move) n.others))

names : (move : Place → Place) (n : Names) → Moves move (grammar.names (Moved.moved_names move n)) (grammar.names n)
names move n = both move (grammar.name n.first) (grammar.after_commas grammar.name n.others) (name move n.first) (after_commas move grammar.name (Moved.moved_name move) (name move) n.others)

identifiers : (move : Place → Place) (i : Identifiers) → Moves move (grammar.identifiers (Moved.moved_identifiers move i)) (grammar.identifiers i)
identifiers move i = ap (λ l. Named (Moved.moved_identifier move i.first) ∷ l) (after_commas move grammar.identifier (Moved.moved_identifier move) (identifier move) i.others)

unary_sign : (move : Place → Place) (s : UnarySign) → Moves move (grammar.unary_sign (Moved.moved_sign move s)) (grammar.unary_sign s)
unary_sign move s = refl

-- an operand, its operator and the others
level : {x y : List Seen} (move : Place → Place) (m : Mark) (place : Place) (a b : List Seen) → x ≡ map (moved_seen move) a → y ≡ map (moved_seen move) b → x ++ (Placed m (move place) ∷ y) ≡ map (moved_seen move) (a ++ (Placed m place ∷ b))
level move m place a b ha hb = both move a (Placed m place ∷ b) ha (ap (λ l. Placed m (move place) ∷ l) hb)

-- tokens with a sign behind them
before_sign : {x : List Seen} (move : Place → Place) (m : Mark) (a : List Seen) → x ≡ map (moved_seen move) a → x ++ grammar.sign m ≡ map (moved_seen move) (a ++ grammar.sign m)
before_sign move m a ha = both move a (grammar.sign m) ha refl

mutual
  primary : (move : Place → Place) (x : Primary) → Moves move (grammar.primary (Moved.moved_primary move x)) (grammar.primary x)
  primary move (NameOperand n) = name move n
  primary move (IntegerOperand literal) = refl
  primary move (TextOperand literal) = refl
  primary move (Group place inner) = ap (λ l. Placed marks.LeftParen (move place) ∷ l) (before_sign move marks.RightParen (grammar.expression inner) (expression move inner))

  unary : (move : Place → Place) (x : Unary) → Moves move (grammar.unary (Moved.moved_unary move x)) (grammar.unary x)
  unary move (Signed sign operand) = both move (maybe grammar.unary_sign sign) (grammar.primary operand) (each_maybe move grammar.unary_sign (Moved.moved_sign move) (unary_sign move) sign) (primary move operand)

  product : (move : Place → Place) (x : Product) → Moves move (grammar.product (Moved.moved_product move x)) (grammar.product x)
  product move (OneUnary operand) = unary move operand
  product move (Multiplied operand place operator others) = level move (grammar.product_mark operator) place (grammar.unary operand) (grammar.product others) (unary move operand) (product move others)

  sum : (move : Place → Place) (x : Sum) → Moves move (grammar.sum (Moved.moved_sum move x)) (grammar.sum x)
  sum move (OneProduct operand) = product move operand
  sum move (Added operand place operator others) = level move (grammar.sum_mark operator) place (grammar.product operand) (grammar.sum others) (product move operand) (sum move others)

  shift : (move : Place → Place) (x : Shift) → Moves move (grammar.shift (Moved.moved_shift move x)) (grammar.shift x)
  shift move (OneSum operand) = sum move operand
  shift move (Shifted operand place operator others) = level move (grammar.shift_mark operator) place (grammar.sum operand) (grammar.shift others) (sum move operand) (shift move others)

  and : (move : Place → Place) (x : And) → Moves move (grammar.and (Moved.moved_and move x)) (grammar.and x)
  and move (OneShift operand) = shift move operand
  and move (Anded operand place others) = level move marks.And place (grammar.shift operand) (grammar.and others) (shift move operand) (and move others)

  xor : (move : Place → Place) (x : Xor) → Moves move (grammar.xor (Moved.moved_xor move x)) (grammar.xor x)
  xor move (OneAnd operand) = and move operand
  xor move (Xored operand place others) = level move marks.Xor place (grammar.and operand) (grammar.xor others) (and move operand) (xor move others)

  expression : (move : Place → Place) (x : Expression) → Moves move (grammar.expression (Moved.moved_expression move x)) (grammar.expression x)
  expression move (OneXor operand) = xor move operand
  expression move (Ored operand place others) = level move marks.Or place (grammar.xor operand) (grammar.expression others) (xor move operand) (expression move others)

-- keywords stay as they are
integer : (move : Place → Place) (i : IntegerType) → Moves move (grammar.integer i) (grammar.integer i)
integer move i = both move (grammar.unsigned i.unsigned) (grammar.integer_size i.size) (unsigned i.unsigned) (size i.size)
  where
    unsigned : (u : Bool) → Moves move (grammar.unsigned u) (grammar.unsigned u)
    unsigned true = refl
    unsigned false = refl

    size : (s : IntegerSize) → Moves move (grammar.integer_size s) (grammar.integer_size s)
    size sizes.Short = refl
    size sizes.Long = refl
    size sizes.LongLong = refl

-- what stands between `<` and `>` behind a keyword
angled : {x : List Seen} (move : Place → Place) (k : Keyword) (a : List Seen) → x ≡ map (moved_seen move) a → grammar.word k ++ (grammar.sign marks.Less ++ (x ++ grammar.sign marks.Greater)) ≡ map (moved_seen move) (grammar.word k ++ (grammar.sign marks.Less ++ (a ++ grammar.sign marks.Greater)))
angled move k a ha = ap (λ l. Word k ∷ Sign marks.Less ∷ l) (before_sign move marks.Greater a ha)

plain_type : (move : Place → Place) (p : PlainType) → Moves move (grammar.plain_type (Moved.moved_plain_type move p)) (grammar.plain_type p)
plain_type move (IntegerPlain i) = integer move i
plain_type move CharPlain = refl
plain_type move BooleanPlain = refl
plain_type move OctetPlain = refl
plain_type move (StringPlain None) = refl
plain_type move (StringPlain (Some bound)) = angled move keywords.String (grammar.expression bound) (expression move bound)
plain_type move (NamePlain n) = name move n

type_spec : (move : Place → Place) (t : TypeSpec) → Moves move (grammar.type_spec (Moved.moved_type_spec move t)) (grammar.type_spec t)
type_spec move (PlainSpec plain) = plain_type move plain
type_spec move (Sequence item bound) =
    angled move keywords.Sequence (grammar.type_spec item ++ maybe (grammar.behind (grammar.sign marks.Comma) grammar.expression) bound)
    (both move (grammar.type_spec item) (maybe (grammar.behind (grammar.sign marks.Comma) grammar.expression) bound) (type_spec move item)
    (each_maybe move (grammar.behind (grammar.sign marks.Comma) grammar.expression) (Moved.moved_expression move) (behind_sign move marks.Comma grammar.expression (Moved.moved_expression move) (expression move)) bound))

state_type : (move : Place → Place) (t : StateType) → Moves move (grammar.state_type (Moved.moved_state_type move t)) (grammar.state_type t)
state_type move (PlainState plain) = plain_type move plain
state_type move (Reference n) = angled move keywords.Ref (grammar.name n) (name move n)

dimension : (move : Place → Place) (size : Expression) → Moves move (grammar.dimension (Moved.moved_expression move size)) (grammar.dimension size)
dimension move size = ap (λ l. Sign marks.LeftBracket ∷ l) (before_sign move marks.RightBracket (grammar.expression size) (expression move size))

declarator : (move : Place → Place) (d : Declarator) → Moves move (grammar.declarator (Moved.moved_declarator move d)) (grammar.declarator d)
declarator move d = ap (λ l. Named (Moved.moved_identifier move d.name) ∷ l) (each_joined move grammar.dimension (Moved.moved_expression move) (dimension move) d.dimensions)

declarators : (move : Place → Place) (d : Declarators) → Moves move (grammar.declarators (Moved.moved_declarators move d)) (grammar.declarators d)
declarators move d = both move (grammar.declarator d.first) (grammar.after_commas grammar.declarator d.others) (declarator move d.first) (after_commas move grammar.declarator (Moved.moved_declarator move) (declarator move) d.others)

field : (move : Place → Place) (f : Field) → Moves move (grammar.field (Moved.moved_field move f)) (grammar.field f)
field move f =
    both move (grammar.type_spec f.spec) (grammar.declarators f.declarators ++ grammar.sign marks.Semicolon) (type_spec move f.spec)
    (before_sign move marks.Semicolon (grammar.declarators f.declarators) (declarators move f.declarators))

readonly : (move : Place → Place) (r : Bool) → Moves move (grammar.readonly r) (grammar.readonly r)
readonly move true = refl
readonly move false = refl

state : (move : Place → Place) (s : State) → Moves move (grammar.state (Moved.moved_state move s)) (grammar.state s)
state move s =
    both move (grammar.readonly s.is_readonly) (grammar.word keywords.State ++ (grammar.state_type s.state_type ++ (grammar.identifiers s.names ++ grammar.sign marks.Semicolon))) (readonly move s.is_readonly)
    (ap (λ l. Word keywords.State ∷ l) (both move (grammar.state_type s.state_type) (grammar.identifiers s.names ++ grammar.sign marks.Semicolon) (state_type move s.state_type)
    (before_sign move marks.Semicolon (grammar.identifiers s.names) (identifiers move s.names))))

parameter : (move : Place → Place) (p : Parameter) → Moves move (grammar.parameter (Moved.moved_parameter move p)) (grammar.parameter p)
parameter move p = ap (λ l. Word (grammar.direction_keyword p.direction) ∷ l) (both move (grammar.state_type p.parameter_type) (grammar.identifier p.name) (state_type move p.parameter_type) refl)

parameters : (move : Place → Place) (p : Parameters) → Moves move (grammar.parameters (Moved.moved_parameters move p)) (grammar.parameters p)
parameters move p = both move (grammar.parameter p.first) (grammar.after_commas grammar.parameter p.others) (parameter move p.first) (after_commas move grammar.parameter (Moved.moved_parameter move) (parameter move) p.others)

operation_result : (move : Place → Place) (r : OperationResult) → Moves move (grammar.operation_result (Moved.moved_result move r)) (grammar.operation_result r)
operation_result move Void = refl
operation_result move (StateResult type) = state_type move type

-- an identifier with a list between `(` and `)`, up to its `;`
with_list : {x : List Seen} (move : Place → Place) (i : Identifier) (place : Place) (a : List Seen) → x ≡ map (moved_seen move) a → grammar.identifier (Moved.moved_identifier move i) ++ ((grammar.placed marks.LeftParen (move place) ++ (x ++ grammar.sign marks.RightParen)) ++ grammar.sign marks.Semicolon) ≡ map (moved_seen move) (grammar.identifier i ++ ((grammar.placed marks.LeftParen place ++ (a ++ grammar.sign marks.RightParen)) ++ grammar.sign marks.Semicolon))
with_list move i place a ha =
    ap (λ l. Named (Moved.moved_identifier move i) ∷ Placed marks.LeftParen (move place) ∷ l)
    (before_sign move marks.Semicolon (a ++ grammar.sign marks.RightParen) (before_sign move marks.RightParen a ha))

operation : (move : Place → Place) (o : Operation) → Moves move (grammar.operation (Moved.moved_operation move o)) (grammar.operation o)
operation move o =
    both move (grammar.operation_result o.returned) (grammar.identifier o.name ++ ((grammar.placed marks.LeftParen o.place ++ (maybe grammar.parameters o.parameters ++ grammar.sign marks.RightParen)) ++ grammar.sign marks.Semicolon)) (operation_result move o.returned)
    (with_list move o.name o.place (maybe grammar.parameters o.parameters) (each_maybe move grammar.parameters (Moved.moved_parameters move) (parameters move) o.parameters))

key_members : (move : Place → Place) (m : KeyMembers) → Moves move (grammar.key_members (Moved.moved_key_members move m)) (grammar.key_members m)
key_members move m = ap (λ l. Placed marks.LeftParen (move m.place) ∷ l) (before_sign move marks.RightParen (grammar.identifiers m.names) (identifiers move m.names))

key : (move : Place → Place) (k : Key) → Moves move (grammar.key (Moved.moved_key move k)) (grammar.key k)
key move k = ap (λ l. Word keywords.Key ∷ Named (Moved.moved_identifier move k.name) ∷ l) (before_sign move marks.Semicolon (maybe grammar.key_members k.members) (each_maybe move grammar.key_members (Moved.moved_key_members move) (key_members move) k.members))

factory : (move : Place → Place) (f : Factory) → Moves move (grammar.factory (Moved.moved_factory move f)) (grammar.factory f)
factory move f = ap (λ l. Word keywords.Factory ∷ l) (with_list move f.name f.place (maybe grammar.identifiers f.members) (each_maybe move grammar.identifiers (Moved.moved_identifiers move) (identifiers move) f.members))

braced : {x : List Seen} (move : Place → Place) (a : List Seen) → x ≡ map (moved_seen move) a → grammar.braced x ≡ map (moved_seen move) (grammar.braced a)
braced move a ha = ap (λ l. Sign marks.LeftBrace ∷ l) (before_sign move marks.RightBrace a ha)

-- what may stand behind a `:` and behind `implements`
base : (move : Place → Place) (o : Option Name) → Moves move (maybe (grammar.behind (grammar.sign marks.Colon) grammar.name) (option_map (Moved.moved_name move) o)) (maybe (grammar.behind (grammar.sign marks.Colon) grammar.name) o)
base move o = each_maybe move (grammar.behind (grammar.sign marks.Colon) grammar.name) (Moved.moved_name move) (behind_sign move marks.Colon grammar.name (Moved.moved_name move) (name move)) o

bases : (move : Place → Place) (o : Option Names) → Moves move (maybe (grammar.behind (grammar.sign marks.Colon) grammar.names) (option_map (Moved.moved_names move) o)) (maybe (grammar.behind (grammar.sign marks.Colon) grammar.names) o)
bases move o = each_maybe move (grammar.behind (grammar.sign marks.Colon) grammar.names) (Moved.moved_names move) (behind_sign move marks.Colon grammar.names (Moved.moved_names move) (names move)) o

implemented : (move : Place → Place) (o : Option Names) → Moves move (maybe (grammar.behind (grammar.word keywords.Implements) grammar.names) (option_map (Moved.moved_names move) o)) (maybe (grammar.behind (grammar.word keywords.Implements) grammar.names) o)
implemented move o = each_maybe move (grammar.behind (grammar.word keywords.Implements) grammar.names) (Moved.moved_names move) (behind_word move keywords.Implements grammar.names (Moved.moved_names move) (names move)) o

abstract_type_member : (move : Place → Place) (m : AbstractTypeMember) → Moves move (grammar.abstract_type_member (Moved.moved_type_member move m)) (grammar.abstract_type_member m)
abstract_type_member move (StateMember s) = state move s
abstract_type_member move (OperationMember o) = operation move o

abstract_type_body : (move : Place → Place) (b : AbstractTypeBody) → Moves move (grammar.abstract_type_body (Moved.moved_abstract_type_body move b)) (grammar.abstract_type_body b)
abstract_type_body move b =
    both move (maybe (grammar.behind (grammar.sign marks.Colon) grammar.names) b.bases) (grammar.braced (joined grammar.abstract_type_member b.members)) (bases move b.bases)
    (braced move (joined grammar.abstract_type_member b.members) (each_joined move grammar.abstract_type_member (Moved.moved_type_member move) (abstract_type_member move) b.members))

-- an identifier behind a keyword, and what follows
headed : {x : List Seen} (move : Place → Place) (k : Keyword) (i : Identifier) (a : List Seen) → x ≡ map (moved_seen move) a → grammar.word k ++ (grammar.identifier (Moved.moved_identifier move i) ++ x) ≡ map (moved_seen move) (grammar.word k ++ (grammar.identifier i ++ a))
headed move k i a ha = ap (λ l. Word k ∷ Named (Moved.moved_identifier move i) ∷ l) ha

abstract_type : (move : Place → Place) (t : AbstractType) → Moves move (grammar.abstract_type (Moved.moved_abstract_type move t)) (grammar.abstract_type t)
abstract_type move t = ap (λ l. Word keywords.Abstract ∷ l) (headed move keywords.StorageType t.name (maybe grammar.abstract_type_body t.body) (each_maybe move grammar.abstract_type_body (Moved.moved_abstract_type_body move) (abstract_type_body move) t.body))

storage_type_body : (move : Place → Place) (b : StorageTypeBody) → Moves move (grammar.storage_type_body (Moved.moved_storage_type_body move b)) (grammar.storage_type_body b)
storage_type_body move b =
    both move (maybe (grammar.behind (grammar.sign marks.Colon) grammar.name) b.base) (maybe (grammar.behind (grammar.word keywords.Implements) grammar.names) b.implements ++ grammar.braced (joined grammar.state b.states)) (base move b.base)
    (both move (maybe (grammar.behind (grammar.word keywords.Implements) grammar.names) b.implements) (grammar.braced (joined grammar.state b.states)) (implemented move b.implements)
    (braced move (joined grammar.state b.states) (each_joined move grammar.state (Moved.moved_state move) (state move) b.states)))

storage_type : (move : Place → Place) (t : StorageType) → Moves move (grammar.storage_type (Moved.moved_storage_type move t)) (grammar.storage_type t)
storage_type move t = headed move keywords.StorageType t.name (maybe grammar.storage_type_body t.body) (each_maybe move grammar.storage_type_body (Moved.moved_storage_type_body move) (storage_type_body move) t.body)

abstract_home_member : (move : Place → Place) (m : AbstractHomeMember) → Moves move (grammar.abstract_home_member (Moved.moved_abstract_home_member move m)) (grammar.abstract_home_member m)
abstract_home_member move (KeyMember k) = key move k
abstract_home_member move (FactoryMember f) = factory move f
abstract_home_member move (HomeOperation o) = operation move o

abstract_home_body : (move : Place → Place) (b : AbstractHomeBody) → Moves move (grammar.abstract_home_body (Moved.moved_abstract_home_body move b)) (grammar.abstract_home_body b)
abstract_home_body move b =
    ap (λ l. Word keywords.Of ∷ l)
    (both move (grammar.name b.managed) (maybe (grammar.behind (grammar.sign marks.Colon) grammar.names) b.bases ++ grammar.braced (joined grammar.abstract_home_member b.members)) (name move b.managed)
    (both move (maybe (grammar.behind (grammar.sign marks.Colon) grammar.names) b.bases) (grammar.braced (joined grammar.abstract_home_member b.members)) (bases move b.bases)
    (braced move (joined grammar.abstract_home_member b.members) (each_joined move grammar.abstract_home_member (Moved.moved_abstract_home_member move) (abstract_home_member move) b.members))))

abstract_home : (move : Place → Place) (h : AbstractHome) → Moves move (grammar.abstract_home (Moved.moved_abstract_home move h)) (grammar.abstract_home h)
abstract_home move h = ap (λ l. Word keywords.Abstract ∷ l) (headed move keywords.StorageHome h.name (maybe grammar.abstract_home_body h.body) (each_maybe move grammar.abstract_home_body (Moved.moved_abstract_home_body move) (abstract_home_body move) h.body))

home_member : (move : Place → Place) (m : HomeMember) → Moves move (grammar.home_member (Moved.moved_home_member move m)) (grammar.home_member m)
home_member move (PlainKey k) = key move k
home_member move (PrimaryKey k) = ap (λ l. Word keywords.Primary ∷ l) (key move k)
home_member move (HomeFactory f) = factory move f

storage_home : (move : Place → Place) (h : StorageHome) → Moves move (grammar.storage_home (Moved.moved_storage_home move h)) (grammar.storage_home h)
storage_home move h =
    let members : List Seen = grammar.braced (joined grammar.home_member h.members) in
    let implements : List Seen = maybe (grammar.behind (grammar.word keywords.Implements) grammar.names) h.implements in
    headed move keywords.StorageHome h.name (maybe (grammar.behind (grammar.sign marks.Colon) grammar.name) h.base ++ (grammar.word keywords.Of ++ (grammar.name h.managed ++ (implements ++ members))))
    (both move (maybe (grammar.behind (grammar.sign marks.Colon) grammar.name) h.base) (grammar.word keywords.Of ++ (grammar.name h.managed ++ (implements ++ members))) (base move h.base)
    (ap (λ l. Word keywords.Of ∷ l)
    (both move (grammar.name h.managed) (implements ++ members) (name move h.managed)
    (both move implements members (implemented move h.implements)
    (braced move (joined grammar.home_member h.members) (each_joined move grammar.home_member (Moved.moved_home_member move) (home_member move) h.members))))))

provision : (move : Place → Place) (p : Provision) → Moves move (grammar.provision (Moved.moved_provision move p)) (grammar.provision p)
provision move p = ap (λ l. Word keywords.Provides ∷ l) (both move (grammar.name p.home) (grammar.identifier p.name ++ grammar.sign marks.Semicolon) (name move p.home) refl)

catalog : (move : Place → Place) (c : Catalog) → Moves move (grammar.catalog (Moved.moved_catalog move c)) (grammar.catalog c)
catalog move c = headed move keywords.Catalog c.name (grammar.braced (joined grammar.provision c.provisions)) (braced move (joined grammar.provision c.provisions) (each_joined move grammar.provision (Moved.moved_provision move) (provision move) c.provisions))

constant_type : (move : Place → Place) (t : ConstantType) → Moves move (grammar.constant_type (Moved.moved_constant_type move t)) (grammar.constant_type t)
constant_type move (IntegerConstant i) = integer move i
constant_type move OctetConstant = refl
constant_type move StringConstant = refl
constant_type move (NameConstant n) = name move n

constant : (move : Place → Place) (c : Constant) → Moves move (grammar.constant (Moved.moved_constant move c)) (grammar.constant c)
constant move c =
    ap (λ l. Word keywords.Const ∷ l)
    (both move (grammar.constant_type c.constant_type) (grammar.identifier c.name ++ (grammar.sign marks.Equals ++ grammar.expression c.value)) (constant_type move c.constant_type)
    (ap (λ l. Named (Moved.moved_identifier move c.name) ∷ Sign marks.Equals ∷ l) (expression move c.value)))

type_definition : (move : Place → Place) (t : TypeDefinition) → Moves move (grammar.type_definition (Moved.moved_type_definition move t)) (grammar.type_definition t)
type_definition move t = ap (λ l. Word keywords.Typedef ∷ l) (both move (grammar.type_spec t.spec) (grammar.declarators t.declarators) (type_spec move t.spec) (declarators move t.declarators))

struct : (move : Place → Place) (s : Struct) → Moves move (grammar.struct (Moved.moved_struct move s)) (grammar.struct s)
struct move s =
    headed move keywords.Struct s.name (grammar.braced (grammar.field s.first ++ joined grammar.field s.others))
    (braced move (grammar.field s.first ++ joined grammar.field s.others) (both move (grammar.field s.first) (joined grammar.field s.others) (field move s.first) (each_joined move grammar.field (Moved.moved_field move) (field move) s.others)))

enumeration : (move : Place → Place) (e : Enumeration) → Moves move (grammar.enumeration (Moved.moved_enumeration move e)) (grammar.enumeration e)
enumeration move e = headed move keywords.Enum e.name (grammar.braced (grammar.identifiers e.enumerators)) (braced move (grammar.identifiers e.enumerators) (identifiers move e.enumerators))

mutual
  definition : (move : Place → Place) (d : Definition) → Moves move (grammar.definition (Moved.moved_definition move d)) (grammar.definition d)
  definition move (ModuleDefinition n ds) = before_sign move marks.Semicolon (grammar.word keywords.Module ++ (grammar.identifier n ++ grammar.braced (grammar.definitions ds))) (headed move keywords.Module n (grammar.braced (grammar.definitions ds)) (braced move (grammar.definitions ds) (definitions move ds)))
  definition move (ConstantDefinition c) = before_sign move marks.Semicolon (grammar.constant c) (constant move c)
  definition move (TypeDefinitionDefinition t) = before_sign move marks.Semicolon (grammar.type_definition t) (type_definition move t)
  definition move (StructDefinition s) = before_sign move marks.Semicolon (grammar.struct s) (struct move s)
  definition move (EnumerationDefinition e) = before_sign move marks.Semicolon (grammar.enumeration e) (enumeration move e)
  definition move (AbstractTypeDefinition t) = before_sign move marks.Semicolon (grammar.abstract_type t) (abstract_type move t)
  definition move (StorageTypeDefinition t) = before_sign move marks.Semicolon (grammar.storage_type t) (storage_type move t)
  definition move (AbstractHomeDefinition h) = before_sign move marks.Semicolon (grammar.abstract_home h) (abstract_home move h)
  definition move (StorageHomeDefinition h) = before_sign move marks.Semicolon (grammar.storage_home h) (storage_home move h)
  definition move (CatalogDefinition c) = before_sign move marks.Semicolon (grammar.catalog c) (catalog move c)

  -- the tokens of definitions
  pub definitions : (move : Place → Place) (ds : Definitions) → Moves move (grammar.definitions (Moved.moved move ds)) (grammar.definitions ds)
  definitions move NoDefinition = refl
  definitions move (AndDefinition d ds) = both move (grammar.definition d) (grammar.definitions ds) (definition move d) (definitions move ds)
