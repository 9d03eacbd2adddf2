-- The literals of bounds and dimensions are small, where the tokens that spell the types are fit.
use Rattle.std.proofs.Common.{◌≡◌, ℕ, List, [], ◌∷◌, ◌++◌, map, Bool, true, Option, Some, None, refl}
use Rattle.std.specs.List.{list_all, flat_map}
use Rattle.std.specs.Option.{option_to_list}
use Rattle.std.proofs.lemmas.Bool.{and_parts, and_from}
use Rattle.part_readers.specs.Sentences.{joined, maybe}
use Rattle.psdl_tokens.specs.declared.token.Mark.TheVariants as marks
use Rattle.psdl_tokens.specs.declared.token.Keyword.TheVariants as keywords
use Rattle.psdl_tree.specs.Trees.{Expression, PlainType, IntegerPlain, CharPlain, BooleanPlain, OctetPlain, StringPlain, NamePlain, TypeSpec, PlainSpec, Sequence, StateType, PlainState, Reference, Declarator, Field, State, Parameter, Parameters, OperationResult, Void, StateResult, Operation, AbstractTypeMember, StateMember, OperationMember, AbstractHomeMember, KeyMember, FactoryMember, HomeOperation}
use Rattle.psdl_syntax.specs.Seen.{Seen}
use Rattle.psdl_syntax.specs.Grammar as grammar
use Rattle.psdl_directory.specs.Declarations.{all_declarators}
use Rattle.psdl_standings.specs.Expressions.{operands}
use Rattle.psdl_directory.specs.Parts.{state_of, type_operation, home_operation, all_parameters}
use Rattle.psdl_standings.specs.Uses.{Bound, bounds_of, most_items, plain_bounds, spec_bounds, state_bounds, declarator_bounds, field_bounds, result_bounds, operation_bounds}
use Rattle.psdl_sound.specs.SmallLiterals.{is_small}
use Rattle.psdl_sound.proofs.TokenWords.{AreFit}
use Rattle.psdl_sound.proofs.DeclaredNames.{split, begun}
use Rattle.psdl_sound.proofs.Literals.{expression_small}

-- ---- lists of bounds

-- expressions whose literals are small
abbrev all_small : List Expression → Bool
all_small es = list_all (λ e. list_all is_small (operands e)) es

-- bounds whose literals are small
abbrev pub AreLow : List Bound → Type 0
AreLow bs = all_small (map (λ b. b.value) bs) ≡ true

-- of two parts
pub both_low : (xs ys : List Bound) → AreLow xs → AreLow ys → AreLow (xs ++ ys)
both_low [] ys a b = b
both_low (x ∷ xs) ys a b =
    let parts = and_parts (list_all is_small (operands x.value)) (all_small (map (λ b. b.value) xs)) a in
    and_from (list_all is_small (operands x.value)) (all_small (map (λ b. b.value) (xs ++ ys))) parts.0 (both_low xs ys parts.1 b)

-- one expression and those of others
one_low : (limit most : ℕ) (e : Expression) (es : List Expression) → AreFit (grammar.expression e) → AreLow (bounds_of limit most es) → AreLow (bounds_of limit most (e ∷ es))
one_low limit most e es fit others = and_from (list_all is_small (operands e)) (all_small (map (λ b. b.value) (bounds_of limit most es))) (expression_small e fit) others

-- the bounds of parts, one behind the other
pub each_low : {A : Type 0} (spell : A → List Seen) (found : A → List Bound) → ((x : A) → AreFit (spell x) → AreLow (found x)) → (xs : List A) → AreFit (joined spell xs) → AreLow (flat_map found xs)
each_low spell found step [] fit = refl
each_low spell found step (x ∷ xs) fit =
    let parts = split (spell x) (joined spell xs) fit in
    both_low (found x) (flat_map found xs) (step x parts.0) (each_low spell found step xs parts.1)

-- ---- types

-- a bound that may be left out
bound_low : (limit : ℕ) (bound : Option Expression) → AreFit (maybe grammar.expression bound) → AreLow (bounds_of limit most_items (option_to_list bound))
bound_low limit None fit = refl
bound_low limit (Some e) fit = one_low limit most_items e [] fit refl

-- the bound of a string
plain_low : (limit : ℕ) (plain : PlainType) → AreFit (grammar.plain_type plain) → AreLow (plain_bounds limit plain)
plain_low limit (IntegerPlain integer) fit = refl
plain_low limit CharPlain fit = refl
plain_low limit BooleanPlain fit = refl
plain_low limit OctetPlain fit = refl
plain_low limit (StringPlain None) fit = refl
plain_low limit (StringPlain (Some e)) fit = bound_low limit (Some e) (split (grammar.expression e) (grammar.sign marks.Greater) fit).0
plain_low limit (NamePlain name) fit = refl

-- behind the comma of a sequence
item_bound_low : (limit : ℕ) (bound : Option Expression) → AreFit (maybe (grammar.behind (grammar.sign marks.Comma) grammar.expression) bound) → AreLow (bounds_of limit most_items (option_to_list bound))
item_bound_low limit None fit = refl
item_bound_low limit (Some e) fit = bound_low limit (Some e) fit

-- the bounds of a type
pub spec_low : (limit : ℕ) (spec : TypeSpec) → AreFit (grammar.type_spec spec) → AreLow (spec_bounds limit spec)
spec_low limit (PlainSpec plain) fit = plain_low limit plain fit
spec_low limit (Sequence item bound) fit =
    let behind_item : List Seen = maybe (grammar.behind (grammar.sign marks.Comma) grammar.expression) bound in
    let inside = split (grammar.type_spec item ++ behind_item) (grammar.sign marks.Greater) fit in
    let parts = split (grammar.type_spec item) behind_item inside.0 in
    both_low (spec_bounds limit item) (bounds_of limit most_items (option_to_list bound)) (spec_low limit item parts.0) (item_bound_low limit bound parts.1)

-- of a state's type
state_type_low : (limit : ℕ) (type : StateType) → AreFit (grammar.state_type type) → AreLow (state_bounds limit type)
state_type_low limit (PlainState plain) fit = plain_low limit plain fit
state_type_low limit (Reference name) fit = refl

-- ---- typedefs and structs

-- the dimensions of an array
pub dimensions_low : (limit most : ℕ) (es : List Expression) → AreFit (joined grammar.dimension es) → AreLow (bounds_of limit most es)
dimensions_low limit most [] fit = refl
dimensions_low limit most (e ∷ es) fit =
    let parts = split (grammar.dimension e) (joined grammar.dimension es) fit in
    let inside = split (grammar.expression e) (grammar.sign marks.RightBracket) parts.0 in
    one_low limit most e es inside.0 (dimensions_low limit most es parts.1)

-- those of a declarator
declarator_low : (limit : ℕ) (d : Declarator) → AreFit (grammar.declarator d) → AreLow (declarator_bounds limit d)
declarator_low limit d fit = dimensions_low limit _ d.dimensions (begun d.name (joined grammar.dimension d.dimensions) fit).1

-- the bounds and dimensions of a field
pub field_low : (limit : ℕ) (f : Field) → AreFit (grammar.field f) → AreLow (field_bounds limit f)
field_low limit f fit =
    let d : Declarator = f.declarators.first in
    let ds : List Declarator = f.declarators.others in
    let parts = split (grammar.type_spec f.spec) (grammar.declarators f.declarators ++ grammar.sign marks.Semicolon) fit in
    let listed = split (grammar.declarators f.declarators) (grammar.sign marks.Semicolon) parts.1 in
    let each = split (grammar.declarator d) (grammar.after_commas grammar.declarator ds) listed.0 in
    both_low (spec_bounds limit f.spec) (flat_map (declarator_bounds limit) (all_declarators f.declarators)) (spec_low limit f.spec parts.0)
    (both_low (declarator_bounds limit d) (flat_map (declarator_bounds limit) ds) (declarator_low limit d each.0)
    (each_low (grammar.behind (grammar.sign marks.Comma) grammar.declarator) (declarator_bounds limit) (declarator_low limit) ds each.1))

-- ---- members

-- of a state member
pub state_low : (limit : ℕ) (s : State) → AreFit (grammar.state s) → AreLow (state_bounds limit s.state_type)
state_low limit s fit =
    let rest : List Seen = grammar.identifiers s.names ++ grammar.sign marks.Semicolon in
    let written = split (grammar.readonly s.is_readonly) (grammar.word keywords.State ++ (grammar.state_type s.state_type ++ rest)) fit in
    state_type_low limit s.state_type (split (grammar.state_type s.state_type) rest written.1).0

-- of a parameter
parameter_low : (limit : ℕ) (p : Parameter) → AreFit (grammar.parameter p) → AreLow (state_bounds limit p.parameter_type)
parameter_low limit p fit = state_type_low limit p.parameter_type (split (grammar.state_type p.parameter_type) (grammar.identifier p.name) fit).0

-- of all parameters
parameters_low : (limit : ℕ) (ps : Option Parameters) → AreFit (maybe grammar.parameters ps) → AreLow (flat_map (λ p. state_bounds limit p.parameter_type) (all_parameters ps))
parameters_low limit None fit = refl
parameters_low limit (Some ps) fit =
    let p : Parameter = ps.first in
    let parts = split (grammar.parameter p) (grammar.after_commas grammar.parameter ps.others) fit in
    both_low (state_bounds limit p.parameter_type) (flat_map (λ q. state_bounds limit q.parameter_type) ps.others) (parameter_low limit p parts.0)
    (each_low (grammar.behind (grammar.sign marks.Comma) grammar.parameter) (λ q. state_bounds limit q.parameter_type) (parameter_low limit) ps.others parts.1)

-- of a result
result_low : (limit : ℕ) (r : OperationResult) → AreFit (grammar.operation_result r) → AreLow (result_bounds limit r)
result_low limit Void fit = refl
result_low limit (StateResult type) fit = state_type_low limit type fit

-- of an operation
operation_low : (limit : ℕ) (o : Operation) → AreFit (grammar.operation o) → AreLow (operation_bounds limit o)
operation_low limit o fit =
    let inner : List Seen = maybe grammar.parameters o.parameters ++ grammar.sign marks.RightParen in
    let bracketed : List Seen = grammar.placed marks.LeftParen o.place ++ inner in
    let rest : List Seen = bracketed ++ grammar.sign marks.Semicolon in
    let parts = split (grammar.operation_result o.returned) (grammar.identifier o.name ++ rest) fit in
    let behind_name = begun o.name rest parts.1 in
    let ended = split bracketed (grammar.sign marks.Semicolon) behind_name.1 in
    let inside = split (maybe grammar.parameters o.parameters) (grammar.sign marks.RightParen) ended.0 in
    both_low (result_bounds limit o.returned) (flat_map (λ p. state_bounds limit p.parameter_type) (all_parameters o.parameters)) (result_low limit o.returned parts.0)
    (parameters_low limit o.parameters inside.0)

-- ---- bodies

-- the states of an abstract type
states_low : (limit : ℕ) (ms : List AbstractTypeMember) → AreFit (joined grammar.abstract_type_member ms) → AreLow (flat_map (λ s. state_bounds limit s.state_type) (flat_map state_of ms))
states_low limit [] fit = refl
states_low limit (StateMember s ∷ ms) fit =
    let parts = split (grammar.state s) (joined grammar.abstract_type_member ms) fit in
    both_low (state_bounds limit s.state_type) (flat_map (λ t. state_bounds limit t.state_type) (flat_map state_of ms)) (state_low limit s parts.0) (states_low limit ms parts.1)
states_low limit (OperationMember o ∷ ms) fit = states_low limit ms (split (grammar.operation o) (joined grammar.abstract_type_member ms) fit).1

-- its operations
type_operations_low : (limit : ℕ) (ms : List AbstractTypeMember) → AreFit (joined grammar.abstract_type_member ms) → AreLow (flat_map (operation_bounds limit) (flat_map type_operation ms))
type_operations_low limit [] fit = refl
type_operations_low limit (StateMember s ∷ ms) fit = type_operations_low limit ms (split (grammar.state s) (joined grammar.abstract_type_member ms) fit).1
type_operations_low limit (OperationMember o ∷ ms) fit =
    let parts = split (grammar.operation o) (joined grammar.abstract_type_member ms) fit in
    both_low (operation_bounds limit o) (flat_map (operation_bounds limit) (flat_map type_operation ms)) (operation_low limit o parts.0) (type_operations_low limit ms parts.1)

-- both
pub type_members_low : (limit : ℕ) (ms : List AbstractTypeMember) → AreFit (joined grammar.abstract_type_member ms)
    → AreLow (flat_map (λ s. state_bounds limit s.state_type) (flat_map state_of ms) ++ flat_map (operation_bounds limit) (flat_map type_operation ms))
type_members_low limit ms fit =
    both_low (flat_map (λ s. state_bounds limit s.state_type) (flat_map state_of ms)) (flat_map (operation_bounds limit) (flat_map type_operation ms)) (states_low limit ms fit) (type_operations_low limit ms fit)

-- the operations of an abstract home
pub home_operations_low : (limit : ℕ) (ms : List AbstractHomeMember) → AreFit (joined grammar.abstract_home_member ms) → AreLow (flat_map (operation_bounds limit) (flat_map home_operation ms))
home_operations_low limit [] fit = refl
home_operations_low limit (KeyMember k ∷ ms) fit = home_operations_low limit ms (split (grammar.key k) (joined grammar.abstract_home_member ms) fit).1
home_operations_low limit (FactoryMember f ∷ ms) fit = home_operations_low limit ms (split (grammar.factory f) (joined grammar.abstract_home_member ms) fit).1
home_operations_low limit (HomeOperation o ∷ ms) fit =
    let parts = split (grammar.operation o) (joined grammar.abstract_home_member ms) fit in
    both_low (operation_bounds limit o) (flat_map (operation_bounds limit) (flat_map home_operation ms)) (operation_low limit o parts.0) (home_operations_low limit ms parts.1)
