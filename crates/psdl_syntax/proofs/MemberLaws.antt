-- The readers of members keep to the grammar.
use Rattle.std.proofs.Common.{◌≡◌, ℕ, Bool, true, false, List, [], ◌∷◌, ◌++◌, Option, refl, sym, subst, ◌⊎◌, inl, inr, append_assoc}
use Rattle.pss_base.specs.declared.place.Place.{Place}
use Rattle.part_readers.specs.Reading.{starts, both, either, optional}
use Rattle.part_readers.specs.Sentences.{maybe}
use Rattle.part_readers.proofs.Boths.{both_reads, mapped_reads, both_tokens}
use Rattle.part_readers.proofs.Choices.{either_reads, either_tokens, optional_reads}
use Rattle.psdl_tokens.specs.declared.token.Keyword.TheVariants as keywords
use Rattle.psdl_tokens.specs.declared.token.Mark.TheVariants as marks
use Rattle.psdl_tree.specs.declared.names.Identifier.{Identifier}
use Rattle.psdl_tree.specs.declared.stores.Direction.{Direction}
use Rattle.psdl_tree.specs.declared.stores.Direction.TheVariants as directions
use Rattle.psdl_syntax.specs.Seen.{Seen, Word, Sign, Placed, Named}
use Rattle.psdl_tree.specs.Trees.{Identifiers, StateType, State, Parameter, Parameters, OperationResult, Void, StateResult, Operation, KeyMembers, Key, Factory}
use Rattle.psdl_syntax.specs.Grammar.{word, sign, placed, identifier, after_commas, identifiers, state_type, readonly, state, direction_keyword, parameter, parameters, operation_result, operation, key_members, key, factory}
use Rattle.psdl_syntax.specs.Productions.{is_word, is_mark, is_identifier, place_part, word_at, sign_at, identifier_at, enclosed, listed, identifiers_at, state_type_at, readonly_at, state_at, direction_of, direction_at, is_direction, parameter_at, parameters_at, result_of, operation_result_at, operation_parameters_at, operation_at, key_members_at, key_at, factory_members_at, factory_at}
use Rattle.psdl_syntax.proofs.Psdl.{psdl, Keeps, Ends, word_keeps, sign_keeps, identifier_keeps}
use Rattle.psdl_syntax.proofs.Parts.{anything, listed_keeps}
use Rattle.psdl_syntax.proofs.NameLaws.{IdentifiersEnds, identifiers_keeps}
use Rattle.psdl_syntax.proofs.TypeLaws.{PlainEnds, flag_keeps, parens_keep_at}
use Rattle.psdl_syntax.proofs.SpecLaws.{state_type_keeps, state_type_head}

readonly_keeps : (d : ℕ) → Keeps d d readonly_at readonly (Ends (is_word keywords.ReadOnly ∷ []))
unfolding readonly_at
readonly_keeps d = flag_keeps keywords.ReadOnly readonly refl refl d

pub state_keeps : (d : ℕ) → Keeps d d (state_at d) state anything
unfolding state_at
state_keeps d = mapped_reads psdl d d (λ p. record { is_readonly = p.0; state_type = p.1.1.0; names = p.1.1.1.0 }) (λ (x : State). (x.is_readonly, (tt, (x.state_type, (x.names, tt))))) (both readonly_at (both (word_at keywords.State) (both (state_type_at d) (both identifiers_at (sign_at marks.Semicolon))))) (both_tokens readonly (both_tokens (λ x. Word keywords.State ∷ []) (both_tokens state_type (both_tokens identifiers (λ x. Sign marks.Semicolon ∷ []))))) state anything
    (both_reads psdl d d d readonly_at (both (word_at keywords.State) (both (state_type_at d) (both identifiers_at (sign_at marks.Semicolon)))) readonly (both_tokens (λ x. Word keywords.State ∷ []) (both_tokens state_type (both_tokens identifiers (λ x. Sign marks.Semicolon ∷ [])))) (Ends (is_word keywords.ReadOnly ∷ [])) anything (readonly_keeps d) (both_reads psdl d d d (word_at keywords.State) (both (state_type_at d) (both identifiers_at (sign_at marks.Semicolon))) (λ x. Word keywords.State ∷ []) (both_tokens state_type (both_tokens identifiers (λ x. Sign marks.Semicolon ∷ []))) anything anything (word_keeps keywords.State d anything) (both_reads psdl d d d (state_type_at d) (both identifiers_at (sign_at marks.Semicolon)) state_type (both_tokens identifiers (λ x. Sign marks.Semicolon ∷ [])) PlainEnds anything (state_type_keeps d) (both_reads psdl d d d identifiers_at (sign_at marks.Semicolon) identifiers (λ x. Sign marks.Semicolon ∷ []) IdentifiersEnds anything (identifiers_keeps d) (sign_keeps marks.Semicolon d d refl anything) (λ y rest h. (refl, tt))) (λ y rest h. (refl, (refl, (refl, tt))))) (λ y rest h. tt)) (λ y rest h. (refl, tt)))
    (λ y. refl) (λ x. refl)

pub state_head : (P : List Seen → Type 0) → ((rest : List Seen) → P (Word keywords.ReadOnly ∷ rest)) → ((rest : List Seen) → P (Word keywords.State ∷ rest)) → (x : State) (rest : List Seen) → P (state x ++ rest)
state_head P read_only plain x rest = by_flag x.is_readonly
  where
    by_flag : (b : Bool) → P ((readonly b ++ (word keywords.State ++ (state_type x.state_type ++ (identifiers x.names ++ sign marks.Semicolon)))) ++ rest)
    by_flag true = read_only ((word keywords.State ++ (state_type x.state_type ++ (identifiers x.names ++ sign marks.Semicolon))) ++ rest)
    by_flag false = plain ((state_type x.state_type ++ (identifiers x.names ++ sign marks.Semicolon)) ++ rest)

abbrev direction : Direction → List Seen
direction x = word (direction_keyword x)

abbrev direction_parts : Direction → Unit {0} ⊎ (Unit {0} ⊎ Unit {0})
direction_parts directions.In = inl tt
direction_parts directions.Out = inr (inl tt)
direction_parts directions.InOut = inr (inr tt)

direction_onto : (x : Direction) → direction_of (direction_parts x) ≡ x
direction_onto directions.In = refl
direction_onto directions.Out = refl
direction_onto directions.InOut = refl

abbrev out_or_both : Unit {0} ⊎ Unit {0} → List Seen
out_or_both = either_tokens (λ x. Word keywords.Out ∷ []) (λ x. Word keywords.InOut ∷ [])

direction_spelled : (x : Unit {0} ⊎ (Unit {0} ⊎ Unit {0})) → direction (direction_of x) ≡ either_tokens (λ x. Word keywords.In ∷ []) out_or_both x
direction_spelled (inl x) = refl
direction_spelled (inr (inl x)) = refl
direction_spelled (inr (inr x)) = refl

no_in : (x : Unit {0} ⊎ Unit {0}) (rest : List Seen) → starts (is_word keywords.In) (out_or_both x ++ rest) ≡ false
no_in (inl x) rest = refl
no_in (inr x) rest = refl

direction_keeps : (d : ℕ) → Keeps d d direction_at direction anything
unfolding direction_at
direction_keeps d = mapped_reads psdl d d direction_of direction_parts (either (is_word keywords.In) (word_at keywords.In) (either (is_word keywords.Out) (word_at keywords.Out) (word_at keywords.InOut))) (either_tokens (λ x. Word keywords.In ∷ []) out_or_both) direction anything
    (either_reads psdl d d (is_word keywords.In) (word_at keywords.In) (either (is_word keywords.Out) (word_at keywords.Out) (word_at keywords.InOut)) (λ x. Word keywords.In ∷ []) out_or_both anything (word_keeps keywords.In d anything)
    (either_reads psdl d d (is_word keywords.Out) (word_at keywords.Out) (word_at keywords.InOut) (λ x. Word keywords.Out ∷ []) (λ x. Word keywords.InOut ∷ []) anything (word_keeps keywords.Out d anything) (word_keeps keywords.InOut d anything) (λ x rest. refl) (λ y rest h. refl))
    (λ x rest. refl) (λ y rest h. no_in y rest))
    direction_onto direction_spelled

direction_there : (x : Direction) (rest : List Seen) → starts is_direction (direction x ++ rest) ≡ true
direction_there directions.In rest = refl
direction_there directions.Out rest = refl
direction_there directions.InOut rest = refl

parameter_keeps : (d : ℕ) → Keeps d d (parameter_at d) parameter anything
unfolding parameter_at
parameter_keeps d = mapped_reads psdl d d (λ p. record { direction = p.0; parameter_type = p.1.0; name = p.1.1 }) (λ (x : Parameter). (x.direction, (x.parameter_type, x.name))) (both direction_at (both (state_type_at d) identifier_at)) (both_tokens direction (both_tokens state_type identifier)) parameter anything
    (both_reads psdl d d d direction_at (both (state_type_at d) identifier_at) direction (both_tokens state_type identifier) anything anything (direction_keeps d) (both_reads psdl d d d (state_type_at d) identifier_at state_type identifier PlainEnds anything (state_type_keeps d) (identifier_keeps d anything) (λ y rest h. (refl, (refl, (refl, tt))))) (λ y rest h. tt))
    (λ y. refl) (λ x. refl)

abbrev ParametersEnds : List Seen → Type 0
ParametersEnds rest = (starts (is_mark marks.Comma) rest ≡ false) × anything rest

parameters_keeps : (d : ℕ) → Keeps d d (parameters_at d) parameters ParametersEnds
unfolding parameters_at
parameters_keeps d = mapped_reads psdl d d (λ p. record { first = p.0; others = p.1 }) (λ (x : Parameters). (x.first, x.others)) (listed (parameter_at d)) (λ p. parameter p.0 ++ after_commas parameter p.1) parameters ParametersEnds
    (listed_keeps d (parameter_at d) parameter anything (parameter_keeps d) (λ rest. tt)) (λ y. refl) (λ x. refl)

parameters_there : (x : Parameters) (rest : List Seen) → starts is_direction (parameters x ++ rest) ≡ true
parameters_there x rest = direction_there x.first.direction (((state_type x.first.parameter_type ++ identifier x.first.name) ++ after_commas parameter x.others) ++ rest)

abbrev OptionalParametersEnds : List Seen → Type 0
OptionalParametersEnds rest = (starts is_direction rest ≡ false) × ParametersEnds rest

optional_parameters_keeps : (d : ℕ) → Keeps d d (optional is_direction (parameters_at d)) (maybe parameters) OptionalParametersEnds
optional_parameters_keeps d = optional_reads psdl d is_direction (parameters_at d) parameters ParametersEnds (parameters_keeps d) parameters_there

abbrev operation_parameters : Place × Option Parameters → List Seen
operation_parameters p = Placed marks.LeftParen p.0 ∷ (maybe parameters p.1 ++ Sign marks.RightParen ∷ [])

operation_parameters_keeps : (d : ℕ) → Keeps d d (operation_parameters_at d) operation_parameters anything
unfolding operation_parameters_at
operation_parameters_keeps d = parens_keep_at (λ c. optional is_direction (parameters_at c)) (maybe parameters) OptionalParametersEnds (λ rest. (refl, (refl, tt))) d optional_parameters_keeps anything

abbrev result_parts : OperationResult → Unit {0} ⊎ StateType
result_parts Void = inl tt
result_parts (StateResult type) = inr type

result_onto : (x : OperationResult) → result_of (result_parts x) ≡ x
result_onto Void = refl
result_onto (StateResult type) = refl

result_spelled : (x : Unit {0} ⊎ StateType) → operation_result (result_of x) ≡ either_tokens (λ x. Word keywords.Void ∷ []) state_type x
result_spelled (inl x) = refl
result_spelled (inr type) = refl

no_void : (y : StateType) (rest : List Seen) → starts (is_word keywords.Void) (state_type y ++ rest) ≡ false
no_void y rest = state_type_head (λ l. starts (is_word keywords.Void) l ≡ false) (λ t. refl) (λ t. refl) (λ t. refl) (λ t. refl) (λ t. refl) (λ t. refl) (λ t. refl) (λ t. refl) (λ p t. refl) (λ i t. refl) y rest

operation_result_keeps : (d : ℕ) → Keeps d d (operation_result_at d) operation_result PlainEnds
unfolding operation_result_at
operation_result_keeps d = mapped_reads psdl d d result_of result_parts (either (is_word keywords.Void) (word_at keywords.Void) (state_type_at d)) (either_tokens (λ x. Word keywords.Void ∷ []) state_type) operation_result PlainEnds
    (either_reads psdl d d (is_word keywords.Void) (word_at keywords.Void) (state_type_at d) (λ x. Word keywords.Void ∷ []) state_type PlainEnds (word_keeps keywords.Void d PlainEnds) (state_type_keeps d) (λ x rest. refl) (λ y rest h. no_void y rest))
    result_onto result_spelled

pub operation_keeps : (d : ℕ) → Keeps d d (operation_at d) operation anything
unfolding operation_at
operation_keeps d = mapped_reads psdl d d (λ p. record { returned = p.0; name = p.1.0; place = p.1.1.0.0; parameters = p.1.1.0.1 }) (λ (x : Operation). (x.returned, (x.name, ((x.place, x.parameters), tt)))) (both (operation_result_at d) (both identifier_at (both (operation_parameters_at d) (sign_at marks.Semicolon)))) (both_tokens operation_result (both_tokens identifier (both_tokens operation_parameters (λ x. Sign marks.Semicolon ∷ [])))) operation anything
    (both_reads psdl d d d (operation_result_at d) (both identifier_at (both (operation_parameters_at d) (sign_at marks.Semicolon))) operation_result (both_tokens identifier (both_tokens operation_parameters (λ x. Sign marks.Semicolon ∷ []))) PlainEnds anything (operation_result_keeps d) (both_reads psdl d d d identifier_at (both (operation_parameters_at d) (sign_at marks.Semicolon)) identifier (both_tokens operation_parameters (λ x. Sign marks.Semicolon ∷ [])) anything anything (identifier_keeps d anything) (both_reads psdl d d d (operation_parameters_at d) (sign_at marks.Semicolon) operation_parameters (λ x. Sign marks.Semicolon ∷ []) anything anything (operation_parameters_keeps d) (sign_keeps marks.Semicolon d d refl anything) (λ y rest h. tt)) (λ y rest h. tt)) (λ y rest h. (refl, (refl, (refl, tt)))))
    (λ y. refl) (λ x. refl)

pub operation_head : (P : List Seen → Type 0) → ((rest : List Seen) → P (Word keywords.Void ∷ rest)) → ((rest : List Seen) → P (Word keywords.Ref ∷ rest)) → ((rest : List Seen) → P (Word keywords.Unsigned ∷ rest)) → ((rest : List Seen) → P (Word keywords.Short ∷ rest)) → ((rest : List Seen) → P (Word keywords.Long ∷ rest)) → ((rest : List Seen) → P (Word keywords.Char ∷ rest)) → ((rest : List Seen) → P (Word keywords.Boolean ∷ rest)) → ((rest : List Seen) → P (Word keywords.Octet ∷ rest)) → ((rest : List Seen) → P (Word keywords.String ∷ rest)) → ((p : Place) (rest : List Seen) → P (Placed marks.Scope p ∷ rest)) → ((i : Identifier) (rest : List Seen) → P (Named i ∷ rest)) → (x : Operation) (rest : List Seen) → P (operation x ++ rest)
operation_head P v r u s l c b o t p i x rest = subst P (sym (append_assoc (operation_result x.returned) tail rest)) (by_result x.returned)
  where
    tail : List Seen
    tail = identifier x.name ++ ((placed marks.LeftParen x.place ++ (maybe parameters x.parameters ++ sign marks.RightParen)) ++ sign marks.Semicolon)

    by_result : (y : OperationResult) → P (operation_result y ++ (tail ++ rest))
    by_result Void = v (tail ++ rest)
    by_result (StateResult type) = state_type_head P r u s l c b o t p i type (tail ++ rest)

key_members_keeps : (d : ℕ) (E : List Seen → Type 0) → Keeps d d (key_members_at d) key_members E
unfolding key_members_at
key_members_keeps d E = mapped_reads psdl d d (λ p. record { place = p.0; names = p.1 }) (λ (x : KeyMembers). (x.place, x.names)) (enclosed (place_part marks.LeftParen) marks.RightParen identifiers_at d) (λ p. Placed marks.LeftParen p.0 ∷ (identifiers p.1 ++ Sign marks.RightParen ∷ [])) key_members E
    (parens_keep_at (λ c. identifiers_at) identifiers IdentifiersEnds (λ rest. (refl, tt)) d identifiers_keeps E) (λ y. refl) (λ x. refl)

optional_key_members_keeps : (d : ℕ) → Keeps d d (optional (is_mark marks.LeftParen) (key_members_at d)) (maybe key_members) (λ rest. (starts (is_mark marks.LeftParen) rest ≡ false) × anything rest)
optional_key_members_keeps d = optional_reads psdl d (is_mark marks.LeftParen) (key_members_at d) key_members anything (key_members_keeps d anything) (λ x rest. refl)

pub key_keeps : (d : ℕ) → Keeps d d (key_at d) key anything
unfolding key_at
key_keeps d = mapped_reads psdl d d (λ p. record { name = p.1.0; members = p.1.1.0 }) (λ (x : Key). (tt, (x.name, (x.members, tt)))) (both (word_at keywords.Key) (both identifier_at (both (optional (is_mark marks.LeftParen) (key_members_at d)) (sign_at marks.Semicolon)))) (both_tokens (λ x. Word keywords.Key ∷ []) (both_tokens identifier (both_tokens (maybe key_members) (λ x. Sign marks.Semicolon ∷ [])))) key anything
    (both_reads psdl d d d (word_at keywords.Key) (both identifier_at (both (optional (is_mark marks.LeftParen) (key_members_at d)) (sign_at marks.Semicolon))) (λ x. Word keywords.Key ∷ []) (both_tokens identifier (both_tokens (maybe key_members) (λ x. Sign marks.Semicolon ∷ []))) anything anything (word_keeps keywords.Key d anything) (both_reads psdl d d d identifier_at (both (optional (is_mark marks.LeftParen) (key_members_at d)) (sign_at marks.Semicolon)) identifier (both_tokens (maybe key_members) (λ x. Sign marks.Semicolon ∷ [])) anything anything (identifier_keeps d anything) (both_reads psdl d d d (optional (is_mark marks.LeftParen) (key_members_at d)) (sign_at marks.Semicolon) (maybe key_members) (λ x. Sign marks.Semicolon ∷ []) (λ rest. (starts (is_mark marks.LeftParen) rest ≡ false) × anything rest) anything (optional_key_members_keeps d) (sign_keeps marks.Semicolon d d refl anything) (λ y rest h. (refl, tt))) (λ y rest h. tt)) (λ y rest h. tt))
    (λ y. refl) (λ x. refl)

abbrev OptionalIdentifiersEnds : List Seen → Type 0
OptionalIdentifiersEnds rest = (starts is_identifier rest ≡ false) × IdentifiersEnds rest

optional_identifiers_keeps : (d : ℕ) → Keeps d d (optional is_identifier identifiers_at) (maybe identifiers) OptionalIdentifiersEnds
optional_identifiers_keeps d = optional_reads psdl d is_identifier identifiers_at identifiers IdentifiersEnds (identifiers_keeps d) (λ x rest. refl)

abbrev factory_members : Place × Option Identifiers → List Seen
factory_members p = Placed marks.LeftParen p.0 ∷ (maybe identifiers p.1 ++ Sign marks.RightParen ∷ [])

factory_members_keeps : (d : ℕ) → Keeps d d (factory_members_at d) factory_members anything
unfolding factory_members_at
factory_members_keeps d = parens_keep_at (λ c. optional is_identifier identifiers_at) (maybe identifiers) OptionalIdentifiersEnds (λ rest. (refl, (refl, tt))) d optional_identifiers_keeps anything

pub factory_keeps : (d : ℕ) → Keeps d d (factory_at d) factory anything
unfolding factory_at
factory_keeps d = mapped_reads psdl d d (λ p. record { name = p.1.0; place = p.1.1.0.0; members = p.1.1.0.1 }) (λ (x : Factory). (tt, (x.name, ((x.place, x.members), tt)))) (both (word_at keywords.Factory) (both identifier_at (both (factory_members_at d) (sign_at marks.Semicolon)))) (both_tokens (λ x. Word keywords.Factory ∷ []) (both_tokens identifier (both_tokens factory_members (λ x. Sign marks.Semicolon ∷ [])))) factory anything
    (both_reads psdl d d d (word_at keywords.Factory) (both identifier_at (both (factory_members_at d) (sign_at marks.Semicolon))) (λ x. Word keywords.Factory ∷ []) (both_tokens identifier (both_tokens factory_members (λ x. Sign marks.Semicolon ∷ []))) anything anything (word_keeps keywords.Factory d anything) (both_reads psdl d d d identifier_at (both (factory_members_at d) (sign_at marks.Semicolon)) identifier (both_tokens factory_members (λ x. Sign marks.Semicolon ∷ [])) anything anything (identifier_keeps d anything) (both_reads psdl d d d (factory_members_at d) (sign_at marks.Semicolon) factory_members (λ x. Sign marks.Semicolon ∷ []) anything anything (factory_members_keeps d) (sign_keeps marks.Semicolon d d refl anything) (λ y rest h. tt)) (λ y rest h. tt)) (λ y rest h. tt))
    (λ y. refl) (λ x. refl)
