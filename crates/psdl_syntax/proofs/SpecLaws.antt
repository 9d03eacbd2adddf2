-- The readers of types of members and of declarators keep to the grammar.
use Rattle.std.proofs.Common.{◌≡◌, ℕ, zero, suc, true, false, List, [], ◌∷◌, ◌++◌, Option, Some, None, refl, sym, subst, ◌⊎◌, inl, inr, append_assoc}
use Rattle.pss_base.specs.declared.place.Place.{Place}
use Rattle.part_readers.specs.Reading.{starts, both, either, separated}
use Rattle.part_readers.specs.Sentences.{joined, maybe}
use Rattle.part_readers.proofs.Boths.{both_reads, mapped_reads, both_tokens}
use Rattle.part_readers.proofs.Choices.{either_reads, either_tokens, optional_reads}
use Rattle.part_readers.proofs.Steps.{narrowed}
use Rattle.psdl_tokens.specs.declared.token.Keyword.TheVariants as keywords
use Rattle.psdl_tokens.specs.declared.token.Mark.TheVariants as marks
use Rattle.psdl_tree.specs.declared.names.Identifier.{Identifier}
use Rattle.psdl_syntax.specs.Seen.{Seen, Word, Sign, Placed, Named}
use Rattle.psdl_tree.specs.Trees.{Name, Expression, PlainType, IntegerPlain, CharPlain, BooleanPlain, OctetPlain, StringPlain, NamePlain, TypeSpec, PlainSpec, Sequence, StateType, PlainState, Reference, Declarator, Declarators, Field}
use Rattle.psdl_syntax.specs.Grammar.{sign, identifier, behind, after_commas, name, string_bound, plain_type, type_spec, state_type, dimension, declarator, declarators, field, expression}
use Rattle.psdl_syntax.specs.Productions.{Reads, is_word, is_mark, is_inside, sign_at, identifier_at, between, up_to_brace, behind_sign, listed, name_at, expression_at, plain_type_at, spec_of, comma_bound_at, sequence_with, type_spec_with, sequence_inside, type_spec_at, state_type_of, reference_at, state_type_at, dimension_at, declarator_at, declarators_at, field_at, fields_at}
use Rattle.psdl_syntax.proofs.Psdl.{psdl, Keeps, Ends, sign_keeps, identifier_keeps}
use Rattle.psdl_syntax.proofs.Parts.{anything, behind_word_keeps, behind_sign_keeps, separated_keeps, listed_keeps, up_to_brace_keeps}
use Rattle.psdl_syntax.proofs.NameLaws.{NameEnds, name_head, name_keeps}
use Rattle.psdl_syntax.proofs.ExpressionLaws.{ExpressionEnds, expression_at_keeps}
use Rattle.psdl_syntax.proofs.TypeLaws.{PlainEnds, plain_type_keeps, between_keeps, between_keeps_at, integer_head}

-- how a plain type begins
pub plain_head : (P : List Seen → Type 0) → ((rest : List Seen) → P (Word keywords.Unsigned ∷ rest)) → ((rest : List Seen) → P (Word keywords.Short ∷ rest)) → ((rest : List Seen) → P (Word keywords.Long ∷ rest)) → ((rest : List Seen) → P (Word keywords.Char ∷ rest)) → ((rest : List Seen) → P (Word keywords.Boolean ∷ rest)) → ((rest : List Seen) → P (Word keywords.Octet ∷ rest)) → ((rest : List Seen) → P (Word keywords.String ∷ rest)) → ((p : Place) (rest : List Seen) → P (Placed marks.Scope p ∷ rest)) → ((i : Identifier) (rest : List Seen) → P (Named i ∷ rest)) → (x : PlainType) (rest : List Seen) → P (plain_type x ++ rest)
plain_head P u s l c b o t p i (IntegerPlain k) rest = integer_head P u s l k rest
plain_head P u s l c b o t p i CharPlain rest = c rest
plain_head P u s l c b o t p i BooleanPlain rest = b rest
plain_head P u s l c b o t p i OctetPlain rest = o rest
plain_head P u s l c b o t p i (StringPlain bound) rest = t (maybe string_bound bound ++ rest)
plain_head P u s l c b o t p i (NamePlain n) rest = name_head P p i n rest

abbrev sequence_tokens : TypeSpec × Option Expression → List Seen
sequence_tokens p = Word keywords.Sequence ∷ (Sign marks.Less ∷ ((type_spec p.0 ++ maybe (behind (sign marks.Comma) expression) p.1) ++ Sign marks.Greater ∷ []))

abbrev inner_tokens : TypeSpec × Option Expression → List Seen
inner_tokens p = type_spec p.0 ++ maybe (behind (sign marks.Comma) expression) p.1

-- what a type in a sequence may go on with
abbrev InnerEnds : List Seen → Type 0
InnerEnds rest = (starts (is_mark marks.Comma) rest ≡ false) × (ExpressionEnds rest × PlainEnds rest)

comma_bound_keeps : (d : ℕ) → Keeps d d (comma_bound_at d) (maybe (behind (sign marks.Comma) expression)) (λ rest. (starts (is_mark marks.Comma) rest ≡ false) × ExpressionEnds rest)
unfolding comma_bound_at
comma_bound_keeps d = optional_reads psdl d (is_mark marks.Comma) (behind_sign marks.Comma (expression_at d)) (behind (sign marks.Comma) expression) ExpressionEnds (behind_sign_keeps d d (expression_at d) expression ExpressionEnds (expression_at_keeps d) marks.Comma refl) (λ x rest. refl)

spec_sum : (x : TypeSpec × Option Expression ⊎ PlainType) → type_spec (spec_of x) ≡ either_tokens sequence_tokens plain_type x
spec_sum (inl p) = refl
spec_sum (inr plain) = refl

abbrev spec_parts : TypeSpec → TypeSpec × Option Expression ⊎ PlainType
spec_parts (PlainSpec plain) = inr plain
spec_parts (Sequence item bound) = inl (item, bound)

spec_onto : (x : TypeSpec) → spec_of (spec_parts x) ≡ x
spec_onto (PlainSpec plain) = refl
spec_onto (Sequence item bound) = refl

no_sequence : (y : PlainType) (rest : List Seen) → starts (is_word keywords.Sequence) (plain_type y ++ rest) ≡ false
no_sequence y rest = plain_head (λ l. starts (is_word keywords.Sequence) l ≡ false) (λ t. refl) (λ t. refl) (λ t. refl) (λ t. refl) (λ t. refl) (λ t. refl) (λ t. refl) (λ p t. refl) (λ i t. refl) y rest

spec_with_keeps : (d : ℕ) (inner : Reads (TypeSpec × Option Expression)) → ((c : ℕ) → d ≡ suc c → Keeps c c inner inner_tokens InnerEnds) → Keeps d d (type_spec_with inner d) type_spec PlainEnds
unfolding type_spec_with sequence_with
spec_with_keeps d inner is = mapped_reads psdl d d spec_of spec_parts (either (is_word keywords.Sequence) (sequence_with inner d) (plain_type_at d)) (either_tokens sequence_tokens plain_type) type_spec PlainEnds
    (either_reads psdl d d (is_word keywords.Sequence) (sequence_with inner d) (plain_type_at d) sequence_tokens plain_type PlainEnds
    (behind_word_keeps d d (between marks.Less marks.Greater inner d) (λ p. Sign marks.Less ∷ (inner_tokens p ++ Sign marks.Greater ∷ [])) PlainEnds
    (between_keeps marks.Less marks.Greater (λ c. refl) refl (λ c. refl) inner inner_tokens (PlainSpec CharPlain, None) InnerEnds (λ rest. (refl, ((refl, (refl, (refl, (refl, (refl, (refl, (refl, tt))))))), (refl, (refl, (refl, tt)))))) d is PlainEnds) keywords.Sequence)
    (plain_type_keeps d) (λ x rest. refl) (λ y rest h. no_sequence y rest))
    spec_onto spec_sum

inner_with_keeps : (d : ℕ) → Keeps d d (type_spec_with (sequence_inside d) d) type_spec PlainEnds → Keeps d d (both (type_spec_with (sequence_inside d) d) (comma_bound_at d)) inner_tokens InnerEnds
inner_with_keeps d is = both_reads psdl d d d (type_spec_with (sequence_inside d) d) (comma_bound_at d) type_spec (maybe (behind (sign marks.Comma) expression)) PlainEnds InnerEnds is
    (narrowed psdl d d (comma_bound_at d) (maybe (behind (sign marks.Comma) expression)) (λ rest. (starts (is_mark marks.Comma) rest ≡ false) × ExpressionEnds rest) InnerEnds (λ rest h. (h.0, h.1.0)) (comma_bound_keeps d))
    no_more_type
  where
    no_more_type : (y : Option Expression) (rest : List Seen) → InnerEnds rest → PlainEnds (maybe (behind (sign marks.Comma) expression) y ++ rest)
    no_more_type None rest h = h.1.1
    no_more_type (Some b) rest h = (refl, (refl, (refl, tt)))

pub type_spec_keeps : (d : ℕ) → Keeps d d (type_spec_at d) type_spec PlainEnds
unfolding type_spec_at sequence_inside
type_spec_keeps zero = spec_with_keeps zero (sequence_inside zero) (λ c e. absurd cc)
type_spec_keeps (suc d) = spec_with_keeps (suc d) (sequence_inside (suc d)) (λ c e. let same : d ≡ c = cc in subst (λ (m : ℕ). Keeps m m (sequence_inside (suc d)) inner_tokens InnerEnds) same (inner_with_keeps d (type_spec_keeps d)))

abbrev reference_tokens : Name → List Seen
reference_tokens n = Word keywords.Ref ∷ (Sign marks.Less ∷ (name n ++ Sign marks.Greater ∷ []))

reference_keeps : (d : ℕ) (E : List Seen → Type 0) → Keeps d d (reference_at d) reference_tokens E
unfolding reference_at
reference_keeps d E = behind_word_keeps d d (between marks.Less marks.Greater name_at d) (λ n. Sign marks.Less ∷ (name n ++ Sign marks.Greater ∷ [])) E
    (between_keeps marks.Less marks.Greater (λ c. refl) refl (λ c. refl) name_at name (name_keeps d).some NameEnds (λ rest. (refl, tt)) d (λ c e. name_keeps c) E) keywords.Ref

abbrev state_type_parts : StateType → Name ⊎ PlainType
state_type_parts (PlainState plain) = inr plain
state_type_parts (Reference n) = inl n

state_type_onto : (x : StateType) → state_type_of (state_type_parts x) ≡ x
state_type_onto (PlainState plain) = refl
state_type_onto (Reference n) = refl

state_type_sum : (x : Name ⊎ PlainType) → state_type (state_type_of x) ≡ either_tokens reference_tokens plain_type x
state_type_sum (inl n) = refl
state_type_sum (inr plain) = refl

no_reference : (y : PlainType) (rest : List Seen) → starts (is_word keywords.Ref) (plain_type y ++ rest) ≡ false
no_reference y rest = plain_head (λ l. starts (is_word keywords.Ref) l ≡ false) (λ t. refl) (λ t. refl) (λ t. refl) (λ t. refl) (λ t. refl) (λ t. refl) (λ t. refl) (λ p t. refl) (λ i t. refl) y rest

pub state_type_keeps : (d : ℕ) → Keeps d d (state_type_at d) state_type PlainEnds
unfolding state_type_at
state_type_keeps d = mapped_reads psdl d d state_type_of state_type_parts (either (is_word keywords.Ref) (reference_at d) (plain_type_at d)) (either_tokens reference_tokens plain_type) state_type PlainEnds
    (either_reads psdl d d (is_word keywords.Ref) (reference_at d) (plain_type_at d) reference_tokens plain_type PlainEnds (reference_keeps d PlainEnds) (plain_type_keeps d) (λ x rest. refl) (λ y rest h. no_reference y rest))
    state_type_onto state_type_sum

-- how a type of a member begins
pub state_type_head : (P : List Seen → Type 0) → ((rest : List Seen) → P (Word keywords.Ref ∷ rest)) → ((rest : List Seen) → P (Word keywords.Unsigned ∷ rest)) → ((rest : List Seen) → P (Word keywords.Short ∷ rest)) → ((rest : List Seen) → P (Word keywords.Long ∷ rest)) → ((rest : List Seen) → P (Word keywords.Char ∷ rest)) → ((rest : List Seen) → P (Word keywords.Boolean ∷ rest)) → ((rest : List Seen) → P (Word keywords.Octet ∷ rest)) → ((rest : List Seen) → P (Word keywords.String ∷ rest)) → ((p : Place) (rest : List Seen) → P (Placed marks.Scope p ∷ rest)) → ((i : Identifier) (rest : List Seen) → P (Named i ∷ rest)) → (x : StateType) (rest : List Seen) → P (state_type x ++ rest)
state_type_head P r u s l c b o t p i (Reference n) rest = r ((Sign marks.Less ∷ (name n ++ Sign marks.Greater ∷ [])) ++ rest)
state_type_head P r u s l c b o t p i (PlainState plain) rest = plain_head P u s l c b o t p i plain rest

-- how a type begins
pub type_spec_head : (P : List Seen → Type 0) → ((rest : List Seen) → P (Word keywords.Sequence ∷ rest)) → ((rest : List Seen) → P (Word keywords.Unsigned ∷ rest)) → ((rest : List Seen) → P (Word keywords.Short ∷ rest)) → ((rest : List Seen) → P (Word keywords.Long ∷ rest)) → ((rest : List Seen) → P (Word keywords.Char ∷ rest)) → ((rest : List Seen) → P (Word keywords.Boolean ∷ rest)) → ((rest : List Seen) → P (Word keywords.Octet ∷ rest)) → ((rest : List Seen) → P (Word keywords.String ∷ rest)) → ((p : Place) (rest : List Seen) → P (Placed marks.Scope p ∷ rest)) → ((i : Identifier) (rest : List Seen) → P (Named i ∷ rest)) → (x : TypeSpec) (rest : List Seen) → P (type_spec x ++ rest)
type_spec_head P q u s l c b o t p i (Sequence item bound) rest = q ((Sign marks.Less ∷ (inner_tokens (item, bound) ++ Sign marks.Greater ∷ [])) ++ rest)
type_spec_head P q u s l c b o t p i (PlainSpec plain) rest = plain_head P u s l c b o t p i plain rest

dimension_keeps : (d : ℕ) (E : List Seen → Type 0) → Keeps d d (dimension_at d) dimension E
unfolding dimension_at
dimension_keeps d E = between_keeps_at marks.LeftBracket marks.RightBracket (λ c. refl) refl (λ c. refl) expression_at expression ExpressionEnds (λ rest. (refl, (refl, (refl, (refl, (refl, (refl, (refl, tt)))))))) d expression_at_keeps E

abbrev DeclaratorEnds : List Seen → Type 0
DeclaratorEnds = Ends (is_mark marks.LeftBracket ∷ [])

declarator_keeps : (d : ℕ) → Keeps d d (declarator_at d) declarator DeclaratorEnds
unfolding declarator_at
declarator_keeps d = mapped_reads psdl d d (λ p. record { name = p.0; dimensions = p.1 }) (λ (x : Declarator). (x.name, x.dimensions)) (separated (is_mark marks.LeftBracket) identifier_at (dimension_at d)) (λ p. identifier p.0 ++ joined dimension p.1) declarator DeclaratorEnds
    (separated_keeps d (is_mark marks.LeftBracket) identifier_at (dimension_at d) identifier dimension anything (identifier_keeps d anything) (dimension_keeps d anything) (λ y rest. refl) (λ y rest. tt)) (λ y. refl) (λ x. refl)

abbrev pub DeclaratorsEnds : List Seen → Type 0
DeclaratorsEnds = Ends (is_mark marks.Comma ∷ is_mark marks.LeftBracket ∷ [])

pub declarators_keeps : (d : ℕ) → Keeps d d (declarators_at d) declarators DeclaratorsEnds
unfolding declarators_at
declarators_keeps d = mapped_reads psdl d d (λ p. record { first = p.0; others = p.1 }) (λ (x : Declarators). (x.first, x.others)) (listed (declarator_at d)) (λ p. declarator p.0 ++ after_commas declarator p.1) declarators DeclaratorsEnds
    (listed_keeps d (declarator_at d) declarator DeclaratorEnds (declarator_keeps d) (λ rest. (refl, tt))) (λ y. refl) (λ x. refl)

pub field_keeps : (d : ℕ) → Keeps d d (field_at d) field anything
unfolding field_at
field_keeps d = mapped_reads psdl d d (λ p. record { spec = p.0; declarators = p.1.0 }) (λ (x : Field). (x.spec, (x.declarators, tt))) (both (type_spec_at d) (both (declarators_at d) (sign_at marks.Semicolon))) (both_tokens type_spec (both_tokens declarators (λ x. Sign marks.Semicolon ∷ []))) field anything
    (both_reads psdl d d d (type_spec_at d) (both (declarators_at d) (sign_at marks.Semicolon)) type_spec (both_tokens declarators (λ x. Sign marks.Semicolon ∷ [])) PlainEnds anything (type_spec_keeps d) (both_reads psdl d d d (declarators_at d) (sign_at marks.Semicolon) declarators (λ x. Sign marks.Semicolon ∷ []) DeclaratorsEnds anything (declarators_keeps d) (sign_keeps marks.Semicolon d d refl anything) (λ y rest h. (refl, (refl, tt)))) (λ y rest h. (refl, (refl, (refl, tt)))))
    (λ y. refl) (λ x. refl)

field_there : (f : Field) (rest : List Seen) → starts is_inside (field f ++ rest) ≡ true
field_there f rest = subst (λ l. starts is_inside l ≡ true) (sym (append_assoc (type_spec f.spec) (declarators f.declarators ++ sign marks.Semicolon) rest))
    (type_spec_head (λ l. starts is_inside l ≡ true) (λ t. refl) (λ t. refl) (λ t. refl) (λ t. refl) (λ t. refl) (λ t. refl) (λ t. refl) (λ t. refl) (λ p t. refl) (λ i t. refl) f.spec ((declarators f.declarators ++ sign marks.Semicolon) ++ rest))

pub fields_keeps : (d : ℕ) → Keeps d d (fields_at d) (λ p. field p.0 ++ joined field p.1) (λ rest. (starts is_inside rest ≡ false) × anything rest)
unfolding fields_at
fields_keeps d = both_reads psdl d d d (field_at d) (up_to_brace (field_at d)) field (joined field) anything (λ rest. (starts is_inside rest ≡ false) × anything rest) (field_keeps d) (up_to_brace_keeps d (field_at d) field (field_keeps d) field_there) (λ y rest h. tt)
