-- The readers of storage types, storage homes and catalogs keep to the grammar.
use Rattle.std.proofs.Common.{◌≡◌, ℕ, ◌-◌, true, false, List, [], ◌∷◌, ◌++◌, Option, Some, None, refl, ◌⊎◌, inl, inr}
use Rattle.part_readers.specs.Reading.{starts, both, either, optional}
use Rattle.part_readers.specs.Sentences.{joined, maybe}
use Rattle.part_readers.proofs.Boths.{both_reads, mapped_reads, both_tokens}
use Rattle.part_readers.proofs.Choices.{either_reads, either_tokens, optional_reads}
use Rattle.psdl_tokens.specs.declared.token.Keyword.TheVariants as keywords
use Rattle.psdl_tokens.specs.declared.token.Mark.TheVariants as marks
use Rattle.psdl_syntax.specs.Seen.{Seen, Word, Sign}
use Rattle.psdl_tree.specs.Trees.{Name, Names, State, Operation, Key, Factory, AbstractTypeMember, StateMember, OperationMember, AbstractTypeBody, AbstractType, StorageTypeBody, StorageType, AbstractHomeMember, KeyMember, FactoryMember, HomeOperation, AbstractHomeBody, AbstractHome, HomeMember, PlainKey, PrimaryKey, HomeFactory, StorageHome, Provision, Catalog}
use Rattle.psdl_syntax.specs.Grammar.{word, sign, identifier, behind, name, names, state, operation, key, factory, braced, abstract_type_member, abstract_type_body, storage_type_body, storage_type, abstract_home_member, abstract_home_body, home_member, storage_home, provision, catalog}
use Rattle.psdl_syntax.specs.Productions.{Reads, is_word, is_mark, is_inside, word_at, sign_at, identifier_at, braces, up_to_brace, behind_word, behind_sign, name_at, names_at, state_at, is_state, operation_at, key_at, factory_at, bases_at, base_at, implements_at, type_member_of, abstract_type_member_at, abstract_type_members_at, abstract_type_body_at, is_abstract_type_body, abstract_type_at, states_at, storage_type_body_at, is_storage_type_body, storage_type_at, abstract_member_of, abstract_home_member_at, abstract_home_members_at, abstract_home_body_at, abstract_home_at, home_member_of, primary_key_at, home_member_at, home_members_at, storage_home_at, provision_at, provisions_at, catalog_at}
use Rattle.psdl_syntax.proofs.Psdl.{psdl, Keeps, word_keeps, sign_keeps, identifier_keeps}
use Rattle.psdl_syntax.proofs.Parts.{anything, behind_word_keeps, behind_sign_keeps, up_to_brace_keeps}
use Rattle.psdl_syntax.proofs.NameLaws.{NameEnds, NamesEnds, name_keeps, names_keeps}
use Rattle.psdl_syntax.proofs.TypeLaws.{braces_keep_at}
use Rattle.psdl_syntax.proofs.MemberLaws.{state_keeps, state_head, operation_keeps, operation_head, key_keeps, factory_keeps}

abbrev BasesEnds : List Seen → Type 0
BasesEnds rest = (starts (is_mark marks.Colon) rest ≡ false) × NamesEnds rest

bases_keeps : (d : ℕ) → Keeps d d bases_at (maybe (behind (sign marks.Colon) names)) BasesEnds
unfolding bases_at
bases_keeps d = optional_reads psdl d (is_mark marks.Colon) (behind_sign marks.Colon names_at) (behind (sign marks.Colon) names) NamesEnds (behind_sign_keeps d d names_at names NamesEnds (names_keeps d) marks.Colon refl) (λ x rest. refl)

abbrev BaseEnds : List Seen → Type 0
BaseEnds rest = (starts (is_mark marks.Colon) rest ≡ false) × NameEnds rest

base_keeps : (d : ℕ) → Keeps d d base_at (maybe (behind (sign marks.Colon) name)) BaseEnds
unfolding base_at
base_keeps d = optional_reads psdl d (is_mark marks.Colon) (behind_sign marks.Colon name_at) (behind (sign marks.Colon) name) NameEnds (behind_sign_keeps d d name_at name NameEnds (name_keeps d) marks.Colon refl) (λ x rest. refl)

abbrev ImplementsEnds : List Seen → Type 0
ImplementsEnds rest = (starts (is_word keywords.Implements) rest ≡ false) × NamesEnds rest

implements_keeps : (d : ℕ) → Keeps d d implements_at (maybe (behind (word keywords.Implements) names)) ImplementsEnds
unfolding implements_at
implements_keeps d = optional_reads psdl d (is_word keywords.Implements) (behind_word keywords.Implements names_at) (behind (word keywords.Implements) names) NamesEnds (behind_word_keeps d d names_at names NamesEnds (names_keeps d) keywords.Implements) (λ x rest. refl)

abbrev pub BraceEnds : List Seen → Type 0
BraceEnds rest = (starts is_inside rest ≡ false) × anything rest

-- members in braces
members_keeps : {A : Type 0} (member : ℕ → Reads A) (s : A → List Seen) → ((c : ℕ) → Keeps c c (member c) s anything) → ((x : A) (rest : List Seen) → starts is_inside (s x ++ rest) ≡ true) → (d : ℕ) → Keeps d d (braces (up_to_brace (member (d - 1))) d) (λ xs. braced (joined s xs)) anything
members_keeps member s is there d = braces_keep_at (λ c. up_to_brace (member c)) (joined s) BraceEnds (λ rest. (refl, tt)) d (λ c. up_to_brace_keeps c (member c) s (is c) there) anything

abbrev type_member_parts : AbstractTypeMember → State ⊎ Operation
type_member_parts (StateMember s) = inl s
type_member_parts (OperationMember o) = inr o

type_member_onto : (x : AbstractTypeMember) → type_member_of (type_member_parts x) ≡ x
type_member_onto (StateMember s) = refl
type_member_onto (OperationMember o) = refl

type_member_sum : (x : State ⊎ Operation) → abstract_type_member (type_member_of x) ≡ either_tokens state operation x
type_member_sum (inl s) = refl
type_member_sum (inr o) = refl

no_state : (y : Operation) (rest : List Seen) → starts is_state (operation y ++ rest) ≡ false
no_state y rest = operation_head (λ l. starts is_state l ≡ false) (λ t. refl) (λ t. refl) (λ t. refl) (λ t. refl) (λ t. refl) (λ t. refl) (λ t. refl) (λ t. refl) (λ t. refl) (λ p t. refl) (λ i t. refl) y rest

abstract_type_member_keeps : (d : ℕ) → Keeps d d (abstract_type_member_at d) abstract_type_member anything
unfolding abstract_type_member_at
abstract_type_member_keeps d = mapped_reads psdl d d type_member_of type_member_parts (either is_state (state_at d) (operation_at d)) (either_tokens state operation) abstract_type_member anything
    (either_reads psdl d d is_state (state_at d) (operation_at d) state operation anything (state_keeps d) (operation_keeps d) (state_head (λ l. starts is_state l ≡ true) (λ t. refl) (λ t. refl)) (λ y rest h. no_state y rest))
    type_member_onto type_member_sum

operation_there : (x : Operation) (rest : List Seen) → starts is_inside (operation x ++ rest) ≡ true
operation_there x rest = operation_head (λ l. starts is_inside l ≡ true) (λ t. refl) (λ t. refl) (λ t. refl) (λ t. refl) (λ t. refl) (λ t. refl) (λ t. refl) (λ t. refl) (λ t. refl) (λ p t. refl) (λ i t. refl) x rest

state_there : (x : State) (rest : List Seen) → starts is_inside (state x ++ rest) ≡ true
state_there x rest = state_head (λ l. starts is_inside l ≡ true) (λ t. refl) (λ t. refl) x rest

type_member_there : (x : AbstractTypeMember) (rest : List Seen) → starts is_inside (abstract_type_member x ++ rest) ≡ true
type_member_there (StateMember s) rest = state_there s rest
type_member_there (OperationMember o) rest = operation_there o rest

abstract_type_members_keeps : (d : ℕ) → Keeps d d (braces (abstract_type_members_at (d - 1)) d) (λ xs. braced (joined abstract_type_member xs)) anything
unfolding abstract_type_members_at
abstract_type_members_keeps d = members_keeps abstract_type_member_at abstract_type_member abstract_type_member_keeps type_member_there d

abstract_type_body_keeps : (d : ℕ) → Keeps d d (abstract_type_body_at d) abstract_type_body anything
unfolding abstract_type_body_at
abstract_type_body_keeps d = mapped_reads psdl d d (λ p. record { bases = p.0; members = p.1 }) (λ (x : AbstractTypeBody). (x.bases, x.members)) (both bases_at (braces (abstract_type_members_at (d - 1)) d)) (both_tokens (maybe (behind (sign marks.Colon) names)) (λ xs. braced (joined abstract_type_member xs))) abstract_type_body anything
    (both_reads psdl d d d bases_at (braces (abstract_type_members_at (d - 1)) d) (maybe (behind (sign marks.Colon) names)) (λ xs. braced (joined abstract_type_member xs)) BasesEnds anything (bases_keeps d) (abstract_type_members_keeps d) (λ y rest h. (refl, (refl, (refl, tt)))))
    (λ y. refl) (λ x. refl)

abstract_type_body_there : (x : AbstractTypeBody) (rest : List Seen) → starts is_abstract_type_body (abstract_type_body x ++ rest) ≡ true
abstract_type_body_there x rest = by_bases x.bases
  where
    by_bases : (o : Option Names) → starts is_abstract_type_body ((maybe (behind (sign marks.Colon) names) o ++ braced (joined abstract_type_member x.members)) ++ rest) ≡ true
    by_bases None = refl
    by_bases (Some n) = refl

abbrev pub type_rest : AbstractType → List Seen
type_rest t = word keywords.StorageType ++ (identifier t.name ++ maybe abstract_type_body t.body)

abbrev pub AbstractTypeEnds : List Seen → Type 0
AbstractTypeEnds rest = (starts is_abstract_type_body rest ≡ false) × anything rest

pub abstract_type_keeps : (d : ℕ) → Keeps d d (abstract_type_at d) type_rest AbstractTypeEnds
unfolding abstract_type_at
abstract_type_keeps d = mapped_reads psdl d d (λ p. record { name = p.1.0; body = p.1.1 }) (λ (x : AbstractType). (tt, (x.name, x.body))) (both (word_at keywords.StorageType) (both identifier_at (optional is_abstract_type_body (abstract_type_body_at d)))) (both_tokens (λ x. Word keywords.StorageType ∷ []) (both_tokens identifier (maybe abstract_type_body))) type_rest AbstractTypeEnds
    (both_reads psdl d d d (word_at keywords.StorageType) (both identifier_at (optional is_abstract_type_body (abstract_type_body_at d))) (λ x. Word keywords.StorageType ∷ []) (both_tokens identifier (maybe abstract_type_body)) anything AbstractTypeEnds (word_keeps keywords.StorageType d anything) (both_reads psdl d d d identifier_at (optional is_abstract_type_body (abstract_type_body_at d)) identifier (maybe abstract_type_body) anything AbstractTypeEnds (identifier_keeps d anything) (optional_reads psdl d is_abstract_type_body (abstract_type_body_at d) abstract_type_body anything (abstract_type_body_keeps d) abstract_type_body_there) (λ y rest h. tt)) (λ y rest h. tt))
    (λ y. refl) (λ x. refl)

states_keeps : (d : ℕ) → Keeps d d (braces (states_at (d - 1)) d) (λ xs. braced (joined state xs)) anything
unfolding states_at
states_keeps d = members_keeps state_at state state_keeps state_there d

no_base : (y : Option Names × List State) (rest : List Seen) → BaseEnds (both_tokens (maybe (behind (word keywords.Implements) names)) (λ xs. braced (joined state xs)) y ++ rest)
no_base y rest = by_implements y.0
  where
    by_implements : (o : Option Names) → BaseEnds ((maybe (behind (word keywords.Implements) names) o ++ braced (joined state y.1)) ++ rest)
    by_implements None = (refl, (refl, tt))
    by_implements (Some n) = (refl, (refl, tt))

storage_type_body_keeps : (d : ℕ) → Keeps d d (storage_type_body_at d) storage_type_body anything
unfolding storage_type_body_at
storage_type_body_keeps d = mapped_reads psdl d d (λ p. record { base = p.0; implements = p.1.0; states = p.1.1 }) (λ (x : StorageTypeBody). (x.base, (x.implements, x.states))) (both base_at (both implements_at (braces (states_at (d - 1)) d))) (both_tokens (maybe (behind (sign marks.Colon) name)) (both_tokens (maybe (behind (word keywords.Implements) names)) (λ xs. braced (joined state xs)))) storage_type_body anything
    (both_reads psdl d d d base_at (both implements_at (braces (states_at (d - 1)) d)) (maybe (behind (sign marks.Colon) name)) (both_tokens (maybe (behind (word keywords.Implements) names)) (λ xs. braced (joined state xs))) BaseEnds anything (base_keeps d) (both_reads psdl d d d implements_at (braces (states_at (d - 1)) d) (maybe (behind (word keywords.Implements) names)) (λ xs. braced (joined state xs)) ImplementsEnds anything (implements_keeps d) (states_keeps d) (λ y rest h. (refl, (refl, (refl, tt))))) (λ y rest h. no_base y rest))
    (λ y. refl) (λ x. refl)

storage_type_body_there : (x : StorageTypeBody) (rest : List Seen) → starts is_storage_type_body (storage_type_body x ++ rest) ≡ true
storage_type_body_there x rest = by_base x.base x.implements
  where
    by_base : (o : Option Name) (i : Option Names) → starts is_storage_type_body ((maybe (behind (sign marks.Colon) name) o ++ (maybe (behind (word keywords.Implements) names) i ++ braced (joined state x.states))) ++ rest) ≡ true
    by_base (Some n) i = refl
    by_base None None = refl
    by_base None (Some n) = refl

abbrev pub StorageTypeEnds : List Seen → Type 0
StorageTypeEnds rest = (starts is_storage_type_body rest ≡ false) × anything rest

pub storage_type_keeps : (d : ℕ) → Keeps d d (storage_type_at d) storage_type StorageTypeEnds
unfolding storage_type_at
storage_type_keeps d = mapped_reads psdl d d (λ p. record { name = p.1.0; body = p.1.1 }) (λ (x : StorageType). (tt, (x.name, x.body))) (both (word_at keywords.StorageType) (both identifier_at (optional is_storage_type_body (storage_type_body_at d)))) (both_tokens (λ x. Word keywords.StorageType ∷ []) (both_tokens identifier (maybe storage_type_body))) storage_type StorageTypeEnds
    (both_reads psdl d d d (word_at keywords.StorageType) (both identifier_at (optional is_storage_type_body (storage_type_body_at d))) (λ x. Word keywords.StorageType ∷ []) (both_tokens identifier (maybe storage_type_body)) anything StorageTypeEnds (word_keeps keywords.StorageType d anything) (both_reads psdl d d d identifier_at (optional is_storage_type_body (storage_type_body_at d)) identifier (maybe storage_type_body) anything StorageTypeEnds (identifier_keeps d anything) (optional_reads psdl d is_storage_type_body (storage_type_body_at d) storage_type_body anything (storage_type_body_keeps d) storage_type_body_there) (λ y rest h. tt)) (λ y rest h. tt))
    (λ y. refl) (λ x. refl)

abbrev abstract_member_parts : AbstractHomeMember → Key ⊎ (Factory ⊎ Operation)
abstract_member_parts (KeyMember k) = inl k
abstract_member_parts (FactoryMember f) = inr (inl f)
abstract_member_parts (HomeOperation o) = inr (inr o)

abstract_member_onto : (x : AbstractHomeMember) → abstract_member_of (abstract_member_parts x) ≡ x
abstract_member_onto (KeyMember k) = refl
abstract_member_onto (FactoryMember f) = refl
abstract_member_onto (HomeOperation o) = refl

abbrev factory_or_operation : Factory ⊎ Operation → List Seen
factory_or_operation = either_tokens factory operation

abstract_member_sum : (x : Key ⊎ (Factory ⊎ Operation)) → abstract_home_member (abstract_member_of x) ≡ either_tokens key factory_or_operation x
abstract_member_sum (inl k) = refl
abstract_member_sum (inr (inl f)) = refl
abstract_member_sum (inr (inr o)) = refl

no_key : (y : Factory ⊎ Operation) (rest : List Seen) → starts (is_word keywords.Key) (factory_or_operation y ++ rest) ≡ false
no_key (inl f) rest = refl
no_key (inr o) rest = operation_head (λ l. starts (is_word keywords.Key) l ≡ false) (λ t. refl) (λ t. refl) (λ t. refl) (λ t. refl) (λ t. refl) (λ t. refl) (λ t. refl) (λ t. refl) (λ t. refl) (λ p t. refl) (λ i t. refl) o rest

no_factory : (y : Operation) (rest : List Seen) → starts (is_word keywords.Factory) (operation y ++ rest) ≡ false
no_factory y rest = operation_head (λ l. starts (is_word keywords.Factory) l ≡ false) (λ t. refl) (λ t. refl) (λ t. refl) (λ t. refl) (λ t. refl) (λ t. refl) (λ t. refl) (λ t. refl) (λ t. refl) (λ p t. refl) (λ i t. refl) y rest

abstract_home_member_keeps : (d : ℕ) → Keeps d d (abstract_home_member_at d) abstract_home_member anything
unfolding abstract_home_member_at
abstract_home_member_keeps d = mapped_reads psdl d d abstract_member_of abstract_member_parts (either (is_word keywords.Key) (key_at d) (either (is_word keywords.Factory) (factory_at d) (operation_at d))) (either_tokens key factory_or_operation) abstract_home_member anything
    (either_reads psdl d d (is_word keywords.Key) (key_at d) (either (is_word keywords.Factory) (factory_at d) (operation_at d)) key factory_or_operation anything (key_keeps d)
    (either_reads psdl d d (is_word keywords.Factory) (factory_at d) (operation_at d) factory operation anything (factory_keeps d) (operation_keeps d) (λ x rest. refl) (λ y rest h. no_factory y rest))
    (λ x rest. refl) (λ y rest h. no_key y rest))
    abstract_member_onto abstract_member_sum

abstract_member_there : (x : AbstractHomeMember) (rest : List Seen) → starts is_inside (abstract_home_member x ++ rest) ≡ true
abstract_member_there (KeyMember k) rest = refl
abstract_member_there (FactoryMember f) rest = refl
abstract_member_there (HomeOperation o) rest = operation_there o rest

abstract_home_members_keeps : (d : ℕ) → Keeps d d (braces (abstract_home_members_at (d - 1)) d) (λ xs. braced (joined abstract_home_member xs)) anything
unfolding abstract_home_members_at
abstract_home_members_keeps d = members_keeps abstract_home_member_at abstract_home_member abstract_home_member_keeps abstract_member_there d

no_scope : {A : Type 0} (s : A → List Seen) (y : Option Names × List A) (rest : List Seen) → NameEnds (both_tokens (maybe (behind (sign marks.Colon) names)) (λ xs. braced (joined s xs)) y ++ rest)
no_scope {A} s y rest = by_bases y.0
  where
    by_bases : (o : Option Names) → NameEnds ((maybe (behind (sign marks.Colon) names) o ++ braced (joined s y.1)) ++ rest)
    by_bases None = (refl, tt)
    by_bases (Some n) = (refl, tt)

no_scope_word : {A : Type 0} (s : A → List Seen) (y : Option Names × List A) (rest : List Seen) → NameEnds (both_tokens (maybe (behind (word keywords.Implements) names)) (λ xs. braced (joined s xs)) y ++ rest)
no_scope_word {A} s y rest = by_implements y.0
  where
    by_implements : (o : Option Names) → NameEnds ((maybe (behind (word keywords.Implements) names) o ++ braced (joined s y.1)) ++ rest)
    by_implements None = (refl, tt)
    by_implements (Some n) = (refl, tt)

abstract_home_body_keeps : (d : ℕ) → Keeps d d (abstract_home_body_at d) abstract_home_body anything
unfolding abstract_home_body_at
abstract_home_body_keeps d = mapped_reads psdl d d (λ p. record { managed = p.1.0; bases = p.1.1.0; members = p.1.1.1 }) (λ (x : AbstractHomeBody). (tt, (x.managed, (x.bases, x.members)))) (both (word_at keywords.Of) (both name_at (both bases_at (braces (abstract_home_members_at (d - 1)) d)))) (both_tokens (λ x. Word keywords.Of ∷ []) (both_tokens name (both_tokens (maybe (behind (sign marks.Colon) names)) (λ xs. braced (joined abstract_home_member xs))))) abstract_home_body anything
    (both_reads psdl d d d (word_at keywords.Of) (both name_at (both bases_at (braces (abstract_home_members_at (d - 1)) d))) (λ x. Word keywords.Of ∷ []) (both_tokens name (both_tokens (maybe (behind (sign marks.Colon) names)) (λ xs. braced (joined abstract_home_member xs)))) anything anything (word_keeps keywords.Of d anything) (both_reads psdl d d d name_at (both bases_at (braces (abstract_home_members_at (d - 1)) d)) name (both_tokens (maybe (behind (sign marks.Colon) names)) (λ xs. braced (joined abstract_home_member xs))) NameEnds anything (name_keeps d) (both_reads psdl d d d bases_at (braces (abstract_home_members_at (d - 1)) d) (maybe (behind (sign marks.Colon) names)) (λ xs. braced (joined abstract_home_member xs)) BasesEnds anything (bases_keeps d) (abstract_home_members_keeps d) (λ y rest h. (refl, (refl, (refl, tt))))) (λ y rest h. no_scope abstract_home_member y rest)) (λ y rest h. tt))
    (λ y. refl) (λ x. refl)

abbrev pub home_rest : AbstractHome → List Seen
home_rest h = word keywords.StorageHome ++ (identifier h.name ++ maybe abstract_home_body h.body)

abbrev pub AbstractHomeEnds : List Seen → Type 0
AbstractHomeEnds rest = (starts (is_word keywords.Of) rest ≡ false) × anything rest

pub abstract_home_keeps : (d : ℕ) → Keeps d d (abstract_home_at d) home_rest AbstractHomeEnds
unfolding abstract_home_at
abstract_home_keeps d = mapped_reads psdl d d (λ p. record { name = p.1.0; body = p.1.1 }) (λ (x : AbstractHome). (tt, (x.name, x.body))) (both (word_at keywords.StorageHome) (both identifier_at (optional (is_word keywords.Of) (abstract_home_body_at d)))) (both_tokens (λ x. Word keywords.StorageHome ∷ []) (both_tokens identifier (maybe abstract_home_body))) home_rest AbstractHomeEnds
    (both_reads psdl d d d (word_at keywords.StorageHome) (both identifier_at (optional (is_word keywords.Of) (abstract_home_body_at d))) (λ x. Word keywords.StorageHome ∷ []) (both_tokens identifier (maybe abstract_home_body)) anything AbstractHomeEnds (word_keeps keywords.StorageHome d anything) (both_reads psdl d d d identifier_at (optional (is_word keywords.Of) (abstract_home_body_at d)) identifier (maybe abstract_home_body) anything AbstractHomeEnds (identifier_keeps d anything) (optional_reads psdl d (is_word keywords.Of) (abstract_home_body_at d) abstract_home_body anything (abstract_home_body_keeps d) (λ x rest. refl)) (λ y rest h. tt)) (λ y rest h. tt))
    (λ y. refl) (λ x. refl)

abbrev primary_key : Key → List Seen
primary_key k = Word keywords.Primary ∷ key k

primary_key_keeps : (d : ℕ) → Keeps d d (primary_key_at d) primary_key anything
unfolding primary_key_at
primary_key_keeps d = behind_word_keeps d d (key_at d) key anything (key_keeps d) keywords.Primary

abbrev home_member_parts : HomeMember → Key ⊎ (Key ⊎ Factory)
home_member_parts (PlainKey k) = inl k
home_member_parts (PrimaryKey k) = inr (inl k)
home_member_parts (HomeFactory f) = inr (inr f)

home_member_onto : (x : HomeMember) → home_member_of (home_member_parts x) ≡ x
home_member_onto (PlainKey k) = refl
home_member_onto (PrimaryKey k) = refl
home_member_onto (HomeFactory f) = refl

abbrev primary_or_factory : Key ⊎ Factory → List Seen
primary_or_factory = either_tokens primary_key factory

home_member_sum : (x : Key ⊎ (Key ⊎ Factory)) → home_member (home_member_of x) ≡ either_tokens key primary_or_factory x
home_member_sum (inl k) = refl
home_member_sum (inr (inl k)) = refl
home_member_sum (inr (inr f)) = refl

no_plain_key : (y : Key ⊎ Factory) (rest : List Seen) → starts (is_word keywords.Key) (primary_or_factory y ++ rest) ≡ false
no_plain_key (inl k) rest = refl
no_plain_key (inr f) rest = refl

home_member_keeps : (d : ℕ) → Keeps d d (home_member_at d) home_member anything
unfolding home_member_at
home_member_keeps d = mapped_reads psdl d d home_member_of home_member_parts (either (is_word keywords.Key) (key_at d) (either (is_word keywords.Primary) (primary_key_at d) (factory_at d))) (either_tokens key primary_or_factory) home_member anything
    (either_reads psdl d d (is_word keywords.Key) (key_at d) (either (is_word keywords.Primary) (primary_key_at d) (factory_at d)) key primary_or_factory anything (key_keeps d)
    (either_reads psdl d d (is_word keywords.Primary) (primary_key_at d) (factory_at d) primary_key factory anything (primary_key_keeps d) (factory_keeps d) (λ x rest. refl) (λ y rest h. refl))
    (λ x rest. refl) (λ y rest h. no_plain_key y rest))
    home_member_onto home_member_sum

home_member_there : (x : HomeMember) (rest : List Seen) → starts is_inside (home_member x ++ rest) ≡ true
home_member_there (PlainKey k) rest = refl
home_member_there (PrimaryKey k) rest = refl
home_member_there (HomeFactory f) rest = refl

home_members_keeps : (d : ℕ) → Keeps d d (braces (home_members_at (d - 1)) d) (λ xs. braced (joined home_member xs)) anything
unfolding home_members_at
home_members_keeps d = members_keeps home_member_at home_member home_member_keeps home_member_there d

pub storage_home_keeps : (d : ℕ) → Keeps d d (storage_home_at d) storage_home anything
unfolding storage_home_at
storage_home_keeps d = mapped_reads psdl d d (λ p. record { name = p.1.0; base = p.1.1.0; managed = p.1.1.1.1.0; implements = p.1.1.1.1.1.0; members = p.1.1.1.1.1.1 }) (λ (x : StorageHome). (tt, (x.name, (x.base, (tt, (x.managed, (x.implements, x.members))))))) (both (word_at keywords.StorageHome) (both identifier_at (both base_at (both (word_at keywords.Of) (both name_at (both implements_at (braces (home_members_at (d - 1)) d))))))) (both_tokens (λ x. Word keywords.StorageHome ∷ []) (both_tokens identifier (both_tokens (maybe (behind (sign marks.Colon) name)) (both_tokens (λ x. Word keywords.Of ∷ []) (both_tokens name (both_tokens (maybe (behind (word keywords.Implements) names)) (λ xs. braced (joined home_member xs)))))))) storage_home anything
    (both_reads psdl d d d (word_at keywords.StorageHome) (both identifier_at (both base_at (both (word_at keywords.Of) (both name_at (both implements_at (braces (home_members_at (d - 1)) d)))))) (λ x. Word keywords.StorageHome ∷ []) (both_tokens identifier (both_tokens (maybe (behind (sign marks.Colon) name)) (both_tokens (λ x. Word keywords.Of ∷ []) (both_tokens name (both_tokens (maybe (behind (word keywords.Implements) names)) (λ xs. braced (joined home_member xs))))))) anything anything (word_keeps keywords.StorageHome d anything) (both_reads psdl d d d identifier_at (both base_at (both (word_at keywords.Of) (both name_at (both implements_at (braces (home_members_at (d - 1)) d))))) identifier (both_tokens (maybe (behind (sign marks.Colon) name)) (both_tokens (λ x. Word keywords.Of ∷ []) (both_tokens name (both_tokens (maybe (behind (word keywords.Implements) names)) (λ xs. braced (joined home_member xs)))))) anything anything (identifier_keeps d anything) (both_reads psdl d d d base_at (both (word_at keywords.Of) (both name_at (both implements_at (braces (home_members_at (d - 1)) d)))) (maybe (behind (sign marks.Colon) name)) (both_tokens (λ x. Word keywords.Of ∷ []) (both_tokens name (both_tokens (maybe (behind (word keywords.Implements) names)) (λ xs. braced (joined home_member xs))))) BaseEnds anything (base_keeps d) (both_reads psdl d d d (word_at keywords.Of) (both name_at (both implements_at (braces (home_members_at (d - 1)) d))) (λ x. Word keywords.Of ∷ []) (both_tokens name (both_tokens (maybe (behind (word keywords.Implements) names)) (λ xs. braced (joined home_member xs)))) anything anything (word_keeps keywords.Of d anything) (both_reads psdl d d d name_at (both implements_at (braces (home_members_at (d - 1)) d)) name (both_tokens (maybe (behind (word keywords.Implements) names)) (λ xs. braced (joined home_member xs))) NameEnds anything (name_keeps d) (both_reads psdl d d d implements_at (braces (home_members_at (d - 1)) d) (maybe (behind (word keywords.Implements) names)) (λ xs. braced (joined home_member xs)) ImplementsEnds anything (implements_keeps d) (home_members_keeps d) (λ y rest h. (refl, (refl, (refl, tt))))) (λ y rest h. no_scope_word home_member y rest)) (λ y rest h. tt)) (λ y rest h. (refl, (refl, tt)))) (λ y rest h. tt)) (λ y rest h. tt))
    (λ y. refl) (λ x. refl)

provision_keeps : (d : ℕ) → Keeps d d provision_at provision anything
unfolding provision_at
provision_keeps d = mapped_reads psdl d d (λ p. record { home = p.1.0; name = p.1.1.0 }) (λ (x : Provision). (tt, (x.home, (x.name, tt)))) (both (word_at keywords.Provides) (both name_at (both identifier_at (sign_at marks.Semicolon)))) (both_tokens (λ x. Word keywords.Provides ∷ []) (both_tokens name (both_tokens identifier (λ x. Sign marks.Semicolon ∷ [])))) provision anything
    (both_reads psdl d d d (word_at keywords.Provides) (both name_at (both identifier_at (sign_at marks.Semicolon))) (λ x. Word keywords.Provides ∷ []) (both_tokens name (both_tokens identifier (λ x. Sign marks.Semicolon ∷ []))) anything anything (word_keeps keywords.Provides d anything) (both_reads psdl d d d name_at (both identifier_at (sign_at marks.Semicolon)) name (both_tokens identifier (λ x. Sign marks.Semicolon ∷ [])) NameEnds anything (name_keeps d) (both_reads psdl d d d identifier_at (sign_at marks.Semicolon) identifier (λ x. Sign marks.Semicolon ∷ []) anything anything (identifier_keeps d anything) (sign_keeps marks.Semicolon d d refl anything) (λ y rest h. tt)) (λ y rest h. (refl, tt))) (λ y rest h. tt))
    (λ y. refl) (λ x. refl)

provisions_keeps : (d : ℕ) → Keeps d d (braces provisions_at d) (λ xs. braced (joined provision xs)) anything
unfolding provisions_at
provisions_keeps d = members_keeps (λ c. provision_at) provision provision_keeps (λ x rest. refl) d

pub catalog_keeps : (d : ℕ) → Keeps d d (catalog_at d) catalog anything
unfolding catalog_at
catalog_keeps d = mapped_reads psdl d d (λ p. record { name = p.1.0; provisions = p.1.1 }) (λ (x : Catalog). (tt, (x.name, x.provisions))) (both (word_at keywords.Catalog) (both identifier_at (braces provisions_at d))) (both_tokens (λ x. Word keywords.Catalog ∷ []) (both_tokens identifier (λ xs. braced (joined provision xs)))) catalog anything
    (both_reads psdl d d d (word_at keywords.Catalog) (both identifier_at (braces provisions_at d)) (λ x. Word keywords.Catalog ∷ []) (both_tokens identifier (λ xs. braced (joined provision xs))) anything anything (word_keeps keywords.Catalog d anything) (both_reads psdl d d d identifier_at (braces provisions_at d) identifier (λ xs. braced (joined provision xs)) anything anything (identifier_keeps d anything) (provisions_keeps d) (λ y rest h. tt)) (λ y rest h. tt))
    (λ y. refl) (λ x. refl)
