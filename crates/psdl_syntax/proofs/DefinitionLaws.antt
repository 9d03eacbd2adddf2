-- The readers of definitions keep to the grammar, at each depth.
use Rattle.std.proofs.Common.{◌≡◌, ℕ, zero, suc, ◌-◌, true, false, List, [], ◌∷◌, ◌++◌, refl, ap, subst, ◌⊎◌, inl, inr}
use Rattle.part_readers.specs.Reading.{starts, both, either}
use Rattle.part_readers.specs.Sentences.{joined}
use Rattle.part_readers.proofs.Boths.{both_reads, mapped_reads, both_tokens}
use Rattle.part_readers.proofs.Choices.{either_reads, either_tokens}
use Rattle.part_readers.proofs.Lists.{many_reads}
use Rattle.part_readers.proofs.Steps.{narrowed}
use Rattle.psdl_tokens.specs.declared.token.Keyword.TheVariants as keywords
use Rattle.psdl_tokens.specs.declared.token.Mark.TheVariants as marks
use Rattle.psdl_tree.specs.declared.names.Identifier.{Identifier}
use Rattle.psdl_tree.specs.declared.types.IntegerType.{IntegerType}
use Rattle.psdl_syntax.specs.Seen.{Seen, Word, Sign}
use Rattle.psdl_tree.specs.Trees.{Name, AbstractType, StorageType, AbstractHome, StorageHome, Catalog, ConstantType, IntegerConstant, OctetConstant, StringConstant, NameConstant, Constant, TypeDefinition, Struct, Enumeration, Definition, ModuleDefinition, ConstantDefinition, TypeDefinitionDefinition, StructDefinition, EnumerationDefinition, AbstractTypeDefinition, StorageTypeDefinition, AbstractHomeDefinition, StorageHomeDefinition, CatalogDefinition, Definitions, NoDefinition, AndDefinition}
use Rattle.psdl_syntax.specs.Grammar.{word, sign, identifier, name, identifiers, integer, type_spec, declarators, field, braced, abstract_type, storage_type, abstract_home, storage_home, catalog, constant_type, constant, type_definition, struct, enumeration, expression, definition, definitions}
use Rattle.psdl_syntax.specs.Productions.{Reads, is_word, is_mark, is_inside, word_at, sign_at, identifier_at, braces, up_to_brace, name_at, identifiers_at, expression_at, integer_at, is_integer, type_spec_at, declarators_at, abstract_type_at, storage_type_at, abstract_home_at, storage_home_at, catalog_at, constant_type_of, constant_type_at, constant_at, type_definition_at, fields_at, struct_at, enumeration_at, module_with, abstract_at, definition_of, body_with, definition_with, definitions_inside, definition_at, is_any, text_at}
use Rattle.psdl_syntax.proofs.Psdl.{psdl, Keeps, Ends, word_keeps, sign_keeps, identifier_keeps}
use Rattle.psdl_syntax.proofs.Parts.{anything, behind_word_keeps, up_to_brace_keeps}
use Rattle.psdl_syntax.proofs.NameLaws.{NameEnds, IdentifiersEnds, name_head, name_keeps, identifiers_keeps}
use Rattle.psdl_tree.specs.Views.{definitions_of}
use Rattle.psdl_syntax.proofs.TypeLaws.{PlainEnds, LongEnds, between_keeps, braces_keep_at, integer_keeps, integer_head}
use Rattle.psdl_syntax.proofs.ExpressionLaws.{ExpressionEnds, expression_at_keeps}
use Rattle.psdl_syntax.proofs.SpecLaws.{DeclaratorsEnds, type_spec_keeps, declarators_keeps, fields_keeps}
use Rattle.psdl_syntax.proofs.StoreLaws.{BraceEnds, type_rest, home_rest, AbstractTypeEnds, AbstractHomeEnds, StorageTypeEnds, abstract_type_keeps, abstract_home_keeps, storage_type_keeps, storage_home_keeps, catalog_keeps}

abbrev ConstantSum : Type 0
ConstantSum = IntegerType ⊎ (Unit {0} ⊎ (Unit {0} ⊎ Name))

abbrev constant_type_parts : ConstantType → ConstantSum
constant_type_parts (IntegerConstant i) = inl i
constant_type_parts OctetConstant = inr (inl tt)
constant_type_parts StringConstant = inr (inr (inl tt))
constant_type_parts (NameConstant n) = inr (inr (inr n))

constant_type_onto : (x : ConstantType) → constant_type_of (constant_type_parts x) ≡ x
constant_type_onto (IntegerConstant i) = refl
constant_type_onto OctetConstant = refl
constant_type_onto StringConstant = refl
constant_type_onto (NameConstant n) = refl

abbrev string_or_name : Unit {0} ⊎ Name → List Seen
string_or_name = either_tokens (λ x. Word keywords.String ∷ []) name

abbrev octet_or : Unit {0} ⊎ (Unit {0} ⊎ Name) → List Seen
octet_or = either_tokens (λ x. Word keywords.Octet ∷ []) string_or_name

constant_type_sum : (x : ConstantSum) → constant_type (constant_type_of x) ≡ either_tokens integer octet_or x
constant_type_sum (inl i) = refl
constant_type_sum (inr (inl x)) = refl
constant_type_sum (inr (inr (inl x))) = refl
constant_type_sum (inr (inr (inr n))) = refl

no_integer : (y : Unit {0} ⊎ (Unit {0} ⊎ Name)) (rest : List Seen) → starts (is_integer) (octet_or y ++ rest) ≡ false
no_integer (inl x) rest = refl
no_integer (inr (inl x)) rest = refl
no_integer (inr (inr n)) rest = name_head (λ l. starts (is_integer) l ≡ false) (λ p tail. refl) (λ i tail. refl) n rest

no_octet : (y : Unit {0} ⊎ Name) (rest : List Seen) → starts (is_word keywords.Octet) (string_or_name y ++ rest) ≡ false
no_octet (inl x) rest = refl
no_octet (inr n) rest = name_head (λ l. starts (is_word keywords.Octet) l ≡ false) (λ p tail. refl) (λ i tail. refl) n rest

no_string : (y : Name) (rest : List Seen) → starts (is_word keywords.String) (name y ++ rest) ≡ false
no_string n rest = name_head (λ l. starts (is_word keywords.String) l ≡ false) (λ p tail. refl) (λ i tail. refl) n rest

abbrev ConstantEnds : List Seen → Type 0
ConstantEnds = Ends (is_word keywords.Long ∷ is_mark marks.Scope ∷ [])

constant_type_keeps : (d : ℕ) → Keeps d d constant_type_at constant_type ConstantEnds
unfolding constant_type_at
constant_type_keeps d =
    let names : Keeps d d name_at name ConstantEnds = narrowed psdl d d name_at name NameEnds ConstantEnds (λ rest h. (h.1.0, tt)) (name_keeps d) in
    let integers : Keeps d d integer_at integer ConstantEnds = narrowed psdl d d integer_at integer LongEnds ConstantEnds (λ rest h. (h.0, tt)) (integer_keeps d) in
    mapped_reads psdl d d constant_type_of constant_type_parts (either is_integer integer_at (either (is_word keywords.Octet) (word_at keywords.Octet) (either (is_word keywords.String) (word_at keywords.String) name_at))) (either_tokens integer octet_or) constant_type ConstantEnds
    (either_reads psdl d d is_integer integer_at (either (is_word keywords.Octet) (word_at keywords.Octet) (either (is_word keywords.String) (word_at keywords.String) name_at)) integer octet_or ConstantEnds integers
    (either_reads psdl d d (is_word keywords.Octet) (word_at keywords.Octet) (either (is_word keywords.String) (word_at keywords.String) name_at) (λ x. Word keywords.Octet ∷ []) string_or_name ConstantEnds (word_keeps keywords.Octet d ConstantEnds)
    (either_reads psdl d d (is_word keywords.String) (word_at keywords.String) name_at (λ x. Word keywords.String ∷ []) name ConstantEnds (word_keeps keywords.String d ConstantEnds) names (λ x rest. refl) (λ y rest h. no_string y rest))
    (λ x rest. refl) (λ y rest h. no_octet y rest))
    (integer_head (λ l. starts is_integer l ≡ true) (λ t. refl) (λ t. refl) (λ t. refl)) (λ y rest h. no_integer y rest))
    constant_type_onto constant_type_sum

constant_keeps : (d : ℕ) → Keeps d d (constant_at d) constant ExpressionEnds
unfolding constant_at
constant_keeps d = mapped_reads psdl d d (λ p. record { constant_type = p.1.0; name = p.1.1.0; value = p.1.1.1.1 }) (λ (x : Constant). (tt, (x.constant_type, (x.name, (tt, x.value))))) (both (word_at keywords.Const) (both constant_type_at (both identifier_at (both (sign_at marks.Equals) (expression_at d))))) (both_tokens (λ x. Word keywords.Const ∷ []) (both_tokens constant_type (both_tokens identifier (both_tokens (λ x. Sign marks.Equals ∷ []) expression)))) constant ExpressionEnds
    (both_reads psdl d d d (word_at keywords.Const) (both constant_type_at (both identifier_at (both (sign_at marks.Equals) (expression_at d)))) (λ x. Word keywords.Const ∷ []) (both_tokens constant_type (both_tokens identifier (both_tokens (λ x. Sign marks.Equals ∷ []) expression))) anything ExpressionEnds (word_keeps keywords.Const d anything) (both_reads psdl d d d constant_type_at (both identifier_at (both (sign_at marks.Equals) (expression_at d))) constant_type (both_tokens identifier (both_tokens (λ x. Sign marks.Equals ∷ []) expression)) ConstantEnds ExpressionEnds (constant_type_keeps d) (both_reads psdl d d d identifier_at (both (sign_at marks.Equals) (expression_at d)) identifier (both_tokens (λ x. Sign marks.Equals ∷ []) expression) anything ExpressionEnds (identifier_keeps d anything) (both_reads psdl d d d (sign_at marks.Equals) (expression_at d) (λ x. Sign marks.Equals ∷ []) expression anything ExpressionEnds (sign_keeps marks.Equals d d refl anything) (expression_at_keeps d) (λ y rest h. tt)) (λ y rest h. tt)) (λ y rest h. (refl, (refl, tt)))) (λ y rest h. tt))
    (λ y. refl) (λ x. refl)

type_definition_keeps : (d : ℕ) → Keeps d d (type_definition_at d) type_definition DeclaratorsEnds
unfolding type_definition_at
type_definition_keeps d = mapped_reads psdl d d (λ p. record { spec = p.1.0; declarators = p.1.1 }) (λ (x : TypeDefinition). (tt, (x.spec, x.declarators))) (both (word_at keywords.Typedef) (both (type_spec_at d) (declarators_at d))) (both_tokens (λ x. Word keywords.Typedef ∷ []) (both_tokens type_spec declarators)) type_definition DeclaratorsEnds
    (both_reads psdl d d d (word_at keywords.Typedef) (both (type_spec_at d) (declarators_at d)) (λ x. Word keywords.Typedef ∷ []) (both_tokens type_spec declarators) anything DeclaratorsEnds (word_keeps keywords.Typedef d anything) (both_reads psdl d d d (type_spec_at d) (declarators_at d) type_spec declarators PlainEnds DeclaratorsEnds (type_spec_keeps d) (declarators_keeps d) (λ y rest h. (refl, (refl, (refl, tt))))) (λ y rest h. tt))
    (λ y. refl) (λ x. refl)

fields_braced : (d : ℕ) → Keeps d d (braces (fields_at (d - 1)) d) (λ p. braced (field p.0 ++ joined field p.1)) anything
fields_braced d = braces_keep_at fields_at (λ p. field p.0 ++ joined field p.1) BraceEnds (λ rest. (refl, tt)) d fields_keeps anything

identifiers_braced : (d : ℕ) → Keeps d d (braces identifiers_at d) (λ x. braced (identifiers x)) anything
identifiers_braced d = braces_keep_at (λ c. identifiers_at) identifiers IdentifiersEnds (λ rest. (refl, tt)) d identifiers_keeps anything

struct_keeps : (d : ℕ) → Keeps d d (struct_at d) struct anything
unfolding struct_at
struct_keeps d = mapped_reads psdl d d (λ p. record { name = p.1.0; first = p.1.1.0; others = p.1.1.1 }) (λ (x : Struct). (tt, (x.name, (x.first, x.others)))) (both (word_at keywords.Struct) (both identifier_at (braces (fields_at (d - 1)) d))) (both_tokens (λ x. Word keywords.Struct ∷ []) (both_tokens identifier (λ p. braced (field p.0 ++ joined field p.1)))) struct anything
    (both_reads psdl d d d (word_at keywords.Struct) (both identifier_at (braces (fields_at (d - 1)) d)) (λ x. Word keywords.Struct ∷ []) (both_tokens identifier (λ p. braced (field p.0 ++ joined field p.1))) anything anything (word_keeps keywords.Struct d anything) (both_reads psdl d d d identifier_at (braces (fields_at (d - 1)) d) identifier (λ p. braced (field p.0 ++ joined field p.1)) anything anything (identifier_keeps d anything) (fields_braced d) (λ y rest h. tt)) (λ y rest h. tt))
    (λ y. refl) (λ x. refl)

enumeration_keeps : (d : ℕ) → Keeps d d (enumeration_at d) enumeration anything
unfolding enumeration_at
enumeration_keeps d = mapped_reads psdl d d (λ p. record { name = p.1.0; enumerators = p.1.1 }) (λ (x : Enumeration). (tt, (x.name, x.enumerators))) (both (word_at keywords.Enum) (both identifier_at (braces identifiers_at d))) (both_tokens (λ x. Word keywords.Enum ∷ []) (both_tokens identifier (λ x. braced (identifiers x)))) enumeration anything
    (both_reads psdl d d d (word_at keywords.Enum) (both identifier_at (braces identifiers_at d)) (λ x. Word keywords.Enum ∷ []) (both_tokens identifier (λ x. braced (identifiers x))) anything anything (word_keeps keywords.Enum d anything) (both_reads psdl d d d identifier_at (braces identifiers_at d) identifier (λ x. braced (identifiers x)) anything anything (identifier_keeps d anything) (identifiers_braced d) (λ y rest h. tt)) (λ y rest h. tt))
    (λ y. refl) (λ x. refl)

abbrev module_tokens : Identifier × List Definition → List Seen
module_tokens m = Word keywords.Module ∷ (identifier m.0 ++ braced (joined definition m.1))

module_keeps : (d : ℕ) (inner : Reads (List Definition)) → ((c : ℕ) → d ≡ suc c → Keeps c c inner (joined definition) BraceEnds) → Keeps d d (module_with inner d) module_tokens anything
unfolding module_with
module_keeps d inner is = behind_word_keeps d d (both identifier_at (braces inner d)) (both_tokens identifier (λ ds. braced (joined definition ds))) anything
    (both_reads psdl d d d identifier_at (braces inner d) identifier (λ ds. braced (joined definition ds)) anything anything (identifier_keeps d anything)
    (between_keeps marks.LeftBrace marks.RightBrace (λ c. refl) refl (λ c. refl) inner (joined definition) [] BraceEnds (λ rest. (refl, tt)) d is anything) (λ y rest h. tt)) keywords.Module

-- what may stand behind a definition without its ;
abbrev BodyEnds : List Seen → Type 0
BodyEnds rest = ExpressionEnds rest × (DeclaratorsEnds rest × (AbstractTypeEnds rest × (StorageTypeEnds rest × AbstractHomeEnds rest)))

abbrev abstract_tokens : AbstractType ⊎ AbstractHome → List Seen
abstract_tokens x = Word keywords.Abstract ∷ either_tokens type_rest home_rest x

abstract_keeps : (d : ℕ) → Keeps d d (abstract_at d) abstract_tokens BodyEnds
unfolding abstract_at
abstract_keeps d = behind_word_keeps d d (either (is_word keywords.StorageType) (abstract_type_at d) (abstract_home_at d)) (either_tokens type_rest home_rest) BodyEnds
    (either_reads psdl d d (is_word keywords.StorageType) (abstract_type_at d) (abstract_home_at d) type_rest home_rest BodyEnds
    (narrowed psdl d d (abstract_type_at d) type_rest AbstractTypeEnds BodyEnds (λ rest h. h.1.1.0) (abstract_type_keeps d))
    (narrowed psdl d d (abstract_home_at d) home_rest AbstractHomeEnds BodyEnds (λ rest h. h.1.1.1.1) (abstract_home_keeps d)) (λ x rest. refl) (λ y rest h. refl)) keywords.Abstract

abbrev from_storagehome : StorageHome ⊎ Catalog → List Seen
from_storagehome = either_tokens storage_home catalog

abbrev from_storagetype : StorageType ⊎ (StorageHome ⊎ Catalog) → List Seen
from_storagetype = either_tokens storage_type from_storagehome

abbrev from_abstract : (AbstractType ⊎ AbstractHome) ⊎ (StorageType ⊎ (StorageHome ⊎ Catalog)) → List Seen
from_abstract = either_tokens abstract_tokens from_storagetype

abbrev from_enum : Enumeration ⊎ ((AbstractType ⊎ AbstractHome) ⊎ (StorageType ⊎ (StorageHome ⊎ Catalog))) → List Seen
from_enum = either_tokens enumeration from_abstract

abbrev from_struct : Struct ⊎ (Enumeration ⊎ ((AbstractType ⊎ AbstractHome) ⊎ (StorageType ⊎ (StorageHome ⊎ Catalog)))) → List Seen
from_struct = either_tokens struct from_enum

abbrev from_typedef : TypeDefinition ⊎ (Struct ⊎ (Enumeration ⊎ ((AbstractType ⊎ AbstractHome) ⊎ (StorageType ⊎ (StorageHome ⊎ Catalog))))) → List Seen
from_typedef = either_tokens type_definition from_struct

abbrev from_const : Constant ⊎ (TypeDefinition ⊎ (Struct ⊎ (Enumeration ⊎ ((AbstractType ⊎ AbstractHome) ⊎ (StorageType ⊎ (StorageHome ⊎ Catalog)))))) → List Seen
from_const = either_tokens constant from_typedef

abbrev from_module : (Identifier × List Definition) ⊎ (Constant ⊎ (TypeDefinition ⊎ (Struct ⊎ (Enumeration ⊎ ((AbstractType ⊎ AbstractHome) ⊎ (StorageType ⊎ (StorageHome ⊎ Catalog))))))) → List Seen
from_module = either_tokens module_tokens from_const

not_module : (y : Constant ⊎ (TypeDefinition ⊎ (Struct ⊎ (Enumeration ⊎ ((AbstractType ⊎ AbstractHome) ⊎ (StorageType ⊎ (StorageHome ⊎ Catalog))))))) (rest : List Seen) → starts (is_word keywords.Module) (from_const y ++ rest) ≡ false
not_module (inl x) rest = refl
not_module (inr (inl x)) rest = refl
not_module (inr (inr (inl x))) rest = refl
not_module (inr (inr (inr (inl x)))) rest = refl
not_module (inr (inr (inr (inr (inl x))))) rest = refl
not_module (inr (inr (inr (inr (inr (inl x)))))) rest = refl
not_module (inr (inr (inr (inr (inr (inr (inl x))))))) rest = refl
not_module (inr (inr (inr (inr (inr (inr (inr x))))))) rest = refl

not_const : (y : TypeDefinition ⊎ (Struct ⊎ (Enumeration ⊎ ((AbstractType ⊎ AbstractHome) ⊎ (StorageType ⊎ (StorageHome ⊎ Catalog)))))) (rest : List Seen) → starts (is_word keywords.Const) (from_typedef y ++ rest) ≡ false
not_const (inl x) rest = refl
not_const (inr (inl x)) rest = refl
not_const (inr (inr (inl x))) rest = refl
not_const (inr (inr (inr (inl x)))) rest = refl
not_const (inr (inr (inr (inr (inl x))))) rest = refl
not_const (inr (inr (inr (inr (inr (inl x)))))) rest = refl
not_const (inr (inr (inr (inr (inr (inr x)))))) rest = refl

not_typedef : (y : Struct ⊎ (Enumeration ⊎ ((AbstractType ⊎ AbstractHome) ⊎ (StorageType ⊎ (StorageHome ⊎ Catalog))))) (rest : List Seen) → starts (is_word keywords.Typedef) (from_struct y ++ rest) ≡ false
not_typedef (inl x) rest = refl
not_typedef (inr (inl x)) rest = refl
not_typedef (inr (inr (inl x))) rest = refl
not_typedef (inr (inr (inr (inl x)))) rest = refl
not_typedef (inr (inr (inr (inr (inl x))))) rest = refl
not_typedef (inr (inr (inr (inr (inr x))))) rest = refl

not_struct : (y : Enumeration ⊎ ((AbstractType ⊎ AbstractHome) ⊎ (StorageType ⊎ (StorageHome ⊎ Catalog)))) (rest : List Seen) → starts (is_word keywords.Struct) (from_enum y ++ rest) ≡ false
not_struct (inl x) rest = refl
not_struct (inr (inl x)) rest = refl
not_struct (inr (inr (inl x))) rest = refl
not_struct (inr (inr (inr (inl x)))) rest = refl
not_struct (inr (inr (inr (inr x)))) rest = refl

not_enum : (y : (AbstractType ⊎ AbstractHome) ⊎ (StorageType ⊎ (StorageHome ⊎ Catalog))) (rest : List Seen) → starts (is_word keywords.Enum) (from_abstract y ++ rest) ≡ false
not_enum (inl x) rest = refl
not_enum (inr (inl x)) rest = refl
not_enum (inr (inr (inl x))) rest = refl
not_enum (inr (inr (inr x))) rest = refl

not_abstract : (y : StorageType ⊎ (StorageHome ⊎ Catalog)) (rest : List Seen) → starts (is_word keywords.Abstract) (from_storagetype y ++ rest) ≡ false
not_abstract (inl x) rest = refl
not_abstract (inr (inl x)) rest = refl
not_abstract (inr (inr x)) rest = refl

not_storagetype : (y : StorageHome ⊎ Catalog) (rest : List Seen) → starts (is_word keywords.StorageType) (from_storagehome y ++ rest) ≡ false
not_storagetype (inl x) rest = refl
not_storagetype (inr x) rest = refl

not_storagehome : (y : Catalog) (rest : List Seen) → starts (is_word keywords.StorageHome) (catalog y ++ rest) ≡ false
not_storagehome x rest = refl

abbrev bare : Definition → List Seen
bare (ModuleDefinition n ds) = word keywords.Module ++ (identifier n ++ (sign marks.LeftBrace ++ (definitions ds ++ sign marks.RightBrace)))
bare (ConstantDefinition x) = constant x
bare (TypeDefinitionDefinition x) = type_definition x
bare (StructDefinition x) = struct x
bare (EnumerationDefinition x) = enumeration x
bare (AbstractTypeDefinition x) = abstract_type x
bare (StorageTypeDefinition x) = storage_type x
bare (AbstractHomeDefinition x) = abstract_home x
bare (StorageHomeDefinition x) = storage_home x
bare (CatalogDefinition x) = catalog x

definition_is : (x : Definition) → definition x ≡ bare x ++ sign marks.Semicolon
definition_is (ModuleDefinition n ds) = refl
definition_is (ConstantDefinition x) = refl
definition_is (TypeDefinitionDefinition x) = refl
definition_is (StructDefinition x) = refl
definition_is (EnumerationDefinition x) = refl
definition_is (AbstractTypeDefinition x) = refl
definition_is (StorageTypeDefinition x) = refl
definition_is (AbstractHomeDefinition x) = refl
definition_is (StorageHomeDefinition x) = refl
definition_is (CatalogDefinition x) = refl

abbrev pub list_of : Definitions → List Definition
list_of NoDefinition = []
list_of (AndDefinition d ds) = d ∷ list_of ds

pub list_onto : (ds : Definitions) → definitions_of (list_of ds) ≡ ds
list_onto NoDefinition = refl
list_onto (AndDefinition d ds) = ap (AndDefinition d) (list_onto ds)

pub definitions_joined : (ds : List Definition) → definitions (definitions_of ds) ≡ joined definition ds
definitions_joined [] = refl
definitions_joined (d ∷ ds) = ap (λ (l : List Seen). definition d ++ l) (definitions_joined ds)

abbrev body_parts : Definition → (Identifier × List Definition) ⊎ (Constant ⊎ (TypeDefinition ⊎ (Struct ⊎ (Enumeration ⊎ ((AbstractType ⊎ AbstractHome) ⊎ (StorageType ⊎ (StorageHome ⊎ Catalog)))))))
body_parts (ModuleDefinition n ds) = inl (n, list_of ds)
body_parts (ConstantDefinition x) = inr (inl x)
body_parts (TypeDefinitionDefinition x) = inr (inr (inl x))
body_parts (StructDefinition x) = inr (inr (inr (inl x)))
body_parts (EnumerationDefinition x) = inr (inr (inr (inr (inl x))))
body_parts (AbstractTypeDefinition x) = inr (inr (inr (inr (inr (inl (inl x))))))
body_parts (AbstractHomeDefinition x) = inr (inr (inr (inr (inr (inl (inr x))))))
body_parts (StorageTypeDefinition x) = inr (inr (inr (inr (inr (inr (inl x))))))
body_parts (StorageHomeDefinition x) = inr (inr (inr (inr (inr (inr (inr (inl x)))))))
body_parts (CatalogDefinition x) = inr (inr (inr (inr (inr (inr (inr (inr x)))))))

body_onto : (x : Definition) → definition_of (body_parts x) ≡ x
body_onto (ModuleDefinition n ds) = ap (ModuleDefinition n) (list_onto ds)
body_onto (ConstantDefinition x) = refl
body_onto (TypeDefinitionDefinition x) = refl
body_onto (StructDefinition x) = refl
body_onto (EnumerationDefinition x) = refl
body_onto (AbstractTypeDefinition x) = refl
body_onto (AbstractHomeDefinition x) = refl
body_onto (StorageTypeDefinition x) = refl
body_onto (StorageHomeDefinition x) = refl
body_onto (CatalogDefinition x) = refl

body_sum : (x : (Identifier × List Definition) ⊎ (Constant ⊎ (TypeDefinition ⊎ (Struct ⊎ (Enumeration ⊎ ((AbstractType ⊎ AbstractHome) ⊎ (StorageType ⊎ (StorageHome ⊎ Catalog)))))))) → bare (definition_of x) ≡ from_module x
body_sum (inl m) = ap (λ (l : List Seen). word keywords.Module ++ (identifier m.0 ++ (sign marks.LeftBrace ++ (l ++ sign marks.RightBrace)))) (definitions_joined m.1)
body_sum (inr (inl x)) = refl
body_sum (inr (inr (inl x))) = refl
body_sum (inr (inr (inr (inl x)))) = refl
body_sum (inr (inr (inr (inr (inl x))))) = refl
body_sum (inr (inr (inr (inr (inr (inl (inl x))))))) = refl
body_sum (inr (inr (inr (inr (inr (inl (inr x))))))) = refl
body_sum (inr (inr (inr (inr (inr (inr (inl x))))))) = refl
body_sum (inr (inr (inr (inr (inr (inr (inr (inl x)))))))) = refl
body_sum (inr (inr (inr (inr (inr (inr (inr (inr x)))))))) = refl

body_keeps : (d : ℕ) (inner : Reads (List Definition)) → ((c : ℕ) → d ≡ suc c → Keeps c c inner (joined definition) BraceEnds) → Keeps d d (body_with inner d) bare BodyEnds
unfolding body_with
body_keeps d inner is =
    let k8 : Keeps d d (catalog_at d) catalog BodyEnds = narrowed psdl d d (catalog_at d) catalog anything BodyEnds (λ rest h. tt) (catalog_keeps d) in
    let k7 : Keeps d d (either (is_word keywords.StorageHome) (storage_home_at d) (catalog_at d)) from_storagehome BodyEnds = either_reads psdl d d (is_word keywords.StorageHome) (storage_home_at d) (catalog_at d) storage_home catalog BodyEnds (narrowed psdl d d (storage_home_at d) storage_home anything BodyEnds (λ rest h. tt) (storage_home_keeps d)) k8 (λ x rest. refl) (λ y rest h. not_storagehome y rest) in
    let k6 : Keeps d d (either (is_word keywords.StorageType) (storage_type_at d) (either (is_word keywords.StorageHome) (storage_home_at d) (catalog_at d))) from_storagetype BodyEnds = either_reads psdl d d (is_word keywords.StorageType) (storage_type_at d) (either (is_word keywords.StorageHome) (storage_home_at d) (catalog_at d)) storage_type from_storagehome BodyEnds (narrowed psdl d d (storage_type_at d) storage_type StorageTypeEnds BodyEnds (λ rest h. h.1.1.1.0) (storage_type_keeps d)) k7 (λ x rest. refl) (λ y rest h. not_storagetype y rest) in
    let k5 : Keeps d d (either (is_word keywords.Abstract) (abstract_at d) (either (is_word keywords.StorageType) (storage_type_at d) (either (is_word keywords.StorageHome) (storage_home_at d) (catalog_at d)))) from_abstract BodyEnds = either_reads psdl d d (is_word keywords.Abstract) (abstract_at d) (either (is_word keywords.StorageType) (storage_type_at d) (either (is_word keywords.StorageHome) (storage_home_at d) (catalog_at d))) abstract_tokens from_storagetype BodyEnds (abstract_keeps d) k6 (λ x rest. refl) (λ y rest h. not_abstract y rest) in
    let k4 : Keeps d d (either (is_word keywords.Enum) (enumeration_at d) (either (is_word keywords.Abstract) (abstract_at d) (either (is_word keywords.StorageType) (storage_type_at d) (either (is_word keywords.StorageHome) (storage_home_at d) (catalog_at d))))) from_enum BodyEnds = either_reads psdl d d (is_word keywords.Enum) (enumeration_at d) (either (is_word keywords.Abstract) (abstract_at d) (either (is_word keywords.StorageType) (storage_type_at d) (either (is_word keywords.StorageHome) (storage_home_at d) (catalog_at d)))) enumeration from_abstract BodyEnds (narrowed psdl d d (enumeration_at d) enumeration anything BodyEnds (λ rest h. tt) (enumeration_keeps d)) k5 (λ x rest. refl) (λ y rest h. not_enum y rest) in
    let k3 : Keeps d d (either (is_word keywords.Struct) (struct_at d) (either (is_word keywords.Enum) (enumeration_at d) (either (is_word keywords.Abstract) (abstract_at d) (either (is_word keywords.StorageType) (storage_type_at d) (either (is_word keywords.StorageHome) (storage_home_at d) (catalog_at d)))))) from_struct BodyEnds = either_reads psdl d d (is_word keywords.Struct) (struct_at d) (either (is_word keywords.Enum) (enumeration_at d) (either (is_word keywords.Abstract) (abstract_at d) (either (is_word keywords.StorageType) (storage_type_at d) (either (is_word keywords.StorageHome) (storage_home_at d) (catalog_at d))))) struct from_enum BodyEnds (narrowed psdl d d (struct_at d) struct anything BodyEnds (λ rest h. tt) (struct_keeps d)) k4 (λ x rest. refl) (λ y rest h. not_struct y rest) in
    let k2 : Keeps d d (either (is_word keywords.Typedef) (type_definition_at d) (either (is_word keywords.Struct) (struct_at d) (either (is_word keywords.Enum) (enumeration_at d) (either (is_word keywords.Abstract) (abstract_at d) (either (is_word keywords.StorageType) (storage_type_at d) (either (is_word keywords.StorageHome) (storage_home_at d) (catalog_at d))))))) from_typedef BodyEnds = either_reads psdl d d (is_word keywords.Typedef) (type_definition_at d) (either (is_word keywords.Struct) (struct_at d) (either (is_word keywords.Enum) (enumeration_at d) (either (is_word keywords.Abstract) (abstract_at d) (either (is_word keywords.StorageType) (storage_type_at d) (either (is_word keywords.StorageHome) (storage_home_at d) (catalog_at d)))))) type_definition from_struct BodyEnds (narrowed psdl d d (type_definition_at d) type_definition DeclaratorsEnds BodyEnds (λ rest h. h.1.0) (type_definition_keeps d)) k3 (λ x rest. refl) (λ y rest h. not_typedef y rest) in
    let k1 : Keeps d d (either (is_word keywords.Const) (constant_at d) (either (is_word keywords.Typedef) (type_definition_at d) (either (is_word keywords.Struct) (struct_at d) (either (is_word keywords.Enum) (enumeration_at d) (either (is_word keywords.Abstract) (abstract_at d) (either (is_word keywords.StorageType) (storage_type_at d) (either (is_word keywords.StorageHome) (storage_home_at d) (catalog_at d)))))))) from_const BodyEnds = either_reads psdl d d (is_word keywords.Const) (constant_at d) (either (is_word keywords.Typedef) (type_definition_at d) (either (is_word keywords.Struct) (struct_at d) (either (is_word keywords.Enum) (enumeration_at d) (either (is_word keywords.Abstract) (abstract_at d) (either (is_word keywords.StorageType) (storage_type_at d) (either (is_word keywords.StorageHome) (storage_home_at d) (catalog_at d))))))) constant from_typedef BodyEnds (narrowed psdl d d (constant_at d) constant ExpressionEnds BodyEnds (λ rest h. h.0) (constant_keeps d)) k2 (λ x rest. refl) (λ y rest h. not_const y rest) in
    let k0 : Keeps d d (either (is_word keywords.Module) (module_with inner d) (either (is_word keywords.Const) (constant_at d) (either (is_word keywords.Typedef) (type_definition_at d) (either (is_word keywords.Struct) (struct_at d) (either (is_word keywords.Enum) (enumeration_at d) (either (is_word keywords.Abstract) (abstract_at d) (either (is_word keywords.StorageType) (storage_type_at d) (either (is_word keywords.StorageHome) (storage_home_at d) (catalog_at d))))))))) from_module BodyEnds = either_reads psdl d d (is_word keywords.Module) (module_with inner d) (either (is_word keywords.Const) (constant_at d) (either (is_word keywords.Typedef) (type_definition_at d) (either (is_word keywords.Struct) (struct_at d) (either (is_word keywords.Enum) (enumeration_at d) (either (is_word keywords.Abstract) (abstract_at d) (either (is_word keywords.StorageType) (storage_type_at d) (either (is_word keywords.StorageHome) (storage_home_at d) (catalog_at d)))))))) module_tokens from_const BodyEnds (narrowed psdl d d (module_with inner d) module_tokens anything BodyEnds (λ rest h. tt) (module_keeps d inner is)) k1 (λ x rest. refl) (λ y rest h. not_module y rest) in
    mapped_reads psdl d d definition_of body_parts (either (is_word keywords.Module) (module_with inner d) (either (is_word keywords.Const) (constant_at d) (either (is_word keywords.Typedef) (type_definition_at d) (either (is_word keywords.Struct) (struct_at d) (either (is_word keywords.Enum) (enumeration_at d) (either (is_word keywords.Abstract) (abstract_at d) (either (is_word keywords.StorageType) (storage_type_at d) (either (is_word keywords.StorageHome) (storage_home_at d) (catalog_at d))))))))) from_module bare BodyEnds k0 body_onto body_sum

definition_keeps : (d : ℕ) (inner : Reads (List Definition)) → ((c : ℕ) → d ≡ suc c → Keeps c c inner (joined definition) BraceEnds) → Keeps d d (definition_with inner d) definition anything
unfolding definition_with
definition_keeps d inner is =
    mapped_reads psdl d d (λ (p : Definition × Unit {0}). p.0) (λ x. (x, tt)) (both (body_with inner d) (sign_at marks.Semicolon)) (both_tokens bare (λ x. Sign marks.Semicolon ∷ [])) definition anything
    (both_reads psdl d d d (body_with inner d) (sign_at marks.Semicolon) bare (λ x. Sign marks.Semicolon ∷ []) BodyEnds anything (body_keeps d inner is) (sign_keeps marks.Semicolon d d refl anything) (λ y rest h. ((refl, (refl, (refl, (refl, (refl, (refl, (refl, tt))))))), ((refl, (refl, tt)), ((refl, tt), ((refl, tt), (refl, tt)))))))
    (λ y. refl) (λ x. definition_is x.0)

definition_there : (x : Definition) (rest : List Seen) → starts is_inside (definition x ++ rest) ≡ true
definition_there (ModuleDefinition n ds) rest = refl
definition_there (ConstantDefinition x) rest = refl
definition_there (TypeDefinitionDefinition x) rest = refl
definition_there (StructDefinition x) rest = refl
definition_there (EnumerationDefinition x) rest = refl
definition_there (AbstractTypeDefinition x) rest = refl
definition_there (AbstractHomeDefinition x) rest = refl
definition_there (StorageTypeDefinition x) rest = refl
definition_there (StorageHomeDefinition x) rest = refl
definition_there (CatalogDefinition x) rest = refl

inside_keeps : (d : ℕ) (inner : Reads (List Definition)) → Keeps d d (definition_with inner d) definition anything → Keeps d d (up_to_brace (definition_with inner d)) (joined definition) BraceEnds
inside_keeps d inner is = up_to_brace_keeps d (definition_with inner d) definition is definition_there

pub definition_at_keeps : (d : ℕ) → Keeps d d (definition_at d) definition anything
unfolding definition_at definitions_inside
definition_at_keeps zero = definition_keeps zero (definitions_inside zero) (λ c e. absurd cc)
definition_at_keeps (suc d) = definition_keeps (suc d) (definitions_inside (suc d)) (λ c e. let same : d ≡ c = cc in subst (λ (m : ℕ). Keeps m m (definitions_inside (suc d)) (joined definition) BraceEnds) same (inside_keeps d (definitions_inside d) (definition_at_keeps d)))

any_there : (x : Definition) (rest : List Seen) → starts is_any (definition x ++ rest) ≡ true
any_there (ModuleDefinition n ds) rest = refl
any_there (ConstantDefinition x) rest = refl
any_there (TypeDefinitionDefinition x) rest = refl
any_there (StructDefinition x) rest = refl
any_there (EnumerationDefinition x) rest = refl
any_there (AbstractTypeDefinition x) rest = refl
any_there (AbstractHomeDefinition x) rest = refl
any_there (StorageTypeDefinition x) rest = refl
any_there (StorageHomeDefinition x) rest = refl
any_there (CatalogDefinition x) rest = refl

pub text_at_keeps : (d : ℕ) → Keeps d d (text_at d) (joined definition) (λ rest. (starts is_any rest ≡ false) × anything rest)
unfolding text_at
text_at_keeps d = many_reads psdl d is_any (definition_at d) definition anything (definition_at_keeps d) any_there (λ x rest. tt)
