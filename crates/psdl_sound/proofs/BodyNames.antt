-- The identifiers in the bodies of what a tree declares are names, where its tokens are fit.
use Rattle.std.proofs.Common.{◌≡◌, ℕ, ◌+◌, List, [], ◌∷◌, ◌++◌, map, true, Option, Some, None, refl, ◌∙◌}
use Rattle.std.specs.List.{list_all, flat_map}
use Rattle.std.proofs.lemmas.Bool.{and_from}
use Rattle.std.proofs.lemmas.List.Folds.{list_all-append}
use Rattle.part_readers.specs.Sentences.{joined, maybe}
use Rattle.psdl_tokens.specs.declared.token.Keyword.TheVariants as keywords
use Rattle.psdl_tokens.specs.declared.token.Mark.TheVariants as marks
use Rattle.psdl_tree.specs.declared.names.Identifier.{Identifier}
use Rattle.psdl_tree.specs.Trees.{Identifiers, TypeSpec, Declarator, Field, State, Operation, Key, Factory, AbstractTypeMember, StateMember, OperationMember, AbstractTypeBody, StorageTypeBody, AbstractHomeMember, KeyMember, FactoryMember, HomeOperation, AbstractHomeBody, HomeMember, PlainKey, PrimaryKey, HomeFactory, StorageHome, Provision, Catalog, Struct, Definition, ModuleDefinition, ConstantDefinition, TypeDefinitionDefinition, StructDefinition, EnumerationDefinition, AbstractTypeDefinition, StorageTypeDefinition, AbstractHomeDefinition, StorageHomeDefinition, CatalogDefinition, Definitions, NoDefinition, AndDefinition}
use Rattle.psdl_syntax.specs.Seen.{Seen}
use Rattle.psdl_syntax.specs.Grammar as grammar
use Rattle.psdl_directory.specs.Declarations.{Path, What, IsStruct, IsEnumerator, IsAbstractType, IsConcreteType, IsAbstractHome, IsConcreteHome, IsCatalog, Declaration, declared, all_identifiers, all_declarators, aliases, declared_by, declarations, all_declarations}
use Rattle.psdl_directory.specs.Parts.{all_fields, field_names, state_names, abstract_type_names, abstract_home_names, home_names, body_names}
use Rattle.psdl_sound.proofs.NamedBodies.{has_name, HaveNames, both_have, is_named_inside, AreNamedInside}
use Rattle.psdl_sound.proofs.DeclaredNames.{split, begun, ended}
use Rattle.psdl_sound.proofs.TokenWords.{AreFit}

-- ---- parts of a body

-- one in front of others
first_of : (i : Identifier) (is : List Identifier) → has_name i ≡ true → HaveNames is → HaveNames (i ∷ is)
first_of i is first others = and_from (has_name i) (list_all has_name is) first others

-- what comes of parts, one behind the other
each_has : {A : Type 0} (spell : A → List Seen) (found : A → List Identifier) → ((x : A) → AreFit (spell x) → HaveNames (found x)) → (xs : List A) → AreFit (joined spell xs) → HaveNames (flat_map found xs)
each_has spell found step [] fit = refl
each_has spell found step (x ∷ xs) fit =
    let parts = split (spell x) (joined spell xs) fit in
    both_have (found x) (flat_map found xs) (step x parts.0) (each_has spell found step xs parts.1)

-- one of each part
each_named : {A : Type 0} (spell : A → List Seen) (name : A → Identifier) → ((x : A) → AreFit (spell x) → has_name (name x) ≡ true) → (xs : List A) → AreFit (joined spell xs) → HaveNames (map name xs)
each_named spell name step [] fit = refl
each_named spell name step (x ∷ xs) fit =
    let parts = split (spell x) (joined spell xs) fit in
    first_of (name x) (map name xs) (step x parts.0) (each_named spell name step xs parts.1)

-- identifiers between commas
listed : (is : List Identifier) → AreFit (grammar.after_commas grammar.identifier is) → HaveNames is
listed [] fit = refl
listed (i ∷ is) fit = let both = begun i (grammar.after_commas grammar.identifier is) fit in first_of i is both.0 (listed is both.1)

identifiers_have : (is : Identifiers) → AreFit (grammar.identifiers is) → HaveNames (all_identifiers is)
identifiers_have is fit =
    let both = begun is.first (grammar.after_commas grammar.identifier is.others) fit in
    first_of is.first is.others both.0 (listed is.others both.1)

-- the declarators of a field
declarator_has : (d : Declarator) → AreFit (grammar.declarator d) → has_name d.name ≡ true
declarator_has d fit = (begun d.name (joined grammar.dimension d.dimensions) fit).0

field_has : (f : Field) → AreFit (grammar.field f) → HaveNames (field_names f)
field_has f fit =
    let d : Declarator = f.declarators.first in
    let ds : List Declarator = f.declarators.others in
    let parts = split (grammar.type_spec f.spec) (grammar.declarators f.declarators ++ grammar.sign marks.Semicolon) fit in
    let inside = split (grammar.declarators f.declarators) (grammar.sign marks.Semicolon) parts.1 in
    let each = split (grammar.declarator d) (grammar.after_commas grammar.declarator ds) inside.0 in
    first_of d.name (map (λ d. d.name) ds) (declarator_has d each.0) (each_named (grammar.behind (grammar.sign marks.Comma) grammar.declarator) (λ d. d.name) declarator_has ds each.1)

-- a state
state_has : (s : State) → AreFit (grammar.state s) → HaveNames (state_names s)
state_has s fit =
    let rest : List Seen = grammar.identifiers s.names ++ grammar.sign marks.Semicolon in
    let written = split (grammar.readonly s.is_readonly) (grammar.word keywords.State ++ (grammar.state_type s.state_type ++ rest)) fit in
    let typed = split (grammar.state_type s.state_type) rest written.1 in
    identifiers_have s.names (split (grammar.identifiers s.names) (grammar.sign marks.Semicolon) typed.1).0

-- an operation
operation_has : (o : Operation) → AreFit (grammar.operation o) → has_name o.name ≡ true
operation_has o fit =
    let bracketed : List Seen = grammar.placed marks.LeftParen o.place ++ (maybe grammar.parameters o.parameters ++ grammar.sign marks.RightParen) in
    let rest : List Seen = bracketed ++ grammar.sign marks.Semicolon in
    (begun o.name rest (split (grammar.operation_result o.returned) (grammar.identifier o.name ++ rest) fit).1).0

-- a key
key_has : (k : Key) → AreFit (grammar.key k) → has_name k.name ≡ true
key_has k fit = (begun k.name (maybe grammar.key_members k.members ++ grammar.sign marks.Semicolon) fit).0

-- a factory
factory_has : (f : Factory) → AreFit (grammar.factory f) → has_name f.name ≡ true
factory_has f fit = (begun f.name ((grammar.placed marks.LeftParen f.place ++ (maybe grammar.identifiers f.members ++ grammar.sign marks.RightParen)) ++ grammar.sign marks.Semicolon) fit).0

-- a member of an abstract type
type_member_has : (m : AbstractTypeMember) → AreFit (grammar.abstract_type_member m) → HaveNames (abstract_type_names m)
type_member_has (StateMember s) fit = state_has s fit
type_member_has (OperationMember o) fit = first_of o.name [] (operation_has o fit) refl

-- a member of an abstract home
home_part_has : (m : AbstractHomeMember) → AreFit (grammar.abstract_home_member m) → HaveNames (abstract_home_names m)
home_part_has (KeyMember k) fit = first_of k.name [] (key_has k fit) refl
home_part_has (FactoryMember f) fit = first_of f.name [] (factory_has f fit) refl
home_part_has (HomeOperation o) fit = first_of o.name [] (operation_has o fit) refl

-- a member of a home
home_member_has : (m : HomeMember) → AreFit (grammar.home_member m) → HaveNames (home_names m)
home_member_has (PlainKey k) fit = first_of k.name [] (key_has k fit) refl
home_member_has (PrimaryKey k) fit = first_of k.name [] (key_has k fit) refl
home_member_has (HomeFactory f) fit = first_of f.name [] (factory_has f fit) refl

-- a home that a catalog provides
provision_has : (p : Provision) → AreFit (grammar.provision p) → has_name p.name ≡ true
provision_has p fit = (begun p.name (grammar.sign marks.Semicolon) (split (grammar.name p.home) (grammar.identifier p.name ++ grammar.sign marks.Semicolon) fit).1).0

-- ---- bodies

-- what stands between braces
inside_braces : (inner : List Seen) → AreFit (grammar.braced inner) → AreFit inner
inside_braces inner fit = (split inner (grammar.sign marks.RightBrace) fit).0

struct_inside : (s : Struct) → AreFit (grammar.struct s) → HaveNames (body_names (IsStruct s))
struct_inside s fit =
    let fields : List Seen = grammar.field s.first ++ joined grammar.field s.others in
    each_has grammar.field field_names field_has (all_fields s) (inside_braces fields (begun s.name (grammar.braced fields) fit).1)

abstract_type_inside : (body : Option AbstractTypeBody) → AreFit (maybe grammar.abstract_type_body body) → HaveNames (body_names (IsAbstractType body))
abstract_type_inside None fit = refl
abstract_type_inside (Some body) fit =
    let inner : List Seen = joined grammar.abstract_type_member body.members in
    let braces = split (maybe (grammar.behind (grammar.sign marks.Colon) grammar.names) body.bases) (grammar.braced inner) fit in
    each_has grammar.abstract_type_member abstract_type_names type_member_has body.members (inside_braces inner braces.1)

storage_type_inside : (body : Option StorageTypeBody) → AreFit (maybe grammar.storage_type_body body) → HaveNames (body_names (IsConcreteType body))
storage_type_inside None fit = refl
storage_type_inside (Some body) fit =
    let inner : List Seen = joined grammar.state body.states in
    let implements : List Seen = maybe (grammar.behind (grammar.word keywords.Implements) grammar.names) body.implements in
    let behind_base = split (maybe (grammar.behind (grammar.sign marks.Colon) grammar.name) body.base) (implements ++ grammar.braced inner) fit in
    let braces = split implements (grammar.braced inner) behind_base.1 in
    each_has grammar.state state_names state_has body.states (inside_braces inner braces.1)

abstract_home_inside : (body : Option AbstractHomeBody) → AreFit (maybe grammar.abstract_home_body body) → HaveNames (body_names (IsAbstractHome body))
abstract_home_inside None fit = refl
abstract_home_inside (Some body) fit =
    let inner : List Seen = joined grammar.abstract_home_member body.members in
    let bases : List Seen = maybe (grammar.behind (grammar.sign marks.Colon) grammar.names) body.bases in
    let behind_managed = split (grammar.name body.managed) (bases ++ grammar.braced inner) fit in
    let braces = split bases (grammar.braced inner) behind_managed.1 in
    each_has grammar.abstract_home_member abstract_home_names home_part_has body.members (inside_braces inner braces.1)

storage_home_inside : (h : StorageHome) → AreFit (grammar.storage_home h) → HaveNames (body_names (IsConcreteHome h))
storage_home_inside h fit =
    let inner : List Seen = joined grammar.home_member h.members in
    let implements : List Seen = maybe (grammar.behind (grammar.word keywords.Implements) grammar.names) h.implements in
    let managed : List Seen = grammar.word keywords.Of ++ (grammar.name h.managed ++ (implements ++ grammar.braced inner)) in
    let behind_name = begun h.name (maybe (grammar.behind (grammar.sign marks.Colon) grammar.name) h.base ++ managed) fit in
    let behind_base = split (maybe (grammar.behind (grammar.sign marks.Colon) grammar.name) h.base) managed behind_name.1 in
    let behind_managed = split (grammar.name h.managed) (implements ++ grammar.braced inner) behind_base.1 in
    let braces = split implements (grammar.braced inner) behind_managed.1 in
    each_has grammar.home_member home_names home_member_has h.members (inside_braces inner braces.1)

catalog_inside : (c : Catalog) → AreFit (grammar.catalog c) → HaveNames (body_names (IsCatalog c.provisions))
catalog_inside c fit =
    let inner : List Seen = joined grammar.provision c.provisions in
    each_named grammar.provision (λ p. p.name) provision_has c.provisions (inside_braces inner (begun c.name (grammar.braced inner) fit).1)

-- ---- declarations

-- one in front of others
onto : (path : Path) (what : What) (i : Identifier) (ds : List Declaration) → HaveNames (body_names what) → AreNamedInside ds → AreNamedInside (declared path what i ∷ ds)
onto path what i ds inside others = and_from (is_named_inside (declared path what i)) (list_all is_named_inside ds) inside others

-- one alone
alone : (path : Path) (what : What) (i : Identifier) → HaveNames (body_names what) → AreNamedInside (declared path what i ∷ [])
alone path what i inside = onto path what i [] inside refl

-- of two parts
both_inside : (ds es : List Declaration) → AreNamedInside ds → AreNamedInside es → AreNamedInside (ds ++ es)
both_inside ds es a b = list_all-append is_named_inside ds es ∙ and_from (list_all is_named_inside ds) (list_all is_named_inside es) a b

-- aliases and enumerators have no body
aliases_inside : (path : Path) (spec : TypeSpec) (k : ℕ) (ds : List Declarator) → AreNamedInside (aliases path spec k ds)
aliases_inside path spec k [] = refl
aliases_inside path spec k (d ∷ ds) = aliases_inside path spec (k + 1) ds

enumerators_inside : (path : Path) (is : List Identifier) → AreNamedInside (map (declared path IsEnumerator) is)
enumerators_inside path [] = refl
enumerators_inside path (i ∷ is) = enumerators_inside path is

-- ---- trees

mutual
  definition_inside : (path : Path) (d : Definition) → AreFit (grammar.definition d) → AreNamedInside (declared_by path d)
  definition_inside path (ModuleDefinition n ds) fit =
      let inner : List Seen = grammar.sign marks.LeftBrace ++ (grammar.definitions ds ++ grammar.sign marks.RightBrace) in
      let behind_name = begun n inner (ended (grammar.word keywords.Module ++ (grammar.identifier n ++ inner)) fit) in
      definitions_inside (n.name ∷ path) ds (split (grammar.definitions ds) (grammar.sign marks.RightBrace) behind_name.1).0
  definition_inside path (ConstantDefinition c) fit = refl
  definition_inside path (TypeDefinitionDefinition t) fit = aliases_inside path t.spec 0 (all_declarators t.declarators)
  definition_inside path (StructDefinition s) fit = alone path (IsStruct s) s.name (struct_inside s (ended (grammar.struct s) fit))
  definition_inside path (EnumerationDefinition e) fit = enumerators_inside path (all_identifiers e.enumerators)
  definition_inside path (AbstractTypeDefinition t) fit =
      alone path (IsAbstractType t.body) t.name (abstract_type_inside t.body (begun t.name (maybe grammar.abstract_type_body t.body) (ended (grammar.abstract_type t) fit)).1)
  definition_inside path (StorageTypeDefinition t) fit =
      alone path (IsConcreteType t.body) t.name (storage_type_inside t.body (begun t.name (maybe grammar.storage_type_body t.body) (ended (grammar.storage_type t) fit)).1)
  definition_inside path (AbstractHomeDefinition h) fit =
      alone path (IsAbstractHome h.body) h.name (abstract_home_inside h.body (begun h.name (maybe grammar.abstract_home_body h.body) (ended (grammar.abstract_home h) fit)).1)
  definition_inside path (StorageHomeDefinition h) fit = alone path (IsConcreteHome h) h.name (storage_home_inside h (ended (grammar.storage_home h) fit))
  definition_inside path (CatalogDefinition c) fit = alone path (IsCatalog c.provisions) c.name (catalog_inside c (ended (grammar.catalog c) fit))

  definitions_inside : (path : Path) (ds : Definitions) → AreFit (grammar.definitions ds) → AreNamedInside (declarations path ds)
  definitions_inside path NoDefinition fit = refl
  definitions_inside path (AndDefinition d ds) fit =
      let parts = split (grammar.definition d) (grammar.definitions ds) fit in
      both_inside (declared_by path d) (declarations path ds) (definition_inside path d parts.0) (definitions_inside path ds parts.1)

-- what a tree declares
pub tree_inside : (tree : Definitions) → AreFit (grammar.definitions tree) → AreNamedInside (all_declarations tree)
tree_inside tree fit = definitions_inside [] tree fit
