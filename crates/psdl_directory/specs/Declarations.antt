-- The declarations of a text in its order: each identifier that is declared in the text or in a module.
use Rattle.std.specs.Prelude.{ℕ, ◌+◌, List, [], ◌∷◌, ◌++◌, map, Option}
use Rattle.pss_base.specs.declared.place.Place.{Place}
use Rattle.psdl_tree.specs.declared.names.Identifier.{Identifier}
use Rattle.psdl_tree.specs.Trees.{Identifiers, Expression, TypeSpec, Declarator, Declarators, AbstractTypeBody, StorageTypeBody, AbstractHomeBody, StorageHome, Provision, Constant, Struct, Definition, ModuleDefinition, ConstantDefinition, TypeDefinitionDefinition, StructDefinition, EnumerationDefinition, AbstractTypeDefinition, StorageTypeDefinition, AbstractHomeDefinition, StorageHomeDefinition, CatalogDefinition, Definitions, NoDefinition, AndDefinition}

-- the names of the modules round a declaration, the innermost first
abbrev pub Path : Type 0
Path = List (List ℕ)

-- what is declared; a type or home without its body is a forward declaration
pub data What : Type 0 where
  IsModule : What
  IsConstant : (constant : Constant) → What
  -- a declarator of a typedef, with so many others of it in front
  IsAlias : (before : ℕ) → (spec : TypeSpec) → (dimensions : List Expression) → What
  IsStruct : (struct : Struct) → What
  IsEnumeration : (enumerators : Identifiers) → What
  IsEnumerator : What
  IsAbstractType : (body : Option AbstractTypeBody) → What
  IsConcreteType : (body : Option StorageTypeBody) → What
  IsAbstractHome : (body : Option AbstractHomeBody) → What
  IsConcreteHome : (home : StorageHome) → What
  IsCatalog : (provisions : List Provision) → What

pub record Declaration : Type 0 where
  pub path : Path
  pub name : List ℕ
  pub place : Place
  pub what : What

abbrev pub declared : Path → What → Identifier → Declaration
declared path what identifier = record { path = path; name = identifier.name; place = identifier.place; what = what }

abbrev pub all_identifiers : Identifiers → List Identifier
all_identifiers i = i.first ∷ i.others

abbrev pub all_declarators : Declarators → List Declarator
all_declarators d = d.first ∷ d.others

-- the declarators of a typedef, with so many in front
abbrev pub aliases : Path → TypeSpec → ℕ → List Declarator → List Declaration
aliases path spec before [] = []
aliases path spec before (d ∷ ds) = declared path (IsAlias before spec d.dimensions) d.name ∷ aliases path spec (before + 1) ds

abbrev mutual
  -- what a definition in the module with that path declares
  pub declared_by : Path → Definition → List Declaration
  declared_by path (ModuleDefinition name definitions) = declared path IsModule name ∷ declarations (name.name ∷ path) definitions
  declared_by path (ConstantDefinition constant) = declared path (IsConstant constant) constant.name ∷ []
  declared_by path (TypeDefinitionDefinition definition) = aliases path definition.spec 0 (all_declarators definition.declarators)
  declared_by path (StructDefinition struct) = declared path (IsStruct struct) struct.name ∷ []
  declared_by path (EnumerationDefinition enumeration) = declared path (IsEnumeration enumeration.enumerators) enumeration.name ∷ map (declared path IsEnumerator) (all_identifiers enumeration.enumerators)
  declared_by path (AbstractTypeDefinition type) = declared path (IsAbstractType type.body) type.name ∷ []
  declared_by path (StorageTypeDefinition type) = declared path (IsConcreteType type.body) type.name ∷ []
  declared_by path (AbstractHomeDefinition home) = declared path (IsAbstractHome home.body) home.name ∷ []
  declared_by path (StorageHomeDefinition home) = declared path (IsConcreteHome home) home.name ∷ []
  declared_by path (CatalogDefinition catalog) = declared path (IsCatalog catalog.provisions) catalog.name ∷ []

  pub declarations : Path → Definitions → List Declaration
  declarations path NoDefinition = []
  declarations path (AndDefinition definition others) = declared_by path definition ++ declarations path others

-- all declarations of a text
abbrev pub all_declarations : Definitions → List Declaration
all_declarations tree = declarations [] tree
