-- What a tree declares has small literals, where its tokens are fit.
use Rattle.std.proofs.Common.{◌≡◌, ℕ, zero, suc, ◌+◌, List, [], ◌∷◌, ◌++◌, map, true, Option, Some, None, refl, ◌∙◌}
use Rattle.std.specs.List.{list_all, flat_map}
use Rattle.std.proofs.lemmas.Bool.{and_from}
use Rattle.std.proofs.lemmas.List.Folds.{list_all-append}
use Rattle.part_readers.specs.Sentences.{joined, maybe}
use Rattle.psdl_tokens.specs.declared.token.Keyword.TheVariants as keywords
use Rattle.psdl_tokens.specs.declared.token.Mark.TheVariants as marks
use Rattle.psdl_tree.specs.declared.names.Identifier.{Identifier}
use Rattle.psdl_tree.specs.Trees.{TypeSpec, Declarator, Constant, TypeDefinition, Struct, AbstractTypeBody, StorageTypeBody, AbstractHomeBody, Definition, ModuleDefinition, ConstantDefinition, TypeDefinitionDefinition, StructDefinition, EnumerationDefinition, AbstractTypeDefinition, StorageTypeDefinition, AbstractHomeDefinition, StorageHomeDefinition, CatalogDefinition, Definitions, NoDefinition, AndDefinition}
use Rattle.psdl_syntax.specs.Seen.{Seen}
use Rattle.psdl_syntax.specs.Grammar as grammar
use Rattle.psdl_directory.specs.Declarations.{Path, What, IsConstant, IsAlias, IsStruct, IsEnumerator, IsAbstractType, IsConcreteType, IsAbstractHome, Declaration, declared, all_identifiers, all_declarators, aliases, declared_by, declarations, all_declarations}
use Rattle.psdl_directory.specs.Parts.{all_fields}
use Rattle.psdl_standings.specs.Expressions.{operands}
use Rattle.psdl_standings.specs.Uses.{bounds_of, most_elements, spec_bounds, state_bounds, field_bounds}
use Rattle.psdl_sound.specs.SmallLiterals.{is_small, expressions_of, has_small, AreSmall}
use Rattle.psdl_sound.proofs.TokenWords.{AreFit}
use Rattle.psdl_sound.proofs.DeclaredNames.{split, begun, ended}
use Rattle.psdl_sound.proofs.Literals.{expression_small}
use Rattle.psdl_sound.proofs.BoundLiterals.{both_low, each_low, spec_low, dimensions_low, field_low, state_low, type_members_low, home_operations_low}

-- ---- declarations

-- the literals of what is declared are small
abbrev IsSmall : What → Type 0
IsSmall what = list_all (λ e. list_all is_small (operands e)) (expressions_of what) ≡ true

-- one in front of others
onto : (path : Path) (what : What) (i : Identifier) (ds : List Declaration) → IsSmall what → AreSmall ds → AreSmall (declared path what i ∷ ds)
onto path what i ds small others = and_from (has_small (declared path what i)) (list_all has_small ds) small others

-- one alone
alone : (path : Path) (what : What) (i : Identifier) → IsSmall what → AreSmall (declared path what i ∷ [])
alone path what i small = onto path what i [] small refl

-- of two parts
both : (xs ys : List Declaration) → AreSmall xs → AreSmall ys → AreSmall (xs ++ ys)
both xs ys a b = list_all-append has_small xs ys ∙ and_from (list_all has_small xs) (list_all has_small ys) a b

-- ---- definitions

-- the value of a constant
constant_small : (c : Constant) → AreFit (grammar.constant c) → IsSmall (IsConstant c)
constant_small c fit =
    let rest : List Seen = grammar.sign marks.Equals ++ grammar.expression c.value in
    let behind_type = split (grammar.constant_type c.constant_type) (grammar.identifier c.name ++ rest) fit in
    and_from (list_all is_small (operands c.value)) true (expression_small c.value (begun c.name rest behind_type.1).1) refl

-- a declarator of a typedef
alias_small : (k : ℕ) (spec : TypeSpec) (d : Declarator) → AreFit (grammar.type_spec spec) → AreFit (grammar.declarator d) → IsSmall (IsAlias k spec d.dimensions)
alias_small zero spec d of_spec fit =
    let sizes = (begun d.name (joined grammar.dimension d.dimensions) fit).1 in
    both_low (spec_bounds 0 spec) (bounds_of 1 most_elements d.dimensions) (spec_low 0 spec of_spec) (dimensions_low 1 most_elements d.dimensions sizes)
alias_small (suc before) spec d of_spec fit = dimensions_low 1 most_elements d.dimensions (begun d.name (joined grammar.dimension d.dimensions) fit).1

-- the others behind the first
aliases_small : (path : Path) (spec : TypeSpec) (k : ℕ) (ds : List Declarator) → AreFit (grammar.type_spec spec) → AreFit (grammar.after_commas grammar.declarator ds) → AreSmall (aliases path spec k ds)
aliases_small path spec k [] of_spec fit = refl
aliases_small path spec k (d ∷ ds) of_spec fit =
    let parts = split (grammar.behind (grammar.sign marks.Comma) grammar.declarator d) (grammar.after_commas grammar.declarator ds) fit in
    onto path (IsAlias k spec d.dimensions) d.name (aliases path spec (k + 1) ds) (alias_small k spec d of_spec parts.0) (aliases_small path spec (k + 1) ds of_spec parts.1)

-- a whole typedef
typedef_small : (path : Path) (t : TypeDefinition) → AreFit (grammar.type_definition t) → AreSmall (aliases path t.spec 0 (all_declarators t.declarators))
typedef_small path t fit =
    let d : Declarator = t.declarators.first in
    let ds : List Declarator = t.declarators.others in
    let parts = split (grammar.type_spec t.spec) (grammar.declarators t.declarators) fit in
    let each = split (grammar.declarator d) (grammar.after_commas grammar.declarator ds) parts.1 in
    onto path (IsAlias 0 t.spec d.dimensions) d.name (aliases path t.spec (0 + 1) ds) (alias_small 0 t.spec d parts.0 each.0) (aliases_small path t.spec (0 + 1) ds parts.0 each.1)

-- a struct
struct_small : (s : Struct) → AreFit (grammar.struct s) → IsSmall (IsStruct s)
struct_small s fit =
    let fields : List Seen = grammar.field s.first ++ joined grammar.field s.others in
    let behind_name = begun s.name (grammar.braced fields) fit in
    let inside = split fields (grammar.sign marks.RightBrace) behind_name.1 in
    each_low grammar.field (field_bounds 1) (field_low 1) (all_fields s) inside.0

-- enumerators have no expressions
enumerators_small : (path : Path) (is : List Identifier) → AreSmall (map (declared path IsEnumerator) is)
enumerators_small path [] = refl
enumerators_small path (i ∷ is) = enumerators_small path is

-- what stands between braces
inside_braces : (inner : List Seen) → AreFit (grammar.braced inner) → AreFit inner
inside_braces inner fit = (split inner (grammar.sign marks.RightBrace) fit).0

-- types and homes, with or without a body
abstract_type_small : (body : Option AbstractTypeBody) → AreFit (maybe grammar.abstract_type_body body) → IsSmall (IsAbstractType body)
abstract_type_small None fit = refl
abstract_type_small (Some body) fit =
    let inner : List Seen = joined grammar.abstract_type_member body.members in
    let braces = split (maybe (grammar.behind (grammar.sign marks.Colon) grammar.names) body.bases) (grammar.braced inner) fit in
    type_members_low 1 body.members (inside_braces inner braces.1)

storage_type_small : (body : Option StorageTypeBody) → AreFit (maybe grammar.storage_type_body body) → IsSmall (IsConcreteType body)
storage_type_small None fit = refl
storage_type_small (Some body) fit =
    let inner : List Seen = joined grammar.state body.states in
    let implements : List Seen = maybe (grammar.behind (grammar.word keywords.Implements) grammar.names) body.implements in
    let behind_base = split (maybe (grammar.behind (grammar.sign marks.Colon) grammar.name) body.base) (implements ++ grammar.braced inner) fit in
    let braces = split implements (grammar.braced inner) behind_base.1 in
    both_low (flat_map (λ s. state_bounds 1 s.state_type) body.states) [] (each_low grammar.state (λ s. state_bounds 1 s.state_type) (state_low 1) body.states (inside_braces inner braces.1)) refl

abstract_home_small : (body : Option AbstractHomeBody) → AreFit (maybe grammar.abstract_home_body body) → IsSmall (IsAbstractHome body)
abstract_home_small None fit = refl
abstract_home_small (Some body) fit =
    let inner : List Seen = joined grammar.abstract_home_member body.members in
    let bases : List Seen = maybe (grammar.behind (grammar.sign marks.Colon) grammar.names) body.bases in
    let behind_managed = split (grammar.name body.managed) (bases ++ grammar.braced inner) fit in
    let braces = split bases (grammar.braced inner) behind_managed.1 in
    home_operations_low 1 body.members (inside_braces inner braces.1)

-- ---- trees

mutual
  definition_small : (path : Path) (d : Definition) → AreFit (grammar.definition d) → AreSmall (declared_by path d)
  definition_small path (ModuleDefinition n ds) fit =
      let inside = ended (grammar.word keywords.Module ++ (grammar.identifier n ++ (grammar.sign marks.LeftBrace ++ (grammar.definitions ds ++ grammar.sign marks.RightBrace)))) fit in
      let behind_name = begun n (grammar.sign marks.LeftBrace ++ (grammar.definitions ds ++ grammar.sign marks.RightBrace)) inside in
      definitions_small (n.name ∷ path) ds (split (grammar.definitions ds) (grammar.sign marks.RightBrace) behind_name.1).0
  definition_small path (ConstantDefinition c) fit = alone path (IsConstant c) c.name (constant_small c (ended (grammar.constant c) fit))
  definition_small path (TypeDefinitionDefinition t) fit = typedef_small path t (ended (grammar.type_definition t) fit)
  definition_small path (StructDefinition s) fit = alone path (IsStruct s) s.name (struct_small s (ended (grammar.struct s) fit))
  definition_small path (EnumerationDefinition e) fit = enumerators_small path (all_identifiers e.enumerators)
  definition_small path (AbstractTypeDefinition t) fit =
      alone path (IsAbstractType t.body) t.name (abstract_type_small t.body (begun t.name (maybe grammar.abstract_type_body t.body) (ended (grammar.abstract_type t) fit)).1)
  definition_small path (StorageTypeDefinition t) fit =
      alone path (IsConcreteType t.body) t.name (storage_type_small t.body (begun t.name (maybe grammar.storage_type_body t.body) (ended (grammar.storage_type t) fit)).1)
  definition_small path (AbstractHomeDefinition h) fit =
      alone path (IsAbstractHome h.body) h.name (abstract_home_small h.body (begun h.name (maybe grammar.abstract_home_body h.body) (ended (grammar.abstract_home h) fit)).1)
  definition_small path (StorageHomeDefinition h) fit = refl
  definition_small path (CatalogDefinition c) fit = refl

  definitions_small : (path : Path) (ds : Definitions) → AreFit (grammar.definitions ds) → AreSmall (declarations path ds)
  definitions_small path NoDefinition fit = refl
  definitions_small path (AndDefinition d ds) fit =
      let parts = split (grammar.definition d) (grammar.definitions ds) fit in
      both (declared_by path d) (declarations path ds) (definition_small path d parts.0) (definitions_small path ds parts.1)

-- what a tree declares
pub tree_small : (tree : Definitions) → AreFit (grammar.definitions tree) → AreSmall (all_declarations tree)
tree_small tree fit = definitions_small [] tree fit
