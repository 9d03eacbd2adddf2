-- What a tree declares has names, where its tokens are fit.
use Rattle.std.proofs.Common.{◌≡◌, ℕ, ◌+◌, List, [], ◌∷◌, ◌++◌, map, true, refl, sym, ◌∙◌}
use Rattle.std.specs.List.{list_all}
use Rattle.std.proofs.lemmas.Bool.{and_parts, and_from}
use Rattle.std.proofs.lemmas.List.Folds.{list_all-append}
use Rattle.part_readers.specs.Sentences.{joined, maybe}
use Rattle.psdl_tokens.specs.declared.token.Keyword.TheVariants as keywords
use Rattle.psdl_tokens.specs.declared.token.Mark.TheVariants as marks
use Rattle.psdl_tree.specs.declared.names.Identifier.{Identifier}
use Rattle.psdl_tree.specs.Trees.{Identifiers, TypeSpec, Declarator, Constant, TypeDefinition, StorageHome, Enumeration, Definition, ModuleDefinition, ConstantDefinition, TypeDefinitionDefinition, StructDefinition, EnumerationDefinition, AbstractTypeDefinition, StorageTypeDefinition, AbstractHomeDefinition, StorageHomeDefinition, CatalogDefinition, Definitions, NoDefinition, AndDefinition}
use Rattle.psdl_syntax.specs.Seen.{Seen}
use Rattle.psdl_syntax.specs.Grammar as grammar
use Rattle.type_layout.specs.Sound.{is_name}
use Rattle.psdl_directory.specs.Declarations.{Path, What, IsModule, IsConstant, IsAlias, IsStruct, IsEnumeration, IsEnumerator, IsAbstractType, IsConcreteType, IsAbstractHome, IsConcreteHome, IsCatalog, Declaration, declared, all_identifiers, all_declarators, aliases, declared_by, declarations, all_declarations}
use Rattle.psdl_check.specs.TextNames.{listed_enumerators, has_names, AreNames}
use Rattle.psdl_sound.proofs.TokenWords.{is_fit_seen, AreFit}

-- ---- tokens

-- of two parts
pub split : (xs ys : List Seen) → AreFit (xs ++ ys) → AreFit xs × AreFit ys
split xs ys e = and_parts (list_all is_fit_seen xs) (list_all is_fit_seen ys) (sym (list_all-append is_fit_seen xs ys) ∙ e)

-- an identifier, and what stands behind it
pub begun : (i : Identifier) (rest : List Seen) → AreFit (grammar.identifier i ++ rest) → (is_name i.name ≡ true) × AreFit rest
begun i rest e = and_parts (is_name i.name) (list_all is_fit_seen rest) e

-- identifiers between commas
listed : (is : List Identifier) → AreFit (grammar.after_commas grammar.identifier is) → list_all is_name (map (λ i. i.name) is) ≡ true
listed [] e = refl
listed (i ∷ is) e =
    let both = begun i (grammar.after_commas grammar.identifier is) e in
    and_from (is_name i.name) (list_all is_name (map (λ i. i.name) is)) both.0 (listed is both.1)

-- ---- declarations

-- a declaration of an identifier that is a name, which lists no enumerator or such ones
one_named : (path : Path) (what : What) (i : Identifier) → list_all is_name (listed_enumerators what) ≡ true → is_name i.name ≡ true → has_names (declared path what i) ≡ true
one_named path what i each named = and_from (is_name i.name) (list_all is_name (listed_enumerators what)) named each

-- one in front of others
onto : (d : Declaration) (ds : List Declaration) → has_names d ≡ true → AreNames ds → AreNames (d ∷ ds)
onto d ds first others = and_from (has_names d) (list_all has_names ds) first others

-- one alone
alone_named : (path : Path) (what : What) (i : Identifier) → list_all is_name (listed_enumerators what) ≡ true → is_name i.name ≡ true → AreNames (declared path what i ∷ [])
alone_named path what i each named = onto (declared path what i) [] (one_named path what i each named) refl

-- the declarators of a typedef
alias_named : (path : Path) (spec : TypeSpec) (k : ℕ) (d : Declarator) → AreFit (grammar.declarator d) → has_names (declared path (IsAlias k spec d.dimensions) d.name) ≡ true
alias_named path spec k d e = one_named path (IsAlias k spec d.dimensions) d.name refl (begun d.name (joined grammar.dimension d.dimensions) e).0

aliases_named : (path : Path) (spec : TypeSpec) (k : ℕ) (ds : List Declarator) → AreFit (grammar.after_commas grammar.declarator ds) → AreNames (aliases path spec k ds)
aliases_named path spec k [] e = refl
aliases_named path spec k (d ∷ ds) e =
    let parts = split (grammar.behind (grammar.sign marks.Comma) grammar.declarator d) (grammar.after_commas grammar.declarator ds) e in
    onto (declared path (IsAlias k spec d.dimensions) d.name) (aliases path spec (k + 1) ds) (alias_named path spec k d parts.0) (aliases_named path spec (k + 1) ds parts.1)

typedef_named : (path : Path) (t : TypeDefinition) → AreFit (grammar.type_definition t) → AreNames (aliases path t.spec 0 (all_declarators t.declarators))
typedef_named path t e =
    let d : Declarator = t.declarators.first in
    let ds : List Declarator = t.declarators.others in
    let behind_spec = split (grammar.type_spec t.spec) (grammar.declarators t.declarators) e in
    let parts = split (grammar.declarator d) (grammar.after_commas grammar.declarator ds) behind_spec.1 in
    onto (declared path (IsAlias 0 t.spec d.dimensions) d.name) (aliases path t.spec (0 + 1) ds) (alias_named path t.spec 0 d parts.0) (aliases_named path t.spec (0 + 1) ds parts.1)

-- the other definitions that name more than one thing, or not at their front
constant_named : (c : Constant) → AreFit (grammar.constant c) → is_name c.name.name ≡ true
constant_named c e =
    let rest : List Seen = grammar.sign marks.Equals ++ grammar.expression c.value in
    let behind_type = split (grammar.constant_type c.constant_type) (grammar.identifier c.name ++ rest) e in
    (begun c.name rest behind_type.1).0

enumerators_named : (path : Path) (is : List Identifier) → list_all is_name (map (λ i. i.name) is) ≡ true → AreNames (map (declared path IsEnumerator) is)
enumerators_named path [] e = refl
enumerators_named path (i ∷ is) e =
    let both = and_parts (is_name i.name) (list_all is_name (map (λ i. i.name) is)) e in
    onto (declared path IsEnumerator i) (map (declared path IsEnumerator) is) (one_named path IsEnumerator i refl both.0) (enumerators_named path is both.1)

identifiers_named : (is : Identifiers) → AreFit (grammar.identifiers is) → list_all is_name (map (λ i. i.name) (all_identifiers is)) ≡ true
identifiers_named is e =
    let both = begun is.first (grammar.after_commas grammar.identifier is.others) e in
    and_from (is_name is.first.name) (list_all is_name (map (λ i. i.name) is.others)) both.0 (listed is.others both.1)

enumeration_named : (path : Path) (e : Enumeration) → AreFit (grammar.enumeration e)
    → AreNames (declared path (IsEnumeration e.enumerators) e.name ∷ map (declared path IsEnumerator) (all_identifiers e.enumerators))
enumeration_named path e h =
    let named = begun e.name (grammar.braced (grammar.identifiers e.enumerators)) h in
    let inner = split (grammar.identifiers e.enumerators) (grammar.sign marks.RightBrace) named.1 in
    let each = identifiers_named e.enumerators inner.0 in
    onto (declared path (IsEnumeration e.enumerators) e.name) (map (declared path IsEnumerator) (all_identifiers e.enumerators)) (one_named path (IsEnumeration e.enumerators) e.name each named.0) (enumerators_named path (all_identifiers e.enumerators) each)

-- ---- trees

-- what stands in front of the `;`
pub ended : (xs : List Seen) → AreFit (xs ++ grammar.sign marks.Semicolon) → AreFit xs
ended xs e = (split xs (grammar.sign marks.Semicolon) e).0

both_declared : (xs ys : List Declaration) → AreNames xs → AreNames ys → AreNames (xs ++ ys)
both_declared xs ys a b = list_all-append has_names xs ys ∙ and_from (list_all has_names xs) (list_all has_names ys) a b

-- what stands behind the identifier of a home
abbrev behind_home : StorageHome → List Seen
behind_home h =
    maybe (grammar.behind (grammar.sign marks.Colon) grammar.name) h.base
    ++ (grammar.word keywords.Of ++ (grammar.name h.managed ++ (maybe (grammar.behind (grammar.word keywords.Implements) grammar.names) h.implements ++ grammar.braced (joined grammar.home_member h.members))))

mutual
  definition_named : (path : Path) (d : Definition) → AreFit (grammar.definition d) → AreNames (declared_by path d)
  definition_named path (ModuleDefinition n ds) e =
      let inside = ended (grammar.word keywords.Module ++ (grammar.identifier n ++ (grammar.sign marks.LeftBrace ++ (grammar.definitions ds ++ grammar.sign marks.RightBrace)))) e in
      let named = begun n (grammar.sign marks.LeftBrace ++ (grammar.definitions ds ++ grammar.sign marks.RightBrace)) inside in
      let inner = split (grammar.definitions ds) (grammar.sign marks.RightBrace) named.1 in
      onto (declared path IsModule n) (declarations (n.name ∷ path) ds) (one_named path IsModule n refl named.0) (definitions_named (n.name ∷ path) ds inner.0)
  definition_named path (ConstantDefinition c) e = alone_named path (IsConstant c) c.name refl (constant_named c (ended (grammar.constant c) e))
  definition_named path (TypeDefinitionDefinition t) e = typedef_named path t (ended (grammar.type_definition t) e)
  definition_named path (StructDefinition s) e = alone_named path (IsStruct s) s.name refl (begun s.name (grammar.braced (grammar.field s.first ++ joined grammar.field s.others)) (ended (grammar.struct s) e)).0
  definition_named path (EnumerationDefinition n) e = enumeration_named path n (ended (grammar.enumeration n) e)
  definition_named path (AbstractTypeDefinition t) e = alone_named path (IsAbstractType t.body) t.name refl (begun t.name (maybe grammar.abstract_type_body t.body) (ended (grammar.abstract_type t) e)).0
  definition_named path (StorageTypeDefinition t) e = alone_named path (IsConcreteType t.body) t.name refl (begun t.name (maybe grammar.storage_type_body t.body) (ended (grammar.storage_type t) e)).0
  definition_named path (AbstractHomeDefinition h) e = alone_named path (IsAbstractHome h.body) h.name refl (begun h.name (maybe grammar.abstract_home_body h.body) (ended (grammar.abstract_home h) e)).0
  definition_named path (StorageHomeDefinition h) e = alone_named path (IsConcreteHome h) h.name refl (begun h.name (behind_home h) (ended (grammar.storage_home h) e)).0
  definition_named path (CatalogDefinition c) e = alone_named path (IsCatalog c.provisions) c.name refl (begun c.name (grammar.braced (joined grammar.provision c.provisions)) (ended (grammar.catalog c) e)).0

  definitions_named : (path : Path) (ds : Definitions) → AreFit (grammar.definitions ds) → AreNames (declarations path ds)
  definitions_named path NoDefinition e = refl
  definitions_named path (AndDefinition d ds) e =
      let parts = split (grammar.definition d) (grammar.definitions ds) e in
      both_declared (declared_by path d) (declarations path ds) (definition_named path d parts.0) (definitions_named path ds parts.1)

-- what a tree declares
pub tree_named : (tree : Definitions) → AreFit (grammar.definitions tree) → AreNames (all_declarations tree)
tree_named tree e = definitions_named [] tree e
