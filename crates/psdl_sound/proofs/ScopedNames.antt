-- The modules round each declaration of a text have names, and the homes of a text have different scoped names.
use Rattle.std.proofs.Common.{◌≡◌, ℕ, zero, suc, ◌+◌, ◌<◌, List, [], ◌∷◌, length, map, Bool, true, false, ◌&&◌, Option, Some, None, refl, sym, ap, subst, ◌∙◌, arith}
use Rattle.std.specs.List.{list_all, slice_get}
use Rattle.std.specs.Option.{option_map}
use Rattle.std.specs.Str.{bytes_eq}
use Rattle.std.proofs.lemmas.Bool.{and_parts, and_from}
use Rattle.std.proofs.lemmas.List.Folds.{list_all-append}
use Rattle.std.proofs.lemmas.Option.{slice_get-map}
use Rattle.psdl_tree.specs.declared.names.Identifier.{Identifier}
use Rattle.psdl_tree.specs.Trees.{TypeSpec, Declarator, Definition, ModuleDefinition, ConstantDefinition, TypeDefinitionDefinition, StructDefinition, EnumerationDefinition, AbstractTypeDefinition, StorageTypeDefinition, AbstractHomeDefinition, StorageHomeDefinition, CatalogDefinition, Definitions, NoDefinition, AndDefinition}
use Rattle.type_layout.specs.declared.schema.Home.{Home}
use Rattle.type_layout.specs.Sound.{are_distinct, is_name}
use Rattle.psdl_directory.specs.Declarations.{Path, What, IsModule, IsConstant, IsAlias, IsStruct, IsEnumeration, IsEnumerator, IsAbstractType, IsConcreteType, IsAbstractHome, IsConcreteHome, IsCatalog, Declaration, declared, all_identifiers, all_declarators, aliases, declared_by, declarations, all_declarations}
use Rattle.psdl_lineage.specs.Descent.{concrete_homes}
use Rattle.psdl_check.specs.Faults.{first_fault}
use Rattle.psdl_directory.specs.Lookup.{at}
use Rattle.psdl_directory.specs.Parts.{is_module, is_forward, is_concrete_home}
use Rattle.psdl_check.specs.Schemas.{scoped_name, home_of, schema}
use Rattle.psdl_standings.specs.Standings.{standings}
use Rattle.psdl_check.specs.TextNames.{listed_enumerators, has_names, AreNames}
use Rattle.psdl_sound.proofs.Homes.{IsHome, is_home, homes_of}
use Rattle.psdl_sound.proofs.HomeNumbers.{in_front}
use Rattle.psdl_sound.proofs.DistinctNames.{declared_once, names_distinct}
use Rattle.psdl_sound.proofs.ScopedSpellings.{same_scoped}

-- ---- the modules round a declaration

abbrev pub in_names : Declaration → Bool
in_names d = list_all is_name d.path

aliases_in : (path : Path) (spec : TypeSpec) (k : ℕ) (ds : List Declarator) → list_all is_name path ≡ true → list_all in_names (aliases path spec k ds) ≡ true
aliases_in path spec k [] p = refl
aliases_in path spec k (d ∷ ds) p = and_from (list_all is_name path) (list_all in_names (aliases path spec (k + 1) ds)) p (aliases_in path spec (k + 1) ds p)

enumerators_in : (path : Path) (is : List Identifier) → list_all is_name path ≡ true → list_all in_names (map (declared path IsEnumerator) is) ≡ true
enumerators_in path [] p = refl
enumerators_in path (i ∷ is) p = and_from (list_all is_name path) (list_all in_names (map (declared path IsEnumerator) is)) p (enumerators_in path is p)

one_in : (path : Path) → list_all is_name path ≡ true → list_all is_name path && true ≡ true
one_in path p = and_from (list_all is_name path) true p refl

mutual
  in_by : (path : Path) (d : Definition) → list_all is_name path ≡ true → list_all has_names (declared_by path d) ≡ true → list_all in_names (declared_by path d) ≡ true
  in_by path (ModuleDefinition name inner) p h =
      let both = and_parts (has_names (declared path IsModule name)) (list_all has_names (declarations (name.name ∷ path) inner)) h in
      let named = and_parts (is_name name.name) (list_all is_name (listed_enumerators IsModule)) both.0 in
      and_from (list_all is_name path) (list_all in_names (declarations (name.name ∷ path) inner)) p
      (in_all (name.name ∷ path) inner (and_from (is_name name.name) (list_all is_name path) named.0 p) both.1)
  in_by path (ConstantDefinition constant) p h = one_in path p
  in_by path (TypeDefinitionDefinition definition) p h = aliases_in path definition.spec 0 (all_declarators definition.declarators) p
  in_by path (StructDefinition struct) p h = one_in path p
  in_by path (EnumerationDefinition enumeration) p h =
      and_from (list_all is_name path) (list_all in_names (map (declared path IsEnumerator) (all_identifiers enumeration.enumerators))) p (enumerators_in path (all_identifiers enumeration.enumerators) p)
  in_by path (AbstractTypeDefinition type) p h = one_in path p
  in_by path (StorageTypeDefinition type) p h = one_in path p
  in_by path (AbstractHomeDefinition home) p h = one_in path p
  in_by path (StorageHomeDefinition home) p h = one_in path p
  in_by path (CatalogDefinition catalog) p h = one_in path p

  in_all : (path : Path) (ds : Definitions) → list_all is_name path ≡ true → list_all has_names (declarations path ds) ≡ true → list_all in_names (declarations path ds) ≡ true
  in_all path NoDefinition p h = refl
  in_all path (AndDefinition d ds) p h =
      let both = and_parts (list_all has_names (declared_by path d)) (list_all has_names (declarations path ds)) (sym (list_all-append has_names (declared_by path d) (declarations path ds)) ∙ h) in
      list_all-append in_names (declared_by path d) (declarations path ds)
      ∙ and_from (list_all in_names (declared_by path d)) (list_all in_names (declarations path ds)) (in_by path d p both.0) (in_all path ds p both.1)

-- what holds of all declarations holds of each
pub each_passes : (test : Declaration → Bool) (ds : List Declaration) → list_all test ds ≡ true → (n : ℕ) → n < length ds → test (at ds n) ≡ true
each_passes test [] h n lt = absurd (omega (arith, lt))
each_passes test (d ∷ ds) h zero lt = (and_parts (test d) (list_all test ds) h).0
each_passes test (d ∷ ds) h (suc n) lt = each_passes test ds (and_parts (test d) (list_all test ds) h).1 n (omega (arith, lt))

-- of a text: the names round each declaration are names
pub paths_named : (tree : Definitions) (all : List Declaration) → all ≡ all_declarations tree → AreNames all → list_all in_names all ≡ true
paths_named tree all is names = subst (λ (ds : List Declaration). list_all in_names ds ≡ true) (sym is) (in_all [] tree refl (subst (λ (ds : List Declaration). list_all has_names ds ≡ true) is names))

-- of a text whose identifiers are names: each declaration has one
pub name_named : (all : List Declaration) → AreNames all → (n : ℕ) → n < length all → is_name (at all n).name ≡ true
name_named all names n lt = (and_parts (is_name (at all n).name) (list_all is_name (listed_enumerators (at all n).what)) (each_passes has_names all names n lt)).0

-- ---- the names of homes

no_module : (what : What) → is_concrete_home what ≡ true → (is_module what ≡ false) × (is_forward what ≡ false)
no_module (IsConcreteHome home) is = (refl, refl)
no_module IsModule is = absurd (cc)
no_module (IsConstant constant) is = absurd (cc)
no_module (IsAlias before spec dimensions) is = absurd (cc)
no_module (IsStruct struct) is = absurd (cc)
no_module (IsEnumeration enumerators) is = absurd (cc)
no_module IsEnumerator is = absurd (cc)
no_module (IsAbstractType body) is = absurd (cc)
no_module (IsConcreteType body) is = absurd (cc)
no_module (IsAbstractHome body) is = absurd (cc)
no_module (IsCatalog provisions) is = absurd (cc)

module _ (tree : Definitions) (all : List Declaration) (is : all ≡ all_declarations tree) (none : first_fault all ≡ None) (names : AreNames all) where
  differ : (i j m n : ℕ) → IsHome all i m → IsHome all j n → i < j → scoped_name (at all m) ≡ scoped_name (at all n) → ⊥
  differ i j m n a b lt e =
      let paths = paths_named tree all is names in
      let same = same_scoped (at all m).path (at all n).path (at all m).name (at all n).name (each_passes in_names all paths m a.is_declared) (each_passes in_names all paths n b.is_declared)
      (name_named all names m a.is_declared) (name_named all names n b.is_declared) e in
      let first = no_module (at all m).what a.is_concrete in
      let second = no_module (at all n).what b.is_concrete in
      declared_once all none m n (in_front all i j m n a b lt) b.is_declared second.0 second.1 first.1 (sym same.0) (sym same.1)

  name_there : (i : ℕ) (x : List ℕ) (o : Option ℕ) → slice_get (concrete_homes all) i ≡ o → option_map (λ h. scoped_name (at all h)) o ≡ Some x → (n : ℕ) × IsHome all i n × (scoped_name (at all n) ≡ x)
  name_there i x None e is = absurd (cc)
  name_there i x (Some n) e is = (n, is_home all i n e, cc)

  home_name : (i : ℕ) (x : List ℕ) → slice_get (map (λ h. scoped_name (at all h)) (concrete_homes all)) i ≡ Some x → (n : ℕ) × IsHome all i n × (scoped_name (at all n) ≡ x)
  home_name i x is = name_there i x (slice_get (concrete_homes all) i) refl (sym (slice_get-map (λ h. scoped_name (at all h)) (concrete_homes all) i) ∙ is)

  names_of_homes : are_distinct bytes_eq (map (λ h. scoped_name (at all h)) (concrete_homes all)) ≡ true
  names_of_homes = names_distinct (map (λ h. scoped_name (at all h)) (concrete_homes all)) apart
    where
      apart : (i j : ℕ) (x y : List ℕ) → i < j → slice_get (map (λ h. scoped_name (at all h)) (concrete_homes all)) i ≡ Some x → slice_get (map (λ h. scoped_name (at all h)) (concrete_homes all)) j ≡ Some y → x ≡ y → ⊥
      apart i j x y lt a b e =
          let first = home_name i x a in
          let second = home_name j y b in
          differ i j first.0 second.0 first.1 second.1 lt (first.2 ∙ e ∙ sym second.2)

names_again : (all : List Declaration) (hs : List ℕ) → map (λ (home : Home). home.name) (map (home_of all (standings all)) hs) ≡ map (λ h. scoped_name (at all h)) hs
names_again all [] = refl
names_again all (h ∷ hs) = ap (λ (l : List (List ℕ)). scoped_name (at all h) ∷ l) (names_again all hs)

-- no two homes have one name
pub home_names : (tree : Definitions) (all : List Declaration) → all ≡ all_declarations tree → first_fault all ≡ None → AreNames all → are_distinct bytes_eq (map (λ home. home.name) (schema all).homes) ≡ true
home_names tree all is none names =
    ap (λ (hs : List Home). are_distinct bytes_eq (map (λ (home : Home). home.name) hs)) (homes_of all) ∙ ap (λ (l : List (List ℕ)). are_distinct bytes_eq l) (names_again all (concrete_homes all))
    ∙ names_of_homes tree all is none names
