-- The enumerators of an enumeration of a text stand right behind it, and no two of them are one name.
use Rattle.std.proofs.Common.{◌≡◌, ℕ, zero, suc, ◌+◌, ◌<◌, List, [], ◌∷◌, ◌++◌, length, map, drop, get_or, true, Option, Some, None, refl, sym, ap, subst, ◌∙◌, arith, append-nil, append_assoc, length-append}
use Rattle.std.specs.List.{slice_get}
use Rattle.std.specs.Option.{option_map}
use Rattle.std.specs.Str.{bytes_eq}
use Rattle.std.proofs.lemmas.List.{length-map, get_or-drop, length-drop, get_or_append_left, get_or-map}
use Rattle.std.proofs.lemmas.Option.{slice_get-map, slice_get_within, get_or_from_slice_get}
use Rattle.psdl_tree.specs.declared.names.Identifier.{Identifier}
use Rattle.psdl_tree.specs.Trees.{Identifiers, TypeSpec, Declarator, Definition, ModuleDefinition, ConstantDefinition, TypeDefinitionDefinition, StructDefinition, EnumerationDefinition, AbstractTypeDefinition, StorageTypeDefinition, AbstractHomeDefinition, StorageHomeDefinition, CatalogDefinition, Definitions, NoDefinition, AndDefinition}
use Rattle.type_layout.specs.Sound.{are_distinct}
use Rattle.psdl_directory.specs.Declarations.{Path, What, IsEnumeration, IsEnumerator, Declaration, declared, all_identifiers, all_declarators, aliases, declared_by, declarations, all_declarations}
use Rattle.psdl_check.specs.Faults.{first_fault}
use Rattle.psdl_directory.specs.Lookup.{at, nothing}
use Rattle.psdl_directory.specs.Parts.{is_module, is_forward}
use Rattle.psdl_sound.proofs.DistinctNames.{declared_once, names_distinct}

-- ---- enumerators in their places

abbrev enumerators_of : Declaration → Identifiers → List Declaration
enumerators_of d is = map (declared d.path IsEnumerator) (all_identifiers is)

-- these begin the list
pub record Begins (ds all : List Declaration) : Type 0 where
  pub others : List Declaration
  pub whole : all ≡ ds ++ others

-- behind each enumeration stand its enumerators
abbrev AreListed : List Declaration → Type 0
AreListed [] = Unit {0}
AreListed (d ∷ ds) = ((is : Identifiers) → d.what ≡ IsEnumeration is → Begins (enumerators_of d is) ds) × AreListed ds

further : (xs ds ys : List Declaration) → Begins xs ds → Begins xs (ds ++ ys)
further xs ds ys b = record { others = b.others ++ ys; whole = ap (λ (l : List Declaration). l ++ ys) b.whole ∙ append_assoc xs b.others ys }

listed_append : (xs ys : List Declaration) → AreListed xs → AreListed ys → AreListed (xs ++ ys)
listed_append [] ys a b = b
listed_append (x ∷ xs) ys a b = ((λ is e. further (enumerators_of x is) xs ys (a.0 is e)), listed_append xs ys a.1 b)

listed_aliases : (path : Path) (spec : TypeSpec) (k : ℕ) (ds : List Declarator) → AreListed (aliases path spec k ds)
listed_aliases path spec k [] = tt
listed_aliases path spec k (d ∷ ds) = ((λ is e. absurd (cc)), listed_aliases path spec (k + 1) ds)

listed_enumerators : (path : Path) (names : List Identifier) → AreListed (map (declared path IsEnumerator) names)
listed_enumerators path [] = tt
listed_enumerators path (n ∷ ns) = ((λ is e. absurd (cc)), listed_enumerators path ns)

own : (path : Path) (what : What) (name : Identifier) (is others : Identifiers) → what ≡ IsEnumeration is → what ≡ IsEnumeration others → Begins (enumerators_of (declared path what name) others) (map (declared path IsEnumerator) (all_identifiers is))
own path what name is others e f =
    let same : is ≡ others = cc in
    record { others = []; whole = ap (λ (i : Identifiers). map (declared path IsEnumerator) (all_identifiers i)) same ∙ sym (append-nil (map (declared path IsEnumerator) (all_identifiers others))) }

mutual
  listed_by : (path : Path) (d : Definition) → AreListed (declared_by path d)
  listed_by path (ModuleDefinition name inner) = ((λ is e. absurd (cc)), listed_all (name.name ∷ path) inner)
  listed_by path (ConstantDefinition constant) = ((λ is e. absurd (cc)), tt)
  listed_by path (TypeDefinitionDefinition definition) = listed_aliases path definition.spec 0 (all_declarators definition.declarators)
  listed_by path (StructDefinition struct) = ((λ is e. absurd (cc)), tt)
  listed_by path (EnumerationDefinition enumeration) =
      ((λ is e. own path (IsEnumeration enumeration.enumerators) enumeration.name enumeration.enumerators is refl e), listed_enumerators path (all_identifiers enumeration.enumerators))
  listed_by path (AbstractTypeDefinition type) = ((λ is e. absurd (cc)), tt)
  listed_by path (StorageTypeDefinition type) = ((λ is e. absurd (cc)), tt)
  listed_by path (AbstractHomeDefinition home) = ((λ is e. absurd (cc)), tt)
  listed_by path (StorageHomeDefinition home) = ((λ is e. absurd (cc)), tt)
  listed_by path (CatalogDefinition catalog) = ((λ is e. absurd (cc)), tt)

  listed_all : (path : Path) (ds : Definitions) → AreListed (declarations path ds)
  listed_all path NoDefinition = tt
  listed_all path (AndDefinition d ds) = listed_append (declared_by path d) (declarations path ds) (listed_by path d) (listed_all path ds)

behind_it : (all : List Declaration) → AreListed all → (n : ℕ) → n < length all → (is : Identifiers) → (at all n).what ≡ IsEnumeration is → Begins (enumerators_of (at all n) is) (drop (suc n) all)
behind_it [] listed n lt is e = absurd (omega (arith, lt))
behind_it (d ∷ ds) listed zero lt is e = listed.0 is e
behind_it (d ∷ ds) listed (suc n) lt is e = behind_it ds listed.1 n (omega (arith, lt)) is e

-- ---- an enumerator

-- what stands at the place of an enumerator
record IsThere (all : List Declaration) (n i : ℕ) (path : Path) (x : Identifier) : Type 0 where
  inside : suc n + i < length all
  here : at all (suc n + i) ≡ declared path IsEnumerator x

module _ (all : List Declaration) (n : ℕ) (is : Identifiers) (begins : Begins (enumerators_of (at all n) is) (drop (suc n) all)) where
  abbrev path : Path
  path = (at all n).path

  abbrev each : List Identifier
  each = all_identifiers is

  is_there : (i : ℕ) (x : Identifier) → slice_get each i ≡ Some x → IsThere all n i path x
  is_there i x has =
      let lt : i < length each = slice_get_within each i x has in
      let count : length (enumerators_of (at all n) is) ≡ length each = length-map each (declared path IsEnumerator) in
      let total : length (drop (suc n) all) ≡ length (enumerators_of (at all n) is) + length begins.others = ap (λ (l : List Declaration). length l) begins.whole ∙ length-append (enumerators_of (at all n) is) begins.others in
      record {
        inside = omega (arith, lt, count, total, length-drop (suc n) all);
        here =
            sym (get_or-drop (suc n) all i nothing)
            ∙ ap (λ (l : List Declaration). get_or l i nothing) begins.whole
            ∙ get_or_append_left (enumerators_of (at all n) is) begins.others nothing i (omega (arith, lt, count))
            ∙ get_or-map (declared path IsEnumerator) each i x nothing lt
            ∙ ap (declared path IsEnumerator) (get_or_from_slice_get each i x x has);
      }

  apart : first_fault all ≡ None → (i j : ℕ) (x y : Identifier) → i < j → slice_get each i ≡ Some x → slice_get each j ≡ Some y → x.name ≡ y.name → ⊥
  apart none i j x y lt a b same =
      let first : IsThere all n i path x = is_there i x a in
      let second : IsThere all n j path y = is_there j y b in
      declared_once all none (suc n + i) (suc n + j) (omega (arith, lt)) second.inside (ap (λ (d : Declaration). is_module d.what) second.here) (ap (λ (d : Declaration). is_forward d.what) second.here)
      (ap (λ (d : Declaration). is_forward d.what) first.here)
      (ap (λ (d : Declaration). d.path) second.here ∙ sym (ap (λ (d : Declaration). d.path) first.here))
      (ap (λ (d : Declaration). d.name) second.here ∙ sym same ∙ sym (ap (λ (d : Declaration). d.name) first.here))

  one_name : (i : ℕ) (w : List ℕ) → slice_get (map (λ x. x.name) each) i ≡ Some w → (x : Identifier) × (slice_get each i ≡ Some x) × (x.name ≡ w)
  one_name i w has = by (slice_get each i) refl (sym (slice_get-map (λ x. x.name) each i) ∙ has)
    where
      by : (o : Option Identifier) → slice_get each i ≡ o → option_map (λ x. x.name) o ≡ Some w → (x : Identifier) × (slice_get each i ≡ Some x) × (x.name ≡ w)
      by None e has = absurd (cc)
      by (Some x) e has = (x, e, cc)

  names_apart : first_fault all ≡ None → are_distinct bytes_eq (map (λ x. x.name) each) ≡ true
  names_apart none = names_distinct (map (λ x. x.name) each) (λ i j v w lt a b same.
      let first = one_name i v a in
      let second = one_name j w b in
      apart none i j first.0 second.0 lt first.1 second.1 (first.2 ∙ same ∙ sym second.2))

-- no two enumerators of an enumeration of a text without a fault have one name
pub enumerators_distinct : (tree : Definitions) (all : List Declaration) → all ≡ all_declarations tree → first_fault all ≡ None → (n : ℕ) → n < length all → (is : Identifiers) → (at all n).what ≡ IsEnumeration is
    → are_distinct bytes_eq (map (λ x. x.name) (all_identifiers is)) ≡ true
enumerators_distinct tree all whole none n lt is e =
    names_apart all n is (behind_it all (subst (λ (ds : List Declaration). AreListed ds) (sym whole) (listed_all [] tree)) n lt is e) none
