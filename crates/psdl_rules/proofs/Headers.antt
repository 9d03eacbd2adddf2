-- Conditions on names are conditions on what headers tell of them.
use Rattle.std.proofs.Common.{◌≡◌, ℕ, ◌+◌, List, [], ◌∷◌, ◌++◌, ◌≤◌, length, Option, Some, None, is_some, is_none, Bool, true, false, not, ◌&&◌, ◌||◌, zero, suc, ◌<◌, arith, map, refl, sym, ap, ◌∙◌, nat_lt}
use Rattle.std.specs.List.{flat_map, list_all, list_any}
use Rattle.std.specs.Option.{option_to_list, option_map, option_and_then, IfSome}
use Rattle.std.proofs.lemmas.List.{map-append, get_or_past}
use Rattle.std.proofs.lemmas.List.Folds.{list_all-append, list_all-map}
use Rattle.psdl_tree.specs.Trees.{Name, Provision}
use Rattle.type_layout.specs.Schemas.{given}
use Rattle.psdl_directory.specs.declared.fault.CheckFault.{CheckFault}
use Rattle.psdl_directory.specs.declared.fault.CheckKind.TheVariants.{Incomplete, NotImplemented, HomeType, Provides}
use Rattle.psdl_directory.specs.declared.uses.Use.{Use}
use Rattle.psdl_directory.specs.Declarations.{What, Declaration}
use Rattle.psdl_directory.specs.Fault.{fault_if}
use Rattle.psdl_directory.specs.Headers.{used, header, header_of}
use Rattle.psdl_directory.specs.Lookup.{at, nothing, named, defines, definition, origin, place_of}
use Rattle.psdl_directory.specs.Parts.{parents, bases, implemented, managed, provided}
use Rattle.psdl_lineage.specs.Descent.{type_of_home, conforms, provider}
use Rattle.psdl_standings.specs.Selves.{of_itself}
use Rattle.psdl_rules.specs.Words as words
use Rattle.psdl_rules.specs.Words.{type_of_named, of_types, has_settled_header}
use Rattle.psdl_rules.specs.Faults.Incomplete.{is_defined_by, of_forward}
use Rattle.psdl_rules.specs.Faults.HomeType.{differs_from_base, is_other_kind, has_wrong_type, home_type}
use Rattle.psdl_rules.specs.Faults.NotImplemented.{of_implemented}
use Rattle.psdl_rules.specs.Faults.Provides.{of_provision, not_provided}
use Rattle.psdl_rules.specs.inner.Headed.{no_header, above, are_meant, forward_use, own_use, implemented_use, differs_as_base, managed_use, provided_use, AreThere}
use Rattle.psdl_rules.specs.declared.home_types.HomeTypes.{HomeTypes}
use Rattle.psdl_rules.specs.inner.Pairs.{both}
use Rattle.psdl_rules.proofs.Foremost.{first_there}

pub no_names : (all : List Declaration) (n : ℕ) → length all ≤ n → header all n ≡ no_header
no_names all n past = ap (λ (d : Declaration). header_of all n d.what) (get_or_past all n nothing past)

-- name by name
pub over_names : (all : List Declaration) (n : ℕ) (f : Use → List CheckFault) (g : Name → List CheckFault) → ((name : Name) → f (used all (n + 1) n name) ≡ g name)
    → (names : List Name) → flat_map f (map (used all (n + 1) n) names) ≡ flat_map g names
over_names all n f g same [] = refl
over_names all n f g same (name ∷ names) =
    ap (λ (l : List CheckFault). l ++ flat_map f (map (used all (n + 1) n) names)) (same name) ∙ ap (λ (l : List CheckFault). g name ++ l) (over_names all n f g same names)

alone : (all : List Declaration) (n : ℕ) (o : Option Name) → option_to_list (option_map (used all (n + 1) n) o) ≡ map (used all (n + 1) n) (option_to_list o)
alone all n None = refl
alone all n (Some name) = refl

pub above_are : (all : List Declaration) (n : ℕ) → above (header all n) ≡ map (used all (n + 1) n) (words.above (at all n).what)
above_are all n =
    let what = (at all n).what in
    let f : Name → Use = used all (n + 1) n in
    ap (λ (l : List Use). map f (bases what) ++ map f (implemented what) ++ l) (alone all n (managed what))
    ∙ ap (λ (l : List Use). l ++ map f (option_to_list (managed what))) (sym (map-append f (bases what) (implemented what)))
    ∙ sym (map-append f (parents what) (option_to_list (managed what)))

pub over_above : (all : List Declaration) (n : ℕ) (f : Use → List CheckFault) (g : Name → List CheckFault) → ((name : Name) → f (used all (n + 1) n name) ≡ g name)
    → flat_map f (above (header all n)) ≡ flat_map g (words.above (at all n).what)
over_above all n f g same = ap (λ (l : List Use). flat_map f l) (above_are all n) ∙ over_names all n f g same (words.above (at all n).what)

pub forward_is : (all : List Declaration) (n : ℕ) (name : Name) → forward_use n (used all (n + 1) n name) ≡ of_forward all n name
forward_is all n name = by (named all n name)
  where
    by : (o : Option ℕ) → fault_if (given o false (λ _. not (given (option_and_then (definition all) o) false (λ k. nat_lt k (n + 1))))) Incomplete (place_of name)
        ≡ given o [] (λ j. fault_if (not (is_defined_by all n j)) Incomplete (place_of name))
    by None = refl
    by (Some j) = refl

pub own_is : (all : List Declaration) (n : ℕ) (name : Name) → own_use (origin all n) (used all (n + 1) n name) ≡ of_itself all n name
own_is all n name = refl

-- ---- homes

-- what is asked of both types
both_types : (own named : Option ℕ) (test : ℕ → ℕ → Bool) → given (both own named) false (λ (p : HomeTypes). test p.own p.named) ≡ given own false (λ t. given named false (λ u. test t u))
both_types None named test = refl
both_types (Some t) None test = refl
both_types (Some t) (Some u) test = refl

pub implemented_is : (all : List Declaration) (n : ℕ) (name : Name) → implemented_use all (type_of_home all n) (used all (n + 1) n name) ≡ of_implemented all n name
implemented_is all n name = ap (λ (b : Bool). fault_if b NotImplemented (place_of name)) (both_types (type_of_home all n) (type_of_named all n name) (λ t u. not (conforms all t u)))

bases_differ : (all : List Declaration) (n : ℕ) (what : What) (names : List Name)
    → list_any (differs_as_base all what (type_of_home all n)) (map (used all (n + 1) n) names) ≡ list_any (of_types all n (differs_from_base all what)) names
bases_differ all n what [] = refl
bases_differ all n what (name ∷ names) =
    ap (λ (b : Bool). b || list_any (differs_as_base all what (type_of_home all n)) (map (used all (n + 1) n) names)) (both_types (type_of_home all n) (type_of_named all n name) (differs_from_base all what))
    ∙ ap (λ (b : Bool). of_types all n (differs_from_base all what) name || b) (bases_differ all n what names)

managed_is : (all : List Declaration) (n : ℕ) (name : Name)
    → managed_use all n (at all n).what (header all n).bases (used all (n + 1) n name) ≡ fault_if (has_wrong_type all n (at all n).what name) HomeType (place_of name)
managed_is all n name =
    let what = (at all n).what in
    ap (λ (b : Bool). fault_if (given (named all n name) false (λ j. is_other_kind what (at all j).what) || b) HomeType (place_of name)) (bases_differ all n what (bases what))

pub over_managed : (all : List Declaration) (n : ℕ)
    → flat_map (managed_use all n (at all n).what (header all n).bases) (option_to_list (header all n).managed) ≡ home_type all n (at all n)
over_managed all n =
    let what = (at all n).what in
    let f : Use → List CheckFault = managed_use all n what (header all n).bases in
    ap (λ (l : List Use). flat_map f l) (alone all n (managed what))
    ∙ over_names all n f (λ name. fault_if (has_wrong_type all n what name) HomeType (place_of name)) (managed_is all n) (option_to_list (managed what))

-- ---- catalogs

provided_is : (all : List Declaration) (n : ℕ) (p : Provision) → provided_use all (used all (n + 1) n p.home) ≡ of_provision all n p
provided_is all n p = by (named all n p.home)
  where
    by : (o : Option ℕ) → fault_if (given o false (λ _. is_none (option_and_then (provider all) (option_and_then (definition all) o)))) Provides (place_of p.home)
        ≡ given o [] (λ j. fault_if (is_none (option_and_then (provider all) (definition all j))) Provides (place_of p.home))
    by None = refl
    by (Some j) = refl

provisions_are : (all : List Declaration) (n : ℕ) (ps : List Provision) → flat_map (provided_use all) (map (λ p. used all (n + 1) n p.home) ps) ≡ flat_map (of_provision all n) ps
provisions_are all n [] = refl
provisions_are all n (p ∷ ps) =
    ap (λ (l : List CheckFault). l ++ flat_map (provided_use all) (map (λ p. used all (n + 1) n p.home) ps)) (provided_is all n p)
    ∙ ap (λ (l : List CheckFault). of_provision all n p ++ l) (provisions_are all n ps)

pub over_provided : (all : List Declaration) (n : ℕ) → flat_map (provided_use all) (header all n).provided ≡ not_provided all n (at all n)
over_provided all n = provisions_are all n (provided (at all n).what)

defined_there : (all : List Declaration) (o : Option ℕ) → IfSome (option_and_then (definition all) o) (λ k. k < length all)
defined_there all None = tt
defined_there all (Some j) = first_there (defines (at all j)) all (definition all j) refl

are_there : (all : List Declaration) (n : ℕ) (ps : List Provision) → AreThere (length all) (map (λ p. used all (n + 1) n p.home) ps)
are_there all n [] i d lt = absurd (omega (arith, lt))
are_there all n (p ∷ ps) zero d lt = defined_there all (named all n p.home)
are_there all n (p ∷ ps) (suc i) d lt = are_there all n ps i d (omega (arith, lt))

pub provided_there : (all : List Declaration) (n : ℕ) → AreThere (length all) (header all n).provided
provided_there all n = are_there all n (provided (at all n).what)

-- ---- settled headers

pub settled_is : (all : List Declaration) (n : ℕ)
    → (are_meant (header all n).bases && (are_meant (header all n).implemented && are_meant (option_to_list (header all n).managed))) ≡ has_settled_header all n
settled_is all n =
    let what = (at all n).what in
    let test : Use → Bool = λ u. is_some u.meant in
    let f : Name → Use = used all (n + 1) n in
    let a = are_meant (header all n).bases in
    let b = are_meant (header all n).implemented in
    let c = are_meant (option_to_list (header all n).managed) in
    sym (and_assoc a b c)
    ∙ ap (λ (x : Bool). x && c) (sym (list_all-append test (header all n).bases (header all n).implemented))
    ∙ sym (list_all-append test ((header all n).bases ++ (header all n).implemented) (option_to_list (header all n).managed))
    ∙ ap (λ (l : List Use). list_all test l) (above_are all n)
    ∙ list_all-map test f (words.above what)
  where
    and_assoc : (a b c : Bool) → (a && b) && c ≡ a && (b && c)
    and_assoc true b c = refl
    and_assoc false b c = refl
