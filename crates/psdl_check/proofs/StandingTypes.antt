-- What is handed on from parts to wholes holds of the types that the declarations of a text stand for, where no value has a fault.
use Rattle.std.proofs.Common.{◌≡◌, ℕ, zero, suc, ◌+◌, ◌-◌, ◌<◌, List, [], length, map, Option, Some, None, refl, sym, ap, subst, ◌∙◌, arith, ⊎_elim}
use Rattle.std.specs.Prelude.{ℤ}
use Rattle.std.specs.List.{flat_map}
use Rattle.std.specs.Option.{option_and_then}
use Rattle.std.proofs.lemmas.Bool.{cases_lt}
use Rattle.psdl_tree.specs.Trees.{Name, Expression, TypeSpec, Identifiers}
use Rattle.type_layout.specs.Schemas.{given}
use Rattle.type_layout.specs.Types.{PlainType, PlainFields, Enum}
use Rattle.psdl_directory.specs.Declarations.{Path, What, IsModule, IsConstant, IsAlias, IsStruct, IsEnumeration, IsEnumerator, IsAbstractType, IsConcreteType, IsAbstractHome, IsConcreteHome, IsCatalog, Declaration, all_identifiers}
use Rattle.psdl_directory.specs.Lookup.{as_is, at, meaning}
use Rattle.psdl_standings.specs.Ranges.{of_bound, of_values_in, of_values}
use Rattle.psdl_standings.specs.Standings.{Standing, Nothing, StandsForNumber, Range, type_of, number_of, standing, sight, range, within, assessed_by, size_by, spec_by, struct_by, as_type, constant_type_by, number_by, standing_of, standings}
use Rattle.psdl_standings.specs.Turns.{before_of, spec_of, AreInTurn}
use Rattle.psdl_standings.specs.Uses.{bounds_of, most_elements, spec_bounds}
use Rattle.psdl_standings.proofs.Earlier.{standing_is}
use Rattle.psdl_check.proofs.ComposedTypes.{IsHandedOn, HoldsOf, HoldsOfNames, AreSized, both_none, sized_from, array_holds, spec_holds, struct_holds}
use Rattle.psdl_check.proofs.FirstDeclarators.{IsFirst, first_declarator, alias_is}
use Rattle.psdl_check.proofs.Fronts.{front, front_same, front_past, nothing_past, sight_same, size_same}

-- ---- what standings are types of

-- what stands for a type has no value
pub no_number_of : (o : Option PlainType) → number_of (as_type o) ≡ None
no_number_of None = refl
no_number_of (Some t) = refl

number_no_type : (u : PlainType) (value : Range → Option ℤ) (r : Option Range) (t : PlainType) → type_of (given r Nothing (λ r. StandsForNumber u (value r))) ≡ Some t → ⊥
number_no_type u value None t is = cc
number_no_type u value (Some r) t is = cc

no_type : (names : Name → Standing) (e : Expression) (o : Option PlainType) (t : PlainType) → type_of (given o Nothing (number_by names e)) ≡ Some t → ⊥
no_type names e None t is = cc
no_type names e (Some u) t is = number_no_type u (λ r. option_and_then (within r) (assessed_by names r.width e).value) (range u) t is

-- no value in the text has a fault
abbrev pub HasNoValueFault : List Declaration → Type 0
HasNoValueFault all = (n : ℕ) → n < length all → of_values all (standings all) n (at all n) ≡ []

-- it holds of each enumeration in the text
abbrev pub HoldsOfEnumerations : (PlainType → Type 0) → List Declaration → Type 0
HoldsOfEnumerations P all = (n : ℕ) → n < length all → (is : Identifiers) → (at all n).what ≡ IsEnumeration is → P (Enum (map (λ x. x.name) (all_identifiers is)))

-- it holds of the type that is told of a declaration
abbrev pub HoldsAt : (PlainType → Type 0) → List Declaration → ℕ → Type 0
HoldsAt P all m = HoldsOf P (type_of (standing (standings all) m))

module _ (P : PlainType → Type 0) where
  of_type : (o : Option PlainType) → HoldsOf P o → HoldsOf P (type_of (as_type o))
  of_type None holds t is = absurd (cc)
  of_type (Some u) holds t is = holds t is

  of_nothing : HoldsOf P None
  of_nothing t is = absurd (cc)

  -- the names of the whole text stand for such types
  pub all_names : (all : List Declaration) → ((m : ℕ) → HoldsAt P all m) → (limit : ℕ) (path : Path) → HoldsOfNames P (sight all (standings all) limit path)
  all_names all holds limit path name t is = by (meaning as_is all limit path name) is
    where
      by : (o : Option ℕ) → type_of (given o Nothing (λ n. standing (standings all) n)) ≡ Some t → P t
      by None e = absurd (cc)
      by (Some m) e = holds m t e

module _ (P : PlainType → Type 0) (F : PlainFields → Type 0) (handed : IsHandedOn P F) (all : List Declaration) (turn : AreInTurn all) (no_fault : HasNoValueFault all) (listed : HoldsOfEnumerations P all) where
  -- ---- one declaration

  module _ (i : ℕ) (inside : i < length all) (earlier : (m : ℕ) → m < i → HoldsAt P all m) where
    abbrev scope : Path
    scope = (at all i).path

    abbrev seen : ℕ → Name → Standing
    seen limit = sight all (front all i) limit scope

    -- names of declarations in front stand for such types
    front_names : (limit : ℕ) → HoldsOfNames P (seen limit)
    front_names limit name t is = by (meaning as_is all limit scope name) is
      where
        by : (o : Option ℕ) → type_of (given o Nothing (λ n. standing (front all i) n)) ≡ Some t → P t
        by None e = absurd (cc)
        by (Some m) e =
            ⊎_elim
            (λ less. earlier m less t (ap type_of (sym (front_same all i m less inside)) ∙ e))
            (λ more. let none : type_of Nothing ≡ Some t = ap type_of (sym (front_past all i m more inside)) ∙ e in absurd (cc))
            (cases_lt m i)

    values_of : (what : What) → (at all i).what ≡ what → of_values_in all (standings all) i scope what ≡ []
    values_of what is = ap (of_values_in all (standings all) i scope) (sym is) ∙ no_fault i inside

    -- where the declaration stands for a type, sizes are told in front as in the whole text
    same_sizes : (what : What) (o : Option PlainType) → (at all i).what ≡ what → standing_of all (front all i) i scope what ≡ as_type o
        → (e : Expression) → size_by (seen (i + 1)) e ≡ size_by (sight all (standings all) (i + 1) scope) e
    same_sizes what o is type =
        size_same all i (i + 1) scope inside (omega arith)
        (ap number_of (standing_is all i inside ∙ ap (λ (w : What). standing_of all (front all i) i scope w) is ∙ type) ∙ no_number_of o)

    -- the type of a typedef has no fault at its first declarator
    spec_in_front : (before : ℕ) (spec : TypeSpec) (dimensions : List Expression) → (at all i).what ≡ IsAlias before spec dimensions → HoldsOf P (spec_by (seen (i - before)) spec)
    spec_in_front before spec dimensions is =
        let first = first_declarator all turn before i spec inside (ap before_of is) (ap spec_of is) in
        let m : ℕ = first.0 in
        let f : IsFirst all i before m spec = first.1 in
        let alias = alias_is (at all m).what spec f.is_first f.one_spec in
        let place : m ≡ i - before = omega (arith, f.place) in
        let low : m < length all = omega (arith, f.place, inside) in
        let none : of_values_in all (standings all) m scope (IsAlias zero spec alias.0) ≡ [] =
        ap (λ (p : Path). of_values_in all (standings all) m p (IsAlias zero spec alias.0)) (sym f.one_path) ∙ ap (of_values_in all (standings all) m (at all m).path) (sym alias.1) ∙ no_fault m low in
        let own = both_none (of_bound all (standings all) scope) (spec_bounds m spec) (bounds_of (m + 1) most_elements alias.0) none in
        subst (λ (k : ℕ). HoldsOf P (spec_by (seen k) spec)) place
        (spec_holds P F handed all (standings all) scope m (seen m) (λ e. ap (λ (names : Name → Standing). size_by names e) (sight_same all i m scope inside (omega (arith, f.place)))) (front_names m) spec own.0)

    dimensions_in : (before : ℕ) (spec : TypeSpec) (dimensions : List Expression) → of_values_in all (standings all) i scope (IsAlias before spec dimensions) ≡ []
        → flat_map (of_bound all (standings all) scope) (bounds_of (i + 1) most_elements dimensions) ≡ []
    dimensions_in zero spec dimensions none = (both_none (of_bound all (standings all) scope) (spec_bounds i spec) (bounds_of (i + 1) most_elements dimensions) none).1
    dimensions_in (suc before) spec dimensions none = none

    of_what : (what : What) → (at all i).what ≡ what → HoldsOf P (type_of (standing_of all (front all i) i scope what))
    of_what (IsConstant constant) is = λ t e. absurd (no_type (seen i) constant.value (constant_type_by (seen i) constant.constant_type) t e)
    of_what (IsAlias before spec dimensions) is =
        let sized : AreSized (seen (i + 1)) most_elements dimensions =
        sized_from all (standings all) scope (i + 1) (seen (i + 1)) (same_sizes (IsAlias before spec dimensions) _ is refl) most_elements dimensions
        (dimensions_in before spec dimensions (values_of (IsAlias before spec dimensions) is)) in
        of_type P _ (array_holds P F handed (seen (i + 1)) dimensions (spec_by (seen (i - before)) spec) sized (spec_in_front before spec dimensions is))
    of_what (IsStruct struct) is =
        of_type P (struct_by (seen (i + 1)) struct)
        (struct_holds P F handed all (standings all) scope (i + 1) (seen (i + 1)) (same_sizes (IsStruct struct) (struct_by (seen (i + 1)) struct) is refl) (front_names (i + 1)) struct (values_of (IsStruct struct) is))
    of_what (IsEnumeration enumerators) is = of_type P (Some (Enum (map (λ x. x.name) (all_identifiers enumerators)))) (λ t e. let same : Enum (map (λ x. x.name) (all_identifiers enumerators)) ≡ t = cc in subst P same (listed i inside enumerators is))
    of_what IsModule is = of_nothing P
    of_what IsEnumerator is = of_nothing P
    of_what (IsAbstractType body) is = of_nothing P
    of_what (IsConcreteType body) is = of_nothing P
    of_what (IsAbstractHome body) is = of_nothing P
    of_what (IsConcreteHome home) is = of_nothing P
    of_what (IsCatalog provisions) is = of_nothing P

  -- ---- all declarations

  holds_below : (k m : ℕ) → m < k → m < length all → HoldsAt P all m
  holds_below zero m lt inside = absurd (omega (arith, lt))
  holds_below (suc k) m lt inside = λ t is.
      of_what m inside (λ j less. holds_below k j (omega (arith, less, lt)) (omega (arith, less, inside))) (at all m).what refl t
      (ap type_of (sym (standing_is all m inside)) ∙ is)

  -- it holds of each type that a declaration stands for
  pub holds_at : (m : ℕ) → HoldsAt P all m
  holds_at m =
      ⊎_elim (λ inside. holds_below (suc m) m (omega arith) inside)
      (λ past. λ t is. let nothing : type_of Nothing ≡ Some t = ap type_of (sym (nothing_past all m past)) ∙ is in absurd (cc))
      (cases_lt m (length all))
