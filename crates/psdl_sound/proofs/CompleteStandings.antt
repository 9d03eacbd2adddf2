-- In a text without a fault whose literals are small, each type that is declared stands for one, and each number for one.
use Rattle.std.proofs.Common.{◌≡◌, ℕ, zero, suc, ◌+◌, ◌-◌, ◌<◌, ◌≤◌, List, [], ◌∷◌, ◌++◌, ℤ, length, map, get_or, Bool, true, false, cond, ◌==◌, Option, Some, None, is_some, inl, refl, sym, ap, subst, ◌∙◌, arith, ⊎_elim}
use Rattle.std.specs.List.{flat_map, list_all}
use Rattle.std.specs.Option.{option_and_then}
use Rattle.std.proofs.lemmas.Bool.{cases_lt, and_parts, eq-eqb}
use Rattle.psdl_tree.specs.Trees.{Name, Expression, NamePlain, TypeSpec, Constant, Struct as StructTree, Definitions}
use Rattle.type_layout.specs.Schemas.{given}
use Rattle.type_layout.specs.Types.{PlainType, Short, Long, LongLong, UShort, ULong, ULongLong, Char, Boolean, Octet, Str, Seq, Arr, Struct, Enum, RefTo}
use Rattle.psdl_directory.specs.declared.fault.CheckKind.TheVariants.{Cycle}
use Rattle.psdl_directory.specs.Declarations.{Path, What, IsModule, IsConstant, IsAlias, IsStruct, IsEnumeration, IsEnumerator, IsAbstractType, IsConcreteType, IsAbstractHome, IsConcreteHome, IsCatalog, Declaration, all_declarations}
use Rattle.psdl_standings.specs.Expressions.{operands}
use Rattle.psdl_check.specs.Faults.{first_fault}
use Rattle.psdl_rules.specs.Words.{above}
use Rattle.psdl_standings.specs.Selves.{is_itself, of_itself, in_struct}
use Rattle.psdl_directory.specs.Lookup.{as_is, at, meaning, origin, place_of}
use Rattle.psdl_standings.specs.Naming.{of_use, of_texts, of_text_value, of_strings_in}
use Rattle.psdl_directory.specs.Parts.{is_type}
use Rattle.psdl_standings.specs.Ranges.{of_expression, of_bound, of_constant_value, of_constant, of_values_in}
use Rattle.psdl_standings.specs.Standings.{Standing, Nothing, StandsForNumber, Range, range, within, type_of, number_of, standing, standings, sight, size_by, assessed_by, as_type, constant_type_by, number_by, constant_by, spec_by, arrays_by, struct_by, standing_of}
use Rattle.psdl_standings.specs.Turns.{before_of, spec_of, AreInTurn}
use Rattle.psdl_standings.specs.Uses.{Use, use_of, base_need, is_number, is_text, Bound, in_expression, in_expressions, in_constant_type, in_plain, in_spec, bounds_of, most_elements, spec_bounds, uses, bounds}
use Rattle.psdl_standings.specs.Values.{is_within}
use Rattle.psdl_standings.proofs.Earlier.{standing_is}
use Rattle.psdl_standings.proofs.InTurn.{are_in_turn}
use Rattle.psdl_standings.proofs.Below.{meaning_less}
use Rattle.psdl_sound.specs.SmallLiterals.{is_small}
use Rattle.psdl_sound.proofs.Expressions.{expressions_at, AreSmallAt}
use Rattle.psdl_sound.proofs.Among.{Among, among_front, among_behind, among_image, each_of_all}
use Rattle.psdl_sound.proofs.Bases.{means_first}
use Rattle.psdl_check.proofs.FaultlessTexts.{does_not_hold, none_given, no_fault_at}
use Rattle.psdl_check.proofs.FirstDeclarators.{IsFirst, first_declarator, alias_is}
use Rattle.psdl_check.proofs.Fronts.{front, front_same, sight_same, size_same}
use Rattle.psdl_check.proofs.StandingTypes.{no_number_of}
use Rattle.psdl_sound.proofs.ToldSizes.{type_as, no_number_type, IsGrounded, IsFineBound, size_told}
use Rattle.psdl_sound.proofs.Parents.{none_among}
use Rattle.psdl_sound.proofs.PresentTypes.{spec_there, arrays_there, struct_there, then_some}
use Rattle.psdl_sound.proofs.ToldValues.{use_told, value_told}

-- the place of a name of a type
abbrev pub type_use : ℕ → Name → Use
type_use limit name = get_or (in_plain limit (NamePlain name)) 0 (use_of limit (base_need IsModule) name)

-- a value in range is there
value_there : (r : Range) (o : Option ℤ) (z : ℤ) → o ≡ Some z → is_within r.least r.most z ≡ true → is_some (option_and_then (within r) o) ≡ true
value_there r o z e on = ap (λ (v : Option ℤ). is_some (option_and_then (within r) v)) e ∙ ap (λ (b : Bool). is_some (cond b (Some z) None)) on

no_text_range : (t : PlainType) (r : Range) → range t ≡ Some r → is_text t ≡ false
no_text_range (Str bound) r is = absurd (cc)
no_text_range Short r is = refl
no_text_range Long r is = refl
no_text_range LongLong r is = refl
no_text_range UShort r is = refl
no_text_range ULong r is = refl
no_text_range ULongLong r is = refl
no_text_range Char r is = refl
no_text_range Boolean r is = refl
no_text_range Octet r is = refl
no_text_range (Seq item bound) r is = refl
no_text_range (Arr item n) r is = refl
no_text_range (Struct _) r is = refl
no_text_range (Enum names) r is = refl
no_text_range (RefTo homes) r is = refl

-- what is asked of a constant whose type has a range
of_ranged : (names : Name → Standing) (t : PlainType) (e : Expression) (r : Range) → range t ≡ Some r → of_constant_value names t e ≡ [] → of_expression names r e ≡ []
of_ranged names t e r is off = by t is off
  where
    given_range : (o : Option Range) → o ≡ Some r → given o [] (λ q. of_expression names q e) ≡ [] → of_expression names r e ≡ []
    given_range None is off = absurd (cc)
    given_range (Some q) is off = none_given (Some q) (λ q. of_expression names q e) off r is

    by : (t : PlainType) → range t ≡ Some r → of_constant_value names t e ≡ [] → of_expression names r e ≡ []
    by (Str bound) is off = absurd (cc)
    by Short is off = given_range (range Short) is off
    by Long is off = given_range (range Long) is off
    by LongLong is off = given_range (range LongLong) is off
    by UShort is off = given_range (range UShort) is off
    by ULong is off = given_range (range ULong) is off
    by ULongLong is off = given_range (range ULongLong) is off
    by Char is off = absurd (cc)
    by Boolean is off = absurd (cc)
    by Octet is off = given_range (range Octet) is off
    by (Seq item bound) is off = absurd (cc)
    by (Arr item n) is off = absurd (cc)
    by (Struct _) is off = absurd (cc)
    by (Enum names) is off = absurd (cc)
    by (RefTo homes) is off = absurd (cc)

module _ (tree : Definitions) (all : List Declaration) (whole : all ≡ all_declarations tree) (none : first_fault all ≡ None) (small : AreSmallAt all) where
  -- ---- one constant

  module _ (i : ℕ) (inside : i < length all) (ground : (m : ℕ) → m < i → IsGrounded all m) where
    abbrev path : Path
    path = (at all i).path

    abbrev whole_sight : ℕ → Name → Standing
    whole_sight limit = sight all (standings all) limit path

    abbrev front_sight : ℕ → Name → Standing
    front_sight limit = sight all (front all i) limit path

    standing_here : (what : What) → (at all i).what ≡ what → standing (standings all) i ≡ standing_of all (front all i) i path what
    standing_here what is = standing_is all i inside ∙ ap (standing_of all (front all i) i path) is

    -- names of what stands in front
    numbers_low : (limit : ℕ) (scope : Path) → limit ≤ i → (name : Name) (m : ℕ) → meaning as_is all limit scope name ≡ Some m → is_number (standing (standings all) m) ≡ true → is_some (number_of (standing (standings all) m)) ≡ true
    numbers_low limit scope low name m is on = (ground m (omega (arith, meaning_less as_is all limit scope name m is, low))).1 on

    constant_grounded : (c : Constant) → (at all i).what ≡ IsConstant c → is_number (standing (standings all) i) ≡ true → is_some (number_of (standing (standings all) i)) ≡ true
    constant_grounded c is on =
        let here : standing (standings all) i ≡ constant_by (whole_sight i) c =
        standing_here (IsConstant c) is ∙ ap (λ (names : Name → Standing). constant_by names c) (sight_same all i i path inside (omega arith)) in
        let values : of_constant (whole_sight i) c ≡ [] = ap (of_values_in all (standings all) i path) (sym is) ∙ (no_fault_at all none i inside).no_values in
        let strings : of_strings_in all (standings all) i path (IsConstant c) ≡ [] = ap (of_strings_in all (standings all) i path) (sym is) ∙ (no_fault_at all none i inside).no_strings in
        let literals : list_all (λ e. list_all is_small (operands e)) (c.value ∷ []) ≡ true = ap (λ (w : What). list_all (λ e. list_all is_small (operands e)) (expressions_at i w)) (sym is) ∙ small i inside in
        let few : list_all is_small (operands c.value) ≡ true = (and_parts (list_all is_small (operands c.value)) true literals).0 in
        let used : (u : Use) → Among u (in_expression i c.value) → of_use all (standings all) path u ≡ [] =
        λ u a.
        none_among (of_use all (standings all) path) (uses i (at all i).what) (no_fault_at all none i inside).no_names u
        (subst (λ (w : What). Among u (uses i w)) (sym is) (among_behind u (in_constant_type i c.constant_type) (in_expression i c.value) a)) in
        ap (λ (s : Standing). is_some (number_of s)) here ∙ by_type used few (constant_type_by (whole_sight i) c.constant_type) refl values strings (sym (ap is_number here) ∙ on)
      where
        by_range : ((u : Use) → Among u (in_expression i c.value) → of_use all (standings all) path u ≡ []) → list_all is_small (operands c.value) ≡ true → (t : PlainType) → of_texts c.value ≡ [] → (o : Option Range) → range t ≡ o
            → of_constant_value (whole_sight i) t c.value ≡ [] → is_number (given o Nothing (λ r. StandsForNumber t (option_and_then (within r) (assessed_by (whole_sight i) r.width c.value).value))) ≡ true
            → is_some (number_of (given o Nothing (λ r. StandsForNumber t (option_and_then (within r) (assessed_by (whole_sight i) r.width c.value).value)))) ≡ true
        by_range used few t texts None e values on = absurd (cc)
        by_range used few t texts (Some r) e values on =
            let told = value_told all path i c.value r (record { no_use = used; no_text = texts; is_small = few; have_numbers = numbers_low i path (omega arith) }) (of_ranged (whole_sight i) t c.value r e values) in
            value_there r (assessed_by (whole_sight i) r.width c.value).value told.0 told.1 told.2

        ranged_type : ((u : Use) → Among u (in_expression i c.value) → of_use all (standings all) path u ≡ []) → list_all is_small (operands c.value) ≡ true → (t : PlainType) → (o : Option Range) → range t ≡ o
            → of_constant_value (whole_sight i) t c.value ≡ [] → cond (is_text t) (of_text_value c.value) (of_texts c.value) ≡ [] → is_number (number_by (whole_sight i) c.value t) ≡ true → is_some (number_of (number_by (whole_sight i) c.value t)) ≡ true
        ranged_type used few t None e values strings on =
            let off : is_number Nothing ≡ true = sym (ap (λ (o : Option Range). is_number (given o Nothing (λ r. StandsForNumber t (option_and_then (within r) (assessed_by (whole_sight i) r.width c.value).value)))) e) ∙ on in
            absurd (cc)
        ranged_type used few t (Some r) e values strings on =
            let texts : of_texts c.value ≡ [] = sym (ap (λ (b : Bool). cond b (of_text_value c.value) (of_texts c.value)) (no_text_range t r e)) ∙ strings in
            by_range used few t texts (range t) refl values on

        by_type : ((u : Use) → Among u (in_expression i c.value) → of_use all (standings all) path u ≡ []) → list_all is_small (operands c.value) ≡ true → (o : Option PlainType) → constant_type_by (whole_sight i) c.constant_type ≡ o
            → given o [] (λ t. of_constant_value (whole_sight i) t c.value) ≡ [] → cond (given o false is_text) (of_text_value c.value) (of_texts c.value) ≡ []
            → is_number (given o Nothing (number_by (whole_sight i) c.value)) ≡ true → is_some (number_of (given o Nothing (number_by (whole_sight i) c.value))) ≡ true
        by_type used few None e values strings on = absurd (cc)
        by_type used few (Some t) e values strings on = ranged_type used few t (range t) refl values strings on

    -- ---- one type

    -- a name of a type that stands in front
    name_there : (limit : ℕ) (scope : Path) (name : Name) → of_use all (standings all) scope (type_use limit name) ≡ [] → ((m : ℕ) → meaning as_is all limit scope name ≡ Some m → m < i) → is_some (type_of (sight all (front all i) limit scope name)) ≡ true
    name_there limit scope name off low =
        let told = use_told all scope (type_use limit name) off in
        let lt : told.0 < i = low told.0 told.1 in
        ap (λ (o : Option ℕ). is_some (type_of (given o Nothing (λ n. standing (front all i) n)))) told.1
        ∙ ap (λ (s : Standing). is_some (type_of s)) (front_same all i told.0 lt inside)
        ∙ (ground told.0 lt).0 told.2

    -- a declaration that is no constant has fine bounds
    bound_fine : (m : ℕ) → m < length all → (scope : Path) → (at all m).path ≡ scope → (what : What) → (at all m).what ≡ what → ((b : Bound) → Among b (bounds m what) → of_bound all (standings all) scope b ≡ []) → ((b : Bound) → Among b (bounds m what) → of_texts b.value ≡ [])
        → expressions_at m what ≡ map (λ b. b.value) (bounds m what) → (b : Bound) → Among b (bounds m what) → IsFineBound all scope b
    bound_fine m lt scope there what is faults texts same b a =
        let literals : list_all (λ e. list_all is_small (operands e)) (map (λ b. b.value) (bounds m what)) ≡ true =
        sym (ap (list_all (λ e. list_all is_small (operands e))) same) ∙ ap (λ (w : What). list_all (λ e. list_all is_small (operands e)) (expressions_at m w)) (sym is) ∙ small m lt in
        record {
          no_fault = faults b a;
          no_text = texts b a;
          is_small = each_of_all (λ e. list_all is_small (operands e)) (map (λ b. b.value) (bounds m what)) literals b.value (among_image (λ (b : Bound). b.value) (bounds m what) b a);
        }

    alias_bounds : (m before : ℕ) (spec : TypeSpec) (dimensions : List Expression) → m < length all → (scope : Path) → (at all m).path ≡ scope → (at all m).what ≡ IsAlias before spec dimensions → (b : Bound) → Among b (bounds m (IsAlias before spec dimensions)) → IsFineBound all scope b
    alias_bounds m before spec dimensions lt scope there is b a =
        let what : What = IsAlias before spec dimensions in
        let values : flat_map (of_bound all (standings all) scope) (bounds m what) ≡ [] =
        ap (λ (p : Path). flat_map (of_bound all (standings all) p) (bounds m what)) (sym there) ∙ ap (of_values_in all (standings all) m (at all m).path) (sym is) ∙ (no_fault_at all none m lt).no_values in
        let strings : flat_map (λ b. of_texts b.value) (bounds m what) ≡ [] = ap (of_strings_in all (standings all) m (at all m).path) (sym is) ∙ (no_fault_at all none m lt).no_strings in
        bound_fine m lt scope there what is (λ b a. none_among (of_bound all (standings all) scope) (bounds m what) values b a) (λ b a. none_among (λ b. of_texts b.value) (bounds m what) strings b a) refl b a

    uses_fine : (m : ℕ) (what : What) → m < length all → (scope : Path) → (at all m).path ≡ scope → (at all m).what ≡ what → (u : Use) → Among u (uses m what) → of_use all (standings all) scope u ≡ []
    uses_fine m what lt scope there is u a =
        ap (λ (p : Path). of_use all (standings all) p u) (sym there)
        ∙ none_among (of_use all (standings all) (at all m).path) (uses m (at all m).what) (no_fault_at all none m lt).no_names u (subst (λ (w : What). Among u (uses m w)) (sym is) a)

    dimension_uses : (n before : ℕ) (spec : TypeSpec) (dimensions : List Expression) (u : Use) → Among u (in_expressions (n + 1) dimensions) → Among u (uses n (IsAlias before spec dimensions))
    dimension_uses n zero spec dimensions u a = among_behind u (in_spec n spec) (in_expressions (n + 1) dimensions) a
    dimension_uses n (suc before) spec dimensions u a = a

    dimension_bounds : (n before : ℕ) (spec : TypeSpec) (dimensions : List Expression) (b : Bound) → Among b (bounds_of (n + 1) most_elements dimensions) → Among b (bounds n (IsAlias before spec dimensions))
    dimension_bounds n zero spec dimensions b a = among_behind b (spec_bounds n spec) (bounds_of (n + 1) most_elements dimensions) a
    dimension_bounds n (suc before) spec dimensions b a = a

    -- where the declaration is no number, the numbers of its scope are told
    numbers_here : number_of (standing (standings all) i) ≡ None → (is_number (standing (standings all) i) ≡ true → ⊥) → (name : Name) (m : ℕ) → meaning as_is all (i + 1) path name ≡ Some m → is_number (standing (standings all) m) ≡ true → is_some (number_of (standing (standings all) m)) ≡ true
    numbers_here no_value no_number name m is on =
        ⊎_elim (λ less. (ground m less).1 on)
        (λ more.
        let same : m ≡ i = omega (arith, more, meaning_less as_is all (i + 1) path name m is) in
        absurd (no_number (ap (λ (k : ℕ). is_number (standing (standings all) k)) (sym same) ∙ on)))
        (cases_lt m i)

    -- a size in the scope of the declaration
    size_here : number_of (standing (standings all) i) ≡ None → (is_number (standing (standings all) i) ≡ true → ⊥) → (most : ℕ) (e : Expression) → ((u : Use) → Among u (in_expression (i + 1) e) → of_use all (standings all) path u ≡ [])
        → IsFineBound all path (record { limit = i + 1; most = most; value = e }) → is_some (size_by (front_sight (i + 1)) e) ≡ true
    size_here no_value no_number most e used fine =
        ap is_some (size_same all i (i + 1) path inside (omega arith) no_value e) ∙ size_told all path (i + 1) most e (numbers_here no_value no_number) used fine

    alias_grounded : (before : ℕ) (spec : TypeSpec) (dimensions : List Expression) → (at all i).what ≡ IsAlias before spec dimensions → is_some (type_of (standing (standings all) i)) ≡ true
    alias_grounded before spec dimensions is =
        let what : What = IsAlias before spec dimensions in
        let o : Option PlainType = option_and_then (arrays_by (front_sight (i + 1)) dimensions) (spec_by (front_sight (i - before)) spec) in
        let here : standing (standings all) i ≡ as_type o = standing_here what is in
        let first = first_declarator all (subst (λ (l : List Declaration). AreInTurn l) (sym whole) (are_in_turn tree)) before i spec inside
        (ap before_of is) (ap spec_of is) in
        let m : ℕ = first.0 in
        let f : IsFirst all i before m spec = first.1 in
        let alias = alias_is (at all m).what spec f.is_first f.one_spec in
        let place : i - before ≡ m = omega (arith, f.place) in
        let low : m ≤ i = omega (arith, f.place) in
        let lt : m < length all = omega (arith, low, inside) in
        let names : Name → Standing = front_sight m in
        let spec_some : is_some (spec_by (front_sight m) spec) ≡ true =
        spec_there m (front_sight m) (λ u. of_use all (standings all) path u ≡ []) (λ b. IsFineBound all path b)
        (λ most e used fine. ap (λ (names : Name → Standing). is_some (size_by names e)) (sight_same all i m path inside low) ∙ size_told all path m most e (numbers_low m path low) used fine)
        (λ name used. name_there m path name (used (type_use m name) (inl refl)) (λ k e. omega (arith, meaning_less as_is all m path name k e, low)))
        spec
        (λ u a. uses_fine m (IsAlias zero spec alias.0) lt path f.one_path alias.1 u (among_front u (in_spec m spec) (in_expressions (m + 1) alias.0) a))
        (λ b a. alias_bounds m zero spec alias.0 lt path f.one_path alias.1 b (among_front b (spec_bounds m spec) (bounds_of (m + 1) most_elements alias.0) a)) in
        let no_value : number_of (standing (standings all) i) ≡ None = ap number_of here ∙ no_number_of o in
        let no_number : is_number (standing (standings all) i) ≡ true → ⊥ = λ on. no_number_type o (sym (ap is_number here) ∙ on) in
        let dims : (t : PlainType) → is_some (arrays_by (front_sight (i + 1)) dimensions t) ≡ true =
        λ t.
        arrays_there (i + 1) (front_sight (i + 1)) (λ u. of_use all (standings all) path u ≡ []) (λ b. IsFineBound all path b)
        (λ most e used fine. size_here no_value no_number most e used fine) dimensions t
        (λ u a. uses_fine i what inside path refl is u (dimension_uses i before spec dimensions u a))
        (λ b a. alias_bounds i before spec dimensions inside path refl is b (dimension_bounds i before spec dimensions b a)) in
        ap (λ (s : Standing). is_some (type_of s)) here
        ∙ type_as o (then_some (arrays_by (front_sight (i + 1)) dimensions) (spec_by (front_sight (i - before)) spec) (ap (λ (k : ℕ). is_some (spec_by (front_sight k) spec)) place ∙ spec_some) dims)

    -- ---- one struct

    -- a struct does not name itself
    not_itself : (name : Name) → of_itself all i name ≡ [] → (m : ℕ) → meaning as_is all (i + 1) path name ≡ Some m → m < i
    not_itself name off m is =
        ⊎_elim (λ less. less)
        (λ more.
        let same : m ≡ i = omega (arith, more, meaning_less as_is all (i + 1) path name m is) in
        let own : origin all i ≡ Some m = ap (origin all) (sym same) ∙ means_first all i name m is in
        let on : is_itself all i name ≡ true =
        ap (λ (o : Option ℕ). given o false (λ j. given (origin all i) false (λ k. j == k))) is ∙ ap (λ (o : Option ℕ). given o false (λ k. m == k)) own ∙ eq-eqb m m refl in
        let both : true ≡ false = sym on ∙ does_not_hold (is_itself all i name) Cycle (place_of name) off in
        absurd (cc))
        (cases_lt m i)

    struct_grounded : (struct : StructTree) → (at all i).what ≡ IsStruct struct → is_some (type_of (standing (standings all) i)) ≡ true
    struct_grounded struct is =
        let what : What = IsStruct struct in
        let o : Option PlainType = struct_by (front_sight (i + 1)) struct in
        let here : standing (standings all) i ≡ as_type o = standing_here what is in
        let no_value : number_of (standing (standings all) i) ≡ None = ap number_of here ∙ no_number_of o in
        let no_number : is_number (standing (standings all) i) ≡ true → ⊥ = λ on. no_number_type o (sym (ap is_number here) ∙ on) in
        let values : flat_map (of_bound all (standings all) path) (bounds i what) ≡ [] = ap (of_values_in all (standings all) i path) (sym is) ∙ (no_fault_at all none i inside).no_values in
        let strings : flat_map (λ b. of_texts b.value) (bounds i what) ≡ [] = ap (of_strings_in all (standings all) i path) (sym is) ∙ (no_fault_at all none i inside).no_strings in
        let cycles : flat_map (of_itself all i) (above what ++ in_struct i what) ≡ [] = ap (λ (w : What). flat_map (of_itself all i) (above w ++ in_struct i w)) (sym is) ∙ (no_fault_at all none i inside).no_cycle in
        let OkUse : Use → Type 0 = λ u. (of_use all (standings all) path u ≡ []) × (of_itself all i u.name ≡ []) in
        ap (λ (s : Standing). is_some (type_of s)) here
        ∙ type_as o
        (struct_there (i + 1) (front_sight (i + 1)) OkUse (λ b. IsFineBound all path b)
        (λ most e used fine. size_here no_value no_number most e (λ u a. (used u a).0) fine)
        (λ name used. let u = used (type_use (i + 1) name) (inl refl) in name_there (i + 1) path name u.0 (not_itself name u.1))
        struct
        (λ u a. (
          uses_fine i what inside path refl is u a,
          none_among (of_itself all i) (above what ++ in_struct i what) cycles u.name (among_behind u.name (above what) (in_struct i what) (among_image (λ (u : Use). u.name) (uses i what) u a)),
        ))
        (λ b a. bound_fine i inside path refl what is (λ b a. none_among (of_bound all (standings all) path) (bounds i what) values b a) (λ b a. none_among (λ b. of_texts b.value) (bounds i what) strings b a) refl b a))

    -- ---- by what is declared

    not_number : (what : What) → (at all i).what ≡ what → is_number (standing_of all (front all i) i path what) ≡ false → is_number (standing (standings all) i) ≡ true → ⊥
    not_number what is off on = let both : true ≡ false = sym on ∙ ap is_number (standing_here what is) ∙ off in cc

    as_no_number : (o : Option PlainType) → is_number (as_type o) ≡ false
    as_no_number None = refl
    as_no_number (Some t) = refl

    grounded_by : (what : What) → (at all i).what ≡ what → (is_type what ≡ true → is_some (type_of (standing (standings all) i)) ≡ true) × (is_number (standing (standings all) i) ≡ true → is_some (number_of (standing (standings all) i)) ≡ true)
    grounded_by (IsConstant c) is = ((λ e. absurd (cc)), constant_grounded c is)
    grounded_by (IsAlias before spec dimensions) is = (
      (λ e. alias_grounded before spec dimensions is),
      λ on. absurd (not_number (IsAlias before spec dimensions) is (as_no_number (option_and_then (arrays_by (front_sight (i + 1)) dimensions) (spec_by (front_sight (i - before)) spec))) on),
    )
    grounded_by (IsStruct struct) is = ((λ e. struct_grounded struct is), λ on. absurd (not_number (IsStruct struct) is (as_no_number (struct_by (front_sight (i + 1)) struct)) on))
    grounded_by (IsEnumeration enumerators) is =
        ((λ e. ap (λ (s : Standing). is_some (type_of s)) (standing_here (IsEnumeration enumerators) is)), λ on. absurd (not_number (IsEnumeration enumerators) is refl on))
    grounded_by IsModule is = ((λ e. absurd (cc)), λ on. absurd (not_number IsModule is refl on))
    grounded_by IsEnumerator is = ((λ e. absurd (cc)), λ on. absurd (not_number IsEnumerator is refl on))
    grounded_by (IsAbstractType body) is = ((λ e. absurd (cc)), λ on. absurd (not_number (IsAbstractType body) is refl on))
    grounded_by (IsConcreteType body) is = ((λ e. absurd (cc)), λ on. absurd (not_number (IsConcreteType body) is refl on))
    grounded_by (IsAbstractHome body) is = ((λ e. absurd (cc)), λ on. absurd (not_number (IsAbstractHome body) is refl on))
    grounded_by (IsConcreteHome home) is = ((λ e. absurd (cc)), λ on. absurd (not_number (IsConcreteHome home) is refl on))
    grounded_by (IsCatalog provisions) is = ((λ e. absurd (cc)), λ on. absurd (not_number (IsCatalog provisions) is refl on))

  grounded_below : (k m : ℕ) → m < k → m < length all → IsGrounded all m
  grounded_below zero m low lt = absurd (omega (arith, low))
  grounded_below (suc k) m low lt = grounded_by m lt (λ j less. grounded_below k j (omega (arith, less, low)) (omega (arith, less, lt))) (at all m).what refl

  -- each declaration stands for what it says
  pub grounded : (m : ℕ) → m < length all → IsGrounded all m
  grounded m lt = grounded_below (suc m) m (omega arith) lt
