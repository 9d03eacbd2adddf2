-- A body is walked before its own declaration is told. What it stands for is no number, so nothing changes by that.
use Rattle.std.proofs.Common.{◌≡◌, ℕ, ◌+◌, ◌<◌, ◌≤◌, List, [], ◌∷◌, ◌++◌, map, Bool, false, Option, Some, None, refl, sym, ap, ◌∙◌, arith, ⊎_elim}
use mathlib.Core.Path.{fun_ext}
use Rattle.std.specs.Prelude.{ℤ, not}
use Rattle.std.specs.List.{flat_map}
use Rattle.std.specs.Option.{option_to_list}
use Rattle.std.proofs.lemmas.Bool.{cases_lt}
use Rattle.std.proofs.lemmas.Grind.{flat_map-append}
use Rattle.psdl_tree.specs.Trees.{Name, Expression, PlainType as PlainTree, IntegerPlain, CharPlain, BooleanPlain, OctetPlain, StringPlain, NamePlain, TypeSpec, PlainSpec, Sequence, StateType, PlainState, Reference, Field, OperationResult, Void, StateResult, Operation, Parameter, Provision, State}
use Rattle.type_layout.specs.Schemas.{given}
use Rattle.psdl_directory.specs.declared.fault.CheckFault.{CheckFault}
use Rattle.psdl_directory.specs.declared.fault.CheckKind.TheVariants.{Unknown, WrongCase, WrongKind}
use Rattle.psdl_directory.specs.Declarations.{Path, What, Declaration, all_declarators}
use Rattle.psdl_directory.specs.Fault.{fault, fault_if}
use Rattle.psdl_directory.specs.Lookup.{as_is, lower, at, meaning, place_of}
use Rattle.psdl_directory.specs.Parts.{all_parameters}
use Rattle.psdl_standings.specs.declared.need.Need.{Need}
use Rattle.psdl_standings.specs.declared.need.Need.TheVariants as needs
use Rattle.psdl_standings.specs.Expressions.{operands, named_by}
use Rattle.psdl_standings.specs.Naming.{of_use}
use Rattle.psdl_standings.specs.Ranges.{of_value, from_one, of_bound}
use Rattle.psdl_standings.specs.Standings.{Standing, Nothing, StandsForType, StandsForNumber, number_of, standing, sight, assessed_by}
use Rattle.psdl_standings.specs.Uses.{Use, Bound, use_of, meets, is_number, in_expression, in_expressions, in_plain, in_spec, in_state_type, in_declarator, in_field, in_result, in_operation, bounds_of, most_items, most_elements, plain_bounds, spec_bounds, state_bounds, declarator_bounds, field_bounds, result_bounds, operation_bounds}
use Rattle.psdl_standings.specs.Values.{Assessed, assessed}
use Rattle.psdl_standings.proofs.Below.{meaning_less}

no_value : (s : Standing) → is_number s ≡ false → number_of s ≡ None
no_value Nothing e = refl
no_value (StandsForType type) e = refl
no_value (StandsForNumber type value) e = cc

-- the need is met by what is declared alone
abbrev pub ByWhat : Need → Type 0
ByWhat need = (what : What) (s t : Standing) → meets need what s ≡ meets need what t

module _ (all : List Declaration) (done full : List Standing) (n : ℕ) (same : (j : ℕ) → j < n → standing full j ≡ standing done j) (own : is_number (standing full n) ≡ false) (past : standing done n ≡ Nothing) (path : Path) where
  number_at : (j : ℕ) → j < n + 1 → is_number (standing full j) ≡ is_number (standing done j)
  number_at j lt =
      ⊎_elim (λ less. ap is_number (same j less))
      (λ past_n. let here : j ≡ n = omega (arith, lt, past_n) in rw here (own ∙ sym (ap is_number past)))
      (cases_lt j n)

  value_at : (j : ℕ) → j < n + 1 → number_of (standing full j) ≡ number_of (standing done j)
  value_at j lt =
      ⊎_elim (λ less. ap number_of (same j less))
      (λ past_n. let here : j ≡ n = omega (arith, lt, past_n) in rw here (no_value (standing full n) own ∙ sym (ap number_of past)))
      (cases_lt j n)

  value_named : (limit : ℕ) → limit ≤ n + 1 → (name : Name) → number_of (sight all full limit path name) ≡ number_of (sight all done limit path name)
  value_named limit le name = by (meaning as_is all limit path name) (meaning_less as_is all limit path name)
    where
      by : (o : Option ℕ) → ((m : ℕ) → o ≡ Some m → m < limit) → number_of (given o Nothing (λ m. standing full m)) ≡ number_of (given o Nothing (λ m. standing done m))
      by None h = refl
      by (Some m) h = let lt : m < limit = h m refl in value_at m (omega (arith, lt, le))

  -- ---- names

  number_use : (limit : ℕ) → limit ≤ n + 1 → (name : Name) → of_use all full path (use_of limit needs.OfNumber name) ≡ of_use all done path (use_of limit needs.OfNumber name)
  number_use limit le name = by (meaning as_is all limit path name) (meaning_less as_is all limit path name)
    where
      by : (o : Option ℕ) → ((m : ℕ) → o ≡ Some m → m < limit)
          → given o (fault (given (meaning lower all limit path name) Unknown (λ _. WrongCase)) (place_of name) ∷ []) (λ j. fault_if (not (is_number (standing full j))) WrongKind (place_of name))
          ≡ given o (fault (given (meaning lower all limit path name) Unknown (λ _. WrongCase)) (place_of name) ∷ []) (λ j. fault_if (not (is_number (standing done j))) WrongKind (place_of name))
      by None h = refl
      by (Some m) h = let lt : m < limit = h m refl in ap (λ (b : Bool). fault_if (not b) WrongKind (place_of name)) (number_at m (omega (arith, lt, le)))

  what_use : (need : Need) → ByWhat need → (limit : ℕ) (name : Name) → of_use all full path (use_of limit need name) ≡ of_use all done path (use_of limit need name)
  what_use need alike limit name = by (meaning as_is all limit path name)
    where
      by : (o : Option ℕ)
          → given o (fault (given (meaning lower all limit path name) Unknown (λ _. WrongCase)) (place_of name) ∷ []) (λ j. fault_if (not (meets need (at all j).what (standing full j))) WrongKind (place_of name))
          ≡ given o (fault (given (meaning lower all limit path name) Unknown (λ _. WrongCase)) (place_of name) ∷ []) (λ j. fault_if (not (meets need (at all j).what (standing done j))) WrongKind (place_of name))
      by None = refl
      by (Some m) = ap (λ (b : Bool). fault_if (not b) WrongKind (place_of name)) (alike (at all m).what (standing full m) (standing done m))

  abbrev pub AreSame : List Use → Type 0
  AreSame us = flat_map (of_use all full path) us ≡ flat_map (of_use all done path) us

  pub same_both : (us vs : List Use) → AreSame us → AreSame vs → AreSame (us ++ vs)
  same_both us vs a b = flat_map-append (of_use all full path) us vs ∙ rw (a, b) (sym (flat_map-append (of_use all done path) us vs))

  pub same_each : {X : Type 0} (f : X → List Use) → ((x : X) → AreSame (f x)) → (xs : List X) → AreSame (flat_map f xs)
  same_each f h [] = refl
  same_each f h (x ∷ xs) = same_both (f x) (flat_map f xs) (h x) (same_each f h xs)

  pub same_use : (need : Need) → ByWhat need → (limit : ℕ) (name : Name) → AreSame (use_of limit need name ∷ [])
  same_use need alike limit name = ap (λ (fs : List CheckFault). fs ++ []) (what_use need alike limit name)

  same_names : (limit : ℕ) → limit ≤ n + 1 → (names : List Name) → AreSame (map (use_of limit needs.OfNumber) names)
  same_names limit le [] = refl
  same_names limit le (x ∷ xs) = rw (number_use limit le x, same_names limit le xs) refl

  module _ (limit : ℕ) (le : limit ≤ n + 1) where
    pub same_expression : (e : Expression) → AreSame (in_expression limit e)
    same_expression e = same_names limit le (flat_map named_by (operands e))

    pub same_expressions : (es : List Expression) → AreSame (in_expressions limit es)
    same_expressions es = same_each (in_expression limit) same_expression es

    pub same_plain : (p : PlainTree) → AreSame (in_plain limit p)
    same_plain (NamePlain name) = same_use needs.OfType (λ what s t. refl) limit name
    same_plain (StringPlain bound) = same_expressions (option_to_list bound)
    same_plain (IntegerPlain i) = refl
    same_plain CharPlain = refl
    same_plain BooleanPlain = refl
    same_plain OctetPlain = refl

    pub same_spec : (spec : TypeSpec) → AreSame (in_spec limit spec)
    same_spec (PlainSpec p) = same_plain p
    same_spec (Sequence item bound) = same_both (in_spec limit item) (in_expressions limit (option_to_list bound)) (same_spec item) (same_expressions (option_to_list bound))

    pub same_state : (type : StateType) → AreSame (in_state_type limit type)
    same_state (PlainState p) = same_plain p
    same_state (Reference name) = same_use needs.OfStorageType (λ what s t. refl) limit name

    pub same_field : (field : Field) → AreSame (in_field limit field)
    same_field field =
        same_both (in_spec limit field.spec) (flat_map (in_declarator limit) (all_declarators field.declarators)) (same_spec field.spec)
        (same_each (in_declarator limit) (λ d. same_expressions d.dimensions) (all_declarators field.declarators))

    same_result : (r : OperationResult) → AreSame (in_result limit r)
    same_result Void = refl
    same_result (StateResult type) = same_state type

    pub same_operation : (o : Operation) → AreSame (in_operation limit o)
    same_operation o =
        same_both (in_result limit o.returned) (flat_map (λ p. in_state_type limit p.parameter_type) (all_parameters o.parameters)) (same_result o.returned)
        (same_each (λ (p : Parameter). in_state_type limit p.parameter_type) (λ p. same_state p.parameter_type) (all_parameters o.parameters))

  -- ---- bounds

  pub same_assessed : (limit : ℕ) → limit ≤ n + 1 → (width : Option ℕ) (e : Expression) → assessed_by (sight all full limit path) width e ≡ assessed_by (sight all done limit path) width e
  same_assessed limit le width e = ap (λ (env : Name → Option ℤ). assessed env width e) (fun_ext (value_named limit le))

  pub same_bound : (b : Bound) → b.limit ≤ n + 1 → of_bound all full path b ≡ of_bound all done path b
  same_bound b le = ap (λ (a : Assessed). of_value (from_one b.most) b.value a) (same_assessed b.limit le (Some 64) b.value)

  abbrev pub AreBound : List Bound → Type 0
  AreBound bs = flat_map (of_bound all full path) bs ≡ flat_map (of_bound all done path) bs

  pub bound_both : (bs cs : List Bound) → AreBound bs → AreBound cs → AreBound (bs ++ cs)
  bound_both bs cs a b = flat_map-append (of_bound all full path) bs cs ∙ rw (a, b) (sym (flat_map-append (of_bound all done path) bs cs))

  pub bound_each : {X : Type 0} (f : X → List Bound) → ((x : X) → AreBound (f x)) → (xs : List X) → AreBound (flat_map f xs)
  bound_each f h [] = refl
  bound_each f h (x ∷ xs) = bound_both (f x) (flat_map f xs) (h x) (bound_each f h xs)

  module _ (limit : ℕ) (le : limit ≤ n + 1) where
    pub bound_dimensions : (most : ℕ) (es : List Expression) → AreBound (bounds_of limit most es)
    bound_dimensions most [] = refl
    bound_dimensions most (e ∷ es) = rw (same_bound (record { limit = limit; most = most; value = e }) le, bound_dimensions most es) refl

    bound_plain : (p : PlainTree) → AreBound (plain_bounds limit p)
    bound_plain (StringPlain bound) = bound_dimensions most_items (option_to_list bound)
    bound_plain (NamePlain name) = refl
    bound_plain (IntegerPlain i) = refl
    bound_plain CharPlain = refl
    bound_plain BooleanPlain = refl
    bound_plain OctetPlain = refl

    pub bound_spec : (spec : TypeSpec) → AreBound (spec_bounds limit spec)
    bound_spec (PlainSpec p) = bound_plain p
    bound_spec (Sequence item bound) = bound_both (spec_bounds limit item) (bounds_of limit most_items (option_to_list bound)) (bound_spec item) (bound_dimensions most_items (option_to_list bound))

    pub bound_state : (type : StateType) → AreBound (state_bounds limit type)
    bound_state (PlainState p) = bound_plain p
    bound_state (Reference name) = refl

    pub bound_field : (field : Field) → AreBound (field_bounds limit field)
    bound_field field =
        bound_both (spec_bounds limit field.spec) (flat_map (declarator_bounds limit) (all_declarators field.declarators)) (bound_spec field.spec)
        (bound_each (declarator_bounds limit) (λ d. bound_dimensions most_elements d.dimensions) (all_declarators field.declarators))

    bound_result : (r : OperationResult) → AreBound (result_bounds limit r)
    bound_result Void = refl
    bound_result (StateResult type) = bound_state type

    bound_operation : (o : Operation) → AreBound (operation_bounds limit o)
    bound_operation o =
        bound_both (result_bounds limit o.returned) (flat_map (λ p. state_bounds limit p.parameter_type) (all_parameters o.parameters)) (bound_result o.returned)
        (bound_each (λ (p : Parameter). state_bounds limit p.parameter_type) (λ p. bound_state p.parameter_type) (all_parameters o.parameters))

    -- ---- a storage type or home

    pub same_body : (ss : List State) (os : List Operation) → AreSame (flat_map (λ s. in_state_type limit s.state_type) ss ++ flat_map (in_operation limit) os)
    same_body ss os =
        same_both (flat_map (λ (s : State). in_state_type limit s.state_type) ss) (flat_map (in_operation limit) os) (same_each (λ (s : State). in_state_type limit s.state_type) (λ s. same_state limit le s.state_type) ss)
        (same_each (in_operation limit) (λ o. same_operation limit le o) os)

    pub bound_body : (ss : List State) (os : List Operation) → AreBound (flat_map (λ s. state_bounds limit s.state_type) ss ++ flat_map (operation_bounds limit) os)
    bound_body ss os =
        bound_both (flat_map (λ (s : State). state_bounds limit s.state_type) ss) (flat_map (operation_bounds limit) os) (bound_each (λ (s : State). state_bounds limit s.state_type) (λ s. bound_state s.state_type) ss)
        (bound_each (operation_bounds limit) bound_operation os)

    -- the names of a header need kinds of declarations alone
    pub same_header : (need : Need) → ByWhat need → (names : List Name) → AreSame (map (use_of limit need) names)
    same_header need alike [] = refl
    same_header need alike (x ∷ xs) = rw (what_use need alike limit x, same_header need alike xs) refl

    pub same_provisions : (ps : List Provision) → AreSame (map (λ p. use_of limit needs.OfAbstractHome p.home) ps)
    same_provisions [] = refl
    same_provisions (p ∷ ps) = rw (what_use needs.OfAbstractHome (λ what s t. refl) limit p.home, same_provisions ps) refl
