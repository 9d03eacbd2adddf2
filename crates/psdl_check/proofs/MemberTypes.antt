-- What is handed on from parts to wholes holds of the types of members, where no value has a fault.
use Rattle.std.proofs.Common.{◌≡◌, ℕ, zero, suc, ◌+◌, List, [], ◌∷◌, length, map, get_or, Option, Some, None, refl, sym, subst, ⊎_elim}
use Rattle.std.specs.List.{All, flat_map}
use Rattle.std.specs.Option.{option_map}
use Rattle.std.proofs.lemmas.Bool.{cases_lt}
use Rattle.std.proofs.lemmas.List.{get_or_past}
use Rattle.std.proofs.lemmas.List.Elements.{All-nil, All-head, All-tail, All-append, All-map}
use Rattle.psdl_tree.specs.declared.names.Identifier.{Identifier}
use Rattle.psdl_tree.specs.Trees.{StateType, PlainState, Reference, State}
use Rattle.type_layout.specs.Sound.{EachMember}
use Rattle.type_layout.specs.Types.{PlainType, PlainFields, PlainMember, RefTo}
use Rattle.psdl_directory.specs.Declarations.{Path, What, IsModule, IsConstant, IsAlias, IsStruct, IsEnumeration, IsEnumerator, IsAbstractType, IsConcreteType, IsAbstractHome, IsConcreteHome, IsCatalog, Declaration}
use Rattle.psdl_directory.specs.Lookup.{at, nothing, defined}
use Rattle.psdl_directory.specs.Parts.{states, state_names, operations}
use Rattle.psdl_lineage.specs.Descent.{StateMember, members_in, members, ancestry}
use Rattle.psdl_rules.specs.Layouts.{member_type, layout_member}
use Rattle.psdl_standings.specs.Ranges.{of_bound, of_values_in}
use Rattle.psdl_standings.specs.Standings.{sight, standings}
use Rattle.psdl_standings.specs.StateTypes.{state_type_by}
use Rattle.psdl_standings.specs.Uses.{state_bounds, operation_bounds}
use Rattle.psdl_check.specs.Schemas.{home_layout, referents}
use Rattle.psdl_check.proofs.ComposedTypes.{IsHandedOn, HoldsOf, of_mapped, both_none, plain_holds}
use Rattle.psdl_check.proofs.FewMembers.{each_there, each_layout}
use Rattle.psdl_check.proofs.StandingTypes.{HasNoValueFault, HoldsAt, all_names}

module _ (P : PlainType → Type 0) (F : PlainFields → Type 0) (handed : IsHandedOn P F) (all : List Declaration) (no_fault : HasNoValueFault all) (holds : (m : ℕ) → HoldsAt P all m) (reference : (u : ℕ) → P (RefTo (referents all u))) where
  -- ---- one state

  abbrev path_of : ℕ → Path
  path_of n = (at all n).path

  abbrev state_type : ℕ → StateType → Option PlainType
  state_type n type = state_type_by (sight all (standings all) (n + 1) (path_of n)) (λ name. option_map (referents all) (defined all n name)) type

  state_holds : (n : ℕ) (type : StateType) → flat_map (of_bound all (standings all) (path_of n)) (state_bounds (n + 1) type) ≡ [] → HoldsOf P (state_type n type)
  state_holds n (PlainState plain) none =
      plain_holds P F handed all (standings all) (path_of n) (n + 1) (sight all (standings all) (n + 1) (path_of n)) (λ e. refl) (all_names P all holds (n + 1) (path_of n)) plain none
  state_holds n (Reference name) none = by (defined all n name)
    where
      by : (o : Option ℕ) → HoldsOf P (option_map RefTo (option_map (referents all) o))
      by None = λ t e. absurd (cc)
      by (Some u) = of_mapped P RefTo (Some (referents all u)) (λ homes e. let same : referents all u ≡ homes = cc in subst (λ hs. P (RefTo hs)) same (reference u))

  -- it holds of the type of the member that is made of a state
  abbrev HoldsOfMember : StateMember → Type 0
  HoldsOfMember s = (p : PlainMember) → layout_member all (standings all) (referents all) s ≡ Some p → P p.type

  member_holds : (s : StateMember) → HoldsOf P (member_type all (standings all) (referents all) s) → HoldsOfMember s
  member_holds s each p is = by (member_type all (standings all) (referents all) s) each is
    where
      by : (o : Option PlainType) → HoldsOf P o → option_map (λ t. record { name = s.name.name; type = t; readonly = s.readonly }) o ≡ Some p → P p.type
      by None h e = absurd (cc)
      by (Some t) h e =
          let made : PlainMember = record { name = s.name.name; type = t; readonly = s.readonly } in
          let one : made ≡ p = cc in
          subst (λ (x : PlainMember). P x.type) one (h t refl)

  -- ---- all members

  states_hold : (n : ℕ) (ss : List State) → flat_map (of_bound all (standings all) (path_of n)) (flat_map (λ s. state_bounds (n + 1) s.state_type) ss) ≡ [] → All HoldsOfMember (flat_map (members_in n) ss)
  states_hold n [] none = All-nil HoldsOfMember
  states_hold n (s ∷ ss) none =
      let both = both_none (of_bound all (standings all) (path_of n)) (state_bounds (n + 1) s.state_type) (flat_map (λ s. state_bounds (n + 1) s.state_type) ss) none in
      let made : Identifier → StateMember = λ i. record { home = n; name = i; state_type = s.state_type; readonly = s.is_readonly } in
      let own : (i : Identifier) → HoldsOfMember (made i) = λ i. member_holds (made i) (state_holds n s.state_type both.0) in
      All-append HoldsOfMember (members_in n s) (flat_map (members_in n) ss) (All-map HoldsOfMember made (state_names s) (λ k d lt. own (get_or (state_names s) k d))) (states_hold n ss both.1)

  -- the bounds in the states of a body have no fault
  none_in_states : (n : ℕ) (path : Path) (what : What) → of_values_in all (standings all) n path what ≡ [] → flat_map (of_bound all (standings all) path) (flat_map (λ s. state_bounds (n + 1) s.state_type) (states what)) ≡ []
  none_in_states n path (IsAbstractType body) none =
      (both_none (of_bound all (standings all) path) (flat_map (λ s. state_bounds (n + 1) s.state_type) (states (IsAbstractType body))) (flat_map (operation_bounds (n + 1)) (operations (IsAbstractType body))) none).0
  none_in_states n path (IsConcreteType body) none =
      (both_none (of_bound all (standings all) path) (flat_map (λ s. state_bounds (n + 1) s.state_type) (states (IsConcreteType body))) (flat_map (operation_bounds (n + 1)) (operations (IsConcreteType body))) none).0
  none_in_states n path IsModule none = refl
  none_in_states n path (IsConstant constant) none = refl
  none_in_states n path (IsAlias before spec dimensions) none = refl
  none_in_states n path (IsStruct struct) none = refl
  none_in_states n path (IsEnumeration enumerators) none = refl
  none_in_states n path IsEnumerator none = refl
  none_in_states n path (IsAbstractHome body) none = refl
  none_in_states n path (IsConcreteHome home) none = refl
  none_in_states n path (IsCatalog provisions) none = refl

  body_holds : (n : ℕ) → All HoldsOfMember (flat_map (members_in n) (states (at all n).what))
  body_holds n =
      ⊎_elim
      (λ inside. states_hold n (states (at all n).what) (none_in_states n (path_of n) (at all n).what (no_fault n inside)))
      (λ past. subst (λ d. All HoldsOfMember (flat_map (members_in n) (states d.what))) (sym (get_or_past all n nothing past)) (All-nil HoldsOfMember))
      (cases_lt n (length all))

  all_hold : (ns : List ℕ) → All HoldsOfMember (flat_map (λ a. flat_map (members_in a) (states (at all a).what)) ns)
  all_hold [] = All-nil HoldsOfMember
  all_hold (n ∷ ns) = All-append HoldsOfMember (flat_map (members_in n) (states (at all n).what)) (flat_map (λ a. flat_map (members_in a) (states (at all a).what)) ns) (body_holds n) (all_hold ns)

  -- ---- layouts

  each_holds : (sms : List StateMember) (ms : List PlainMember) → map (layout_member all (standings all) (referents all)) sms ≡ map (λ m. Some m) ms → All HoldsOfMember sms → EachMember ms (λ m. P m.type)
  each_holds sms [] is each i m at = absurd (cc)
  each_holds [] (p ∷ ms) is each i m at = absurd (cc)
  each_holds (s ∷ sms) (p ∷ ms) is each zero m at =
      let same : p ≡ m = cc in
      subst (λ (x : PlainMember). P x.type) same (All-head HoldsOfMember s sms each p (cc))
  each_holds (s ∷ sms) (p ∷ ms) is each (suc i) m at = each_holds sms ms (cc) (All-tail HoldsOfMember s sms each) i m at

  -- it holds of the type of each member of each home
  pub layout_holds : (n : ℕ) → EachMember (home_layout all (standings all) n) (λ m. P m.type)
  layout_holds n =
      each_layout all n (λ ms. EachMember ms (λ m. P m.type)) (λ i m at. absurd (cc))
      (λ t ms has. each_holds (members all t) ms (each_there (map (layout_member all (standings all) (referents all)) (members all t)) ms has.is_layout) (all_hold (ancestry all t)))
