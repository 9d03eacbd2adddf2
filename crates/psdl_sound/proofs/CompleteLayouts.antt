-- The homes of a text without a fault whose literals are small are laid out: the types of all their members are there.
use Rattle.std.proofs.Common.{◌≡◌, ℕ, ◌+◌, ◌<◌, List, [], ◌++◌, length, map, Bool, true, false, not, ◌&&◌, Option, Some, None, is_some, is_none, inl, refl, sym, ap, subst, ◌∙◌, arith, ⊎_elim}
use Rattle.std.specs.List.{flat_map, list_all}
use Rattle.std.specs.Option.{option_map, option_and_then}
use Rattle.std.specs.Str.{bytes_eq}
use Rattle.std.proofs.lemmas.Bool.{and_from, eq-eqb, cases_Bool}
use Rattle.std.proofs.lemmas.List.Folds.{list_any_at}
use Rattle.std.proofs.lemmas.Slice.Eq.{bytes_eq-Decides}
use Rattle.psdl_tree.specs.declared.names.Identifier.{Identifier}
use Rattle.psdl_tree.specs.Trees.{Name, State, StateType, PlainState, Reference, Definitions}
use Rattle.type_layout.specs.Schemas.{given}
use Rattle.type_layout.specs.Types.{PlainType, PlainMember, RefTo}
use Rattle.psdl_directory.specs.declared.fault.CheckKind.TheVariants.{Incomplete}
use Rattle.psdl_directory.specs.Declarations.{Path, What, IsModule, IsConstant, IsAlias, IsStruct, IsEnumeration, IsEnumerator, IsAbstractType, IsConcreteType, IsAbstractHome, IsConcreteHome, IsCatalog, Declaration, all_declarations}
use Rattle.psdl_lineage.specs.Descent.{StateMember, ancestry, members_in, members, type_of_home}
use Rattle.psdl_standings.specs.Expressions.{operands}
use Rattle.psdl_check.specs.Faults.{first_fault}
use Rattle.psdl_rules.specs.Words.{above}
use Rattle.psdl_rules.specs.Faults.Incomplete.{of_forward, never_defined}
use Rattle.psdl_standings.specs.StateTypes.{state_type_by}
use Rattle.psdl_rules.specs.Layouts.{member_type, layout_member, layout}
use Rattle.psdl_directory.specs.Lookup.{as_is, at, nothing, same_path, is_named, meaning, defines, definition, defined}
use Rattle.psdl_standings.specs.Naming.{of_use, of_texts, of_strings_in}
use Rattle.psdl_directory.specs.Parts.{kind, same_kind, is_forward, states, state_names, operations}
use Rattle.psdl_standings.specs.Ranges.{of_bound, of_values_in}
use Rattle.psdl_check.specs.Schemas.{referents}
use Rattle.psdl_standings.specs.Standings.{Nothing, all_there, type_of, standing, standings, sight}
use Rattle.psdl_standings.specs.Uses.{Use, Bound, in_state_type, in_operation, in_store, state_bounds, operation_bounds, uses, bounds}
use Rattle.psdl_directory.proofs.Agreeing.{same_path-Decides}
use Rattle.psdl_sound.proofs.Positions.{any_by_place}
use Rattle.psdl_standings.proofs.Below.{meaning_less}
use Rattle.psdl_sound.specs.SmallLiterals.{is_small}
use Rattle.psdl_sound.proofs.Expressions.{expressions_at, AreSmallAt}
use Rattle.psdl_sound.proofs.Among.{Among, among_front, among_behind, among_flat, among_from, among_image, among_map, each_of_all}
use Rattle.psdl_sound.proofs.BaseLines.{IsConcrete}
use Rattle.psdl_check.proofs.FaultlessTexts.{both_empty, does_not_hold, no_fault_at}
use Rattle.psdl_sound.proofs.ToldSizes.{IsFineBound, size_told}
use Rattle.psdl_sound.proofs.CompleteStandings.{type_use, grounded}
use Rattle.psdl_sound.proofs.KeyTypes.{IsLaid, concrete_whole}
use Rattle.psdl_sound.proofs.MemberLists.{ancestor_declared}
use Rattle.psdl_sound.proofs.Parents.{none_among, of_bases, of_implemented, of_managed, storage_use}
use Rattle.psdl_sound.proofs.PresentTypes.{all_some, plain_there}
use Rattle.psdl_sound.proofs.ToldValues.{use_told}
use Rattle.psdl_sound.proofs.HomeTypes.{home_typed, type_declared}

-- ---- what is declared is defined

some_or_none : {A : Type 0} (o : Option A) → is_none o ≡ false → is_some o ≡ true
some_or_none None off = absurd (cc)
some_or_none (Some x) off = refl

second_off : (a b : Bool) → a ≡ true → a && b ≡ false → b ≡ false
second_off true b p e = e
second_off false b p e = absurd (cc)

-- each declaration has a definition
definition_there : (all : List Declaration) → first_fault all ≡ None → (j : ℕ) → j < length all → is_some (definition all j) ≡ true
definition_there all none j lt =
    let d : Declaration = at all j in
    ⊎_elim
    (λ on.
    let off : is_forward d.what && is_none (definition all j) ≡ false = does_not_hold (is_forward d.what && is_none (definition all j)) Incomplete d.place (both_empty (never_defined all j d) (flat_map (of_forward all j) (above d.what)) (no_fault_at all none j lt).no_incomplete).0 in
    some_or_none (definition all j) (second_off (is_forward d.what) (is_none (definition all j)) on off))
    (λ off.
    let own : defines d d ≡ true =
    and_from (not (is_forward d.what) && same_kind d.what d.what) (is_named as_is d.path d.name d) (and_from (not (is_forward d.what)) (same_kind d.what d.what) (ap not off) (eq-eqb (kind d.what) (kind d.what) refl))
    (and_from (same_path d.path d.path) (bytes_eq d.name d.name) ((same_path-Decides d.path d.path).1 refl) ((bytes_eq-Decides d.name d.name).1 refl)) in
    any_by_place (defines d) 0 all ∙ list_any_at (defines d) all j nothing lt own)
    (cases_Bool (is_forward d.what))

-- ---- the states of a storage type

state_uses : (n : ℕ) (what : What) (s : State) (u : Use) → Among s (states what) → Among u (in_state_type (n + 1) s.state_type) → Among u (uses n what)
state_uses n what s u a b = subst (λ (l : List Use). Among u l) (sym (store what a)) stored
  where
    store : (what : What) → Among s (states what) → uses n what ≡ in_store (n + 1) what
    store (IsAbstractType body) a = refl
    store (IsConcreteType body) a = refl
    store IsModule a = absurd a
    store (IsConstant constant) a = absurd a
    store (IsAlias before spec dimensions) a = absurd a
    store (IsStruct struct) a = absurd a
    store (IsEnumeration enumerators) a = absurd a
    store IsEnumerator a = absurd a
    store (IsAbstractHome body) a = absurd a
    store (IsConcreteHome home) a = absurd a
    store (IsCatalog provisions) a = absurd a

    stored : Among u (in_store (n + 1) what)
    stored =
        let front : List Use = of_bases n what ++ of_implemented n what ++ of_managed n what in
        let stated : List Use = flat_map (λ s. in_state_type (n + 1) s.state_type) (states what) in
        among_front u (front ++ stated) (flat_map (in_operation (n + 1)) (operations what)) (among_behind u front stated (among_flat (λ s. in_state_type (n + 1) s.state_type) (states what) s u a b))

module _ (tree : Definitions) (all : List Declaration) (whole : all ≡ all_declarations tree) (none : first_fault all ≡ None) (small : AreSmallAt all) where
  state_fine : (n : ℕ) → n < length all → (what : What) → (at all n).what ≡ what → (s : State) → Among s (states what) → (b : Bound) → Among b (state_bounds (n + 1) s.state_type) → IsFineBound all (at all n).path b
  state_fine n lt what is s a b there = by what is a
    where
      fine : (what : What) → (at all n).what ≡ what → Among b (bounds n what) → of_values_in all (standings all) n (at all n).path what ≡ flat_map (of_bound all (standings all) (at all n).path) (bounds n what)
          → of_strings_in all (standings all) n (at all n).path what ≡ flat_map (λ b. of_texts b.value) (bounds n what) → expressions_at n what ≡ map (λ b. b.value) (bounds n what) → IsFineBound all (at all n).path b
      fine what is there values strings same =
          let value : of_values_in all (standings all) n (at all n).path what ≡ [] = ap (of_values_in all (standings all) n (at all n).path) (sym is) ∙ (no_fault_at all none n lt).no_values in
          let text : of_strings_in all (standings all) n (at all n).path what ≡ [] = ap (of_strings_in all (standings all) n (at all n).path) (sym is) ∙ (no_fault_at all none n lt).no_strings in
          let literals : list_all (λ e. list_all is_small (operands e)) (map (λ b. b.value) (bounds n what)) ≡ true =
          sym (ap (list_all (λ e. list_all is_small (operands e))) same) ∙ ap (λ (w : What). list_all (λ e. list_all is_small (operands e)) (expressions_at n w)) (sym is) ∙ small n lt in
          record {
            no_fault = none_among (of_bound all (standings all) (at all n).path) (bounds n what) (sym values ∙ value) b there;
            no_text = none_among (λ b. of_texts b.value) (bounds n what) (sym strings ∙ text) b there;
            is_small = each_of_all (λ e. list_all is_small (operands e)) (map (λ b. b.value) (bounds n what)) literals b.value (among_image (λ (b : Bound). b.value) (bounds n what) b there);
          }

      own : (what : What) → Among s (states what) → Among b (flat_map (λ s. state_bounds (n + 1) s.state_type) (states what) ++ flat_map (operation_bounds (n + 1)) (operations what))
      own what a =
          among_front b (flat_map (λ s. state_bounds (n + 1) s.state_type) (states what)) (flat_map (operation_bounds (n + 1)) (operations what))
          (among_flat (λ s. state_bounds (n + 1) s.state_type) (states what) s b a there)

      by : (what : What) → (at all n).what ≡ what → Among s (states what) → IsFineBound all (at all n).path b
      by (IsAbstractType body) is a = fine (IsAbstractType body) is (own (IsAbstractType body) a) refl refl refl
      by (IsConcreteType body) is a = fine (IsConcreteType body) is (own (IsConcreteType body) a) refl refl refl
      by IsModule is a = absurd a
      by (IsConstant constant) is a = absurd a
      by (IsAlias before spec dimensions) is a = absurd a
      by (IsStruct struct) is a = absurd a
      by (IsEnumeration enumerators) is a = absurd a
      by IsEnumerator is a = absurd a
      by (IsAbstractHome body) is a = absurd a
      by (IsConcreteHome home) is a = absurd a
      by (IsCatalog provisions) is a = absurd a

  -- the type of a state is there
  state_there : (n : ℕ) → n < length all → (s : State) → Among s (states (at all n).what) → (type : StateType) → s.state_type ≡ type
      → is_some (state_type_by (sight all (standings all) (n + 1) (at all n).path) (λ name. option_map (referents all) (defined all n name)) type) ≡ true
  state_there n lt s a (PlainState plain) is =
      let path : Path = (at all n).path in
      let declared : (name : Name) (m : ℕ) → meaning as_is all (n + 1) path name ≡ Some m → m < length all = λ name m e. omega (arith, lt, meaning_less as_is all (n + 1) path name m e) in
      plain_there (n + 1) (sight all (standings all) (n + 1) path) (λ u. of_use all (standings all) path u ≡ []) (λ b. IsFineBound all path b)
      (λ most e used fine. size_told all path (n + 1) most e (λ name m e on. (grounded tree all whole none small m (declared name m e)).1 on) used fine)
      (λ name used.
      let told = use_told all path (type_use (n + 1) name) (used (type_use (n + 1) name) (inl refl)) in
      ap (λ (o : Option ℕ). is_some (type_of (given o Nothing (λ n. standing (standings all) n)))) told.1 ∙ (grounded tree all whole none small told.0 (declared name told.0 told.1)).0 told.2)
      plain
      (λ u b. none_among (of_use all (standings all) path) (uses n (at all n).what) (no_fault_at all none n lt).no_names u (state_uses n (at all n).what s u a (subst (λ (t : StateType). Among u (in_state_type (n + 1) t)) (sym is) b)))
      (λ b c. state_fine n lt (at all n).what refl s a b (subst (λ (t : StateType). Among b (state_bounds (n + 1) t)) (sym is) c))
  state_there n lt s a (Reference name) is =
      let path : Path = (at all n).path in
      let u : Use = storage_use (n + 1) name in
      let used : Among u (uses n (at all n).what) = state_uses n (at all n).what s u a (subst (λ (t : StateType). Among u (in_state_type (n + 1) t)) (sym is) (inl refl)) in
      let told = use_told all path u (none_among (of_use all (standings all) path) (uses n (at all n).what) (no_fault_at all none n lt).no_names u used) in
      let there : is_some (definition all told.0) ≡ true = definition_there all none told.0 (omega (arith, lt, meaning_less as_is all (n + 1) path name told.0 told.1)) in
      ap (λ (o : Option ℕ). is_some (option_map RefTo (option_map (referents all) (option_and_then (definition all) o)))) told.1 ∙ by (definition all told.0) there
    where
      by : (o : Option ℕ) → is_some o ≡ true → is_some (option_map RefTo (option_map (referents all) o)) ≡ true
      by None e = absurd (cc)
      by (Some t) e = refl

  abbrev made_of : StateMember → PlainType → PlainMember
  made_of m t = record { name = m.name.name; type = t; readonly = m.readonly }

  made_there : (m : StateMember) (o : Option PlainType) → is_some o ≡ true → is_some (option_map (made_of m) o) ≡ true
  made_there m None e = absurd (cc)
  made_there m (Some t) e = refl

  laid_by : (h t : ℕ) → type_of_home all h ≡ Some t → (o : Option (List PlainMember)) → layout all (standings all) (referents all) t ≡ o → is_some o ≡ true → IsLaid all none h
  laid_by h t is None e on = absurd (cc)
  laid_by h t is (Some ms) e on = record { home_type = t; layout_members = ms; is_type = is; is_layout = e }

  -- the layout of each concrete home is there
  pub all_laid : (h : ℕ) → IsConcrete all h → IsLaid all none h
  all_laid h home =
      let type = home_typed all none h (concrete_whole all none h home) in
      let t : ℕ = type.0 in
      let lt : t < length all = (type_declared all none h t type.1).0 in
      let lm : StateMember → Option PlainMember = layout_member all (standings all) (referents all) in
      let f : ℕ → List StateMember = λ a. flat_map (members_in a) (states (at all a).what) in
      let there : is_some (all_there (map lm (members all t))) ≡ true =
      all_some (map lm (members all t))
      (λ o a.
      let m = among_map lm (members all t) o a in
      let r = among_from f (ancestry all t) m.0 m.1 in
      let s = among_from (members_in r.0) (states (at all r.0).what) m.0 r.2 in
      let made : Identifier → StateMember = λ i. record { home = r.0; name = i; state_type = s.0.state_type; readonly = s.0.is_readonly } in
      let i = among_map made (state_names s.0) m.0 s.2 in
      let some : is_some (lm (made i.0)) ≡ true =
      made_there (made i.0) (member_type all (standings all) (referents all) (made i.0)) (state_there r.0 (ancestor_declared all t r.0 lt r.1) s.0 s.1 s.0.state_type refl) in
      ap is_some (sym m.2) ∙ ap (λ (x : StateMember). is_some (lm x)) (sym i.2) ∙ some) in
      laid_by h t type.1 (all_there (map lm (members all t))) refl there
