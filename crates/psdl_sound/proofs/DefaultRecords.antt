-- The default record of a home of a text without a fault is within its limit, whatever homes its references may have.
use Rattle.std.proofs.Common.{◌≡◌, ℕ, ◌+◌, ◌≤◌, List, [], ◌∷◌, ◌++◌, length, map, Bool, true, false, ◌&&◌, ◌==◌, nat_lt, Option, Some, None, refl, sym, ap, ◌∙◌, arith}
use Rattle.std.specs.List.{flat_map, list_any}
use Rattle.std.specs.Option.{option_map, option_to_list}
use Rattle.std.proofs.lemmas.Bool.{ltb-false, or_parts}
use Rattle.psdl_tree.specs.Trees.{Name, StateType, PlainState, Reference}
use Rattle.type_layout.specs.declared.home.HomeNo.{HomeNo}
use Rattle.type_layout.specs.Defaults.{default, default_record}
use Rattle.type_layout.specs.Schemas.{given}
use Rattle.type_layout.specs.Spelling.{spelling, spellings, record_spelling}
use Rattle.type_layout.specs.Types.{PlainType, PlainMember, RefTo, values_of}
use Rattle.type_layout.specs.Values.{layout_fields}
use Rattle.psdl_directory.specs.declared.fault.CheckFault.{CheckFault}
use Rattle.psdl_directory.specs.declared.fault.CheckKind.TheVariants.{HomeType}
use Rattle.psdl_directory.specs.Declarations.{What, IsModule, IsConstant, IsAlias, IsStruct, IsEnumeration, IsEnumerator, IsAbstractType, IsConcreteType, IsAbstractHome, IsConcreteHome, IsCatalog, Declaration}
use Rattle.psdl_lineage.specs.Descent.{StateMember, members}
use Rattle.psdl_rules.specs.Faults.HomeType.{is_other_kind, has_wrong_type, differs_from_base}
use Rattle.psdl_rules.specs.Words.{of_types}
use Rattle.psdl_directory.specs.Fault.{fault_if}
use Rattle.psdl_check.specs.Faults.{first_fault}
use Rattle.psdl_standings.specs.StateTypes.{state_type_by}
use Rattle.psdl_rules.specs.Layouts.{layout_member, layout}
use Rattle.psdl_rules.specs.Faults.Limit.{most_octets, has_long_default}
use Rattle.psdl_directory.specs.Lookup.{at, named, defined, place_of}
use Rattle.psdl_directory.specs.Parts.{kind, bases, is_abstract_type, is_concrete_type, is_storage_type, is_concrete_home}
use Rattle.psdl_check.specs.Schemas.{home_layout, referents}
use Rattle.psdl_standings.specs.Standings.{Standing, standings, sight, all_there}
use Rattle.psdl_check.proofs.FaultlessTexts.{both_empty, does_not_hold, no_fault_at}
use Rattle.psdl_sound.proofs.Homes.{IsHome}
use Rattle.psdl_check.proofs.FewMembers.{each_there, each_layout, no_long}
use Rattle.psdl_sound.proofs.Layouts.{whole_type}
use Rattle.psdl_check.proofs.Meanings.{IsDefinition, definition_is, IsTypeOf, type_is}

-- ---- the defaults of members do not look at the homes of references

-- the octets of a member's default
abbrev unset : PlainMember → ℕ → List ℕ
unset m at = spelling m.type (default m.type) at

module _ (all : List Declaration) (done : List Standing) (f g : ℕ → List HomeNo) where
  record HasAlike (m : StateMember) (p : PlainMember) : Type 0 where
    member : PlainMember
    is : layout_member all done g m ≡ Some member
    same : (at : ℕ) → unset p at ≡ unset member at

  abbrev made : StateMember → PlainType → PlainMember
  made m t = record { name = m.name.name; type = t; readonly = m.readonly }

  abbrev by_state : (ℕ → List HomeNo) → StateMember → StateType → Option PlainMember
  by_state homes m state = option_map (made m) (state_type_by (sight all done (m.home + 1) (at all m.home).path) (λ name. option_map homes (defined all m.home name)) state)

  alike_by : (m : StateMember) (p : PlainMember) (state : StateType) → m.state_type ≡ state → by_state f m state ≡ Some p → HasAlike m p
  alike_by m p (PlainState plain) here is = record { member = p; is = ap (by_state g m) here ∙ is; same = λ at. refl }
  alike_by m p (Reference name) here is = by (defined all m.home name) refl is
    where
      by : (o : Option ℕ) → defined all m.home name ≡ o → option_map (made m) (option_map RefTo (option_map f o)) ≡ Some p → HasAlike m p
      by None e is = absurd (cc)
      by (Some u) e is =
          let one : made m (RefTo (f u)) ≡ p = cc in
          record {
            member = made m (RefTo (g u));
            is = ap (by_state g m) here ∙ ap (λ (o : Option ℕ). option_map (made m) (option_map RefTo (option_map g o))) e;
            same = λ at. ap (λ (x : PlainMember). unset x at) (sym one);
          }

  alike : (m : StateMember) (p : PlainMember) → layout_member all done f m ≡ Some p → HasAlike m p
  alike m p is = alike_by m p m.state_type refl is

  -- the octets of the defaults of members
  abbrev all_unset : List PlainMember → ℕ → List ℕ
  all_unset ms at = spellings (layout_fields ms) (values_of (default_record ms)) at

  record HaveAlike (sms : List StateMember) (ms : List PlainMember) : Type 0 where
    others : List PlainMember
    are : all_there (map (layout_member all done g) sms) ≡ Some others
    same_all : (at : ℕ) → all_unset ms at ≡ all_unset others at

  all_alike : (sms : List StateMember) (ms : List PlainMember) → map (layout_member all done f) sms ≡ map (λ m. Some m) ms → HaveAlike sms ms
  all_alike [] [] is = record { others = []; are = refl; same_all = λ at. refl }
  all_alike [] (m ∷ ms) is = absurd (cc)
  all_alike (s ∷ sms) [] is = absurd (cc)
  all_alike (s ∷ sms) (m ∷ ms) is =
      let first : HasAlike s m = alike s m (cc) in
      let rest : HaveAlike sms ms = all_alike sms ms (cc) in
      record {
        others = first.member ∷ rest.others;
        are =
            ap (λ (o : Option PlainMember). given o None (λ a. option_map (λ others. a ∷ others) (all_there (map (layout_member all done g) sms)))) first.is
            ∙ ap (λ (o : Option (List PlainMember)). option_map (λ others. first.member ∷ others) o) rest.are;
        same_all = λ at.
            ap (λ (bytes : List ℕ). bytes ++ all_unset ms (at + length bytes)) (first.same at)
            ∙ ap (λ (bytes : List ℕ). unset first.member at ++ bytes) (rest.same_all (at + length (unset first.member at)));
      }

-- ---- the type of a home is concrete

abstract_by_kind : (what : What) → is_abstract_type what ≡ (kind what == 6)
abstract_by_kind IsModule = refl
abstract_by_kind (IsConstant constant) = refl
abstract_by_kind (IsAlias before spec dimensions) = refl
abstract_by_kind (IsStruct struct) = refl
abstract_by_kind (IsEnumeration enumerators) = refl
abstract_by_kind IsEnumerator = refl
abstract_by_kind (IsAbstractType body) = refl
abstract_by_kind (IsConcreteType body) = refl
abstract_by_kind (IsAbstractHome body) = refl
abstract_by_kind (IsConcreteHome home) = refl
abstract_by_kind (IsCatalog provisions) = refl

concrete_else : (what : What) → is_storage_type what ≡ true → is_abstract_type what ≡ false → is_concrete_type what ≡ true
concrete_else (IsConcreteType body) storage off = refl
concrete_else (IsAbstractType body) storage off = absurd (cc)
concrete_else IsModule storage off = absurd (cc)
concrete_else (IsConstant constant) storage off = absurd (cc)
concrete_else (IsAlias before spec dimensions) storage off = absurd (cc)
concrete_else (IsStruct struct) storage off = absurd (cc)
concrete_else (IsEnumeration enumerators) storage off = absurd (cc)
concrete_else IsEnumerator storage off = absurd (cc)
concrete_else (IsAbstractHome body) storage off = absurd (cc)
concrete_else (IsConcreteHome home) storage off = absurd (cc)
concrete_else (IsCatalog provisions) storage off = absurd (cc)

other_kind : (what type : What) → is_concrete_home what ≡ true → is_other_kind what type ≡ false → is_abstract_type type ≡ false
other_kind (IsConcreteHome home) type is off = off
other_kind (IsConcreteType body) type is off = absurd (cc)
other_kind (IsAbstractType body) type is off = absurd (cc)
other_kind IsModule type is off = absurd (cc)
other_kind (IsConstant constant) type is off = absurd (cc)
other_kind (IsAlias before spec dimensions) type is off = absurd (cc)
other_kind (IsStruct struct) type is off = absurd (cc)
other_kind (IsEnumeration enumerators) type is off = absurd (cc)
other_kind IsEnumerator type is off = absurd (cc)
other_kind (IsAbstractHome body) type is off = absurd (cc)
other_kind (IsCatalog provisions) type is off = absurd (cc)

-- the type of a concrete home is concrete
pub concrete_type : (all : List Declaration) → first_fault all ≡ None → (k n t : ℕ) → IsHome all k n → IsTypeOf all n t → is_concrete_type (at all t).what ≡ true
concrete_type all none k n t home type =
    let what : What = (at all n).what in
    let fault : Name → List CheckFault = λ name. fault_if (has_wrong_type all n what name) HomeType (place_of name) in
    let one : flat_map fault (type.name ∷ []) ≡ [] = sym (ap (λ (o : Option Name). flat_map fault (option_to_list o)) type.is_managed) ∙ (no_fault_at all none n home.is_declared).no_home_type in
    let off : has_wrong_type all n what type.name ≡ false = does_not_hold (has_wrong_type all n what type.name) HomeType (place_of type.name) (both_empty (fault type.name) [] one).0 in
    let j : ℕ = type.means.declared in
    let first = or_parts (given (named all n type.name) false (λ j. is_other_kind what (at all j).what)) (list_any (of_types all n (differs_from_base all what)) (bases what)) off in
    let kept : is_other_kind what (at all j).what ≡ false = sym (ap (λ (o : Option ℕ). given o false (λ j. is_other_kind what (at all j).what)) type.means.is_named) ∙ first.0 in
    let whole : IsDefinition all j t = definition_is all j t type.means.is_definition in
    let off_j : is_abstract_type (at all j).what ≡ false = other_kind what (at all j).what home.is_concrete kept in
    let off_t : is_abstract_type (at all t).what ≡ false =
    abstract_by_kind (at all t).what ∙ ap (λ (k : ℕ). k == 6) (sym whole.one_kind) ∙ sym (abstract_by_kind (at all j).what) ∙ off_j in
    concrete_else (at all t).what type.is_storage off_t

-- ---- the record

both_on : (a b : Bool) → a ≡ true → a && b ≡ false → b ≡ false
both_on true b on off = off
both_on false b on off = absurd (cc)

short_default : (all : List Declaration) (done : List Standing) (t : ℕ) (ns : List PlainMember) → layout all done (λ _. []) t ≡ Some ns → has_long_default all done t ≡ false → length (record_spelling ns (default_record ns)) ≤ most_octets
short_default all done t ns is off =
    ltb-false most_octets (length (record_spelling ns (default_record ns)))
    (sym (ap (λ (o : Option (List PlainMember)). given o false (λ ms. nat_lt most_octets (length (record_spelling ms (default_record ms))))) is) ∙ off)

-- the default record of a home has at most 8,000 octets
pub short_defaults : (all : List Declaration) → first_fault all ≡ None → (k n : ℕ) → IsHome all k n
    → length (record_spelling (home_layout all (standings all) n) (default_record (home_layout all (standings all) n))) ≤ most_octets
short_defaults all none k n home =
    each_layout all n (λ ms. length (record_spelling ms (default_record ms)) ≤ most_octets) (omega arith)
    (λ t ms has.
    let done : List Standing = standings all in
    let concrete : is_concrete_type (at all t).what ≡ true = concrete_type all none k n t home (type_is all n t has.is_type) in
    let off : has_long_default all done t ≡ false =
    both_on (is_concrete_type (at all t).what) (has_long_default all done t) concrete (no_long all t (whole_type all none n t has.is_type)).1 in
    let others : HaveAlike all done (referents all) (λ _. []) (members all t) ms =
    all_alike all done (referents all) (λ _. []) (members all t) ms (each_there (map (layout_member all done (referents all)) (members all t)) ms has.is_layout) in
    let short : length (record_spelling others.others (default_record others.others)) ≤ most_octets = short_default all done t others.others others.are off in
    omega (arith, short, ap (λ (bytes : List ℕ). length (0 ∷ bytes)) (others.same_all 1)))
