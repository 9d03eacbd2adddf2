-- The types of members, body by body.
use Rattle.std.proofs.Common.{◌≡◌, ℕ, ◌≤◌, List, [], ◌∷◌, ◌++◌, Bool, false, length, map, get_or, Option, nat_lt, refl, sym, ap, subst, ◌∙◌, arith, ⊎_elim}
use Rattle.std.specs.List.{flat_map}
use Rattle.std.proofs.lemmas.Bool.{cases_Bool, ltb-true, ltb-false}
use Rattle.std.proofs.lemmas.List.{map-append}
use Rattle.std.proofs.lemmas.List.FromFn.{get_or-map-range_with_len}
use Rattle.psdl_tree.specs.declared.names.Identifier.{Identifier}
use Rattle.psdl_tree.specs.Trees.{State, StateType}
use Rattle.type_layout.specs.declared.home.HomeNo.{HomeNo}
use Rattle.type_layout.specs.Types.{PlainType}
use Rattle.psdl_directory.specs.Declarations.{Declaration}
use Rattle.psdl_directory.specs.Lookup.{at}
use Rattle.psdl_directory.specs.Parts.{states, state_names}
use Rattle.psdl_lineage.specs.Descent.{StateMember, members, members_in}
use Rattle.psdl_lineage.specs.Sources.{Inheritance, sources_in}
use Rattle.psdl_members.specs.Bodies.{own_members}
use Rattle.psdl_members.specs.inner.Numbered.{AreOwners}
use Rattle.psdl_members.proofs.Cutting.{length-map_is}
use Rattle.psdl_members.proofs.Numbering.{own_past, members_by}
use Rattle.psdl_standings.specs.declared.state_entry.StateEntry.{StateEntry}
use Rattle.psdl_standings.specs.Standings.{standings}
use Rattle.psdl_standings.specs.States.{types_of_state, state_types, body_type, own_types, type_kept, has_states, flags}
use Rattle.psdl_rules.specs.Layouts.{member_type}
use Rattle.psdl_rules.specs.inner.Typed.{AreTypes, HaveMembers}

module _ (all : List Declaration) (n : ℕ) (homes : ℕ → List HomeNo) where
  abbrev in_body : StateType → Option PlainType
  in_body = body_type all (standings all) homes n

  abbrev as_member : StateMember → Option PlainType
  as_member = member_type all (standings all) homes

  names_are : (s : State) (ids : List Identifier)
      → map in_body (map (λ (i : Identifier). s.state_type) ids) ≡ map as_member (map (λ (i : Identifier). record { home = n; name = i; state_type = s.state_type; readonly = s.is_readonly }) ids)
  names_are s [] = refl
  names_are s (i ∷ is) = ap (λ (l : List (Option PlainType)). in_body s.state_type ∷ l) (names_are s is)

  pub states_are : (ss : List State) → map in_body (flat_map types_of_state ss) ≡ map as_member (flat_map (members_in n) ss)
  states_are [] = refl
  states_are (s ∷ ss) =
      map-append in_body (types_of_state s) (flat_map types_of_state ss)
      ∙ ap (λ (l : List (Option PlainType)). l ++ map in_body (flat_map types_of_state ss)) (names_are s (state_names s))
      ∙ ap (λ (l : List (Option PlainType)). map as_member (members_in n s) ++ l) (states_are ss)
      ∙ sym (map-append as_member (members_in n s) (flat_map (members_in n) ss))

pub bodies_are : (all : List Declaration) (homes : ℕ → List HomeNo) (ds : List ℕ) → flat_map (own_types all homes) ds ≡ map (member_type all (standings all) homes) (flat_map (own_members all) ds)
bodies_are all homes [] = refl
bodies_are all homes (d ∷ ds) =
    ap (λ (l : List (Option PlainType)). l ++ flat_map (own_types all homes) ds) (states_are all d homes (states (at all d).what))
    ∙ ap (λ (l : List (Option PlainType)). map (member_type all (standings all) homes) (own_members all d) ++ l) (bodies_are all homes ds)
    ∙ sym (map-append (member_type all (standings all) homes) (own_members all d) (flat_map (own_members all) ds))

-- of a type, by the bodies that have its members
pub types_by : (all : List Declaration) (types : List PlainType) (s : Inheritance) (n : ℕ) (bodies : List ℕ) (kept : List StateEntry) → HaveMembers all s → bodies ≡ sources_in s.graph s.own n
    → ((homes : ℕ → List HomeNo) → map (type_kept types homes) kept ≡ flat_map (own_types all homes) bodies) → AreTypes all types (members all n) kept
types_by all types s n bodies kept have is of =
    subst (λ (ms : List StateMember). AreTypes all types ms kept) (members_by all s.graph s.own n bodies have.graphed have.owned is) (λ homes. of homes ∙ bodies_are all homes bodies)

pub as_many : (all : List Declaration) (types : List PlainType) (ms : List StateMember) (kept : List StateEntry) → AreTypes all types ms kept → length kept ≡ length ms
as_many all types ms kept are = length-map_is (type_kept types (λ _. [])) (member_type all (standings all) (λ _. [])) kept ms (are (λ _. []))

-- ---- which have members

zero_of : (k : ℕ) → nat_lt 0 k ≡ false → k ≡ 0
zero_of k h = let le : k ≤ 0 = ltb-false 0 k h in omega (arith, le)

as_many_states : (all : List Declaration) (n : ℕ) → length (state_types (at all n).what) ≡ length (own_members all n)
as_many_states all n =
    length-map_is (body_type all (standings all) (λ _. []) n) (member_type all (standings all) (λ _. [])) (state_types (at all n).what) (own_members all n) (states_are all n (λ _. []) (states (at all n).what))

pub owners_are : (all : List Declaration) (own : List Bool) → own ≡ flags all (length all) → AreOwners all own
owners_are all own e n off =
    ⊎_elim
    (λ t. sym (as_many_states all n)
    ∙ zero_of (length (state_types (at all n).what)) (sym (ap (λ (l : List Bool). get_or l n false) e ∙ get_or-map-range_with_len (has_states all) 0 (length all) n n false (ltb-true n (length all) t) (omega arith)) ∙ off))
    (λ f. ap (λ (l : List StateMember). length l) (own_past all n (ltb-false n (length all) f)))
    (cases_Bool (nat_lt n (length all)))
