-- The members of homes have names, and names in their types, where the identifiers of the text are names.
use Rattle.std.proofs.Common.{◌≡◌, ℕ, ◌+◌, List, map, true, Option, Some, None, sym, ap, subst}
use Rattle.std.specs.List.{flat_map}
use Rattle.std.specs.Option.{option_map}
use Rattle.psdl_tree.specs.declared.names.Identifier.{Identifier}
use Rattle.psdl_tree.specs.Trees.{State, StateType, PlainState, Reference}
use Rattle.type_layout.specs.declared.home.HomeNo.{HomeNo}
use Rattle.type_layout.specs.Names.{IsNamed}
use Rattle.type_layout.specs.Sound.{is_name, EachMember}
use Rattle.type_layout.specs.Types.{PlainType, RefTo, PlainMember}
use Rattle.psdl_directory.specs.Declarations.{Declaration}
use Rattle.psdl_lineage.specs.Descent.{StateMember, ancestry, members_in, members}
use Rattle.psdl_directory.specs.Lookup.{at, defined}
use Rattle.psdl_directory.specs.Parts.{states, state_names, body_names}
use Rattle.psdl_standings.specs.Standings.{Standing, sight, standings}
use Rattle.psdl_standings.specs.StateTypes.{state_type_by}
use Rattle.psdl_rules.specs.Layouts.{member_type, layout_member, layout}
use Rattle.psdl_check.specs.Schemas.{referents, home_layout}
use Rattle.psdl_sound.proofs.Among.{Among, at_among, among_from, among_image, among_map, each_of_all}
use Rattle.psdl_sound.proofs.NamedBodies.{has_name, AreNamedInside, named_inside, state_inside}
use Rattle.psdl_check.proofs.FewMembers.{each_there, each_layout}
use Rattle.psdl_sound.proofs.StandingNames.{HasNames, plain_named, AllStandNamed, sight_named}

-- a member with a name, and names in its type
abbrev pub IsNamedMember : PlainMember → Type 0
IsNamedMember m = (is_name m.name ≡ true) × IsNamed m.type

-- what stands in the body of a declaration has a name
pub body_named : (all : List Declaration) → AreNamedInside all → (n : ℕ) (i : Identifier) → Among i (body_names (at all n).what) → is_name i.name ≡ true
body_named all inside n i a = each_of_all has_name (body_names (at all n).what) (named_inside all inside n) i a

module _ (all : List Declaration) (inside : AreNamedInside all) where
  -- a state member of a type
  state_named : (t : ℕ) (s : StateMember) → Among s (members all t) → is_name s.name.name ≡ true
  state_named t s a =
      let r = among_from (λ n. flat_map (members_in n) (states (at all n).what)) (ancestry all t) s a in
      let n : ℕ = r.0 in
      let q = among_from (members_in n) (states (at all n).what) s r.2 in
      let state : State = q.0 in
      let made : Identifier → StateMember = λ i. record { home = n; name = i; state_type = state.state_type; readonly = state.is_readonly } in
      let p = among_map made (state_names state) s q.2 in
      let same : p.0 ≡ s.name = ap (λ (x : StateMember). x.name) p.2 in
      subst (λ (i : Identifier). is_name i.name ≡ true) same (body_named all inside n p.0 (state_inside (at all n).what state p.0 q.1 p.1))

  module _ (done : List Standing) (stand : AllStandNamed done) (homes : ℕ → List HomeNo) where
    -- the type of a state
    abbrev type_here : StateMember → StateType → Option PlainType
    type_here m state = state_type_by (sight all done (m.home + 1) (at all m.home).path) (λ name. option_map homes (defined all m.home name)) state

    type_named : (m : StateMember) (state : StateType) → HasNames (type_here m state)
    type_named m (PlainState plain) = plain_named (sight all done (m.home + 1) (at all m.home).path) (sight_named all done stand (m.home + 1) (at all m.home).path) plain
    type_named m (Reference name) = by (defined all m.home name)
      where
        by : (o : Option ℕ) → HasNames (option_map RefTo (option_map homes o))
        by None = tt
        by (Some u) = tt

    -- its member
    member_named : (s : StateMember) (m : PlainMember) → is_name s.name.name ≡ true → layout_member all done homes s ≡ Some m → IsNamedMember m
    member_named s m name is = by (member_type all done homes s) (type_named s s.state_type) is
      where
        by : (o : Option PlainType) → HasNames o → option_map (λ t. record { name = s.name.name; type = t; readonly = s.readonly }) o ≡ Some m → IsNamedMember m
        by None named e = absurd (cc)
        by (Some t) named e =
            let made : PlainMember = record { name = s.name.name; type = t; readonly = s.readonly } in
            let one : made ≡ m = cc in
            subst IsNamedMember one (name, named)

    -- the members of a layout
    members_named : (t : ℕ) (ms : List PlainMember) → layout all done homes t ≡ Some ms → EachMember ms IsNamedMember
    members_named t ms is i m at =
        let each : map (layout_member all done homes) (members all t) ≡ map (λ m. Some m) ms = each_there (map (layout_member all done homes) (members all t)) ms is in
        let there : Among (Some m) (map (λ m. Some m) ms) = among_image (λ (m : PlainMember). Some m) ms m (at_among ms i m at) in
        let r = among_map (layout_member all done homes) (members all t) (Some m) (subst (λ (l : List (Option PlainMember)). Among (Some m) l) (sym each) there) in
        member_named r.0 m (state_named t r.0 r.1) r.2

  -- the members of a home
  pub layout_named : AllStandNamed (standings all) → (n : ℕ) → EachMember (home_layout all (standings all) n) IsNamedMember
  layout_named stand n = each_layout all n (λ ms. EachMember ms IsNamedMember) (λ i m at. absurd (cc)) (λ t ms has. members_named (standings all) stand (referents all) t ms has.is_layout)
