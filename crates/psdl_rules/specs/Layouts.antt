-- The layouts of storage types.
use Rattle.std.specs.Prelude.{ℕ, ◌+◌, List, map, Option}
use Rattle.std.specs.Option.{option_map}
use Rattle.type_layout.specs.declared.home.HomeNo.{HomeNo}
use Rattle.type_layout.specs.Types.{PlainType, PlainMember}
use Rattle.psdl_directory.specs.Declarations.{Declaration}
use Rattle.psdl_directory.specs.Lookup.{at, defined}
use Rattle.psdl_standings.specs.Standings.{Standing, sight, all_there}
use Rattle.psdl_lineage.specs.Descent.{StateMember, members}
use Rattle.psdl_standings.specs.StateTypes.{state_type_by}

-- the homes that references may have, by the definition of the type that they are to
abbrev pub member_type : List Declaration → List Standing → (ℕ → List HomeNo) → StateMember → Option PlainType
member_type all done homes m =
    state_type_by (sight all done (m.home + 1) (at all m.home).path) (λ name. option_map homes (defined all m.home name)) m.state_type

abbrev pub layout_member : List Declaration → List Standing → (ℕ → List HomeNo) → StateMember → Option PlainMember
layout_member all done homes m = option_map (λ t. record { name = m.name.name; type = t; readonly = m.readonly }) (member_type all done homes m)

-- the layout of a type, where the types of all its members are there
abbrev pub layout : List Declaration → List Standing → (ℕ → List HomeNo) → ℕ → Option (List PlainMember)
layout all done homes n = all_there (map (layout_member all done homes) (members all n))
