-- What is wrong in the lists of the keys and factories of a home, by the members of its type.
use Rattle.std.specs.Prelude.{List, [], ◌++◌, Option, false, not}
use Rattle.std.specs.List.{flat_map}
use Rattle.psdl_tree.specs.declared.names.Identifier.{Identifier}
use Rattle.type_layout.specs.Keys.{may_be_keyed}
use Rattle.type_layout.specs.Schemas.{given}
use Rattle.type_layout.specs.Types.{PlainType}
use Rattle.psdl_directory.specs.declared.fault.CheckFault.{CheckFault}
use Rattle.psdl_directory.specs.declared.fault.CheckKind.TheVariants.{KeyMember, KeyType, FactoryMember}
use Rattle.psdl_directory.specs.Declarations.{Declaration}
use Rattle.psdl_directory.specs.Fault.{fault_if}
use Rattle.psdl_lineage.specs.Descent.{StateMember}
use Rattle.psdl_standings.specs.Standings.{Standing}
use Rattle.psdl_rules.specs.Words.{listed_wrong}
use Rattle.psdl_rules.specs.Faults.KeyType.{keyed_wrong}

-- by the type of the member that an identifier of a key names
abbrev pub type_faults : Identifier → Option PlainType → List CheckFault
type_faults i o = fault_if (given o false (λ t. not (may_be_keyed t))) KeyType i.place

abbrev pub listed_faults : List Declaration → List Standing → List StateMember → List (List Identifier) → List (List Identifier) → List CheckFault
listed_faults all done ms keys factories =
    flat_map (listed_wrong KeyMember ms []) keys
    ++ flat_map (flat_map (keyed_wrong all done ms)) keys
    ++ flat_map (listed_wrong FactoryMember ms []) factories
