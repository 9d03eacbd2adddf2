-- C9: a member in a key has a type that keys may not have.
use Rattle.std.specs.Prelude.{ℕ, List, [], Bool, false, not}
use Rattle.std.specs.List.{flat_map, find}
use Rattle.type_layout.specs.Schemas.{given}
use Rattle.psdl_directory.specs.declared.fault.CheckFault.{CheckFault}
use Rattle.psdl_directory.specs.Declarations.{Declaration}
use Rattle.psdl_directory.specs.Fault.{fault_if}
use Rattle.psdl_standings.specs.Standings.{Standing}
use Rattle.psdl_tree.specs.declared.names.Identifier.{Identifier}
use Rattle.type_layout.specs.Keys.{may_be_keyed}
use Rattle.psdl_directory.specs.declared.fault.CheckKind.TheVariants.{KeyType}
use Rattle.psdl_directory.specs.Parts.{keys, key_list}
use Rattle.psdl_lineage.specs.Descent.{StateMember}
use Rattle.psdl_rules.specs.Layouts.{member_type}
use Rattle.psdl_rules.specs.Words.{is_called, with_type}

-- a struct, sequence, array or reference
abbrev pub is_compound : List Declaration → List Standing → StateMember → Bool
is_compound all done m = given (member_type all done (λ _. []) m) false (λ t. not (may_be_keyed t))

abbrev pub keyed_wrong : List Declaration → List Standing → List StateMember → Identifier → List CheckFault
keyed_wrong all done ms i = given (find (is_called i) ms) [] (λ m. fault_if (is_compound all done m) KeyType i.place)

abbrev pub key_types : List Declaration → List Standing → ℕ → Declaration → List CheckFault
key_types all done n d = with_type all n (λ ms. flat_map (λ k. flat_map (keyed_wrong all done ms) (key_list k)) (keys d.what))
