-- Faults of lists that would be the least.
use Rattle.std.specs.Prelude.{List, Option, Bool}
use Rattle.std.specs.List.{list_any}
use Rattle.psdl_tree.specs.declared.names.Identifier.{Identifier}
use Rattle.psdl_directory.specs.declared.fault.CheckFault.{CheckFault}
use Rattle.psdl_directory.specs.declared.fault.CheckKind.TheVariants.{KeyMember}
use Rattle.psdl_directory.specs.Noting.{comes_first}

-- a fault of an identifier in a list, of whatever kind, may be the least
abbrev pub is_early : Option CheckFault → Identifier → Bool
is_early first i = comes_first first KeyMember i.place

abbrev pub list_early : Option CheckFault → List Identifier → Bool
list_early first list = list_any (is_early first) list
