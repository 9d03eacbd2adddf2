use Rattle.std.proofs.Common.{◌++◌, map, drop}
use Rattle.type_layout.specs.Views.{plain_value}
use Rattle.type_layout.specs.Members.{plain_member}
use Rattle.type_layout.specs.Keys.{chosen, parts}
use Rattle.type_layout.proofs.Chosen.{IsLeft}
use Rattle.type_layout.proofs.key_bytes.put_values.Given as goal

abbrev pub invariant-loop-index : goal.invariant-loop-index
invariant-loop-index l =
    IsLeft (map plain_member l.members) l.indexes l.index-index (drop l.place (map plain_value l.values)) l.bytes (l.fn.bytes ++ parts (chosen (map plain_member l.members) l.indexes) (map plain_value l.values))
