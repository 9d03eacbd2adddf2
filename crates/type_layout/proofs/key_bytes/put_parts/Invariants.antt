use Rattle.std.proofs.Common.{◌≡◌, ◌++◌, map, drop}
use Rattle.std.specs.List.{flat_map}
use Rattle.type_layout.specs.Views.{plain_value}
use Rattle.type_layout.specs.Members.{plain_member}
use Rattle.type_layout.specs.Keys.{AreFit, part_at}
use Rattle.type_layout.proofs.key_bytes.put_parts.Given as goal

abbrev pub invariant-loop-index : goal.invariant-loop-index
invariant-loop-index l =
    AreFit (map plain_member l.members) (map plain_value l.values) (drop l.index-index l.indexes)
    × (l.bytes ++ flat_map (part_at (map plain_member l.members) (map plain_value l.values)) (drop l.index-index l.indexes)
    ≡ l.fn.bytes ++ flat_map (part_at (map plain_member l.members) (map plain_value l.values)) l.indexes)
