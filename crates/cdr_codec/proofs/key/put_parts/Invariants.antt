use Rattle.std.proofs.Common.{◌≡◌, ◌++◌, map, drop}
use Rattle.std.specs.List.{flat_map}
use Rattle.type_layout.specs.Members.{plain_member}
use Rattle.cdr_codec.specs.Places.{part_read}
use Rattle.cdr_codec.proofs.key.put_parts.Given as goal

abbrev pub invariant-loop-index : goal.invariant-loop-index
invariant-loop-index l =
    l.out ++ flat_map (part_read (map plain_member l.members) l.bytes l.places) (drop l.index-index l.indexes)
    ≡ l.fn.out ++ flat_map (part_read (map plain_member l.members) l.bytes l.places) l.indexes
