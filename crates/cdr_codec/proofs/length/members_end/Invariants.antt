use Rattle.std.proofs.Common.{◌≡◌, ◌<◌, ◌^◌, length, map, drop}
use Rattle.type_layout.specs.Types.{values_of}
use Rattle.type_layout.specs.Views.{plain_value}
use Rattle.type_layout.specs.Members.{plain_member}
use Rattle.type_layout.specs.Values.{AreOf, layout_fields}
use Rattle.type_layout.specs.Spelling.{spellings}
use Rattle.cdr_codec.specs.Lengths.{place_behind}
use Rattle.cdr_codec.proofs.length.members_end.Given as goal

abbrev pub invariant-loop-member : goal.invariant-loop-member
invariant-loop-member l =
    AreOf (layout_fields (map plain_member (drop l.member-index l.members))) (values_of (map plain_value l.remaining))
    × (l.place < 2 ^ 64)
    × (place_behind l.place (length (spellings (layout_fields (map plain_member (drop l.member-index l.members))) (values_of (map plain_value l.remaining)) l.place))
    ≡ place_behind l.at (length (spellings (layout_fields (map plain_member l.members)) (values_of (map plain_value l.values)) l.at)))
