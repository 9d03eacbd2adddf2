use Rattle.std.proofs.Common.{◌≡◌, ◌≤◌, ◌++◌, length, map, drop}
use Rattle.type_layout.specs.Members.{plain_member}
use Rattle.type_layout.specs.Values.{layout_fields}
use Rattle.cdr_codec.specs.Reading.{fields_at}
use Rattle.cdr_codec.specs.Places.{IsFound, places_of}
use Rattle.cdr_codec.proofs.places.places_of.Given as goal

abbrev pub invariant-loop-member : goal.invariant-loop-member
invariant-loop-member l =
    (l.place ≤ length l.bytes)
    × IsFound (fields_at (layout_fields (map plain_member (drop l.member-index l.members))) l.bytes l.place)
    × (l.places.items ++ places_of (layout_fields (map plain_member (drop l.member-index l.members))) l.bytes l.place ≡ places_of (layout_fields (map plain_member l.members)) l.bytes l.at)
