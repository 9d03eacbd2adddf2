use Rattle.std.proofs.Common.{◌≡◌, ◌≤◌, ◌+◌, length, map, drop}
use Rattle.type_layout.specs.Views.{plain_values}
use Rattle.type_layout.specs.Members.{plain_member}
use Rattle.type_layout.specs.Values.{layout_fields}
use Rattle.cdr_codec.specs.Reading.{fields_at}
use Rattle.cdr_codec.specs.Taken.{fields_take}
use Rattle.cdr_codec.proofs.Loop.{with_front}
use Rattle.cdr_codec.proofs.several.members_of.Given as goal

abbrev pub invariant-loop-member : goal.invariant-loop-member
invariant-loop-member g l =
    (l.at ≤ l.place) × (l.place ≤ length l.bytes) × (l.steps + l.at ≤ l.fn.steps + l.place)
    × (with_front (plain_values l.values) (fields_at (layout_fields (map plain_member (drop l.member-index l.members))) l.bytes l.place) ≡ fields_at (layout_fields (map plain_member l.members)) l.bytes l.at)
    × (l.steps + fields_take (layout_fields (map plain_member (drop l.member-index l.members))) l.bytes l.place ≡ l.fn.steps + fields_take (layout_fields (map plain_member l.members)) l.bytes l.at)
