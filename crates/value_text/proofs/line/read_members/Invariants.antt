use Rattle.std.proofs.Common.{◌≡◌, ◌≤◌, ◌-◌, length, map, drop}
use Rattle.type_layout.specs.Members.{plain_member}
use Rattle.type_layout.specs.Views.{plain_values}
use Rattle.value_text.specs.Line.{values_from}
use Rattle.value_text.proofs.LineReading.{with_read}
use Rattle.value_text.proofs.line.read_members.Given as goal

abbrev pub invariant-loop-member : goal.invariant-loop-member
invariant-loop-member l =
    (length l.rest ≤ l.end)
    × (with_read (plain_values l.values) (values_from (map (λ m. m.type) (map plain_member (drop l.member-index l.members))) (l.end - length l.rest) l.rest) ≡ values_from (map (λ m. m.type) (map plain_member l.members)) l.column l.text)
