use Rattle.std.proofs.Common.{◌≡◌, ◌≤◌, ◌-◌, length, map, drop}
use Rattle.type_layout.specs.Members.{plain_member}
use Rattle.type_layout.specs.Keys.{chosen}
use Rattle.type_layout.specs.Views.{plain_values}
use Rattle.value_text.specs.Line.{values_from}
use Rattle.value_text.proofs.LineReading.{with_read}
use Rattle.value_text.proofs.line.read_chosen.Given as goal

abbrev pub invariant-loop-number : goal.invariant-loop-number
invariant-loop-number l =
    (length l.rest ≤ l.end)
    × (with_read (plain_values l.values) (values_from (map (λ m. m.type) (chosen (map plain_member l.members) (drop l.number-index l.numbers))) (l.end - length l.rest) l.rest) ≡ values_from (map (λ m. m.type) (chosen (map plain_member l.members) l.numbers)) l.column l.text)
