use Rattle.std.proofs.Common.{◌≡◌, ◌++◌, map, drop}
use Rattle.type_layout.specs.Views.{plain_value, plain_values}
use Rattle.type_layout.proofs.value.+copy.Given as goal

abbrev pub invariant-copies_of-loop-value : goal.invariant-copies_of-loop-value
invariant-copies_of-loop-value l = plain_values l.copies ++ map plain_value (drop l.value-index l.values) ≡ map plain_value l.values
