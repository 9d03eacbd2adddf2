use Rattle.std.proofs.Common.{◌≡◌, take, filter}
use Rattle.psdl_lineage.specs.Sources.{is_own}
use Rattle.psdl_lineage.proofs.joined.owners.Given as goal

abbrev pub invariant-loop-number : goal.invariant-loop-number
invariant-loop-number l = l.owners.items ≡ filter (is_own l.own) (take l.number-index l.numbers)
