use Rattle.std.proofs.Common.{take}
use Rattle.std.specs.List.{AllByRecursion}
use Rattle.page_format.specs.Objects.{IsRightPut}
use Rattle.recovery_cases.proofs.steps.are_right.Given as goal

abbrev pub invariant-loop-put : goal.invariant-loop-put
invariant-loop-put l = AllByRecursion IsRightPut (take l.put-index l.puts)
