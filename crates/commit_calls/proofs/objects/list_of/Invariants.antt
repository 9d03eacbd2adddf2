use Rattle.std.proofs.Common.{◌≡◌, map, take}
use Rattle.commit_calls.specs.Ready.{pid_of}
use Rattle.commit_calls.proofs.objects.list_of.Given as goal

abbrev pub invariant-loop-change : goal.invariant-loop-change
invariant-loop-change l = l.pids.items ≡ map pid_of (take l.change-index l.changes)
