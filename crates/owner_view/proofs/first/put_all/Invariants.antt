use Rattle.std.proofs.Common.{◌≡◌, ◌++◌, take}
use Rattle.owner_view.proofs.first.put_all.Given as goal

abbrev pub invariant-loop-pid : goal.invariant-loop-pid
invariant-loop-pid l = l.pids ≡ take 256 (l.fn.pids ++ take l.pid-index l.more)
