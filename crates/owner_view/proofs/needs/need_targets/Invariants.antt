use Rattle.std.proofs.Common.{◌≡◌, ◌++◌, take}
use Rattle.pss_machine.specs.Needs.{targets}
use Rattle.owner_view.proofs.needs.need_targets.Given as goal

abbrev pub invariant-loop-pid : goal.invariant-loop-pid
invariant-loop-pid l = l.needs ≡ l.fn.needs ++ targets (take l.pid-index l.pids)
