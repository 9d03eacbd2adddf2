use Rattle.std.proofs.Common.{◌≡◌, ◌++◌, drop}
use Rattle.script_text.specs.Replies.{each_pid}
use Rattle.script_text.proofs.reply.append_pids.Given as goal

abbrev pub invariant-loop-pid : goal.invariant-loop-pid
invariant-loop-pid l = l.out ++ each_pid (drop l.pid-index l.pids) ≡ l.initial.out ++ each_pid l.pids
