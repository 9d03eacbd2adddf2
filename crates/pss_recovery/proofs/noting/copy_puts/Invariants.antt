use Rattle.std.proofs.Common.{◌≡◌, take}
use Rattle.pss_recovery.proofs.noting.copy_puts.Given as goal

abbrev pub invariant-loop-put : goal.invariant-loop-put
invariant-loop-put l = l.copy ≡ take l.put-index l.puts
