use Rattle.std.proofs.Common.{◌↔◌, drop}
use Rattle.pss_recovery.specs.Replaying.{Rise}
use Rattle.pss_recovery.proofs.rising.rises.Given as goal

abbrev pub invariant-loop-put : goal.invariant-loop-put
invariant-loop-put l = Rise l.last l.next (drop l.put-index l.puts) ↔ Rise 0 l.next l.puts
