use Rattle.std.proofs.Common.{take}
use Rattle.pss_recovery.specs.inner.Remaking.{AreReplayedSoFar}
use Rattle.pss_recovery.proofs.replaying.replay_bodies.Given as goal

abbrev pub invariant-loop-octets : goal.invariant-loop-octets
invariant-loop-octets l = AreReplayedSoFar l.schema l.next l.initial.homes l.bodies (take l.octets-index l.bodies) l.homes l.last l.puts l.gate
