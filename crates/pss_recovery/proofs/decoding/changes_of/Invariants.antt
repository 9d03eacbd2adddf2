use Rattle.pss_recovery.specs.inner.Changes.{AreSoFar}
use Rattle.pss_recovery.proofs.decoding.changes_of.Given as goal

abbrev pub invariant-changes : goal.invariant-changes
invariant-changes l = AreSoFar l.octets l.k l.puts l.at
