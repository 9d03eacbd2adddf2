-- What becomes of an owner whose changes are committed.
use Rattle.pss_base.specs.declared.owner.OwnerNo.{OwnerNo}
use Rattle.pss_machine.specs.Kept.{Kept}
use Rattle.pss_machine.specs.Effects.{Effect, Commits, Flushes}
use Rattle.pss_copies.specs.Ruled.{AreOwned}
use Rattle.commit_calls.specs.declared.settling.Way.{Way}
use Rattle.commit_calls.specs.declared.settling.Way.TheVariants.{Commit, Flush}
use Rattle.commit_calls.specs.Commits.{MayCommit}

-- a transaction goes, and a basic session's owner begins anew
abbrev pub effect_of : Way → OwnerNo → Effect
effect_of Commit n = Commits n
effect_of Flush n = Flushes n

-- what is known of the owner before
abbrev pub MaySettle : Way → Kept → OwnerNo → Type 0
MaySettle Commit k n = MayCommit k n
MaySettle Flush k n = AreOwned k.owners k.sessions k.next_owner
