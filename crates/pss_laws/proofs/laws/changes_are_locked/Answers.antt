use Rattle.pss_laws.proofs.Locked.{objects_locked, keys_locked, extents_locked, stays_alike}
use Rattle.pss_laws.proofs.laws.changes_are_locked.Goals as goal

pub returns-clause-objects : goal.returns-clause-objects
returns-clause-objects c = objects_locked

pub returns-clause-keys : goal.returns-clause-keys
returns-clause-keys c = keys_locked

pub returns-clause-extents : goal.returns-clause-extents
returns-clause-extents c = extents_locked

pub returns-clause-others : goal.returns-clause-others
returns-clause-others c = stays_alike
