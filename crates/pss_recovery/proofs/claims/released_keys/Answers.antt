use Rattle.std.proofs.Common.{◌∙◌}
use Rattle.pss_recovery.specs.inner.Claims.{is_in, releases}
use Rattle.pss_recovery.proofs.Tables.{none_in, or_none}
use Rattle.pss_recovery.proofs.claims.released_keys.Goals as goal

pub returns : goal.returns
returns c = λ key bytes less. c.in_ok-put_released.ensures key bytes less ∙ or_none (releases c.args.changes.now key bytes) (is_in c.new-table.result key bytes) (none_in c.new-table.result c.new-table.ensures.held key bytes)
