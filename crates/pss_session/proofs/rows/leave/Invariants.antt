use Rattle.std.proofs.Common.{◌≡◌}
use Rattle.pss_session.specs.inner.Rows.{left_row}
use Rattle.pss_session.proofs.Fronts.{front}
use Rattle.pss_session.proofs.rows.leave.Given as goal

abbrev pub invariant-loop-at : goal.invariant-loop-at
invariant-loop-at l = l.rows.entries ≡ front (left_row l.owner) l.at l.fn.rows.entries
