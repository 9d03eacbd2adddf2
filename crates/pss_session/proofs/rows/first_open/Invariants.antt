use Rattle.std.proofs.Common.{◌≡◌, find, drop}
use Rattle.pss_session.specs.inner.Rows.{is_open_row}
use Rattle.pss_session.proofs.rows.first_open.Given as goal

abbrev pub invariant-loop-at : goal.invariant-loop-at
invariant-loop-at l = find (is_open_row l.owner) (drop l.at l.rows.entries) ≡ find (is_open_row l.owner) l.rows.entries
