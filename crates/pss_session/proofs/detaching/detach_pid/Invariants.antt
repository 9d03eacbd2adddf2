use Rattle.std.proofs.Common.{◌≡◌, ◌≤◌, ◌+◌, ◌*◌, take}
use Rattle.incarnations.specs.Meaning.{Leaves, loosened, both}
use Rattle.pss_session.specs.Meaning.{belongs_to, on_unchanged}
use Rattle.pss_session.specs.inner.Rows.{session_of}
use Rattle.pss_session.specs.inner.Walks.{some_row}
use Rattle.pss_session.proofs.detaching.detach_pid.Given as goal

abbrev pub invariant-loop-at : goal.invariant-loop-at
invariant-loop-at g l = record {
  lasts : l.copies.lasts ≡ l.fn.copies.lasts;
  left : Leaves (loosened (both (some_row (λ r. belongs_to l.owner (session_of r)) (take l.at l.rows.entries)) (on_unchanged l.pid))) l.fn.copies l.copies;
  steps : l.steps ≤ l.fn.steps + 4 * l.at;
}
