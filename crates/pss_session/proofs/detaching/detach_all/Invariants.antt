use Rattle.std.proofs.Common.{◌≡◌, take}
use Rattle.incarnations.specs.Meaning.{Leaves, loosened}
use Rattle.pss_session.specs.Meaning.{is_in}
use Rattle.pss_session.specs.inner.Rows.{session_of}
use Rattle.pss_session.specs.inner.Walks.{some_row}
use Rattle.pss_session.proofs.detaching.detach_all.Given as goal

abbrev pub invariant-loop-at : goal.invariant-loop-at
invariant-loop-at g l = record {
  lasts : l.copies.lasts ≡ l.fn.copies.lasts;
  left : Leaves (loosened (some_row (λ r. is_in l.owner (session_of r)) (take l.at l.rows.entries))) l.fn.copies l.copies;
}
