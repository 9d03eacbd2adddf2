use Rattle.std.proofs.Common.{refl}
use Rattle.tx_session.proofs.owners.begun_with_memory_of.Goals as goal

pub returns : goal.returns
returns c = record {
  level_is = refl;
  changes = c.clear.ensures.changes;
  counted = c.clear.ensures.counted;
  under = λ S. record { holders = (c.clear.ensures.under S).holders; sized = (c.clear.ensures.under S).sized };
}
