use Rattle.std.proofs.Common.{refl}
use Rattle.page_store.proofs.LostPages.{lost_of}
use Rattle.page_store.proofs.rereading.reread.Goals as goal

pub returns-in-Err-Damaged-clause-lost : goal.returns-in-Err-Damaged-clause-lost
returns-in-Err-Damaged-clause-lost g c _ = lost_of (g.W.Station.content c.args.w.now) c.args.slots.now 18446744073709551615 c.in-Err-Damaged.field-0-0 c.in-Err-Damaged.field-0-1 c.in-Err-Damaged.field-0 refl c.in-Err-Damaged.field-0-is c.in-Err-Damaged.ensures.refused
