use Rattle.page_store.proofs.Touching.{none_placed, none_touched}
use Rattle.page_store.proofs.parting.mark_touched.Goals as goal

pub returns-else-not-has_none-clause-marked : goal.returns-else-not-has_none-clause-marked
returns-else-not-has_none-clause-marked c s lt = none_touched c.args.places.now.entries c.args.noted.now s _ (c.has_none.ensures c.if-not-has_none.false)

pub returns-else-not-has_none-clause-places : goal.returns-else-not-has_none-clause-places
returns-else-not-has_none-clause-places c q = none_placed c.args.places.now.entries c.args.noted.now q (c.has_none.ensures c.if-not-has_none.false)
