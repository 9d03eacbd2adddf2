use Rattle.page_store.proofs.Emptying.{while_emptied}
use Rattle.page_store.proofs.gates.close_journal.Goals as goal

pub returns-clause-stores : goal.returns-clause-stores
returns-clause-stores g c = λ root objects has. while_emptied root objects (g.W.Station.content c.args.w.now) _ _ has c.close_gate.ensures.images c.close_gate.ensures.still
