use Rattle.tx_session.proofs.Stepping.{may_settle, has_stepped}
use Rattle.tx_session.proofs.acting.take_with.Goals as goal

pub settle-requires : goal.settle-requires
settle-requires c = may_settle c.args.owned.now c.prepare.new.owned c.args.step.put c.in-Ok.ensures.same c.requires.may c.in-Ok.ensures.ready

pub returns-in-Ok-clause-turned : goal.returns-in-Ok-clause-turned
returns-in-Ok-clause-turned c = has_stepped c.args.owned.now c.prepare.new.owned c.args.step.put c.in-Ok.ensures.same c.settle.new.owned c.requires.may c.in-Ok.ensures.ready c.settle.ensures.put
