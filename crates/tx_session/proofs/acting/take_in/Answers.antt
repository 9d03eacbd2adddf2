use Rattle.tx_session.specs.Acting.{HasTaken}
use Rattle.tx_session.proofs.Turns.{turned_by}
use Rattle.tx_session.proofs.acting.take_in.Goals as goal

pub returns-clause-turned : goal.returns-clause-turned
returns-clause-turned c =
    turned_by (HasTaken c.take_with.result c.args.step.put) c.args.table.now _ c.args.owner.0 c.in-Some.owned.now c.take_with.new.owned c.in-Some.ensures.value (λ q. c.get_mut.follows.holds c.take_with.new.owned c.requires.there (record { 0 = q })) c.take_with.ensures.turned
