use Rattle.owner_view.proofs.Outcomes.{on_ok}
use Rattle.tx_session.proofs.table.add.Goals as goal

pub returns-clause-ok : goal.returns-clause-ok
returns-clause-ok c = on_ok c.insert.result (λ turned q. turned (record { 0 = q })) c.insert.ensures.ok
