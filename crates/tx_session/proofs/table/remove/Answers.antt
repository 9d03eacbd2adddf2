use Rattle.tx_session.proofs.table.remove.Goals as goal

pub returns : goal.returns
returns c q = c.remove.ensures.turned (record { 0 = q })
